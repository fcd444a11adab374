-- The fields of a plain image of several keys, as they are put; that they join to it, and its length by what the code adds up.
use Rattle.std.specs.Prelude.{ℕ, ◌+◌, ◌≤◌, ◌^◌, ◌≡◌, ltb, length, take}
use Rattle.std.proofs.Common.{arith, ◌∙◌, ap, ap₂, ltb-true, ltb-false}
use Rattle.std.proofs.Math.Path.{sym}
use mathlib.Core.List.{List, [], ◌∷◌, ◌++◌, append_assoc, append-nil}
use Rattle.fields.specs.Place.{by_bool}
use Rattle.fields.specs.Bytes.{uint32, string, join}
use Rattle.names.specs.declared.Cipher.TheVariants as cipher
use Rattle.names.specs.declared.Kdf.TheVariants as kdf
use Rattle.names.specs.Ciphers.{cipher_name, kdf_name}
use Rattle.names.specs.declared.Algorithm.{Algorithm}
use Rattle.format.specs.Format.{PublicBytes, PrivateBytes, Entry, entry, key_of, alone, blob, written_pair, written_image, magic, header, blob_fields, entry_fields, content, section, plain_image, padding_length, padding_bytes}
use Rattle.format.proofs.Laws.{header_then, content_then, section-length}
use Rattle.format.specs.Lengths.{blobs_length, entries_length}
use Rattle.format.proofs.Lengths.{content-length, plain_length}
use Rattle.buffer.specs.Runs.{join-append}
use Rattle.writer_parts.specs.Sizes.{capped, capped_small, capped_large, capped_again, capped_sum, capped_sum_last}

-- cipher and KDF `none`, no options
unfoldable pub plain_front : List ℕ
plain_front = join (magic ∷ string (cipher_name cipher.None) ∷ string (kdf_name kdf.None) ∷ string [] ∷ [])

-- front, key count, blobs; the section's length, its checkints, its entries, one padding
unfoldable pub image_fields : ℕ → List (List ℕ) → List Entry → List (List ℕ)
image_fields n keys entries =
    plain_front
    ∷ uint32 (length keys)
    ∷ (blob_fields keys
    ++ (uint32 (length (section n entries))
    ∷ uint32 n
    ∷ uint32 n
    ∷ (entry_fields entries ++ (take (padding_length (length (content n entries))) padding_bytes ∷ []))))

-- ---- they join to what the format writes

string_then : (b t : List ℕ) → uint32 (length b) ++ (b ++ t) ≡ string b ++ t
unfolding string
string_then b t = sym (append_assoc (uint32 (length b)) b t)

-- a string whose length and bytes are put one after the other
pub string_fields : (b : List ℕ) → join (uint32 (length b) ∷ b ∷ []) ≡ string b
unfolding string
string_fields b = ap (λ (l : List ℕ). uint32 (length b) ++ l) (append-nil b)

front_then :
    (keys : List (List ℕ)) (t : List ℕ)
    → plain_front ++ (uint32 (length keys) ++ (join (blob_fields keys) ++ t)) ≡ header cipher.None kdf.None [] 0 keys ++ t
unfolding plain_front
front_then keys t = simp append_assoc (sym (header_then cipher.None kdf.None [] 0 keys t))

section_then :
    (n : ℕ) (entries : List Entry)
    → uint32 n ++ (uint32 n ++ (join (entry_fields entries) ++ (take (padding_length (length (content n entries))) padding_bytes ++ []))) ≡ section n entries
unfolding section
section_then n entries =
    let pad = take (padding_length (length (content n entries))) padding_bytes in
    sym (content_then n entries (pad ++ [])) ∙ ap (λ (l : List ℕ). content n entries ++ l) (append-nil pad)

pub image_joined : (n : ℕ) (keys : List (List ℕ)) (entries : List Entry) → join (image_fields n keys entries) ≡ plain_image n keys entries
unfolding image_fields plain_image
image_joined n keys entries =
    let body = section n entries in
    let pad = take (padding_length (length (content n entries))) padding_bytes in
    let after = uint32 n ∷ uint32 n ∷ (entry_fields entries ++ (pad ∷ [])) in
    let inner : join after ≡ body = rw (join-append (entry_fields entries) (pad ∷ [])) (section_then n entries) in
    let whole : uint32 (length body) ++ join after ≡ string body ++ [] = rw inner (rw (append-nil body) at (string_then body [])) in
    ap (λ (l : List ℕ). plain_front ++ (uint32 (length keys) ++ l)) (join-append (blob_fields keys) (uint32 (length body) ∷ after))
    ∙ front_then keys (uint32 (length body) ++ join after) ∙ ap (λ (l : List ℕ). header cipher.None kdf.None [] 0 keys ++ l) whole

-- ---- its length

-- by those of its blobs and of its entries
abbrev pub image_length : ℕ → ℕ → ℕ
image_length blobs entries = 43 + blobs + (8 + entries + padding_length (8 + entries))

pub image_length_lem :
    (n : ℕ) (keys : List (List ℕ)) (entries : List Entry) → length (plain_image n keys entries) ≡ image_length (blobs_length keys) (entries_length entries)
image_length_lem n keys entries = plain_length n keys entries ∙ rw (section-length n entries, content-length n entries)

-- by those that were added up, and capped
capped_image : (blobs entries : ℕ) → capped (image_length (capped blobs) (capped entries)) ≡ capped (image_length blobs entries)
capped_image blobs entries =
    by_bool (ltb entries (2 ^ 63))
    (λ w.
    let rest = 8 + entries + padding_length (8 + entries) in
    let turned : 43 + capped blobs + rest ≡ 43 + rest + capped blobs = omega arith in
    let back : 43 + rest + blobs ≡ 43 + blobs + rest = omega arith in
    ap (λ (n : ℕ). capped (image_length (capped blobs) n)) (capped_small entries (ltb-true entries (2 ^ 63) w))
    ∙ ap capped turned ∙ capped_sum_last (43 + rest) blobs ∙ ap capped back)
    (λ w.
    let long = ltb-false entries (2 ^ 63) w in
    capped_large (image_length (capped blobs) (capped entries)) (omega (arith, capped_large entries long))
    ∙ sym (capped_large (image_length blobs entries) (omega (arith, long))))

module _ (n : ℕ) (keys : List (List ℕ)) (entries : List Entry) where
  pub image_measured :
      (b e r : ℕ) → b ≡ capped (blobs_length keys) → e ≡ capped (entries_length entries) → r ≡ capped (image_length b e) → r ≡ capped (length (plain_image n keys entries))
  image_measured b e r eb ee er =
      er ∙ ap₂ (λ (i j : ℕ). capped (image_length i j)) eb ee ∙ capped_image (blobs_length keys) (entries_length entries)
      ∙ ap capped (sym (image_length_lem n keys entries))

  -- an image that is small enough was measured exactly, and so were its entries
  pub entries_exact : (e : ℕ) → e ≡ capped (entries_length entries) → length (plain_image n keys entries) ≤ 65535 → e ≡ entries_length entries
  entries_exact e ee h = ee ∙ capped_small (entries_length entries) (omega (arith, h, image_length_lem n keys entries))

-- the section's length and its padding's, by that of the entries
pub section_measured : (n : ℕ) (entries : List Entry) (e : ℕ) → e ≡ entries_length entries → 8 + e + padding_length (8 + e) ≡ length (section n entries)
section_measured n entries e q = rw (q, ← content-length n entries) (sym (section-length n entries))

pub padding_measured : (n : ℕ) (entries : List Entry) (e : ℕ) → e ≡ entries_length entries → padding_length (8 + e) ≡ padding_length (length (content n entries))
padding_measured n entries e q = rw (q, ← content-length n entries)

-- ---- the same as the code adds it up

-- a blob with its length field, and so many bytes of blobs after it
pub blobs_added :
    (key : List ℕ) (more : List (List ℕ)) (k s m r : ℕ) → k ≡ capped (length key) → s ≡ capped (4 + k) → m ≡ capped (blobs_length more) → r ≡ capped (s + m)
    → r ≡ capped (blobs_length (key ∷ more))
blobs_added key more k s m r ek es em er =
    er
    ∙ ap₂ (λ (i j : ℕ). capped (i + j)) (es ∙ ap (λ (i : ℕ). capped (4 + i)) ek ∙ capped_sum_last 4 (length key)) em
    ∙ capped_sum_last (capped (4 + length key)) (blobs_length more)
    ∙ capped_sum (4 + length key) (blobs_length more)

-- an entry by its keypair and its comment, and so many bytes of entries after it
pub entries_added :
    (e : Entry) (more : List Entry) (p s t m r : ℕ) → p ≡ capped (length e.pair) → s ≡ capped (4 + p) → t ≡ capped (s + length e.comment)
    → m ≡ capped (entries_length more) → r ≡ capped (t + m) → r ≡ capped (entries_length (e ∷ more))
entries_added e more p s t m r ep es et em er =
    let front : s ≡ capped (4 + length e.pair) = es ∙ ap (λ (i : ℕ). capped (4 + i)) ep ∙ capped_sum_last 4 (length e.pair) in
    let one : t ≡ capped (4 + length e.pair + length e.comment) =
    et ∙ ap (λ (i : ℕ). capped (i + length e.comment)) front ∙ capped_sum (4 + length e.pair) (length e.comment) in
    let turned : 4 + length e.pair + length e.comment + entries_length more ≡ length e.pair + (4 + length e.comment) + entries_length more = omega arith in
    er ∙ ap₂ (λ (i j : ℕ). capped (i + j)) one em ∙ capped_sum_last (capped (4 + length e.pair + length e.comment)) (entries_length more)
    ∙ capped_sum (4 + length e.pair + length e.comment) (entries_length more) ∙ ap capped turned

-- none
none_added : (n s : ℕ) → s ≡ capped n → s ≡ capped (n + 0)
none_added n s e = e ∙ ap capped (omega arith)

-- an image of one key
module _ (a : Algorithm) (key : PublicBytes) (x : PrivateBytes) (comment : List ℕ) where
  pub entry_measured :
      (p s t : ℕ) → p ≡ capped (length (written_pair a key x)) → s ≡ capped (4 + p) → t ≡ capped (s + length comment)
      → t ≡ capped (entries_length (alone (entry (written_pair a key x) comment)))
  entry_measured p s t ep es et =
      entries_added (entry (written_pair a key x) comment) [] p s t 0 t ep es et (sym (capped_small 0 (omega arith)))
      (et ∙ sym (capped_again (s + length comment)) ∙ none_added _ _ (ap capped (sym et)))

  pub alone_measured :
      (n k p s t b r : ℕ) → k ≡ capped (length (blob a key)) → p ≡ capped (length (written_pair a key x)) → s ≡ capped (4 + p)
      → t ≡ capped (s + length comment) → b ≡ capped (4 + k) → r ≡ capped (image_length b t)
      → r ≡ capped (length (written_image n (alone (key_of a key x comment))))
  unfolding written_image
  alone_measured n k p s t b r ek ep es et eb er =
      image_measured n (alone (blob a key)) (alone (entry (written_pair a key x) comment)) b t r
      (blobs_added (blob a key) [] k b 0 b ek eb (sym (capped_small 0 (omega arith)))
      (eb ∙ sym (capped_again (4 + k)) ∙ none_added _ _ (ap capped (sym eb))))
      (entry_measured p s t ep es et)
      er
