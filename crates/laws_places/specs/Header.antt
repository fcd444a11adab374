-- docs/RULES.md, 7.3 and 7.5: where a header refuses. The size and the magic are about the whole image and give its first byte; the place of
-- any other refusal lies after the magic, and no further than the image's end.
use Rattle.std.specs.Prelude.{ℕ, zero, suc, ◌+◌, ◌-◌, ◌≤◌, ◌<◌, ◌≡◌, refl, Bool, true, false, ◌||◌, not, List, eqb, ltb, length, take, Result, Ok, Err}
use Rattle.std.proofs.Common.{arith, sym, ◌∙◌, ap, ltb-true, ltb-false, take_all}
use Rattle.fields.specs.Bytes.{same_bytes, same_true}
use Rattle.fields.specs.Fields.{fault, part, whole, within, has_room, uint32_at, bytes_at, string_at, end_at, view_of, Read}
use Rattle.fields.specs.Place.{clash, by_read, by_tested, by_bool}
use Rattle.fields.specs.Rest.{Good, view_length}
use Rattle.fields.specs.Room.{room_fits, room_is, view_in}
use Rattle.fields.specs.declared.Cursor.{Cursor}
use Rattle.fields.specs.declared.Fault.{Fault}
use Rattle.fields.specs.declared.Refusal.TheVariants.{AlgorithmUnknown, Size}
use Rattle.names.specs.declared.Cipher.{Cipher}
use Rattle.names.specs.declared.Kdf.{Kdf}
use Rattle.names.specs.declared.Kdf.TheVariants as kdf
use Rattle.names.specs.Ciphers.{cipher_name, cipher_named, kdf_named, cipher_read}
use Rattle.format.specs.Format.{magic}
use Rattle.key_public.specs.Keys.{blob_at}
use Rattle.reader_blobs.specs.Blobs.{blob_field_at, blobs_at}
use Rattle.reader_blobs.specs.Read.{by_blob, by_blob_field, by_blobs}
use Rattle.reader_header.specs.Header.{on_kdf, magic_at, cipher_at, none_at, bcrypt_at, kdf_at, keys_allowed, count_at, keys_at, header_at}
use Rattle.reader_header.specs.Place.{by_cipher_name, by_kdf_name, by_cipher_field, by_kdf_field}
use Rattle.laws_fields.specs.Fields.{Lies, After, Uint32Lies, lies_after, after-after, good_after, uint32_lies, string_lies, string_in, lies_within, end_lies}
use Rattle.laws_fields.specs.Keys.{blob_lies}
use Rattle.fields.specs.declared.Part.{Part}
use Rattle.key_public.specs.declared.Public.{Public}
use Rattle.names.specs.declared.Algorithm.{Algorithm}
use Rattle.reader_header.specs.declared.Header.{Header}

-- ---- from the KDF's name on

abbrev KdfLies : Cursor → Read (Kdf × Part × ℕ) → Type 0
KdfLies c (Err f) = Lies c f
KdfLies c (Ok ((k, salt, rounds), d)) = After c d

-- a blob's string ends after what stood before it
abbrev pub BlobFieldLies : Cursor → Read (Algorithm × Part × Public) → Type 0
BlobFieldLies c (Err f) = Lies c f
BlobFieldLies c (Ok ((a, p, key), d)) = After c d × (c.at ≤ p.start + p.length) × (p.start + p.length ≤ c.end)

abbrev BlobsLies : Cursor → Result Cursor Fault → Type 0
BlobsLies c (Err f) = Lies c f
BlobsLies c (Ok d) = After c d

none_lies : (s : List ℕ) (c : Cursor) → Good s c → KdfLies c (none_at s c)
unfolding none_at
none_lies s c good =
    by_read (string_at s c)
    (λ f w. rw w (rw w at (string_lies s c good)))
    (λ p d w.
    rw w
    (by_bool (eqb p.length 0)
    (λ v. rw v (rw w at (string_lies s c good)))
    (λ v. rw v (omega (arith, good)))))

bcrypt_lies : (s : List ℕ) (c : Cursor) → Good s c → KdfLies c (bcrypt_at s c)
unfolding bcrypt_at
bcrypt_lies s c good =
    by_read (string_at s c)
    (λ f w. rw w (rw w at (string_lies s c good)))
    (λ p d w.
    let i = string_in s c p d w in
    let inside = within p in
    rw w
    (by_read (string_at s inside)
    (λ f v. rw v (lies_within s c p d f i (rw v at (string_lies s inside i.inside))))
    (λ salt j v.
    let a = rw v at (string_lies s inside i.inside) in
    let good' = good_after s inside j i.inside a in
    rw v
    (by_read (uint32_at s j)
    (λ f u. rw u (lies_within s c p d f i (lies_after inside j f a (rw u at (uint32_lies s j good')))))
    (λ rounds k u.
    let b = after-after inside j k a (rw u at (uint32_lies s j good')) in
    rw u
    (by_tested (end_at k)
    (λ f t. rw t (lies_within s c p d f i (lies_after inside k f b (rw t at (end_lies k)))))
    (λ t. rw t i.after)))))))

options_lies : (s : List ℕ) (c : Cursor) (k : Kdf) → Good s c → KdfLies c (on_kdf k (none_at s c) (bcrypt_at s c))
options_lies s c kdf.None good = none_lies s c good
options_lies s c kdf.Bcrypt good = bcrypt_lies s c good

kdf_lies : (s : List ℕ) (c : Cursor) → Good s c → KdfLies c (kdf_at s c)
unfolding kdf_at
kdf_lies s c good =
    by_read (string_at s c)
    (λ f w. rw w (rw w at (string_lies s c good)))
    (λ name d w.
    let a = rw w at (string_lies s c good) in
    rw w
    (by_kdf_name (kdf_named (view_of s name))
    (λ v. rw v (omega (arith, good)))
    (λ k v. rw v (moved_on d a (on_kdf k (none_at s d) (bcrypt_at s d)) (options_lies s d k (good_after s c d good a))))))
  where
    moved_on : (d : Cursor) → After c d → (r : Read (Kdf × Part × ℕ)) → KdfLies d r → KdfLies c r
    moved_on d a (Err f) l = lies_after c d f a l
    moved_on d a (Ok ((k, salt, rounds), e)) l = after-after c d e a l

count_lies : (s : List ℕ) (c : Cursor) (cipher : Cipher) → Good s c → Uint32Lies c (count_at s c cipher)
unfolding count_at
count_lies s c cipher good =
    by_read (uint32_at s c)
    (λ f w. rw w (rw w at (uint32_lies s c good)))
    (λ n d w.
    rw w
    (by_bool (keys_allowed cipher n)
    (λ v. rw v (rw w at (uint32_lies s c good)))
    (λ v. rw v (omega (arith, good)))))

pub blob_field_lies : (s : List ℕ) (c : Cursor) → Good s c → BlobFieldLies c (blob_field_at s c)
unfolding blob_field_at
blob_field_lies s c good =
    by_read (string_at s c)
    (λ f w. rw w (rw w at (string_lies s c good)))
    (λ p d w.
    let i = string_in s c p d w in
    rw w
    (by_blob (blob_at s (within p))
    (λ f v. rw v (lies_within s c p d f i (rw v at (blob_lies s (within p) i.inside))))
    (λ a key v. rw v (i.after, omega (arith, i), omega (arith, i)))))

blobs_lies : (s : List ℕ) (c : Cursor) (n : ℕ) → Good s c → BlobsLies c (blobs_at s c n)
unfolding blobs_at
blobs_lies s c zero good = omega (arith, good)
blobs_lies s c (suc n) good =
    by_blob_field (blob_field_at s c)
    (λ f w. rw w (rw w at (blob_field_lies s c good)))
    (λ a p key d w.
    let i = rw w at (blob_field_lies s c good) in
    rw w (moved_on d i.0 (blobs_at s d n) (blobs_lies s d n (good_after s c d good i.0))))
  where
    moved_on : (d : Cursor) → After c d → (r : Result Cursor Fault) → BlobsLies d r → BlobsLies c r
    moved_on d a (Err f) l = lies_after c d f a l
    moved_on d a (Ok e) l = after-after c d e a l

keys_lies : (s : List ℕ) (c : Cursor) (more : ℕ) → Good s c → BlobFieldLies c (keys_at s c more)
unfolding keys_at
keys_lies s c more good =
    by_blob_field (blob_field_at s c)
    (λ f w. rw w (rw w at (blob_field_lies s c good)))
    (λ a p key d w.
    let i = rw w at (blob_field_lies s c good) in
    let next = blobs_lies s d more (good_after s c d good i.0) in
    rw w
    (by_blobs (blobs_at s d more)
    (λ f v. rw v (lies_after c d f i.0 (rw v at next)))
    (λ e v. rw v (after-after c d e i.0 (rw v at next), i.1, i.2))))

-- ---- the whole image

-- is a refusal about the whole image: it is above 65,535 bytes, or doesn't begin with the magic
unfoldable pub about_whole : List ℕ → Bool
about_whole s = ltb 65535 (length s) || not (same_bytes (take 15 s) magic)

-- the place after the magic, up to the image's end
abbrev pub after_magic : List ℕ → Cursor
after_magic s = record { at = 15; end = length s }

-- about the whole image: its first byte; about a field: after the magic
abbrev pub PlaceSaid : List ℕ → Bool → Fault → Type 0
PlaceSaid s true f = f.at ≡ 0
PlaceSaid s false f = Lies (after_magic s) f

about_large : (s : List ℕ) → ltb 65535 (length s) ≡ true → about_whole s ≡ true
unfolding about_whole
about_large s z = rw z

about_magic : (s : List ℕ) (same : Bool) → ltb 65535 (length s) ≡ false → same_bytes (take 15 s) magic ≡ same → about_whole s ≡ not same
unfolding about_whole
about_magic s same z e = rw (z, e)

said_whole : (s : List ℕ) (f : Fault) → about_whole s ≡ true → f.at ≡ 0 → PlaceSaid s (about_whole s) f
said_whole s f e h = rw e h

pub said_field : (s : List ℕ) (f : Fault) → about_whole s ≡ false → Lies (after_magic s) f → PlaceSaid s (about_whole s) f
said_field s f e h = rw e h

abbrev MagicSaid : List ℕ → Read Part → Type 0
MagicSaid s (Err f) = (same_bytes (take 15 s) magic ≡ false) × (f.at ≡ 0)
MagicSaid s (Ok (p, c)) = (same_bytes (take 15 s) magic ≡ true) × (15 ≤ length s) × (c.at ≡ 15) × (c.end ≡ length s)

-- fewer than 15 bytes are not the magic
short_unlike : (s : List ℕ) → length s < 15 → same_bytes (take 15 s) magic ≡ false
unfolding magic
short_unlike s h =
    by_bool (same_bytes (take 15 s) magic)
    (λ w.
    let same : s ≡ magic = sym (take_all 15 s (omega arith)) ∙ same_true (take 15 s) magic w in
    let long : length s ≡ 15 = ap length same in
    clash (omega (arith, long, h)))
    (λ w. w)

-- with room for 15 bytes or without
no_room : (s : List ℕ) → has_room s (whole s) 15 ≡ false → length s < 15
no_room s w =
    by_bool (ltb (length s) 15)
    (λ v. ltb-true (length s) 15 v)
    (λ v. let h = ltb-false (length s) 15 v in let r : has_room s (whole s) 15 ≡ true = room_is s (whole s) 15 (omega arith, omega arith) in let z : true ≡ false = sym r ∙ w in clash cc)

magic_said : (s : List ℕ) → MagicSaid s (magic_at s)
unfolding magic_at bytes_at
magic_said s =
    by_bool (has_room s (whole s) 15)
    (λ w.
    let r = room_fits s (whole s) 15 w in
    let view : view_of s (part 0 15) ≡ take 15 s = view_in s (part 0 15) r.0 in
    rw (w, view)
    (by_bool (same_bytes (take 15 s) magic)
    (λ v. rw v (v, r.0, refl, refl))
    (λ v. rw v (v, refl))))
    (λ w. rw w (short_unlike s (no_room s w), refl))

abbrev CipherSaid : List ℕ → Read Cipher → Type 0
CipherSaid s (Err f) = PlaceSaid s (about_whole s) f
CipherSaid s (Ok (k, d)) = (about_whole s ≡ false) × After (after_magic s) d × (d.at ≡ 19 + length (cipher_name k))

cipher_said : (s : List ℕ) → CipherSaid s (cipher_at s)
unfolding cipher_at
cipher_said s =
    by_bool (ltb 65535 (length s))
    (λ z. rw z (said_whole s (fault Size 0) (about_large s z) refl))
    (λ z.
    rw z
    (by_read (magic_at s)
    (λ f w. let m = rw w at (magic_said s) in rw w (said_whole s f (about_magic s false z m.0) m.1))
    (λ p c w.
    let m = rw w at (magic_said s) in
    let about = about_magic s true z m.0 in
    let good : Good s c = omega (arith, m) in
    rw w
    (by_read (string_at s c)
    (λ f v. let l : Lies c f = rw v at (string_lies s c good) in rw v (said_field s f about (omega (arith, l, m))))
    (λ name d v.
    let i = string_in s c name d v in
    rw v
    (by_cipher_name (cipher_named (view_of s name))
    (λ u. rw u (said_field s (fault AlgorithmUnknown c.at) about (omega (arith, m))))
    (λ k u.
    let named : length (cipher_name k) ≡ name.length =
    ap length (sym (cipher_read (view_of s name) k u)) ∙ view_length s name (omega (arith, i)) in
    rw u (about, omega (arith, i, m), omega (arith, i, m, named)))))))))

-- a header that is read ends after its cipher's name, and within the image; so does its first blob, after the magic
abbrev pub HeaderSaid : List ℕ → Result Header Fault → Type 0
HeaderSaid s (Err f) = PlaceSaid s (about_whole s) f
HeaderSaid s (Ok h) =
    (about_whole s ≡ false)
    × (19 + length (cipher_name h.cipher) ≤ h.section)
    × (h.section ≤ length s)
    × (15 ≤ h.blob.start + h.blob.length)
    × (h.blob.start + h.blob.length ≤ length s)

pub header_said : (s : List ℕ) → HeaderSaid s (header_at s)
unfolding header_at
header_said s =
    by_cipher_field (cipher_at s)
    (λ f w. rw w (rw w at (cipher_said s)))
    (λ cipher c w.
    let m = rw w at (cipher_said s) in
    let start = after_magic s in
    let a₁ = m.1 in
    let good₁ : Good s c = omega (arith, m) in
    rw w
    (by_kdf_field (kdf_at s c)
    (λ f v. rw v (said_field s f m.0 (lies_after start c f a₁ (rw v at (kdf_lies s c good₁)))))
    (λ k salt rounds d v.
    let b₂ = rw v at (kdf_lies s c good₁) in
    let good₂ = good_after s c d good₁ b₂ in
    let a₂ = after-after start c d a₁ b₂ in
    rw v
    (by_read (count_at s d cipher)
    (λ f u. rw u (said_field s f m.0 (lies_after start d f a₂ (rw u at (count_lies s d cipher good₂)))))
    (λ n e u.
    let b₃ = rw u at (count_lies s d cipher good₂) in
    let good₃ = good_after s d e good₂ b₃ in
    let a₃ = after-after start d e a₂ b₃ in
    rw u
    (by_blob_field (keys_at s e (n - 1))
    (λ f t. rw t (said_field s f m.0 (lies_after start e f a₃ (rw t at (keys_lies s e (n - 1) good₃)))))
    (λ a blob key g t.
    let b₄ = rw t at (keys_lies s e (n - 1) good₃) in
    rw t
    (m.0, omega (arith, m.2, b₂, b₃, b₄.0), omega (arith, a₃, b₄.0), omega (arith, a₃, b₄.1), omega (arith, a₃, b₄.2)))))))))
