-- docs/RULES.md, 12: at the places of one of its keys, an edit of a plain image's bytes is the plain image of the edited lists. Rests on the
-- image in parts.
use Prim.Native.Nat.{ℕ, ◌+◌}
use Rattle.std.proofs.Common.{arith, ◌∙◌}
use Rattle.std.specs.Prelude.{◌≡◌}
use Rattle.std.proofs.Math.Path.{refl, sym, ap, ap₂}
use mathlib.Core.List.{List, [], ◌∷◌, ◌++◌, append_assoc, append-nil}
use Rattle.std.proofs.Math.ListN.{length, take, length-append}
use Rattle.std.proofs.Math.Seq.{slice}
use Rattle.fields.specs.Bytes.{uint32, string, join}
use Rattle.fields.specs.Rest.{length-uint32, length-string}
use Rattle.names.specs.declared.Cipher.TheVariants as cipher
use Rattle.names.specs.declared.Kdf.TheVariants as kdf
use Rattle.names.specs.Ciphers.{cipher_name, kdf_name}
use Rattle.format.specs.Format.{Entry, entry, magic, options, blob_fields, entry_fields, padding_length, padding_bytes, content, section as section_of, header, plain_image}
use Rattle.format.specs.Lengths.{blobs_length, entries_length}
use Rattle.format.proofs.Lengths.{blobs_length_lem, entries_length_lem, content-length, plain_header-length}
use Rattle.buffer.specs.Runs.{join-append}
use Rattle.edit_shells.specs.Parts.{lengths, join_more, part_at}
use Rattle.edit_shells.specs.Shells.{padded, closed, closed_is, changed_at, removed_at, added_at}

-- ---- the places, by what stands before them

-- of a comment to be changed, that of the key after `es` and before `fs`
pub record ChangePlaces (blobs : List (List ℕ)) (es : List Entry) (e : Entry) (fs : List Entry) (section field past end : ℕ) : Type 0 where
  pub section_is : section ≡ 39 + blobs_length blobs
  pub field_is : field ≡ section + 12 + entries_length es + length e.pair
  pub past_is : past ≡ field + 4 + length e.comment
  pub end_is : end ≡ past + entries_length fs

-- of a key to be removed, with its blob after `bs` and before `cs`, and its entry after `es` and before `fs`
pub record RemovePlaces
    (bs : List (List ℕ)) (b : List ℕ) (cs : List (List ℕ)) (es : List Entry) (e : Entry) (fs : List Entry)
    (count blobStart blobEnd section entryStart entryEnd end : ℕ)
    : Type 0 where
  pub count_is : count ≡ length bs + length cs
  pub blob_start : blobStart ≡ 39 + blobs_length bs
  pub blob_end : blobEnd ≡ blobStart + 4 + length b
  pub section_is : section ≡ blobEnd + blobs_length cs
  pub entry_start : entryStart ≡ section + 12 + entries_length es
  pub entry_end : entryEnd ≡ entryStart + length e.pair + 4 + length e.comment
  pub end_is : end ≡ entryEnd + entries_length fs

-- where a key is added
pub record AddPlaces (blobs : List (List ℕ)) (entries : List Entry) (count section end : ℕ) : Type 0 where
  pub count_is : count ≡ length blobs + 1
  pub section_is : section ≡ 39 + blobs_length blobs
  pub end_is : end ≡ section + 12 + entries_length entries

-- ---- an image in parts

-- what stands before the key count: 35 bytes
unfoldable pub opening : List ℕ
opening = join (magic ∷ string (cipher_name cipher.None) ∷ string (kdf_name kdf.None) ∷ string (options kdf.None [] 0) ∷ [])

opening-length : length opening ≡ 35
unfolding opening magic string uint32
opening-length = refl

pub header_parts : (blobs : List (List ℕ)) → header cipher.None kdf.None [] 0 blobs ≡ join (opening ∷ uint32 (length blobs) ∷ join (blob_fields blobs) ∷ [])
unfolding header opening
header_parts blobs = simp (append_assoc, append-nil)

pub plain_closed :
    (n : ℕ) (blobs : List (List ℕ)) (entries : List Entry)
    → plain_image n blobs entries ≡ closed (header cipher.None kdf.None [] 0 blobs) (content n entries)
unfolding plain_image closed padded section_of
plain_closed n blobs entries = rw append-nil

-- an image of which front and content are parts, and what comes after it
in_parts :
    (n : ℕ) (blobs : List (List ℕ)) (entries : List Entry) (front inside : List (List ℕ)) (rest old : List ℕ)
    → header cipher.None kdf.None [] 0 blobs ≡ join front → content n entries ≡ join inside → old ≡ plain_image n blobs entries ++ rest
    → old
    ≡ join
    ((front ++ uint32 (lengths inside + padding_length (lengths inside)) ∷ (inside ++ take (padding_length (lengths inside)) padding_bytes ∷ []))
    ++ rest ∷ [])
in_parts n blobs entries front inside rest old h c e =
    e ∙ ap (λ (l : List ℕ). l ++ rest) (plain_closed n blobs entries ∙ ap₂ closed h c ∙ closed_is front inside (lengths inside) refl)
    ∙ join_more (front ++ uint32 (lengths inside + padding_length (lengths inside))
    ∷ (inside ++ take (padding_length (lengths inside)) padding_bytes ∷ [])) rest

-- ---- lists joined

entry_fields_append : (es fs : List Entry) → entry_fields (es ++ fs) ≡ entry_fields es ++ entry_fields fs
entry_fields_append [] fs = refl
entry_fields_append (e ∷ es) fs = ap (λ (l : List (List ℕ)). e.pair ∷ string e.comment ∷ l) (entry_fields_append es fs)

blob_fields_append : (bs cs : List (List ℕ)) → blob_fields (bs ++ cs) ≡ blob_fields bs ++ blob_fields cs
blob_fields_append [] cs = refl
blob_fields_append (b ∷ bs) cs = ap (λ (l : List (List ℕ)). string b ∷ l) (blob_fields_append bs cs)

content-append : (n : ℕ) (es fs : List Entry) → content n (es ++ fs) ≡ content n es ++ join (entry_fields fs)
unfolding content
content-append n es fs =
    rw (entry_fields_append es fs, join-append (entry_fields es) (entry_fields fs)) (simp append_assoc)

blobs_append : (bs cs : List (List ℕ)) → join (blob_fields (bs ++ cs)) ≡ join (blob_fields bs) ++ join (blob_fields cs)
blobs_append bs cs = ap join (blob_fields_append bs cs) ∙ join-append (blob_fields bs) (blob_fields cs)

-- ---- the edits

module _ (n : ℕ) (rest old : List ℕ) where
  -- the comment of the key after `es` is changed
  pub changed :
      (blobs : List (List ℕ)) (es : List Entry) (e : Entry) (fs : List Entry) (section field past end : ℕ) (comment : List ℕ)
      → old ≡ plain_image n blobs (es ++ e ∷ fs) ++ rest → ChangePlaces blobs es e fs section field past end
      → changed_at old section field past end comment ≡ plain_image n blobs (es ++ entry e.pair comment ∷ fs)
  unfolding changed_at
  changed blobs es e fs section field past end comment stands p =
      let head = header cipher.None kdf.None [] 0 blobs in
      let before = content n es ++ e.pair in
      let after = join (entry_fields fs) in
      let inside : List ℕ → List (List ℕ) = λ c. before ∷ string c ∷ after ∷ [] in
      let split : (c : List ℕ) → content n (es ++ entry e.pair c ∷ fs) ≡ join (inside c) = λ c. content-append n es (entry e.pair c ∷ fs)
      ∙ simp (append_assoc, append-nil) in
      let size = lengths (inside e.comment) in
      let number = uint32 (size + padding_length size) in
      let padding = take (padding_length size) padding_bytes in
      let whole = in_parts n blobs (es ++ e ∷ fs) (head ∷ []) (inside e.comment) rest old (sym (append-nil head)) (split e.comment) stands in
      let lh : length head ≡ section = plain_header-length blobs ∙ sym p.section_is in
      let ln : length number ≡ 4 = length-uint32 (size + padding_length size) in
      let lb : length before ≡ 8 + entries_length es + length e.pair =
      length-append (content n es) e.pair ∙ ap (λ (k : ℕ). k + length e.pair) (content-length n es) in
      let lc : length (string e.comment) ≡ 4 + length e.comment = length-string e.comment in
      let la : length after ≡ entries_length fs = entries_length_lem fs in
      let first : take section old ≡ head =
      ap (take section) whole ∙ part_at [] head (number ∷ before ∷ string e.comment ∷ after ∷ padding ∷ rest ∷ []) 0 section refl (omega arith) in
      let second : slice (section + 4) field old ≡ before =
      ap (slice (section + 4) field) whole
      ∙ part_at (head ∷ number ∷ []) before (string e.comment ∷ after ∷ padding ∷ rest ∷ []) (section + 4) field (omega arith)
      (omega (arith, p.field_is)) in
      let third : slice past end old ≡ after =
      ap (slice past end) whole
      ∙ part_at (head ∷ number ∷ before ∷ string e.comment ∷ []) after (padding ∷ rest ∷ []) past end (omega (arith, p.field_is, p.past_is))
      (omega (arith, p.end_is)) in
      ap₂ closed first (ap₂ (λ (x y : List ℕ). join (x ∷ string comment ∷ y ∷ [])) second third ∙ sym (split comment))
      ∙ sym (plain_closed n blobs (es ++ entry e.pair comment ∷ fs))

  -- the key after `bs` and `es` is removed
  pub removed :
      (bs : List (List ℕ)) (b : List ℕ) (cs : List (List ℕ)) (es : List Entry) (e : Entry) (fs : List Entry)
      (count blobStart blobEnd section entryStart entryEnd end : ℕ)
      → old ≡ plain_image n (bs ++ b ∷ cs) (es ++ e ∷ fs) ++ rest
      → RemovePlaces bs b cs es e fs count blobStart blobEnd section entryStart entryEnd end
      → removed_at old count blobStart blobEnd section entryStart entryEnd end ≡ plain_image n (bs ++ cs) (es ++ fs)
  unfolding removed_at
  removed bs b cs es e fs count blobStart blobEnd section entryStart entryEnd end stands p =
      let blobs = bs ++ b ∷ cs in
      let entries = es ++ e ∷ fs in
      let front = opening ∷ uint32 (length blobs) ∷ join (blob_fields bs) ∷ string b ∷ join (blob_fields cs) ∷ [] in
      let mine = e.pair ++ string e.comment in
      let inside = content n es ∷ mine ∷ join (entry_fields fs) ∷ [] in
      let head : header cipher.None kdf.None [] 0 blobs ≡ join front =
      header_parts blobs ∙ ap (λ (l : List ℕ). join (opening ∷ uint32 (length blobs) ∷ l ∷ [])) (blobs_append bs (b ∷ cs))
      ∙ simp (append_assoc, append-nil) in
      let split : content n entries ≡ join inside = content-append n es (e ∷ fs) ∙ simp (append_assoc, append-nil) in
      let size = lengths inside in
      let number = uint32 (size + padding_length size) in
      let padding = take (padding_length size) padding_bytes in
      let whole = in_parts n blobs entries front inside rest old head split stands in
      let lo = opening-length in
      let lk : length (uint32 (length blobs)) ≡ 4 = length-uint32 (length blobs) in
      let lbs : length (join (blob_fields bs)) ≡ blobs_length bs = blobs_length_lem bs in
      let lb : length (string b) ≡ 4 + length b = length-string b in
      let lcs : length (join (blob_fields cs)) ≡ blobs_length cs = blobs_length_lem cs in
      let ln : length number ≡ 4 = length-uint32 (size + padding_length size) in
      let le : length (content n es) ≡ 8 + entries_length es = content-length n es in
      let lm : length mine ≡ length e.pair + (4 + length e.comment) =
      length-append e.pair (string e.comment) ∙ ap (λ (k : ℕ). length e.pair + k) (length-string e.comment) in
      let lf : length (join (entry_fields fs)) ≡ entries_length fs = entries_length_lem fs in
      let a₁ : take 35 old ≡ opening = ap (take 35) whole
      ∙ part_at [] opening (uint32 (length blobs) ∷ join (blob_fields bs) ∷ string b ∷ join (blob_fields cs) ∷ number ∷ inside ++ padding ∷ rest
      ∷ []) 0 35 refl (omega arith) in
      let a₂ : slice 39 blobStart old ≡ join (blob_fields bs) = ap (slice 39 blobStart) whole
      ∙ part_at (opening ∷ uint32 (length blobs) ∷ []) (join (blob_fields bs))
      (string b ∷ join (blob_fields cs) ∷ number ∷ inside ++ padding ∷ rest ∷ []) 39 blobStart (omega arith) (omega (arith, p.blob_start)) in
      let a₃ : slice blobEnd section old ≡ join (blob_fields cs) = ap (slice blobEnd section) whole
      ∙ part_at (opening ∷ uint32 (length blobs) ∷ join (blob_fields bs) ∷ string b ∷ []) (join (blob_fields cs))
      (number ∷ inside ++ padding ∷ rest ∷ []) blobEnd section (omega (arith, p.blob_start, p.blob_end)) (omega (arith, p.section_is)) in
      let a₄ : slice (section + 4) entryStart old ≡ content n es = ap (slice (section + 4) entryStart) whole
      ∙ part_at (front ++ number ∷ []) (content n es) (mine ∷ join (entry_fields fs) ∷ padding ∷ rest ∷ []) (section + 4) entryStart
      (omega (arith, p.blob_start, p.blob_end, p.section_is)) (omega (arith, p.entry_start)) in
      let a₅ : slice entryEnd end old ≡ join (entry_fields fs) = ap (slice entryEnd end) whole
      ∙ part_at (front ++ number ∷ content n es ∷ mine ∷ []) (join (entry_fields fs)) (padding ∷ rest ∷ []) entryEnd end
      (omega (arith, p.blob_start, p.blob_end, p.section_is, p.entry_start, p.entry_end)) (omega (arith, p.end_is)) in
      let fewer : count ≡ length (bs ++ cs) = omega (arith, p.count_is, length-append bs cs) in
      let new-head : join (opening ∷ uint32 (length (bs ++ cs)) ∷ join (blob_fields bs) ∷ join (blob_fields cs) ∷ [])
      ≡ header cipher.None kdf.None [] 0 (bs ++ cs) =
      sym (header_parts (bs ++ cs) ∙ ap (λ (l : List ℕ). join (opening ∷ uint32 (length (bs ++ cs)) ∷ l ∷ [])) (blobs_append bs cs)
      ∙ simp (append_assoc, append-nil)) in
      let new-content : join (content n es ∷ join (entry_fields fs) ∷ []) ≡ content n (es ++ fs) = sym (content-append n es fs ∙ simp append-nil) in
      rw (a₁, a₂, a₃, a₄, a₅, fewer) (ap₂ closed new-head new-content ∙ sym (plain_closed n (bs ++ cs) (es ++ fs)))

  -- a key is added
  pub added :
      (blobs : List (List ℕ)) (entries : List Entry) (count section end : ℕ) (blob pair comment : List ℕ)
      → old ≡ plain_image n blobs entries ++ rest → AddPlaces blobs entries count section end
      → added_at old count section end blob pair comment ≡ plain_image n (blobs ++ blob ∷ []) (entries ++ entry pair comment ∷ [])
  unfolding added_at
  added blobs entries count section end blob pair comment stands p =
      let front = opening ∷ uint32 (length blobs) ∷ join (blob_fields blobs) ∷ [] in
      let inside = content n entries ∷ [] in
      let size = lengths inside in
      let number = uint32 (size + padding_length size) in
      let padding = take (padding_length size) padding_bytes in
      let whole = in_parts n blobs entries front inside rest old (header_parts blobs) (sym (append-nil (content n entries))) stands in
      let lo = opening-length in
      let lk : length (uint32 (length blobs)) ≡ 4 = length-uint32 (length blobs) in
      let lb : length (join (blob_fields blobs)) ≡ blobs_length blobs = blobs_length_lem blobs in
      let ln : length number ≡ 4 = length-uint32 (size + padding_length size) in
      let le : length (content n entries) ≡ 8 + entries_length entries = content-length n entries in
      let a₁ : take 35 old ≡ opening = ap (take 35) whole
      ∙ part_at [] opening (uint32 (length blobs) ∷ join (blob_fields blobs) ∷ number ∷ content n entries ∷ padding ∷ rest ∷ []) 0 35 refl (omega arith) in
      let a₂ : slice 39 section old ≡ join (blob_fields blobs) = ap (slice 39 section) whole
      ∙ part_at (opening ∷ uint32 (length blobs) ∷ []) (join (blob_fields blobs)) (number ∷ content n entries ∷ padding ∷ rest ∷ []) 39 section
      (omega arith) (omega (arith, p.section_is)) in
      let a₃ : slice (section + 4) end old ≡ content n entries = ap (slice (section + 4) end) whole
      ∙ part_at (front ++ number ∷ []) (content n entries) (padding ∷ rest ∷ []) (section + 4) end (omega (arith, p.section_is))
      (omega (arith, p.end_is)) in
      let more : count ≡ length (blobs ++ blob ∷ []) = omega (arith, p.count_is, length-append blobs (blob ∷ [])) in
      let new-head : join (opening ∷ uint32 (length (blobs ++ blob ∷ [])) ∷ join (blob_fields blobs) ∷ string blob ∷ [])
      ≡ header cipher.None kdf.None [] 0 (blobs ++ blob ∷ []) =
      sym (header_parts (blobs ++ blob ∷ []) ∙ ap (λ (l : List ℕ). join (opening ∷ uint32 (length (blobs ++ blob ∷ [])) ∷ l ∷ []))
      (blobs_append blobs (blob ∷ [])) ∙ simp (append_assoc, append-nil)) in
      let new-content : join (content n entries ∷ pair ∷ string comment ∷ []) ≡ content n (entries ++ entry pair comment ∷ []) =
      sym (content-append n entries (entry pair comment ∷ [])) in
      rw (a₁, a₂, a₃, more) (ap₂ closed new-head new-content ∙ sym (plain_closed n (blobs ++ blob ∷ []) (entries ++ entry pair comment ∷ [])))
