-- Where room was made for a key, the puts of its blob, its keypair and its comment make the image with it; refused, the addition is. Rests on
-- the contract of `edit_add::open` and on a buffer in parts.
use Rattle.std.specs.Prelude.{ℕ, ◌+◌, ◌-◌, ◌≤◌, ◌≡◌, refl, drop, Ok, Err}
use Rattle.std.proofs.Common.{arith, sym, ◌∙◌, ap}
use mathlib.Core.List.{List, [], ◌∷◌, ◌++◌, append_assoc}
use Rattle.std.proofs.Math.ListN.{length, take}
use Rattle.std.proofs.Math.Seq.{slice, length-take-le}
use Rattle.fields.specs.Bytes.{uint32, string, join}
use Rattle.fields.specs.Rest.{length-uint32, length-string}
use Rattle.fields.specs.declared.Fault.{Fault}
use Rattle.format.specs.Format.{padding_length, padding_bytes}
use Rattle.buffer.specs.Puts.{splice}
use Rattle.buffer.specs.Runs.{IsRun}
use Rattle.writer_reply.specs.Reply.{left, sized_by, sized, IsSized, Written}
use Rattle.edit_shells.specs.Parts.{lengths, join-length, join_more, part_length, slice_cut, run_part}
use Rattle.edit_shells.specs.Shells.{closed_is, closed-length, added_at, opened_at, opened_size}
use Rattle.edit_shells.specs.Edits.{IsRoomMade}
use Rattle.edit_shells.proofs.Edits.{sized_by_lem, fits_of, from_start}
use Rattle.edit_add.specs.Open.{Ordered, size_is, from_blobs, opened_parts, opened_length}

-- what a key's blob takes as a string, and its entry
abbrev pub blob_takes : List ℕ → ℕ
blob_takes blob = 4 + length blob

abbrev pub entry_takes : List ℕ → List ℕ → ℕ
entry_takes pair comment = length pair + (4 + length comment)

module _ (old : List ℕ) (count section end : ℕ) (blob pair comment : List ℕ) (o : Ordered old section end) where
  abbrev inside : List (List ℕ)
  inside = slice (section + 4) end old ∷ pair ∷ string comment ∷ []

  inside-length : lengths inside ≡ end - (section + 4) + entry_takes pair comment
  inside-length =
      let le = part_length old (section + 4) (end - (section + 4)) end (omega (arith, o.second)) o.inside in
      omega (arith, le, length-string comment)

  -- the image with the key has the length of that with room for it
  pub added_size : length (added_at old count section end blob pair comment) ≡ opened_size section end (blob_takes blob) (entry_takes pair comment)
  unfolding added_at opened_size
  added_size =
      let front = take 35 old ∷ uint32 count ∷ slice 39 section old ∷ string blob ∷ [] in
      let l₁ : length (take 35 old) ≡ 35 = length-take-le 35 old (omega (arith, o.first, o.second, o.inside)) in
      let l₂ : length (uint32 count) ≡ 4 = length-uint32 count in
      let l₃ : 39 + length (slice 39 section old) ≡ section = from_blobs old count section end o in
      let l₄ : length (string blob) ≡ 4 + length blob = length-string blob in
      let lf : length (join front) ≡ section + blob_takes blob = join-length front ∙ omega (arith, l₁, l₂, l₃, l₄) in
      let li : length (join inside) ≡ end - (section + 4) + entry_takes pair comment = join-length inside ∙ inside-length in
      closed-length (join front) (join inside) ∙ rw (lf, li) (omega arith)

  reply_same :
      sized_by (opened_size section end (blob_takes blob) (entry_takes pair comment)) (length old)
      ≡ sized (added_at old count section end blob pair comment) (length old)
  reply_same = ap (λ (i : ℕ). sized_by i (length old)) (sym added_size) ∙ sized_by_lem (added_at old count section end blob pair comment) (length old)

  pub add_refused :
      (f : Fault) (out : List ℕ)
      → IsRoomMade (opened_size section end (blob_takes blob) (entry_takes pair comment))
      (opened_at old count section end (blob_takes blob) (entry_takes pair comment)) old (Err f) out
      → IsSized (added_at old count section end blob pair comment) old (Err f) out
  add_refused f out p =
      let e = p.0 ∙ reply_same in
      let image = added_at old count section end blob pair comment in
      let opened = opened_at old count section end (blob_takes blob) (entry_takes pair comment) in
      (e, p.1 ∙ ap (λ (w : Written). left w opened old) (sym p.0) ∙ ap (λ (w : Written). left w image old) e)

  abbrev content : ℕ
  content = end - (section + 4) + entry_takes pair comment

  added_parts :
      added_at old count section end blob pair comment
      ≡ join
      (take 35 old
      ∷ uint32 count
      ∷ slice 39 section old
      ∷ string blob
      ∷ uint32 (content + padding_length content)
      ∷ slice (section + 4) end old
      ∷ pair
      ∷ string comment
      ∷ take (padding_length content) padding_bytes
      ∷ [])
  unfolding added_at
  added_parts = closed_is (take 35 old ∷ uint32 count ∷ slice 39 section old ∷ string blob ∷ []) inside content inside-length

  -- the last three arguments are what the puts of the blob, of the keypair and of the comment ensure
  pub add_filled :
      (k r₁ r₂ r₃ : ℕ) (out o₁ o₂ o₃ : List ℕ)
      → IsRoomMade (opened_size section end (blob_takes blob) (entry_takes pair comment))
      (opened_at old count section end (blob_takes blob) (entry_takes pair comment)) old (Ok k) out
      → IsRun out section (string blob) r₁ o₁ → IsRun o₁ (end + blob_takes blob) pair r₂ o₂ → IsRun o₂ r₂ (string comment) r₃ o₃
      → IsSized (added_at old count section end blob pair comment) old (Ok k) o₃
  add_filled k r₁ r₂ r₃ out o₁ o₂ o₃ p run₁ run₂ run₃ =
      let kept = end - (section + 4) in
      let b = blob_takes blob in
      let own = entry_takes pair comment in
      let size = opened_size section end b own in
      let opened = opened_at old count section end b own in
      let image = added_at old count section end blob pair comment in
      let front = take 35 old in
      let blobs = slice 39 section old in
      let gap = slice section (section + b) old in
      let number = uint32 (content + padding_length content) in
      let entries = slice (section + 4) end old in
      let x = slice (end + b) (end + b + length pair) old in
      let y = slice (end + b + length pair) (end + b + own) old in
      let pad = take (padding_length content) padding_bytes in
      let rest = drop size old in
      let e : section + 4 + kept ≡ end = omega (arith, o.second) in
      let fit = fits_of size (length old) k p.0 in
      let es : size ≡ section + b + 4 + (content + padding_length content) = size_is section end b own (padding_length content) refl in
      let room : end + b + own ≤ length old = omega (arith, e, es, fit.2) in
      let l₁ : length front ≡ 35 = length-take-le 35 old (omega (arith, o.first, e, room)) in
      let l₂ : length (uint32 count) ≡ 4 = length-uint32 count in
      let l₃ : 39 + length blobs ≡ section = from_blobs old count section end o in
      let l₄ : length gap ≡ b = part_length old section b (section + b) refl (omega (arith, e, room)) in
      let l₅ : length number ≡ 4 = length-uint32 (content + padding_length content) in
      let l₆ : length entries ≡ kept = part_length old (section + 4) kept end e o.inside in
      let l₇ : length x ≡ length pair = part_length old (end + b) (length pair) (end + b + length pair) refl (omega (arith, room)) in
      let l₈ : length y ≡ 4 + length comment = part_length old (end + b + length pair) (4 + length comment) (end + b + own) (omega arith) room in
      let lb : length (string blob) ≡ b = length-string blob in
      let lc : length (string comment) ≡ 4 + length comment = length-string comment in
      let two : slice (end + b) (end + b + own) old ≡ x ++ y = slice_cut old (end + b) (end + b + length pair) (end + b + own) (omega arith)
      (omega arith) room in
      let parts : List ℕ → List (List ℕ) = λ l. front ∷ uint32 count ∷ blobs ∷ gap ∷ number ∷ entries ∷ l ∷ pad ∷ [] in
      let whole : out ≡ join (front ∷ uint32 count ∷ blobs ∷ gap ∷ number ∷ entries ∷ x ∷ y ∷ pad ∷ rest ∷ []) =
      p.1 ∙ ap (λ (w : Written). left w opened old) (sym p.0) ∙ from_start old opened size
      (opened_length old count section end o b own kept e room ∙ sym es)
      ∙ ap (λ (l : List ℕ). l ++ rest) (opened_parts old count section end o b own kept e room ∙ ap (λ (l : List ℕ). join (parts l)) two)
      ∙ join_more (parts (x ++ y)) rest
      ∙ ap (λ (t : List ℕ). front ++ (uint32 count ++ (blobs ++ (gap ++ (number ++ (entries ++ t)))))) (append_assoc x y (pad ++ (rest ++ []))) in
      let s₁ = run_part (front ∷ uint32 count ∷ blobs ∷ []) gap (string blob) (number ∷ entries ∷ x ∷ y ∷ pad ∷ rest ∷ []) out section r₁ o₁ whole
      (omega (arith, l₁, l₂, l₃)) (lb ∙ sym l₄) run₁ in
      let s₂ = run_part (front ∷ uint32 count ∷ blobs ∷ string blob ∷ number ∷ entries ∷ []) x pair (y ∷ pad ∷ rest ∷ []) o₁ (end + b) r₂ o₂ s₁.1
      (omega (arith, l₁, l₂, l₃, lb, l₅, l₆, e)) (sym l₇) run₂ in
      let s₃ = run_part (front ∷ uint32 count ∷ blobs ∷ string blob ∷ number ∷ entries ∷ pair ∷ []) y (string comment) (pad ∷ rest ∷ []) o₂ r₂ r₃ o₃
      s₂.1 (s₂.0 ∙ omega (arith, l₁, l₂, l₃, lb, l₅, l₆, e)) (lc ∙ sym l₈) run₃ in
      let filled = front ∷ uint32 count ∷ blobs ∷ string blob ∷ number ∷ entries ∷ pair ∷ string comment ∷ pad ∷ [] in
      let answer = p.0 ∙ reply_same in
      let put : o₃ ≡ splice old 0 image =
      s₃.1 ∙ sym (join_more filled rest) ∙ ap (λ (l : List ℕ). l ++ rest) (sym added_parts) ∙ sym (from_start old image size added_size) in
      (answer, put ∙ ap (λ (w : Written). left w image old) answer)
