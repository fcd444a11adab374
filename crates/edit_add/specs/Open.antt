-- The move and the puts that make room for a key, and then the puts of the key, make the image with it. Rests on a buffer in parts.
use Rattle.std.specs.Prelude.{ℕ, ◌+◌, ◌-◌, ◌≤◌, ◌<◌, ◌≡◌, true, false, drop, Ok}
use native.Mathlib.Omega.{arith}
use Rattle.std.proofs.Math.Path.{refl}
use Rattle.std.proofs.Common.{sym, ◌∙◌, ap, ap₂}
use mathlib.Core.List.{List, [], ◌∷◌, ◌++◌}
use Rattle.std.proofs.Math.ListN.{length, take}
use Rattle.std.proofs.Math.Seq.{slice, length-slice, length-take-le}
use Rattle.fields.specs.Bytes.{uint32, join}
use Rattle.fields.specs.Rest.{length-uint32}
use Rattle.format.specs.Format.{padding_length, padding_bytes}
use Rattle.format.proofs.Laws.{padding_length_lem}
use Rattle.buffer.specs.Puts.{splice, IsPut}
use Rattle.buffer_moves.specs.Moves.{moved, moved_fits}
use Rattle.edit_shells.specs.Parts.{rises, rises-true, not_rises, join-length, join_more, cut, cut_whole, part_length, splice_part, put_part}
use Rattle.edit_shells.specs.Shells.{closed_is, closed-length, opened_at, opened_size}
use Rattle.edit_shells.specs.Edits.{added_by_places, IsRoomMade}
use Rattle.edit_shells.proofs.Edits.{from_start, room_made}

-- what an addition asks of its places
pub record Ordered (old : List ℕ) (section end : ℕ) : Type 0 where
  pub first : 39 ≤ section
  pub second : section + 4 ≤ end
  pub small : end ≤ 65535
  pub inside : end ≤ length old

-- ---- laws

module _ (old : List ℕ) (n section end : ℕ) (small : n ≤ 65535) where
  pub rises_ordered : rises 0 (added_by_places section end ++ n ∷ length old ∷ []) ≡ true → Ordered old section end
  rises_ordered e =
      let r = rises-true 0 (added_by_places section end ++ n ∷ length old ∷ []) e in
      record { first = omega arith; second = omega arith; small = omega arith; inside = omega arith }

  -- a section that begins past the image
  pub section_past : n < section → rises 0 (added_by_places section end ++ n ∷ length old ∷ []) ≡ false
  section_past h = not_rises 0 (added_by_places section end ++ n ∷ length old ∷ []) (λ r. omega arith)

-- the move, and then the puts, over a buffer in parts: `kept` bytes stand in the section
puts_parts :
    (old : List ℕ) (count ahead section kept end blob own field inside stop past padding size whole r₁ r₂ r₃ : ℕ) (o₁ o₂ o₃ o₄ : List ℕ)
    → 39 + ahead ≡ section → section + 4 + kept ≡ end → end ≤ length old → field ≡ section + blob → inside ≡ field + 4 → stop ≡ inside + kept
    → past ≡ stop + own → size ≡ past + padding → size ≤ length old → length (take padding padding_bytes) ≡ padding
    → o₁ ≡ moved old (section + 4) inside kept → IsPut o₁ 35 (uint32 count) r₁ o₂ → IsPut o₂ field (uint32 whole) r₂ o₃
    → IsPut o₃ past (take padding padding_bytes) r₃ o₄
    → o₄
    ≡ join
    (take 35 old
    ∷ uint32 count
    ∷ slice 39 section old
    ∷ slice section field old
    ∷ uint32 whole
    ∷ slice (section + 4) end old
    ∷ slice stop past old
    ∷ take padding padding_bytes
    ∷ drop size old
    ∷ [])
puts_parts old count ahead section kept end blob own field inside stop past padding size whole r₁ r₂ r₃ o₁ o₂ o₃ o₄ e₁ e₂ within e₃ e₄ e₅ e₆ e₇ room lp move put₁ put₂ put₃ =
    let front = take 35 old in
    let keys = slice 35 39 old in
    let blobs = slice 39 section old in
    let gap = slice section field old in
    let four = slice field inside old in
    let entries = slice (section + 4) end old in
    let last = slice stop past old in
    let x = slice past size old in
    let rest = drop size old in
    let places : List ℕ = 35 ∷ 39 ∷ section ∷ field ∷ inside ∷ stop ∷ past ∷ size ∷ [] in
    let whole-old : old ≡ join (cut old 0 places) = cut_whole old 0 places (omega arith) in
    let l₁ : length front ≡ 35 = length-take-le 35 old (omega arith) in
    let l₂ : length keys ≡ 4 = part_length old 35 4 39 refl (omega arith) in
    let l₃ : length blobs ≡ ahead = part_length old 39 ahead section e₁ (omega arith) in
    let l₄ : length gap ≡ blob = part_length old section blob field (sym e₃) (omega arith) in
    let l₅ : length four ≡ 4 = part_length old field 4 inside (sym e₄) (omega arith) in
    let l₆ : length (slice inside stop old) ≡ kept = part_length old inside kept stop (sym e₅) (omega arith) in
    let l₇ : length last ≡ own = part_length old stop own past (sym e₆) (omega arith) in
    let l₈ : length x ≡ padding = part_length old past padding size (sym e₇) room in
    let m₁ : length entries ≡ kept = part_length old (section + 4) kept end e₂ within in
    let lc : length (uint32 count) ≡ 4 = length-uint32 count in
    let ln : length (uint32 whole) ≡ 4 = length-uint32 whole in
    let s₁ : o₁ ≡ join (front ∷ keys ∷ blobs ∷ gap ∷ four ∷ entries ∷ last ∷ x ∷ rest ∷ []) =
    move ∙ moved_fits old (section + 4) inside kept (omega arith) (omega arith) ∙ ap (λ (i : ℕ). splice old inside (slice (section + 4) i old)) e₂
    ∙ splice_part (front ∷ keys ∷ blobs ∷ gap ∷ four ∷ []) (slice inside stop old) entries (last ∷ x ∷ rest ∷ []) old inside whole-old (omega arith)
    (omega arith) in
    let s₂ = put_part (front ∷ []) keys (uint32 count) (blobs ∷ gap ∷ four ∷ entries ∷ last ∷ x ∷ rest ∷ []) o₁ 35 r₁ o₂ s₁ (omega arith)
    (omega arith) put₁ in
    let s₃ = put_part (front ∷ uint32 count ∷ blobs ∷ gap ∷ []) four (uint32 whole) (entries ∷ last ∷ x ∷ rest ∷ []) o₂ field r₂ o₃ s₂.1
    (omega arith) (omega arith) put₂ in
    (put_part (front ∷ uint32 count ∷ blobs ∷ gap ∷ uint32 whole ∷ entries ∷ last ∷ []) x (take padding padding_bytes) (rest ∷ []) o₃ past r₃ o₄
    s₃.1 (omega arith) (lp ∙ sym l₈) put₃).1

-- the new image's length, as the code counts it
pub size_is :
    (section end blob own padding : ℕ) → padding ≡ padding_length (end - (section + 4) + own)
    → opened_size section end blob own ≡ section + blob + 4 + (end - (section + 4) + own + padding)
unfolding opened_size
size_is section end blob own padding e = rw e

-- what is longer than the limit makes an image that is
pub size_over : (section end blob own : ℕ) → blob + own ≤ opened_size section end blob own
unfolding opened_size
size_over section end blob own = omega arith

module _ (old : List ℕ) (count section end : ℕ) (o : Ordered old section end) where
  pub from_blobs : 39 + length (slice 39 section old) ≡ section
  from_blobs = omega (arith, o.first, length-slice 39 section old (omega (arith, o.second, o.inside)))

  pub opened_parts :
      (blob own kept : ℕ) → section + 4 + kept ≡ end → end + blob + own ≤ length old
      → opened_at old count section end blob own
      ≡ join
      (take 35 old
      ∷ uint32 count
      ∷ slice 39 section old
      ∷ slice section (section + blob) old
      ∷ uint32 (kept + own + padding_length (kept + own))
      ∷ slice (section + 4) end old
      ∷ slice (end + blob) (end + blob + own) old
      ∷ take (padding_length (kept + own)) padding_bytes
      ∷ [])
  unfolding opened_at
  opened_parts blob own kept e room =
      let entries = slice (section + 4) end old in
      let last = slice (end + blob) (end + blob + own) old in
      let le : length entries ≡ kept = part_length old (section + 4) kept end e o.inside in
      let ll : length last ≡ own = part_length old (end + blob) own (end + blob + own) refl room in
      closed_is (take 35 old ∷ uint32 count ∷ slice 39 section old ∷ slice section (section + blob) old ∷ []) (entries ∷ last ∷ []) (kept + own)
      (omega arith)

  pub opened_length :
      (blob own kept : ℕ) → section + 4 + kept ≡ end → end + blob + own ≤ length old
      → length (opened_at old count section end blob own) ≡ section + blob + 4 + (kept + own + padding_length (kept + own))
  unfolding opened_at
  opened_length blob own kept e room =
      let blobs = slice 39 section old in
      let gap = slice section (section + blob) old in
      let entries = slice (section + 4) end old in
      let last = slice (end + blob) (end + blob + own) old in
      let front = take 35 old ∷ uint32 count ∷ blobs ∷ gap ∷ [] in
      let l₁ : length (take 35 old) ≡ 35 = length-take-le 35 old (omega (arith, o.first, o.second, o.inside)) in
      let l₂ : length (uint32 count) ≡ 4 = length-uint32 count in
      let l₃ : 39 + length blobs ≡ section = from_blobs in
      let l₄ : length gap ≡ blob = part_length old section blob (section + blob) refl (omega (arith, o.second)) in
      let le : length entries ≡ kept = part_length old (section + 4) kept end e o.inside in
      let ll : length last ≡ own = part_length old (end + blob) own (end + blob + own) refl room in
      let lf : length (join front) ≡ section + blob = join-length front ∙ omega arith in
      let li : length (join (entries ∷ last ∷ [])) ≡ kept + own = join-length (entries ∷ last ∷ []) ∙ omega arith in
      closed-length (join front) (join (entries ∷ last ∷ [])) ∙ rw (lf, li) (omega arith)

  -- the move, and then the puts
  pub open_puts :
      (blob own padding r₁ r₂ r₃ : ℕ) (o₁ o₂ o₃ o₄ : List ℕ) → padding ≡ padding_length (end - (section + 4) + own)
      → opened_size section end blob own ≤ 65535 → opened_size section end blob own ≤ length old
      → o₁ ≡ moved old (section + 4) (section + blob + 4) (end - (section + 4)) → IsPut o₁ 35 (uint32 count) r₁ o₂
      → IsPut o₂ (section + blob) (uint32 (end - (section + 4) + own + padding)) r₂ o₃
      → IsPut o₃ (section + blob + 4 + (end - (section + 4) + own)) (take padding padding_bytes) r₃ o₄
      → IsRoomMade (opened_size section end blob own) (opened_at old count section end blob own) old (Ok (opened_size section end blob own)) o₄
  open_puts blob own padding r₁ r₂ r₃ o₁ o₂ o₃ o₄ ep small room move put₁ put₂ put₃ =
      let kept = end - (section + 4) in
      let stop = section + blob + 4 + kept in
      let past = section + blob + 4 + (kept + own) in
      let size = opened_size section end blob own in
      let image = opened_at old count section end blob own in
      let whole = kept + own + padding in
      let e : section + 4 + kept ≡ end = omega (arith, o.second) in
      let es : size ≡ past + padding = size_is section end blob own padding ep ∙ omega arith in
      let a₁ : stop ≡ end + blob = omega (arith, e) in
      let a₂ : past ≡ end + blob + own = omega (arith, e) in
      let fit : end + blob + own ≤ length old = omega (arith, es, a₂, room) in
      let lp : length (take padding padding_bytes) ≡ padding = ap (λ (i : ℕ). length (take i padding_bytes)) ep ∙ padding_length_lem (kept + own) ∙ sym ep in
      let parts : ℕ → ℕ → List (List ℕ) = λ i j. take 35 old ∷ uint32 count ∷ slice 39 section old ∷ slice section (section + blob) old
      ∷ uint32 whole ∷ slice (section + 4) end old ∷ slice i j old ∷ take padding padding_bytes ∷ [] in
      let s : o₄ ≡ join (parts stop past ++ drop size old ∷ []) =
      puts_parts old count (length (slice 39 section old)) section kept end blob own (section + blob)
      (section + blob + 4) stop past padding size whole r₁ r₂ r₃ o₁ o₂ o₃ o₄ from_blobs e o.inside refl refl refl
      (omega arith) es room lp move put₁ put₂ put₃ in
      let is : image ≡ join (parts (end + blob) (end + blob + own)) = rw ep (opened_parts blob own kept e fit) in
      let long : length image ≡ size = opened_length blob own kept e fit ∙ rw (← ep) (sym (size_is section end blob own padding ep)) in
      room_made size image old o₄ small room
      (s ∙ ap₂ (λ (i j : ℕ). join (parts i j ++ drop size old ∷ [])) a₁ a₂ ∙ sym (join_more (parts (end + blob) (end + blob + own)) (drop size old))
      ∙ ap (λ (l : List ℕ). l ++ drop size old) (sym is) ∙ sym (from_start old image size long))
