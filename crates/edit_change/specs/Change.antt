-- The puts of a comment change make the image with the new comment. Rests on a buffer in parts.
use Rattle.std.specs.Prelude.{ℕ, ◌+◌, ◌-◌, ◌≤◌, ◌<◌, ◌≡◌, refl, true, false, take, drop, Ok}
use Rattle.std.proofs.Common.{arith, sym, ◌∙◌}
use Rattle.std.proofs.Math.Path.{ap}
use mathlib.Core.List.{List, [], ◌∷◌, ◌++◌, append-nil}
use Rattle.std.proofs.Math.ListN.{length}
use Rattle.std.proofs.Math.Seq.{slice, length-slice, length-take-le}
use Rattle.fields.specs.Bytes.{uint32, string, join}
use Rattle.fields.specs.Rest.{length-uint32, length-string}
use Rattle.format.specs.Format.{padding_length, padding_bytes}
use Rattle.format.proofs.Laws.{padding_length_lem}
use Rattle.buffer.specs.Puts.{splice, IsPut, zeros}
use Rattle.buffer_moves.specs.Moves.{moved, moved_fits}
use Rattle.edit_shells.specs.Parts.{rises, Rises, rises-true, not_rises, lengths, cut, cut_whole, part_length, splice_part, put_part, join-length}
use Rattle.edit_shells.specs.Shells.{closed, closed_is, closed-length, changed_at}
use Rattle.edit_shells.specs.Edits.{changed_by_places, IsEnding, IsRenewed}
use Rattle.edit_shells.proofs.Edits.{ends_within, ending_parts, renewed_parts}

-- what the change of an image asks of its places
pub record Ordered (old : List ℕ) (n section field past end : ℕ) : Type 0 where
  pub small : n ≤ 65535
  pub first : section + 4 ≤ field
  pub second : field ≤ past
  pub third : past ≤ end
  pub fourth : end ≤ n
  pub inside : n ≤ length old

-- ---- laws

module _ (old : List ℕ) (n section field past end : ℕ) (small : n ≤ 65535) where
  pub ordered_rises : Ordered old n section field past end → Rises 0 (changed_by_places section field past end ++ n ∷ length old ∷ [])
  ordered_rises o = omega arith

  pub rises_ordered : rises 0 (changed_by_places section field past end ++ n ∷ length old ∷ []) ≡ true → Ordered old n section field past end
  rises_ordered e =
      let r = rises-true 0 (changed_by_places section field past end ++ n ∷ length old ∷ []) e in
      record { small = small; first = r.1.0; second = r.1.1.0; third = r.1.1.1.0; fourth = r.1.1.1.1.0; inside = r.1.1.1.1.1.0 }

  -- a section that begins past the image
  pub section_past : n < section → rises 0 (changed_by_places section field past end ++ n ∷ length old ∷ []) ≡ false
  section_past h = not_rises 0 (changed_by_places section field past end ++ n ∷ length old ∷ []) (λ r. omega arith)

-- the new section's length without its padding
abbrev pub bare : ℕ → ℕ → ℕ → ℕ → List ℕ → ℕ
bare section field past end comment = field - (section + 4) + (4 + length comment) + (end - past)

-- the move, and then the puts, over a buffer in parts: `mid` bytes of the section stand before the comment, and `follows` after it
puts_parts :
    (old comment : List ℕ) (n section mid field past follows end to stop padding size last whole r₁ r₂ k : ℕ) (o₁ o₂ o₃ o₄ : List ℕ)
    → section + 4 + mid ≡ field → past + follows ≡ end → to ≡ field + (4 + length comment) → stop ≡ to + follows → size ≡ stop + padding
    → last ≡ size + (n - size) → last ≤ length old → end ≤ length old → length (take padding padding_bytes) ≡ padding
    → o₁ ≡ moved old past to follows → IsPut o₁ section (uint32 whole) r₁ o₂ → IsPut o₂ field (string comment) r₂ o₃
    → IsEnding o₃ stop padding n k o₄
    → (k ≡ size)
    × (o₄
    ≡ join
    (take section old
    ∷ uint32 whole
    ∷ slice (section + 4) field old
    ∷ string comment
    ∷ slice past end old
    ∷ take padding padding_bytes
    ∷ zeros (n - size)
    ∷ drop last old
    ∷ []))
puts_parts old comment n section mid field past follows end to stop padding size last whole r₁ r₂ k o₁ o₂ o₃ o₄ em ee et es ez el room inside lp move put₁ put₂ ends =
    let front = take section old in
    let four = slice section (section + 4) old in
    let middle = slice (section + 4) field old in
    let gap = slice field to old in
    let tail = slice past end old in
    let x = slice stop size old in
    let y = slice size last old in
    let rest = drop last old in
    let number = uint32 whole in
    let over : size ≤ last = omega arith in
    let whole-old : old ≡ join (cut old 0 (section ∷ (section + 4) ∷ field ∷ to ∷ stop ∷ size ∷ last ∷ [])) =
    cut_whole old 0 (section ∷ (section + 4) ∷ field ∷ to ∷ stop ∷ size ∷ last ∷ []) (omega arith) in
    let l₁ : length front ≡ section = length-take-le section old (omega arith) in
    let l₂ : length four ≡ 4 = part_length old section 4 (section + 4) refl (omega arith) in
    let l₃ : length middle ≡ mid = part_length old (section + 4) mid field em (omega arith) in
    let l₄ : length gap ≡ 4 + length comment = part_length old field (4 + length comment) to (sym et) (omega arith) in
    let l₅ : length (slice to stop old) ≡ follows = part_length old to follows stop (sym es) (omega arith) in
    let l₆ : length x ≡ padding = part_length old stop padding size (sym ez) (omega arith) in
    let l₇ : length y ≡ n - size = part_length old size (n - size) last (sym el) room in
    let lt : length tail ≡ follows = part_length old past follows end ee inside in
    let ln : length number ≡ 4 = length-uint32 whole in
    let lc : length (string comment) ≡ 4 + length comment = length-string comment in
    let s₁ : o₁ ≡ join (front ∷ four ∷ middle ∷ gap ∷ tail ∷ x ∷ y ∷ rest ∷ []) =
    move ∙ moved_fits old past to follows (omega arith) (omega arith) ∙ ap (λ (i : ℕ). splice old to (slice past i old)) ee
    ∙ splice_part (front ∷ four ∷ middle ∷ gap ∷ []) (slice to stop old) tail (x ∷ y ∷ rest ∷ []) old to whole-old (omega arith) (omega arith) in
    let s₂ = put_part (front ∷ []) four number (middle ∷ gap ∷ tail ∷ x ∷ y ∷ rest ∷ []) o₁ section r₁ o₂ s₁ (omega arith) (omega arith) put₁ in
    let s₃ = put_part (front ∷ number ∷ middle ∷ []) gap (string comment) (tail ∷ x ∷ y ∷ rest ∷ []) o₂ field r₂ o₃ s₂.1 (omega arith)
    (omega arith) put₂ in
    let upto : stop + length x ≡ size = omega arith in
    let s₄ = ending_parts (front ∷ number ∷ middle ∷ string comment ∷ tail ∷ []) x y (rest ∷ []) o₃ o₄ stop padding n k s₃.1 (omega arith)
    (lp ∙ sym l₆) (l₇ ∙ ap (λ (i : ℕ). n - i) (sym upto)) ends in (
      s₄.0 ∙ upto,
      s₄.1 ∙ ap (λ (i : ℕ). join (front ∷ number ∷ middle ∷ string comment ∷ tail ∷ take padding padding_bytes ∷ zeros (n - i) ∷ rest ∷ [])) upto,
    )

module _ (old : List ℕ) (n section field past end : ℕ) (comment : List ℕ) (places : Ordered old n section field past end) where
  inside-length : lengths (slice (section + 4) field old ∷ string comment ∷ slice past end old ∷ []) ≡ bare section field past end comment
  inside-length =
      omega (arith, length-slice (section + 4) field old (omega arith), length-string comment, length-slice past end old (omega arith))

  pub changed_length :
      length (changed_at old section field past end comment)
      ≡ section + 4 + (bare section field past end comment + padding_length (bare section field past end comment))
  unfolding changed_at
  changed_length =
      let inside = slice (section + 4) field old ∷ string comment ∷ slice past end old ∷ [] in
      let l : length (join inside) ≡ bare section field past end comment = join-length inside ∙ inside-length in
      closed-length (take section old) (join inside) ∙ rw (l, length-take-le section old (omega arith)) (omega arith)

  -- the same as the code counts
  pub size_is :
      (content padding : ℕ) → content ≡ bare section field past end comment → padding ≡ padding_length content
      → length (changed_at old section field past end comment) ≡ section + 4 + (content + padding)
  size_is content padding ec ep = changed_length ∙ rw (← ec, ← ep)

  changed_parts :
      changed_at old section field past end comment
      ≡ join
      (take section old
      ∷ uint32 (bare section field past end comment + padding_length (bare section field past end comment))
      ∷ slice (section + 4) field old
      ∷ string comment
      ∷ slice past end old
      ∷ take (padding_length (bare section field past end comment)) padding_bytes
      ∷ [])
  unfolding changed_at
  changed_parts =
      let inside = slice (section + 4) field old ∷ string comment ∷ slice past end old ∷ [] in
      ap (λ (l : List ℕ). closed l (join inside)) (sym (append-nil (take section old)))
      ∙ closed_is (take section old ∷ []) inside (bare section field past end comment) inside-length

  -- the move, and then the puts
  pub change_puts :
      (content padding whole follows to stop r₁ r₂ k : ℕ) (o₁ o₂ o₃ o₄ : List ℕ) → content ≡ bare section field past end comment
      → padding ≡ padding_length content → whole ≡ content + padding → follows ≡ end - past → to ≡ field + (4 + length comment) → stop ≡ to + follows
      → length (changed_at old section field past end comment) ≤ 65535 → length (changed_at old section field past end comment) ≤ length old
      → o₁ ≡ moved old past to follows → IsPut o₁ section (uint32 whole) r₁ o₂ → IsPut o₂ field (string comment) r₂ o₃
      → IsEnding o₃ stop padding n k o₄ → IsRenewed (changed_at old section field past end comment) n old (Ok k) o₄
  change_puts content padding whole follows to stop r₁ r₂ k o₁ o₂ o₃ o₄ ec ep ew ef et es small room move put₁ put₂ ends =
      let mid = field - (section + 4) in
      let size = stop + padding in
      let last = size + (n - size) in
      let parts =
      take section old ∷ uint32 whole ∷ slice (section + 4) field old ∷ string comment ∷ slice past end old ∷ take padding padding_bytes ∷ [] in
      let full : length (changed_at old section field past end comment) ≡ size =
      size_is content padding ec ep ∙ omega (arith, places.first, places.third) in
      let lp : length (take padding padding_bytes) ≡ padding = ap (λ (i : ℕ). length (take i padding_bytes)) ep ∙ padding_length_lem content ∙ sym ep in
      let s = puts_parts old comment n section mid field past follows end to stop padding size last whole r₁ r₂ k o₁ o₂ o₃ o₄
      (omega (arith, places.first)) (omega (arith, places.third)) et es refl refl
      (ends_within size n (length old) (rw (← full) room) places.inside) (omega (arith, places.fourth, places.inside)) lp move put₁ put₂ ends in
      let image : changed_at old section field past end comment ≡ join parts = rw (ew, ep, ec) changed_parts in
      renewed_parts parts (changed_at old section field past end comment) n old o₄ k image (s.0 ∙ sym full) (rw (s.0, ← full) small)
      (rw (s.0, ← full) room) places.inside
      (s.1 ∙ ap (λ (i : ℕ). join (parts ++ zeros (n - i) ∷ drop (i + (n - i)) old ∷ [])) (sym s.0))
