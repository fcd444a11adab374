-- The moves and puts of a removal make the image without the key. Rests on a buffer in parts.
use Rattle.std.specs.Prelude.{ℕ, ◌+◌, ◌-◌, ◌≤◌, ◌<◌, ◌≡◌, refl, true, false, drop, Ok}
use Rattle.std.proofs.Common.{arith, ◌∙◌, ap, length-take-le}
use Rattle.std.proofs.Math.Path.{sym}
use mathlib.Core.List.{List, [], ◌∷◌, ◌++◌, append-nil}
use Rattle.std.proofs.Math.ListN.{length, take}
use Rattle.std.proofs.Math.Seq.{slice, length-slice}
use Rattle.fields.specs.Bytes.{uint32, join}
use Rattle.fields.specs.Rest.{length-uint32}
use Rattle.format.specs.Format.{padding_length, padding_bytes}
use Rattle.format.proofs.Laws.{padding_length_lem}
use Rattle.buffer.specs.Puts.{splice, IsPut, zeros, splice-length}
use Rattle.buffer_moves.specs.Moves.{moved, moved_fits}
use Rattle.edit_shells.specs.Parts.{rises, Rises, rises-true, not_rises, lengths, join-length, cut, cut_whole, part_length, slice_cut, splice_part, splice_over_parts, put_part, slice_past}
use Rattle.edit_shells.specs.Shells.{closed_is, closed-length, removed_at}
use Rattle.edit_shells.specs.Edits.{removed_by_places, IsEnding, IsRenewed}
use Rattle.edit_shells.proofs.Edits.{ends_within, ending_parts, renewed_parts}

-- what the removal from an image asks of its places
pub record Ordered (old : List ℕ) (n blobStart blobEnd section entryStart entryEnd end : ℕ) : Type 0 where
  pub small : n ≤ 65535
  pub first : 39 ≤ blobStart
  pub second : blobStart ≤ blobEnd
  pub third : blobEnd ≤ section
  pub fourth : section + 4 ≤ entryStart
  pub fifth : entryStart ≤ entryEnd
  pub sixth : entryEnd ≤ end
  pub seventh : end ≤ n
  pub inside : n ≤ length old

-- ---- laws

module _ (old : List ℕ) (n blobStart blobEnd section entryStart entryEnd end : ℕ) (small : n ≤ 65535) where
  pub ordered_rises :
      Ordered old n blobStart blobEnd section entryStart entryEnd end
      → Rises 0 (removed_by_places blobStart blobEnd section entryStart entryEnd end ++ n ∷ length old ∷ [])
  ordered_rises o = omega arith

  pub rises_ordered :
      rises 0 (removed_by_places blobStart blobEnd section entryStart entryEnd end ++ n ∷ length old ∷ []) ≡ true
      → Ordered old n blobStart blobEnd section entryStart entryEnd end
  rises_ordered e =
      let r = rises-true 0 (removed_by_places blobStart blobEnd section entryStart entryEnd end ++ n ∷ length old ∷ []) e in
      record {
        small = small;
        first = omega arith;
        second = omega arith;
        third = omega arith;
        fourth = omega arith;
        fifth = omega arith;
        sixth = omega arith;
        seventh = omega arith;
        inside = omega arith;
      }

  -- a section that begins past the image
  pub section_past : n < section → rises 0 (removed_by_places blobStart blobEnd section entryStart entryEnd end ++ n ∷ length old ∷ []) ≡ false
  section_past h = not_rises 0 (removed_by_places blobStart blobEnd section entryStart entryEnd end ++ n ∷ length old ∷ []) (λ r. omega arith)

-- the moves, and then the puts, over a buffer in parts: of what is kept, `blobs` bytes stand between the blob and the section's length field,
-- `before` in the section before the entry, and `follows` after it
puts_parts :
    (old : List ℕ) (n count ahead blobStart blobEnd blobs section before entryStart kept entryEnd follows end field to stop padding size last whole : ℕ)
    (r₁ r₂ k : ℕ) (o₁ o₂ o₃ o₄ o₅ : List ℕ)
    → 39 + ahead ≡ blobStart → blobStart ≤ blobEnd → blobEnd + blobs ≡ section → section + 4 + before ≡ entryStart → entryStart ≤ entryEnd
    → entryEnd + follows ≡ end → end ≤ length old → blobs + 4 + before ≡ kept → field ≡ blobStart + blobs → to ≡ field + 4 + before
    → stop ≡ to + follows → size ≡ stop + padding → last ≡ size + (n - size) → last ≤ length old → length (take padding padding_bytes) ≡ padding
    → o₁ ≡ moved old blobEnd blobStart kept → o₂ ≡ moved o₁ entryEnd to follows → IsPut o₂ 35 (uint32 count) r₁ o₃
    → IsPut o₃ field (uint32 whole) r₂ o₄ → IsEnding o₄ stop padding n k o₅
    → (k ≡ size)
    × (o₅
    ≡ join
    (take 35 old
    ∷ uint32 count
    ∷ slice 39 blobStart old
    ∷ slice blobEnd section old
    ∷ uint32 whole
    ∷ slice (section + 4) entryStart old
    ∷ slice entryEnd end old
    ∷ take padding padding_bytes
    ∷ zeros (n - size)
    ∷ drop last old
    ∷ []))
puts_parts old n count ahead blobStart blobEnd blobs section before entryStart kept entryEnd follows end field to stop padding size last whole r₁ r₂ k o₁ o₂ o₃ o₄ o₅ h₁ h₂ eb ei h₃ ef inside ek e₁ e₂ e₃ e₄ e₅ room lp move₁ move₂ put₁ put₂ ends =
    let front = take 35 old in
    let keys = slice 35 39 old in
    let first = slice 39 blobStart old in
    let second = slice blobEnd section old in
    let four = slice section (section + 4) old in
    let entries = slice (section + 4) entryStart old in
    let tail = slice entryEnd end old in
    let x = slice stop size old in
    let y = slice size last old in
    let rest = drop last old in
    let number = uint32 whole in
    let over : size ≤ last = omega arith in
    let places : List ℕ = 35 ∷ 39 ∷ blobStart ∷ field ∷ (field + 4) ∷ to ∷ stop ∷ size ∷ last ∷ [] in
    let whole-old : old ≡ join (cut old 0 places) = cut_whole old 0 places (omega arith) in
    let l₁ : length front ≡ 35 = length-take-le 35 old (omega arith) in
    let l₂ : length keys ≡ 4 = part_length old 35 4 39 refl (omega arith) in
    let l₃ : length first ≡ ahead = part_length old 39 ahead blobStart h₁ (omega arith) in
    let l₄ : length (slice blobStart field old) ≡ blobs = part_length old blobStart blobs field (sym e₁) (omega arith) in
    let l₅ : length (slice field (field + 4) old) ≡ 4 = part_length old field 4 (field + 4) refl (omega arith) in
    let l₆ : length (slice (field + 4) to old) ≡ before = part_length old (field + 4) before to (sym e₂) (omega arith) in
    let l₇ : length (slice to stop old) ≡ follows = part_length old to follows stop (sym e₃) (omega arith) in
    let l₈ : length x ≡ padding = part_length old stop padding size (sym e₄) (omega arith) in
    let l₉ : length y ≡ n - size = part_length old size (n - size) last (sym e₅) room in
    let m₁ : length second ≡ blobs = part_length old blobEnd blobs section eb (omega arith) in
    let m₂ : length four ≡ 4 = part_length old section 4 (section + 4) refl (omega arith) in
    let m₃ : length entries ≡ before = part_length old (section + 4) before entryStart ei (omega arith) in
    let m₄ : length tail ≡ follows = part_length old entryEnd follows end ef inside in
    let ln : length number ≡ 4 = length-uint32 whole in
    let lc : length (uint32 count) ≡ 4 = length-uint32 count in
    let cut-run : slice blobEnd entryStart old ≡ join (second ∷ four ∷ entries ∷ []) =
    slice_cut old blobEnd section entryStart (omega arith) (omega arith) (omega arith)
    ∙ ap (λ (t : List ℕ). second ++ t) (slice_cut old section (section + 4) entryStart (omega arith) (omega arith) (omega arith)
    ∙ ap (λ (t : List ℕ). four ++ t) (sym (append-nil entries))) in
    let run = slice blobEnd entryStart old in
    let lr : length run ≡ kept = part_length old blobEnd kept entryStart (omega arith) (omega arith) in
    let until : blobEnd + kept ≡ entryStart = omega arith in
    let is₁ : o₁ ≡ splice old blobStart run =
    move₁ ∙ moved_fits old blobEnd blobStart kept (omega arith) (omega arith) ∙ ap (λ (i : ℕ). splice old blobStart (slice blobEnd i old)) until in
    let s₁ : o₁ ≡ join (front ∷ keys ∷ first ∷ second ∷ four ∷ entries ∷ slice to stop old ∷ x ∷ y ∷ rest ∷ []) =
    is₁
    ∙ splice_over_parts (front ∷ keys ∷ first ∷ []) (slice blobStart field old ∷ slice field (field + 4) old ∷ slice (field + 4) to old ∷ [])
    (second ∷ four ∷ entries ∷ []) (slice to stop old ∷ x ∷ y ∷ rest ∷ []) run old blobStart whole-old (omega arith) (omega arith) cut-run in
    let long : length o₁ ≡ length old = ap length is₁ ∙ splice-length old blobStart run (omega arith) in
    let same : slice entryEnd end o₁ ≡ tail = ap (slice entryEnd end) is₁ ∙ slice_past old blobStart run entryEnd end (omega arith) (omega arith) inside in
    let s₂ : o₂ ≡ join (front ∷ keys ∷ first ∷ second ∷ four ∷ entries ∷ tail ∷ x ∷ y ∷ rest ∷ []) =
    move₂ ∙ moved_fits o₁ entryEnd to follows (omega arith) (omega arith) ∙ ap (λ (i : ℕ). splice o₁ to (slice entryEnd i o₁)) ef ∙ ap (splice o₁ to) same
    ∙ splice_part (front ∷ keys ∷ first ∷ second ∷ four ∷ entries ∷ []) (slice to stop old) tail (x ∷ y ∷ rest ∷ []) o₁ to s₁ (omega arith)
    (omega arith) in
    let s₃ = put_part (front ∷ []) keys (uint32 count) (first ∷ second ∷ four ∷ entries ∷ tail ∷ x ∷ y ∷ rest ∷ []) o₂ 35 r₁ o₃ s₂ (omega arith)
    (omega arith) put₁ in
    let s₄ = put_part (front ∷ uint32 count ∷ first ∷ second ∷ []) four number (entries ∷ tail ∷ x ∷ y ∷ rest ∷ []) o₃ field r₂ o₄ s₃.1
    (omega arith) (omega arith) put₂ in
    let upto : stop + length x ≡ size = omega arith in
    let s₅ = ending_parts (front ∷ uint32 count ∷ first ∷ second ∷ number ∷ entries ∷ tail ∷ []) x y (rest ∷ []) o₄ o₅ stop padding n k s₄.1
    (omega arith) (lp ∙ sym l₈) (l₉ ∙ ap (λ (i : ℕ). n - i) (sym upto)) ends in (
      s₅.0 ∙ upto,
      s₅.1 ∙ ap (λ (i : ℕ). join (front ∷ uint32 count ∷ first ∷ second ∷ number ∷ entries ∷ tail ∷ take padding padding_bytes ∷ zeros (n - i)
          ∷ rest ∷ [])) upto,
    )

-- where the section's length field comes to stand, and the new section's length without its padding
abbrev pub field_of : ℕ → ℕ → ℕ → ℕ
field_of blobStart blobEnd section = blobStart + (section - blobEnd)

abbrev pub bare : ℕ → ℕ → ℕ → ℕ → ℕ
bare section entryStart entryEnd end = entryStart - (section + 4) + (end - entryEnd)

module _
    (old : List ℕ) (n count blobStart blobEnd section entryStart entryEnd end : ℕ)
    (o : Ordered old n blobStart blobEnd section entryStart entryEnd end)
  where
    inside-length : lengths (slice (section + 4) entryStart old ∷ slice entryEnd end old ∷ []) ≡ bare section entryStart entryEnd end
    inside-length =
        omega (arith, length-slice (section + 4) entryStart old (omega arith), length-slice entryEnd end old (omega arith))

    front_length :
        lengths (take 35 old ∷ uint32 count ∷ slice 39 blobStart old ∷ slice blobEnd section old ∷ []) ≡ field_of blobStart blobEnd section
    front_length =
        omega (
          arith,
          length-take-le 35 old (omega arith),
          length-uint32 count,
          length-slice 39 blobStart old (omega arith),
          length-slice blobEnd section old (omega arith),
        )

    -- the image's length, as the code counts it
    pub size_is :
        (field content padding : ℕ) → field ≡ field_of blobStart blobEnd section → content ≡ bare section entryStart entryEnd end
        → padding ≡ padding_length content
        → length (removed_at old count blobStart blobEnd section entryStart entryEnd end) ≡ field + 4 + (content + padding)
    unfolding removed_at
    size_is field content padding ef ec ep =
        let front = take 35 old ∷ uint32 count ∷ slice 39 blobStart old ∷ slice blobEnd section old ∷ [] in
        let inside = slice (section + 4) entryStart old ∷ slice entryEnd end old ∷ [] in
        let lf : length (join front) ≡ field = join-length front ∙ front_length ∙ sym ef in
        let li : length (join inside) ≡ content = join-length inside ∙ inside-length ∙ sym ec in
        closed-length (join front) (join inside) ∙ rw (lf, li, ← ep) (omega arith)

    end_inside : end ≤ length old
    end_inside = omega arith

    removed_parts :
        removed_at old count blobStart blobEnd section entryStart entryEnd end
        ≡ join
        (take 35 old
        ∷ uint32 count
        ∷ slice 39 blobStart old
        ∷ slice blobEnd section old
        ∷ uint32 (bare section entryStart entryEnd end + padding_length (bare section entryStart entryEnd end))
        ∷ slice (section + 4) entryStart old
        ∷ slice entryEnd end old
        ∷ take (padding_length (bare section entryStart entryEnd end)) padding_bytes
        ∷ [])
    unfolding removed_at
    removed_parts =
        closed_is (take 35 old ∷ uint32 count ∷ slice 39 blobStart old ∷ slice blobEnd section old ∷ [])
        (slice (section + 4) entryStart old ∷ slice entryEnd end old ∷ []) (bare section entryStart entryEnd end) inside-length

    -- the moves, and then the puts
    pub remove_puts :
        (field content padding whole kept follows to stop r₁ r₂ k : ℕ) (o₁ o₂ o₃ o₄ o₅ : List ℕ) → field ≡ field_of blobStart blobEnd section
        → content ≡ bare section entryStart entryEnd end → padding ≡ padding_length content → whole ≡ content + padding → kept ≡ entryStart - blobEnd
        → follows ≡ end - entryEnd → to ≡ blobStart + kept → stop ≡ to + follows
        → length (removed_at old count blobStart blobEnd section entryStart entryEnd end) ≤ 65535
        → length (removed_at old count blobStart blobEnd section entryStart entryEnd end) ≤ length old
        → o₁ ≡ moved old blobEnd blobStart kept → o₂ ≡ moved o₁ entryEnd to follows → IsPut o₂ 35 (uint32 count) r₁ o₃
        → IsPut o₃ field (uint32 whole) r₂ o₄ → IsEnding o₄ stop padding n k o₅
        → IsRenewed (removed_at old count blobStart blobEnd section entryStart entryEnd end) n old (Ok k) o₅
    remove_puts field content padding whole kept follows to stop r₁ r₂ k o₁ o₂ o₃ o₄ o₅ ef ec ep ew ek el et es small room move₁ move₂ put₁ put₂ ends =
        let image = removed_at old count blobStart blobEnd section entryStart entryEnd end in
        let ahead = blobStart - 39 in
        let blobs = section - blobEnd in
        let before = entryStart - (section + 4) in
        let size = stop + padding in
        let last = size + (n - size) in
        let parts =
        take 35 old ∷ uint32 count ∷ slice 39 blobStart old ∷ slice blobEnd section old ∷ uint32 whole ∷ slice (section + 4) entryStart old
        ∷ slice entryEnd end old ∷ take padding padding_bytes ∷ [] in
        let a₁ : 39 + ahead ≡ blobStart = omega (arith, o.first) in
        let a₂ : blobEnd + blobs ≡ section = omega (arith, o.third) in
        let a₃ : section + 4 + before ≡ entryStart = omega (arith, o.fourth) in
        let a₄ : entryEnd + follows ≡ end = omega (arith, o.sixth, el) in
        let a₅ : blobs + 4 + before ≡ kept = omega (arith, ek, a₂, a₃, o.third, o.fourth) in
        let a₆ : to ≡ field + 4 + before = omega (arith, et, ef, a₅) in
        let full : length image ≡ size = size_is field content padding ef ec ep ∙ omega (arith, a₆, es, ec, el) in
        let lp : length (take padding padding_bytes) ≡ padding = ap (λ (i : ℕ). length (take i padding_bytes)) ep ∙ padding_length_lem content ∙ sym ep in
        let s = puts_parts old n count ahead blobStart blobEnd blobs section before entryStart kept entryEnd follows end field to stop padding size last whole r₁ r₂ k o₁ o₂ o₃ o₄ o₅ a₁ o.second a₂ a₃ o.fifth a₄ end_inside a₅ ef a₆ es refl refl (ends_within size n (length old) (rw (← full) room) o.inside) lp move₁ move₂ put₁ put₂ ends in
        let is : image ≡ join parts = rw (ew, ep, ec) removed_parts in
        renewed_parts parts image n old o₅ k is (s.0 ∙ sym full) (rw (s.0, ← full) small) (rw (s.0, ← full) room) o.inside
        (s.1 ∙ ap (λ (i : ℕ). join (parts ++ zeros (n - i) ∷ drop (i + (n - i)) old ∷ [])) (sym s.0))
