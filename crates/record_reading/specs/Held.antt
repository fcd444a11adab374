-- Read, then an accessor: the answer is that part of the caller's own image, in its bytes and by its pointer. Two halves read one after the other are
-- the full read. What is refused is told with the refusal's number, count and place.
use Rattle.std.specs.Prelude.{ℕ, ◌+◌, ◌≤◌, ◌≡◌, refl, true, false, List, [], eqb, length, Ok, Err}
use Rattle.std.proofs.Common.{add-zero, arith, sym, ◌∙◌, ap, ap₂, subst, eq-eqb, take_all}
use Rattle.std.specs.Borrow.{Bor}
use Rattle.fields.specs.Fields.{part, absent, view_of, view_start, IsView}
use Rattle.fields.specs.Room.{view_in, start_in}
use Rattle.fields.specs.Refusals.{number_of, never_zero}
use Rattle.fields.specs.declared.Part.{Part}
use Rattle.fields.specs.declared.Fault.{Fault}
use Rattle.reader_image.specs.declared.Fields.{Fields}
use Rattle.reader_image.specs.Container.{read_at, section_read_at, no_fields, told_read}
use Rattle.reader_image.specs.FormLaws.{by_read}
use Rattle.reader_header.specs.declared.Header.{Header}
use Rattle.reader_header.specs.Header.{header_at, told_header}
use Rattle.handed_header.specs.Halves.{by_header}
use Rattle.reader_image.specs.Halves.{section_own}
use Rattle.record_found.specs.declared.Found.{Found}
use Rattle.record_found.specs.Found.{found_of, found_at, section_found_at, header_found_at, Tells, found_told, held_part}
use Rattle.fields.specs.Place.{clash}
use Rattle.record_reading.specs.Reply.{IsReply, IsSectionReply, IsHeaderReply}

-- the whole of an image is the image
whole_view : (s : List ℕ) → view_of s (part 0 (length s)) ≡ s
whole_view s =
    let fit : 0 + length s ≤ length s = omega arith in
    view_in s (part 0 (length s)) fit ∙ take_all (0 + length s) s (omega arith)

whole_start : (s : List ℕ) → view_start s (part 0 (length s)) ≡ 0
whole_start s = start_in s (part 0 (length s)) (let fit : 0 + length s ≤ length s = omega arith in fit)

-- what is held of an accepted image is the image itself, in its bytes and by its pointer
held_whole :
    (image over : Bor (List ℕ)) (number : ℕ) → number ≡ 0 → IsView over image (held_part image.now number)
    → (over.now ≡ image.now) × (over.ref_ptr.0 ≡ image.ref_ptr.0) × (over.ref_ptr.1 ≡ image.ref_ptr.1)
unfolding held_part
held_whole image over number zero h =
    let o : IsView over image (part 0 (length image.now)) = rw zero at h in (
      o.0 ∙ whole_view image.now,
      o.1,
      o.2 ∙ ap (λ (i : ℕ). image.ref_ptr.1 + i) (whole_start image.now) ∙ add-zero image.ref_ptr.1,
    )

-- so a part of it is that part of the lent image
held_view :
    (image over v : Bor (List ℕ)) (number : ℕ) (p : Part) → number ≡ 0 → IsView over image (held_part image.now number)
    → IsView v over p → IsView v image p
held_view image over v number p zero h w =
    let o = held_whole image over number zero h in (
      w.0 ∙ ap (λ (s : List ℕ). view_of s p) o.0,
      w.1 ∙ o.1,
      w.2 ∙ ap₂ (λ (i : ℕ) (s : List ℕ). i + view_start s p) o.2 o.0,
    )

pub read_then_view :
    (image over v : Bor (List ℕ)) (number count at : ℕ) (fields : Fields) (p : Part) → IsReply number count at over fields image → number ≡ 0
    → IsView v over p → IsView v image p
read_then_view image over v number count at fields p r accepted w =
    held_view image over v (found_at image.now).number p (sym r.0 ∙ accepted) r.4 w

-- ---- so also for the comment of any image, a refused one's the empty part

absent_view : (s : List ℕ) → (view_of s absent ≡ []) × (view_start s absent ≡ 0)
absent_view s =
    let fit : 0 + 0 ≤ length s = omega arith in
    (view_in s absent fit, start_in s absent fit)

absent-absent : (image over v : Bor (List ℕ)) → IsView over image absent → IsView v over absent → IsView v image absent
absent-absent image over v o w = (
  w.0 ∙ (absent_view over.now).0 ∙ sym (absent_view image.now).0,
  w.1 ∙ o.1,
  w.2 ∙ ap (λ (i : ℕ). over.ref_ptr.1 + i) (absent_view over.now).1 ∙ add-zero over.ref_ptr.1 ∙ o.2,
)

found_none : (s : List ℕ) (g : Fault) → read_at s ≡ Err g → ((found_at s).fields ≡ no_fields) × (eqb (found_at s).number 0 ≡ false)
unfolding found_at told_read
found_none s g e = rw e (refl, never_zero g.why)

found_zero : (s : List ℕ) (f : Fields) → read_at s ≡ Ok f → (found_at s).number ≡ 0
unfolding found_at told_read
found_zero s f e = rw e

pub read_then_comment :
    (image over v : Bor (List ℕ)) (number count at : ℕ) (fields : Fields) → IsReply number count at over fields image
    → IsView v over fields.section.comment → IsView v image (found_at image.now).fields.section.comment
unfolding held_part
read_then_comment image over v number count at fields r w =
    by_read (read_at image.now)
    (λ g e.
    let none = found_none image.now g e in
    let o : IsView over image absent = rw none.1 at r.4 in
    let lacks : fields ≡ no_fields = r.3 ∙ none.0 in
    let x : IsView v over absent = rw lacks at w in
    rw none.0 (absent-absent image over v o x))
    (λ f e.
    let zero : number ≡ 0 = r.0 ∙ found_zero image.now f e in
    let x : IsView v image fields.section.comment = read_then_view image over v number count at fields fields.section.comment r zero w in
    rw (← r.3) x)

-- ---- a header read, then the section read of the header that it gave, is the full read

-- a header without a refusal was accepted
found_header : (s : List ℕ) → (header_found_at s).number ≡ 0 → header_at s ≡ Ok (header_found_at s).fields
unfolding header_found_at told_header
found_header s accepted =
    by_header (header_at s)
    (λ f e. clash (let z : number_of f.why ≡ 0 = rw e at accepted in let y : true ≡ false = sym (eq-eqb (number_of f.why) 0 z) ∙ never_zero f.why in cc))
    (λ h e. rw e)

found_section : (s : List ℕ) (half : Header) → header_at s ≡ Ok half → section_found_at s half ≡ found_at s
unfolding section_found_at found_at
found_section s half e = ap found_of (section_own s half e)

pub header_then_section :
    (image over v : Bor (List ℕ)) (n c a m d b : ℕ) (half : Header) (fields : Fields) → IsHeaderReply n c a over half image → n ≡ 0
    → IsSectionReply m d b v fields over half → IsReply m d b v fields image
header_then_section image over v n c a m d b half fields h accepted r =
    let zero : (header_found_at image.now).number ≡ 0 = sym h.0 ∙ accepted in
    let same : over.now ≡ image.now = (held_whole image over (header_found_at image.now).number zero h.4).0 in
    let read : header_at image.now ≡ Ok half = found_header image.now zero ∙ ap Ok (sym h.3) in
    let found : section_found_at over.now half ≡ found_at image.now = ap (λ (s : List ℕ). section_found_at s half) same ∙ found_section image.now half read in
    let p : Part = held_part image.now (found_at image.now).number in
    let w : IsView v over p = subst (λ (x : Part). IsView v over x) (ap₂ (λ (s : List ℕ) (f : Found Fields). held_part s f.number) same found) r.4 in (
      r.0 ∙ ap (λ (f : Found Fields). f.number) found,
      r.1 ∙ ap (λ (f : Found Fields). f.count) found,
      r.2 ∙ ap (λ (f : Found Fields). f.at) found,
      r.3 ∙ ap (λ (f : Found Fields). f.fields) found,
      held_view image over v (header_found_at image.now).number p zero h.4 w,
    )

-- ---- a refused read's reply has the refusal's number, count and place: of an image, of a section, of a header

pub refused_told :
    (image over : Bor (List ℕ)) (number count at : ℕ) (fields : Fields) (g : Fault) → IsReply number count at over fields image
    → read_at image.now ≡ Err g → Tells g number count at
unfolding found_at
refused_told image over number count at fields g r e =
    let k = found_told (read_at image.now) g e in
    (r.0 ∙ k.0, r.1 ∙ k.1, r.2 ∙ k.2)

pub section_refused_told :
    (image over : Bor (List ℕ)) (number count at : ℕ) (fields : Fields) (half : Header) (g : Fault)
    → IsSectionReply number count at over fields image half → section_read_at image.now half ≡ Err g → Tells g number count at
unfolding section_found_at
section_refused_told image over number count at fields half g r e =
    let k = found_told (section_read_at image.now half) g e in
    (r.0 ∙ k.0, r.1 ∙ k.1, r.2 ∙ k.2)

pub header_refused_told :
    (image over : Bor (List ℕ)) (number count at : ℕ) (half : Header) (g : Fault) → IsHeaderReply number count at over half image
    → header_at image.now ≡ Err g → Tells g number count at
unfolding header_found_at told_header
header_refused_told image over number count at half g r e = (r.0 ∙ rw e, r.1 ∙ rw e, r.2 ∙ rw e)
