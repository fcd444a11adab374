-- docs/RULES.md, 7, of every image that is refused. The place is within the image or at its end. A refusal about the whole image gives
-- its first byte, any other a byte after the magic. All that read hand the reader's refusal up as it is, the place unchanged.
use Rattle.std.specs.Prelude.{ℕ, ◌≤◌, ◌≡◌, refl, true, false, List, length, take, Result, Ok, Err}
use Rattle.std.proofs.Common.{arith, sym, ◌∙◌, ap, le-leb}
use Rattle.fields.specs.Fields.{fault}
use Rattle.fields.specs.Place.{by_bool}
use Rattle.fields.specs.Refusals.{number_of, count_of}
use Rattle.fields.specs.declared.Fault.{Fault}
use Rattle.fields.specs.declared.Refusal.TheVariants.{Length}
use Rattle.reader_header.specs.declared.Header.{Header}
use Rattle.reader_header.specs.Header.{on_header_read, header_at, told_header}
use Rattle.handed_header.specs.Halves.{is_header, by_header}
use Rattle.handed_header.proofs.Halves.{passes_header}
use Rattle.reader_image.specs.Container.{read_at, section_read_at, told_read}
use Rattle.reader_image.specs.Form.{with_form, form_read_at, section_form_at}
use Rattle.reader_image.specs.Halves.{section_own}
use Rattle.record_found.specs.Found.{found_at, header_found_at, Tells, found_told}
use Rattle.writer_again.specs.Rewrite.{rewrite_reply}
use Rattle.edit_file.specs.Edits.{editable_at}
use Rattle.laws_edits.specs.Steps.{Edit, reply, not_editable}
use Rattle.inspect_report.specs.Report.{Refused, lines, report_of}
use Rattle.c_numbers.specs.Numbers.{refused_image, half_image, image_of, header_of}
use Rattle.c_numbers.specs.declared.Image.{Image}
use Rattle.c_handed.specs.Handed.{same_image}
use Rattle.c_section.specs.Sections.{section_c}
use Rattle.laws_places.specs.Header.{about_whole}
use Rattle.laws_places.specs.Read.{read_said}
use Rattle.claims.specs.Halves.{refused_whole_lem, two_halves_c}
use Rattle.claims.specs.Printed.{report_refused}
use Rattle.reader_image.specs.declared.Fields.{Fields}

-- ---- where it is

-- `about_whole` says that the image is above 65,535 bytes or doesn't begin with the magic, fewer than 15 bytes included
pub whole_image : (s : List ℕ) (g : Fault) → read_at s ≡ Err g → about_whole s ≡ true → g.at ≡ 0
whole_image s g e whole = rw (e, whole) at (read_said s)

pub a_field : (s : List ℕ) (g : Fault) → read_at s ≡ Err g → about_whole s ≡ false → (15 ≤ g.at) × (g.at ≤ length s)
a_field s g e field = rw (e, field) at (read_said s)

pub place_within : (s : List ℕ) (g : Fault) → read_at s ≡ Err g → g.at ≤ length s
place_within s g e =
    by_bool (about_whole s)
    (λ w. omega (arith, whole_image s g e w))
    (λ w. (a_field s g e w).1)

-- so of the header read, and of the section read, whatever half is handed in
pub header_place_within : (s : List ℕ) (g : Fault) → header_at s ≡ Err g → g.at ≤ length s
header_place_within s g e = place_within s g (refused_whole_lem s g e)

forged_at : (s : List ℕ) (half : Header) (g : Fault) → is_header s half ≡ false → section_read_at s half ≡ Err g → 0 ≡ g.at
unfolding section_read_at
forged_at s half g w e =
    let h : Err (fault Length 0) ≡ Err g = rw w at e in
    let o : fault Length 0 ≡ g = cc in
    ap (λ (f : Fault). f.at) o

pub section_place_within : (s : List ℕ) (half : Header) (g : Fault) → section_read_at s half ≡ Err g → g.at ≤ length s
section_place_within s half g e =
    by_bool (is_header s half)
    (λ w. place_within s g (sym (section_own s half (passes_header s half w)) ∙ e))
    (λ w. let z : 0 ≡ g.at = forged_at s half g w e in omega (arith, z))

-- ---- in C's numbers, for every image, and for every header that is handed to the section read; an accepted one's place is 0

read_place_c : (s : List ℕ) (r : Result Fields Fault) → ((g : Fault) → r ≡ Err g → g.at ≤ length s) → (image_of (with_form s r)).at ≤ length s
unfolding image_of
read_place_c s (Err g) within = within g refl
read_place_c s (Ok f) within = omega arith

header_place_c : (s : List ℕ) → (header_of (header_at s)).at ≤ length s
unfolding header_of
header_place_c s =
    by_header (header_at s)
    (λ g e. rw e (header_place_within s g e))
    (λ h e. rw e (omega arith))

section_place_c : (s : List ℕ) (x : Image) → (section_c s x).at ≤ length s
unfolding section_c section_form_at
section_place_c s x =
    by_header (header_at s)
    (λ g e. rw e (omega arith))
    (λ h e.
    rw e
    (by_bool (same_image x (half_image h))
    (λ w. rw w (read_place_c s (section_read_at s h) (section_place_within s h)))
    (λ w. rw w (omega arith))))

pub place_within_c :
    (s : List ℕ) (x : Image) → ((image_of (form_read_at s)).at ≤ length s) × ((header_of (header_at s)).at ≤ length s) × ((section_c s x).at ≤ length s)
unfolding form_read_at
place_within_c s x = (read_place_c s (read_at s) (place_within s), header_place_c s, section_place_c s x)

-- ---- all hand it up

-- what each answers to an image whose read is refused with g: the reader and what a record's reply is made of tell its number, count and place; C's
-- numbers have them, and no field; it is printed; and the others answer the refusal itself
pub record HandedUp (s : List ℕ) (g : Fault) : Type 0 where
  pub told : Tells g (told_read (read_at s)).number (told_read (read_at s)).count (told_read (read_at s)).at
  pub found : Tells g (found_at s).number (found_at s).count (found_at s).at
  pub in_c : image_of (form_read_at s) ≡ refused_image g
  pub printed : report_of s ≡ lines (Refused (number_of g.why) (count_of g.why) g.at)
  pub by_rewrite : (room : ℕ) → rewrite_reply s room ≡ Err g
  pub by_edit : (e : Edit) (old : List ℕ) (n : ℕ) → n ≤ 65535 → n ≤ length old → take n old ≡ s → reply e old n ≡ Err g
  pub by_section : (half : Header) → header_at s ≡ Ok half → section_read_at s half ≡ Err g
  pub by_section_c : (half : Header) → header_at s ≡ Ok half → section_c s (header_of (header_at s)) ≡ refused_image g

read_c : (s : List ℕ) (g : Fault) → read_at s ≡ Err g → image_of (form_read_at s) ≡ refused_image g
unfolding image_of form_read_at
read_c s g e = rw e

rewrite_refused : (s : List ℕ) (g : Fault) → read_at s ≡ Err g → (room : ℕ) → rewrite_reply s room ≡ Err g
unfolding rewrite_reply
rewrite_refused s g e room = rw e

edit_refused :
    (s : List ℕ) (g : Fault) → read_at s ≡ Err g → (e : Edit) (old : List ℕ) (n : ℕ) → n ≤ 65535 → n ≤ length old → take n old ≡ s
    → reply e old n ≡ Err g
unfolding editable_at
edit_refused s g w e old n small inside same =
    (not_editable e old n g (rw (le-leb n 65535 small, le-leb n (length old) inside, same, w))).0

-- the section read that goes on from the header's own numbers
section_c_is :
    (s : List ℕ) (half : Header) → header_at s ≡ Ok half
    → on_header_read (header_at s) (λ f. header_of (header_at s)) (λ h. section_c s (header_of (header_at s))) ≡ section_c s (header_of (header_at s))
section_c_is s half h = rw h

section_c_lem : (s : List ℕ) (g : Fault) → read_at s ≡ Err g → (half : Header) → header_at s ≡ Ok half → section_c s (header_of (header_at s)) ≡ refused_image g
section_c_lem s g e half h = sym (two_halves_c s ∙ section_c_is s half h) ∙ read_c s g e

pub handed_up : (s : List ℕ) (g : Fault) → read_at s ≡ Err g → HandedUp s g
unfolding found_at
handed_up s g e =
    record {
      told = found_told (read_at s) g e;
      found = found_told (read_at s) g e;
      in_c = read_c s g e;
      printed = report_refused s g e;
      by_rewrite = rewrite_refused s g e;
      by_edit = edit_refused s g e;
      by_section = λ half h. section_own s half h ∙ e;
      by_section_c = section_c_lem s g e;
    }

-- a header that is refused: the whole read is refused with it, a header's reply tells it, and C's numbers have it and no field
pub header_handed_up :
    (s : List ℕ) (g : Fault) → header_at s ≡ Err g
    → (read_at s ≡ Err g) × Tells g (header_found_at s).number (header_found_at s).count (header_found_at s).at
    × (header_of (header_at s) ≡ refused_image g)
unfolding told_header header_found_at header_of
header_handed_up s g e = (refused_whole_lem s g e, (rw e, rw e, rw e), rw e)
