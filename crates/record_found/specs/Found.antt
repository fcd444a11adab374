-- docs/RULES.md, 2.2: each refusal returns its number, a count that is 0 except for number 6, and an empty record, over no
-- bytes and with no field.
use Rattle.std.specs.Prelude.{ℕ, ◌≡◌, refl, cond, List, eqb, length, Result, Err}
use Rattle.fields.specs.Fields.{part, absent}
use Rattle.fields.specs.Refusals.{number_of, count_of}
use Rattle.fields.specs.declared.Fault.{Fault}
use Rattle.fields.specs.declared.Part.{Part}
use Rattle.reader_header.specs.declared.Header.{Header}
use Rattle.reader_header.specs.Header.{header_at, told_header}
use Rattle.reader_image.specs.Container.{read_at, section_read_at, told_read}
use Rattle.record_found.specs.declared.Found.{Found}
use Rattle.reader_image.specs.declared.Fields.{Fields}

abbrev pub found_of : Result Fields Fault → Found Fields
found_of r = record { number = (told_read r).number; count = (told_read r).count; at = (told_read r).at; fields = (told_read r).fields }

unfoldable pub found_at : List ℕ → Found Fields
found_at s = found_of (read_at s)

-- by a section read, and by a header read
unfoldable pub section_found_at : List ℕ → Header → Found Fields
section_found_at s half = found_of (section_read_at s half)

unfoldable pub header_found_at : List ℕ → Found Header
header_found_at s =
    record {
      number = (told_header (header_at s)).number;
      count = (told_header (header_at s)).count;
      at = (told_header (header_at s)).at;
      fields = (told_header (header_at s)).header;
    }

-- number, count and place are those of a refusal
abbrev pub Tells : Fault → ℕ → ℕ → ℕ → Type 0
Tells g number count at = (number ≡ number_of g.why) × (count ≡ count_of g.why) × (at ≡ g.at)

-- those of a refused read, and of what is found of it
pub found_told : (r : Result Fields Fault) (g : Fault) → r ≡ Err g → Tells g (found_of r).number (found_of r).count (found_of r).at
unfolding told_read
found_told r g e = rw e (refl, refl, refl)

-- the bytes that the record or the half holds: the image itself, or none
unfoldable pub held_part : List ℕ → ℕ → Part
held_part s number = cond (eqb number 0) (part 0 (length s)) absent
