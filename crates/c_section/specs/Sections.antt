-- docs/RULES.md, 15.3: the section read for C. A half that isn't, number for number, what an accepted header read of the image gives is 1, at 0, before all
-- else; so is one with a code that names nothing.
use Rattle.std.specs.Prelude.{ℕ, cond, List}
use Rattle.fields.specs.Fields.{fault}
use Rattle.fields.specs.declared.Refusal.TheVariants.{Length}
use Rattle.reader_header.specs.Header.{on_header_read, header_at}
use Rattle.reader_image.specs.Form.{section_form_at}
use Rattle.c_numbers.specs.Numbers.{refused_image, half_image, image_of}
use Rattle.c_numbers.specs.declared.Image.{Image}
use Rattle.c_handed.specs.Handed.{same_image}

abbrev pub forged_half : Image
forged_half = refused_image (fault Length 0)

unfoldable pub section_c : List ℕ → Image → Image
section_c s x =
    on_header_read (header_at s) (λ f. forged_half) (λ h.
    cond (same_image x (half_image h)) (image_of (section_form_at s h)) forged_half)
