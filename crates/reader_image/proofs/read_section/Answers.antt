-- `reader_image::read_section` meets its contract: a half that is judged to be the image's is an accepted header. Rests on `header_second`.
use Rattle.std.proofs.Common.{◌≡◌, true}
use Rattle.reader_header.specs.Place.{header_second}
use Rattle.handed_header.specs.Halves.{is_header}
use Rattle.handed_header.proofs.Halves.{passes_header}
use Rattle.reader_image.proofs.read_section.Goals as goal

pub section_step-requires : goal.section_step-requires
section_step-requires c =
    let judged : is_header c.args.image.now c.args.half ≡ true = cc in
    header_second _ _ (passes_header _ _ judged)
