-- `reader_image::read` meets its contract: an accepted header has a key, and its first blob is within the image. Rests on `header_second`.
use Rattle.std.proofs.Common.{sym, ◌∙◌}
use Rattle.reader_header.specs.Place.{header_second}
use Rattle.reader_image.proofs.read.Goals as goal

pub section_step-requires : goal.section_step-requires
section_step-requires c = header_second _ _ (sym c.read_header.ensures.0 ∙ c.in_ok-header.was)
