-- `reader_image::others_in_form` meets its contract: what is left from the next place on is what was left before.
use Rattle.std.proofs.Common.{◌≡◌, drop}
use Rattle.reader_image.specs.Form.{others_in_form}
use Rattle.reader_image.proofs.others_in_form.Given as goal

abbrev pub invariant-loop-at : goal.invariant-loop-at
invariant-loop-at l = others_in_form l.image l.blob (drop l.at-index l.places) ≡ others_in_form l.image l.fn.b l.places
