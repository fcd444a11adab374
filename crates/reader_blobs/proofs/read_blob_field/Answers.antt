-- `reader_blobs::read_blob_field` meets its contract: the blob lies within the image. Rests on the place of `string`.
use Rattle.std.proofs.Common.{arith, sym, ◌∙◌}
use Rattle.fields.specs.Place.{string_place}
use Rattle.reader_blobs.proofs.read_blob_field.Goals as goal

pub overflow_add-inside : goal.overflow_add-inside
overflow_add-inside c = omega (arith, (string_place _ _ _ _ (sym c.string.ensures ∙ c.in_ok-blob.was)).placed)
