-- `writer_curve::scalar_length` meets its contract: the test of the first byte that isn't zero says whether a zero is counted. Rests on the
-- callees' contracts and on `minimal_size`.
use mathlib.Core.Path.{refl}
use Rattle.writer_curve.specs.Parts.{minimal_size}
use Rattle.writer_curve.proofs.scalar_length.Goals as goal

pub returns-then-needs_leading_zero : goal.returns-then-needs_leading_zero
returns-then-needs_leading_zero c = rw (c.added.ensures, minimal_size, ← c.trimmed-bytes.ensures, ← c.needs_leading_zero.ensures, c.if-needs_leading_zero.true) refl

pub returns : goal.returns
returns c = rw (c.added-2.ensures, minimal_size, ← c.trimmed-bytes.ensures, ← c.needs_leading_zero.ensures, c.if-needs_leading_zero.false) refl
