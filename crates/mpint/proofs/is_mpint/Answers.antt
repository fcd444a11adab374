-- `mpint::is_mpint` meets its contract: each return is the case of `is_mpint` that the first byte picks.
-- Rests on `mpint_bytes`: the first two bytes say it, and one that is missing counts as 0.
use borrow.Author.Tests.{eq-eqb, ne_eqb}
use Rattle.mpint.specs.Zeros.{mpint_bytes}
use Rattle.mpint.proofs.is_mpint.Goals as goal

pub returns-then-first-eq0 : goal.returns-then-first-eq0
returns-then-first-eq0 c = rw (
  mpint_bytes c.args.bytes.now,
  ← c.byte-first.ensures,
  eq-eqb _ _ c.if-first-eq0.true,
  ← c.byte.ensures,
)

pub returns : goal.returns
returns c = rw (mpint_bytes c.args.bytes.now, ← c.byte-first.ensures, ne_eqb _ _ c.if-first-eq0.false)
