-- `key_pairs::read_scalar` meets its contract: a longer string is a fixed field that is too long. Rests on the contract of `fixed`.
use Rattle.std.proofs.Common.{arith, ◌+◌}
use borrow.Author.Tests.{ne_eqb, lt-ltb, le-ltb}
use Rattle.fields.specs.Fields.{fixed_at}
use Rattle.key_pairs.specs.Pairs.{scalar_at}
use Rattle.key_pairs.proofs.read_scalar.Goals as goal

pub returns-then-saturating_sub-gt1 : goal.returns-then-saturating_sub-gt1
unfolding scalar_at fixed_at
returns-then-saturating_sub-gt1 c = let size = c.args.size in
    let length = c.in_ok-stored.stored.length in
    let above = c.saturating_sub.ensures in
    let fixed = rw (← c.string.ensures, c.in_ok-stored.was, le-ltb length size (omega (arith, above)), lt-ltb size length (omega (arith, above))) at c.fixed.ensures in
    rw (← c.string.ensures, c.in_ok-stored.was, ne_eqb _ _ c.if-stored-eq0.false, lt-ltb (size + 1) length (omega (arith, above))) fixed
