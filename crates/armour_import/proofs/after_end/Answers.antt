-- `armour_import::after_end` meets its contract: where a line end comes, its first byte tells which.
use native.Mathlib.Omega.{arith}
use Rattle.armour_import.specs.FillTwo.{feed_within, past_both, past_feed}
use Rattle.armour_import.proofs.after_end.Goals as goal

pub bounds-text-at : goal.bounds-text-at
bounds-text-at c = feed_within _ _ c.requires

pub returns-then-text-at-eq13 : goal.returns-then-text-at-eq13
returns-then-text-at-eq13 c = past_both _ _ c.requires c.if-text-at-eq13.true

pub overflow_add-result-2 : goal.overflow_add-result-2
overflow_add-result-2 c = omega (arith, feed_within _ _ c.requires)

pub returns : goal.returns
returns c = past_feed _ _ c.requires c.if-text-at-eq13.false
