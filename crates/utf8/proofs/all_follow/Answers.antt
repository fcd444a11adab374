-- `utf8::all_follow` meets its contract. The loop's invariant: so far all follow.
use native.Mathlib.Numerals.{add-one}
use mathlib.Core.Path.{refl}
use Rattle.utf8.specs.Follow.{all_follow}
use Rattle.utf8.proofs.all_follow.Goals as goal

pub loop-k-init : goal.loop-k-init
unfolding all_follow
loop-k-init c = refl

pub loop-k-preserved : goal.loop-k-preserved
unfolding all_follow
loop-k-preserved c = rw (add-one, ← c.loop-k.invariant, ← c.may_follow-good.ensures)
