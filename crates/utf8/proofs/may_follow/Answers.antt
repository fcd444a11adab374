-- `utf8::may_follow` meets its contract: the test decides `may_follow`. Rests on the two ends of the range.
use Rattle.utf8.specs.Follow.{may_follow}
use Rattle.utf8.proofs.may_follow.Goals as goal

pub returns-then-x-y : goal.returns-then-x-y
unfolding may_follow
returns-then-x-y c = rw (c.if-x-y.true, c.lowest_after.ensures, c.highest_after.ensures)

pub returns : goal.returns
unfolding may_follow
returns c = rw c.if-x-y.false
