-- `names::algorithm_named` meets its contract: each test is a row of the table. Assumes nothing.
use Rattle.names.specs.Algorithms.{algorithm_named}
use Rattle.names.proofs.algorithm_named.Goals as goal

pub returns-then-spells : goal.returns-then-spells
unfolding algorithm_named
returns-then-spells c = rw (← c.spells.ensures, c.if-spells.true)

pub returns-then-spells-2 : goal.returns-then-spells-2
unfolding algorithm_named
returns-then-spells-2 c = rw (← c.spells.ensures, c.if-spells.false, ← c.spells-2.ensures, c.if-spells-2.true)

pub returns-then-spells-3 : goal.returns-then-spells-3
unfolding algorithm_named
returns-then-spells-3 c = rw (← c.spells.ensures, c.if-spells.false, ← c.spells-2.ensures, c.if-spells-2.false, ← c.spells-3.ensures, c.if-spells-3.true)

pub returns-then-spells-4 : goal.returns-then-spells-4
unfolding algorithm_named
returns-then-spells-4 c = rw (← c.spells.ensures, c.if-spells.false, ← c.spells-2.ensures, c.if-spells-2.false, ← c.spells-3.ensures, c.if-spells-3.false, ← c.spells-4.ensures, c.if-spells-4.true)

pub returns-then-spells-5 : goal.returns-then-spells-5
unfolding algorithm_named
returns-then-spells-5 c = rw (← c.spells.ensures, c.if-spells.false, ← c.spells-2.ensures, c.if-spells-2.false, ← c.spells-3.ensures, c.if-spells-3.false, ← c.spells-4.ensures, c.if-spells-4.false, ← c.spells-5.ensures, c.if-spells-5.true)

pub returns : goal.returns
unfolding algorithm_named
returns c = rw (← c.spells.ensures, c.if-spells.false, ← c.spells-2.ensures, c.if-spells-2.false, ← c.spells-3.ensures, c.if-spells-3.false, ← c.spells-4.ensures, c.if-spells-4.false, ← c.spells-5.ensures, c.if-spells-5.false)
