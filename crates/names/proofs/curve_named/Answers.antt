-- `names::curve_named` meets its contract: each test is a row of the table. Assumes nothing.
use Rattle.names.specs.Algorithms.{curve_named}
use Rattle.names.proofs.curve_named.Goals as goal

pub returns-then-spells : goal.returns-then-spells
unfolding curve_named
returns-then-spells c = rw (← c.spells.ensures, c.if-spells.true)

pub returns-then-spells-2 : goal.returns-then-spells-2
unfolding curve_named
returns-then-spells-2 c = rw (← c.spells.ensures, c.if-spells.false, ← c.spells-2.ensures, c.if-spells-2.true)

pub returns-then-spells-3 : goal.returns-then-spells-3
unfolding curve_named
returns-then-spells-3 c = rw (← c.spells.ensures, c.if-spells.false, ← c.spells-2.ensures, c.if-spells-2.false, ← c.spells-3.ensures, c.if-spells-3.true)

pub returns : goal.returns
unfolding curve_named
returns c = rw (← c.spells.ensures, c.if-spells.false, ← c.spells-2.ensures, c.if-spells-2.false, ← c.spells-3.ensures, c.if-spells-3.false)
