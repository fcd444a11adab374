-- `names::cbc_named` meets its contract: each test is a row of the table, and `ctr_named` has the rows after it. Assumes nothing.
use Rattle.names.proofs.cbc_named.Goals as goal

pub returns-then-spells : goal.returns-then-spells
returns-then-spells c = rw (← c.spells.ensures, c.if-spells.true)

pub returns-then-spells-2 : goal.returns-then-spells-2
returns-then-spells-2 c = rw (← c.spells.ensures, c.if-spells.false, ← c.spells-2.ensures, c.if-spells-2.true)

pub returns-then-spells-3 : goal.returns-then-spells-3
returns-then-spells-3 c = rw (← c.spells.ensures, c.if-spells.false, ← c.spells-2.ensures, c.if-spells-2.false, ← c.spells-3.ensures, c.if-spells-3.true)

pub returns : goal.returns
returns c = rw (← c.spells.ensures, c.if-spells.false, ← c.spells-2.ensures, c.if-spells-2.false, ← c.spells-3.ensures, c.if-spells-3.false) c.ctr_named.ensures
