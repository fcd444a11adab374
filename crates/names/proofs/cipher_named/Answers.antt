-- `names::cipher_named` meets its contract: each test is a row of the table, and `cbc_named` has the rows after it. Assumes nothing.
use Rattle.names.specs.Ciphers.{cipher_named}
use Rattle.names.proofs.cipher_named.Goals as goal

pub returns-then-spells : goal.returns-then-spells
unfolding cipher_named
returns-then-spells c = rw (← c.spells.ensures, c.if-spells.true)

pub returns-then-spells-2 : goal.returns-then-spells-2
unfolding cipher_named
returns-then-spells-2 c = rw (← c.spells.ensures, c.if-spells.false, ← c.spells-2.ensures, c.if-spells-2.true)

pub returns : goal.returns
unfolding cipher_named
returns c = rw (← c.spells.ensures, c.if-spells.false, ← c.spells-2.ensures, c.if-spells-2.false) c.cbc_named.ensures
