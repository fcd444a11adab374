-- `armour_judge::stands` meets its contract: the line is too long for what is left, or compared with as many bytes.
use borrow.Author.Tests.{lt-leb}
use Rattle.armour_judge.specs.Signs.{stands_short}
use Rattle.armour_judge.proofs.stands.Goals as goal

pub returns-else-line-text : goal.returns-else-line-text
returns-else-line-text c = rw (lt-leb _ _ c.if-line-text.false) (stands_short c.args.text.now c.args.at c.args.line.now c.if-line-text.false)
