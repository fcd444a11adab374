-- `armour_signs::value` meets its contract: the table has the value of every byte.
use Rattle.armour_signs.specs.Rule.{value_at}
use borrow.Author.Rules.{rules}
use Rattle.armour_signs.proofs.value.Goals as goal

pub returns : goal.returns
returns c = value_at _ (search rules) _ c.value_table.ensures
