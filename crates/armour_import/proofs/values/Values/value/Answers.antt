-- `armour_import::values::Values::value` meets its contract: the table has the value of every byte.
use Rattle.armour_signs.specs.Rule.{value_at}
use borrow.Author.Rules.{rules}
use Rattle.armour_import.proofs.values.Values.value.Goals as goal

pub returns : goal.returns
returns c = value_at _ (search rules) _ c.args.self.now.of_signs
