-- `armour_signs::is_sign` meets its contract. Rests on `ranges_are`, which is computed for every byte.
use borrow.Author.Rules.{rules}
use Rattle.armour_signs.specs.Rule.{in_ranges, ranges_are}
use Rattle.armour_signs.proofs.is_sign.Goals as goal

pub returns : goal.returns
unfolding in_ranges
returns c = ranges_are c.args.c (search rules)
