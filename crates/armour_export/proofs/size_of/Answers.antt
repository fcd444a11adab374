-- `armour_export::size_of` meets its contract, which is its own formula.
use Rattle.armour_export.specs.Sizes.{size_of}
use borrow.Author.Rules.{rules}
use Rattle.armour_export.proofs.size_of.Goals as goal

pub returns : goal.returns
unfolding size_of
returns c = search rules
