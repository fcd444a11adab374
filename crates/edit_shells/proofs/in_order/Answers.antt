-- `edit_shells::in_order` meets its contract: what the library says of sorted numbers is what `rises` says.
use borrow.Author.Rules.{rules}
use Rattle.edit_shells.proofs.Sorted.{sorted_rises}
use Rattle.edit_shells.proofs.in_order.Goals as goal

pub returns : goal.returns
returns c = search (rules, sorted_rises)
