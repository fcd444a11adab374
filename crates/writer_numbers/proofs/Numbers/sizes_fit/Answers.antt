-- `Numbers::sizes_fit` meets its contract. Rests on the laws of a modulus's size and on the callees' contracts.
use native.Mathlib.Omega.{arith}
use mathlib.Core.Path.{sym, ◌∙◌}
use Rattle.std.proofs.lemmas.Grind.{common_steps}
use Rattle.mpint.specs.Laws.{size_inside, size_outside}
use Rattle.writer_parts.specs.Checks.{sizes_fit}
use Rattle.writer_numbers.proofs.Numbers.sizes_fit.Goals as goal

pub returns-in_default : goal.returns-in_default
unfolding sizes_fit
returns-in_default c = rw (size_outside _ (sym c.modulus_size.ensures ∙ c.in_default.is))

pub returns-then-fits-4 : goal.returns-then-fits-4
unfolding sizes_fit
returns-then-fits-4 c =
    let inside = (size_inside _ _ (sym c.modulus_size.ensures ∙ c.in-Some.is)).0 in
    grind (arith, common_steps, inside)
