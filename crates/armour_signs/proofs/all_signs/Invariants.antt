-- `armour_signs::all_signs` meets its contract: the bytes so far were looked at.
use mathlib.Core.Path.{◌≡◌}
use Rattle.armour_signs.specs.Alphabet.{all_signs}
use Rattle.armour_signs.proofs.all_signs.Given as goal

abbrev pub invariant-loop-c : goal.invariant-loop-c
invariant-loop-c l = l.good ≡ all_signs l.c-index l.text l.at
