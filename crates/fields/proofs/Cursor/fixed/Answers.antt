-- `fields::Cursor::fixed` meets its contract: the string's place keeps the sum from wrapping. Assumes nothing.
use native.Mathlib.Omega.{arith}
use mathlib.Core.Path.{sym, ◌∙◌}
use Prim.Native.Nat.{◌+◌}
use Rattle.fields.specs.Place.{Placed, string_place}
use Rattle.fields.proofs.Cursor.fixed.Goals as goal
use Rattle.fields.proofs.Cursor.fixed.Goals.{In_ok-part}

-- the string is within the image
placed : (c : In_ok-part) → Placed c.args.image.now c.args.self (c.args.self.at + 4) c.in_ok-part.part c.in_ok-part.next
placed c = (string_place _ _ _ _ (sym c.string.ensures ∙ c.in_ok-part.was)).placed

pub overflow_add-at : goal.overflow_add-at
overflow_add-at c = omega (arith, placed (goal.at.overflow_add-at c).In_ok-part)

pub overflow_add-at-then-k-length : goal.overflow_add-at-then-k-length
overflow_add-at-then-k-length c = omega (arith, placed (goal.at.overflow_add-at-then-k-length c).In_ok-part)
