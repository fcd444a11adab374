-- `utf8::past_others` meets its contract. Each branch's bytes are the first bytes of one row, or begin none. Rests on `rest_between`, which has
-- what they leave computed at each byte, and on `no_row`.
use Prim.Native.Nat.{◌≤◌}
use native.Mathlib.Omega.{arith}
use mathlib.Core.Path.{◌≡◌, refl}
use mathlib.Core.List.{[], ◌∷◌}
use Rattle.utf8.specs.Utf8.{◌to◌, UTF8-char, rest}
use Rattle.utf8.specs.Laws.{rest_between}
use Rattle.utf8.specs.Steps.{ranges}
use Rattle.utf8.proofs.Bytes.{no_row}
use Rattle.utf8.proofs.past_others.Goals as goal
use Rattle.utf8.proofs.past_others.Goals.{in_default-via-then-lead-lt224-2, in_default-via-else-lead-lt224-2+else-lead-lt237}

pub returns-then-lead-lt194 : goal.returns-then-lead-lt194
returns-then-lead-lt194 c = let b = c.args.lead in
    let e : 1 to 0 ∷ [] ≡ rest b UTF8-char = rest_between 0x80 0xC1 (unfold UTF8-char in refl) (omega arith) (omega arith) in
    rw (← e) (no_row _)

pub past_row-requires : goal.past_row-requires
past_row-requires c = record { from_in_bounds = omega arith; left_value = unfold UTF8-char in refl }

pub returns-then-lead-lt224 : goal.returns-then-lead-lt224
returns-then-lead-lt224 c = let b = c.args.lead in
    let e : ranges (0x80, 0xBF, 0) ≡ rest b UTF8-char = rest_between 0xC2 0xDF (unfold UTF8-char in refl) (omega arith) (omega arith) in
    rw (← e) c.past_row.ensures

pub past_row-requires-in-224 : goal.past_row-requires-in-224
past_row-requires-in-224 c = record { from_in_bounds = omega arith; left_value = unfold UTF8-char in refl }

pub past_row-requires-in-237 : goal.past_row-requires-in-237
past_row-requires-in-237 c = record { from_in_bounds = omega arith; left_value = unfold UTF8-char in refl }

pub past_row-requires-in-225-to-236 : goal.past_row-requires-in-225-to-236
past_row-requires-in-225-to-236 c = record { from_in_bounds = omega arith; left_value = unfold UTF8-char in refl }

pub past_row-requires-in_default : goal.past_row-requires-in_default
past_row-requires-in_default c = record { from_in_bounds = omega arith; left_value = unfold UTF8-char in refl }

pub returns-in-224 : goal.returns-in-224
returns-in-224 c = let b = c.args.lead in
    let e : ranges (0xA0, 0xBF, 1) ≡ rest b UTF8-char = rest_between 0xE0 0xE0 (unfold UTF8-char in refl) (omega arith) (omega arith) in
    rw (← e) c.past_row-in-224.ensures

pub returns-in-237 : goal.returns-in-237
returns-in-237 c = let b = c.args.lead in
    let e : ranges (0x80, 0x9F, 1) ≡ rest b UTF8-char = rest_between 0xED 0xED (unfold UTF8-char in refl) (omega arith) (omega arith) in
    rw (← e) c.past_row-in-237.ensures

pub returns-in-225-to-236 : goal.returns-in-225-to-236
returns-in-225-to-236 c = let b = c.args.lead in
    let e : ranges (0x80, 0xBF, 1) ≡ rest b UTF8-char = rest_between 0xE1 0xEC (unfold UTF8-char in refl) (omega arith) (omega arith) in
    rw (← e) c.past_row-in-225-to-236.ensures

-- the bytes that are left are above 0xEC: none is above 0xE0 and below 0xE1
pub returns-in_default : goal.returns-in_default
returns-in_default c = let b = c.args.lead in
    let h : 0xEE ≤ b = elim c.in_default.branch [
      | in_default-via-then-lead-lt224-2 w ↦ absurd (omega arith)
      | in_default-via-else-lead-lt224-2+else-lead-lt237 w ↦ omega arith
    ] in
    let e : ranges (0x80, 0xBF, 1) ≡ rest b UTF8-char = rest_between 0xEE 0xEF (unfold UTF8-char in refl) h (omega arith) in
    rw (← e) c.past_row-in_default.ensures

pub past_row-requires-in-240 : goal.past_row-requires-in-240
past_row-requires-in-240 c = record { from_in_bounds = omega arith; left_value = unfold UTF8-char in refl }

pub past_row-requires-in-244 : goal.past_row-requires-in-244
past_row-requires-in-244 c = record { from_in_bounds = omega arith; left_value = unfold UTF8-char in refl }

pub past_row-requires-in-241-to-243 : goal.past_row-requires-in-241-to-243
past_row-requires-in-241-to-243 c = record { from_in_bounds = omega arith; left_value = unfold UTF8-char in refl }

pub returns-in-240 : goal.returns-in-240
returns-in-240 c = let b = c.args.lead in
    let e : ranges (0x90, 0xBF, 2) ≡ rest b UTF8-char = rest_between 0xF0 0xF0 (unfold UTF8-char in refl) (omega arith) (omega arith) in
    rw (← e) c.past_row-in-240.ensures

pub returns-in-244 : goal.returns-in-244
returns-in-244 c = let b = c.args.lead in
    let e : ranges (0x80, 0x8F, 2) ≡ rest b UTF8-char = rest_between 0xF4 0xF4 (unfold UTF8-char in refl) (omega arith) (omega arith) in
    rw (← e) c.past_row-in-244.ensures

pub returns-in-241-to-243 : goal.returns-in-241-to-243
returns-in-241-to-243 c = let b = c.args.lead in
    let e : ranges (0x80, 0xBF, 2) ≡ rest b UTF8-char = rest_between 0xF1 0xF3 (unfold UTF8-char in refl) (omega arith) (omega arith) in
    rw (← e) c.past_row-in-241-to-243.ensures

-- no byte is above 0xF0 and below 0xF1
pub returns-in_default-lead-2 : goal.returns-in_default-lead-2
returns-in_default-lead-2 c = let b = c.args.lead in
    let e : 1 to 0 ∷ [] ≡ rest b UTF8-char = rest_between 0xF5 0xFF (unfold UTF8-char in refl) (omega arith) (omega arith) in
    rw (← e) (no_row _)
