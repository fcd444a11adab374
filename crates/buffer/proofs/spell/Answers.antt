-- `buffer::spell` meets its contract: the decimal of what is left of the number, then the digits that are written, are its decimal.
-- Rests on the law `digits_some`, and on that a number below 10 ^ i leaves one below 10 ^ (i - 1).
use mathlib.Core.Path.{◌≡◌, ◌∙◌}
use mathlib.Core.List.{List, ◌∷◌, ◌++◌, append_assoc}
use Prim.Native.Nat.{ℕ, zero, suc, ◌-◌, ◌/◌, ◌≤◌, ◌<◌, ◌^◌}
use native.Mathlib.Nat.{pow-suc}
use native.Mathlib.Omega.{arith}
use lib.ListN.{length, drop, set, length-set}
use lib.Seq.{drop-cons, drop-set-lt, get_or-set_same, lt-length-set}
use Rattle.buffer.specs.Decimal.{last_digit, digits, decimal, digits_none, digits_some}
use Rattle.buffer.proofs.spell.Goals as goal

-- a byte set, and what stands after it
set_here : (l : List ℕ) (i d : ℕ) → i < length l → drop i (set l i d) ≡ d ∷ drop (suc i) l
set_here l i d h =
    drop-cons (set l i d) i 0 (lt-length-set l i d h) ∙ rw (get_or-set_same l i d 0 h, drop-set-lt (suc i) l i d (omega arith))

-- another digit: those before it, and those from it on
another :
    (l : List ℕ) (i rest : ℕ) → 0 < i → i ≤ length l → digits (rest / 10) ++ drop (i - 1) (set l (i - 1) (last_digit rest)) ≡ decimal rest ++ drop i l
unfolding decimal
another l zero rest h g = absurd (omega arith)
another l (suc i) rest h g =
    let e : suc i - 1 ≡ i = omega arith in
    rw (e, set_here l i (last_digit rest) (omega arith), append_assoc)

-- the rest has one digit less
fewer : (i rest : ℕ) → 0 < rest / 10 → rest < 10 ^ i → (0 < i - 1) × (rest / 10 < 10 ^ (i - 1))
fewer zero rest h g = absurd (omega arith)
fewer (suc zero) rest h g = absurd (omega arith)
fewer (suc (suc i)) rest h g =
    let e : suc (suc i) - 1 ≡ suc i = omega arith in
    rw e (omega arith, omega (arith, pow-suc 10 (suc i)))

pub returns-then-rest-eq0 : goal.returns-then-rest-eq0
returns-then-rest-eq0 c = let l = c.loop-rest in
    let all = another l.text l.i l.rest (omega arith) (omega arith) ∙ l.invariant.4 in
    (omega arith, simp length-set (omega arith), rw c.last_digit.ensures (rw (c.if-rest-eq0.true, digits_none) at all))

pub loop-rest-preserved : goal.loop-rest-preserved
loop-rest-preserved c = let l = c.loop-rest in
    let rest : ℕ = l.rest / 10 in
    let some : 0 < rest = omega arith in
    let below = fewer l.i l.rest some l.invariant.3 in
    let all = another l.text l.i l.rest (omega arith) (omega arith) ∙ l.invariant.4 in
    (below.0, omega arith, simp length-set (omega arith), below.1, rw c.last_digit.ensures (rw (digits_some rest some) at all))
