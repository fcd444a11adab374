-- Sorted numbers rise, and numbers of which one is above the next do not. Rests on what the library says of sorted numbers.
use Prim.Native.Nat.{ℕ, zero, suc, ◌+◌, ◌≤◌, ◌<◌}
use native.Mathlib.Omega.{arith}
use native.Mathlib.Numerals.{add-one}
use mathlib.Core.Bool.{Bool, true, false}
use mathlib.Core.List.{List, [], ◌∷◌}
use mathlib.Core.Path.{◌≡◌, sym}
use lib.ListN.{length, get_or}
use Rattle.std.specs.Prelude.{MatchBool}
use Rattle.std.specs.List.{IsAllAdjacentAnswer}
use Rattle.std.specs.List.Sorted.{IsNonDecreasing}
use Rattle.std.specs.Ordering.{nat_cmp, is_le, is_some_and}
use Rattle.std.specs.Prelude.{Some}
use Rattle.std.proofs.lemmas.List.Sorted.{non_decreasing_from_is_sorted}
use Rattle.edit_shells.specs.Parts.{rises, Rises, true-rises, not_rises}

sorted_rise : (a : ℕ) (xs : List ℕ) → (0 < length xs → a ≤ get_or xs 0 0) → IsNonDecreasing xs → Rises a xs
sorted_rise a [] h p = tt
sorted_rise a (b ∷ more) h p =
    (h (omega arith), sorted_rise b more (λ k. p 0 1 0 (omega arith) (omega arith)) (λ i j d k l. p (suc i) (suc j) d (omega arith) (omega arith)))

next_above : (a : ℕ) (xs : List ℕ) (k : ℕ) → suc k < length xs → Rises a xs → get_or xs k 0 ≤ get_or xs (suc k) 0
next_above a [] k h r = absurd (omega arith)
next_above a (b ∷ []) k h r = absurd (omega arith)
next_above a (b ∷ c ∷ more) zero h r = r.1.0
next_above a (b ∷ c ∷ more) (suc k) h r = next_above b (c ∷ more) k (omega arith) r.1

answer :
    (xs : List ℕ) (r : Bool)
    → MatchBool r (IsNonDecreasing xs) ((k : ℕ) × (k + 1 < length xs) × ((d : ℕ) → get_or xs (k + 1) d < get_or xs k d)) → r ≡ rises 0 xs
answer xs true p = sym (true-rises 0 xs (sorted_rise 0 xs (λ k. omega arith) p))
answer xs false p =
    let k = p.0 in
    let below : get_or xs (suc k) 0 < get_or xs k 0 = rw add-one at (p.2 0) in
    sym (not_rises 0 xs (λ r. omega (arith, below, next_above 0 xs k (omega (arith, p.1)) r)))

-- what the library says of the answer is that it is that of `rises`
pub sorted_rises : (xs : List ℕ) (r : Bool) → IsAllAdjacentAnswer (λ x y b. is_some_and is_le (Some (nat_cmp x y)) ≡ b) xs r → r ≡ rises 0 xs
sorted_rises xs r p = answer xs r (non_decreasing_from_is_sorted xs r p)
