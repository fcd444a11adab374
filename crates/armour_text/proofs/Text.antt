-- The lines of an exported text in the request's words: none for no signs; else up to 70 signs and a line feed, and the lines of the others.
use Rattle.std.specs.Prelude.{ℕ, zero, suc, ◌<◌, ◌≡◌, refl, List, [], ◌∷◌, ◌++◌, take, drop}
use Rattle.std.proofs.Common.{arith, ap, ne_eqb}
use Rattle.armour_text.specs.Text.{wrap}

pub no_line : wrap [] 70 ≡ []
unfolding wrap
no_line = refl

wrap_line : (s : List ℕ) (k : ℕ) → k < 70 → wrap s k ≡ take k s ++ 10 ∷ wrap (drop k s) 70
unfolding wrap
wrap_line [] zero h = refl
wrap_line [] (suc k) h = rw (ne_eqb (suc k) 70 (λ e. omega arith))
wrap_line (x ∷ s) zero h = refl
wrap_line (x ∷ s) (suc k) h = ap (λ (l : List ℕ). x ∷ l) (wrap_line s k (omega arith))

pub one_line : (x : ℕ) (s : List ℕ) → wrap (x ∷ s) 70 ≡ take 70 (x ∷ s) ++ 10 ∷ wrap (drop 70 (x ∷ s)) 70
unfolding wrap
one_line x s = ap (λ (l : List ℕ). x ∷ l) (wrap_line s 69 (omega arith))
