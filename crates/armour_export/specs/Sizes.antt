-- How long a text is, by the number of bytes that it carries.
use Rattle.std.specs.Prelude.{ℕ, zero, suc, ◌+◌, ◌*◌, ◌/◌, ◌-◌, ◌<◌, ◌≤◌, ◌≡◌, refl, Bool, true, false, cond, List, [], ◌∷◌, eqb, length}
use Rattle.std.proofs.Common.{eq-or-lt_of_le, arith, ⊎_elim, eqb-true, length-append}
use Rattle.std.proofs.lemmas.Bool.{eqb-false}
use Rattle.armour_text.specs.Base64.{encode}
use Rattle.armour_text.specs.Text.{opening, closing, wrap, text}

unfoldable pub size_of : ℕ → ℕ
size_of n = (n + 2) / 3 * 4 + ((n + 2) / 3 * 4 + 69) / 70 + 70

pub encode-length : (b : List ℕ) → length (encode b) ≡ (length b + 2) / 3 * 4
unfolding encode
encode-length [] = refl
encode-length (a ∷ []) = refl
encode-length (a ∷ b ∷ []) = refl
encode-length (a ∷ b ∷ c ∷ more) = omega (arith, encode-length more)

not_full : (k : ℕ) → k ≤ 70 → (k ≡ 70 → ⊥) → k < 70
not_full k h f = ⊎_elim (λ e. absurd (f e)) (λ l. l) (eq-or-lt_of_le h)

-- a line feed for each line that is begun
wrap-length : (s : List ℕ) (k : ℕ) → k ≤ 70 → length (wrap s k) ≡ length s + (length s + (70 - k) + 69) / 70
unfolding wrap
wrap-length [] k h = go (eqb k 70) refl
  where
    go : (x : Bool) → eqb k 70 ≡ x → length {A = ℕ} (cond x [] (10 ∷ [])) ≡ 0 + (0 + (70 - k) + 69) / 70
    go true e = omega (arith, eqb-true k 70 e)
    go false e = omega (arith, not_full k h (eqb-false k 70 e))
wrap-length (x ∷ s) zero h = omega (arith, wrap-length s 69 (omega arith))
wrap-length (x ∷ s) (suc k) h = omega (arith, wrap-length s k (omega arith))

pub opening-length : length opening ≡ 36
unfolding opening
opening-length = refl

pub closing-length : length closing ≡ 34
unfolding closing
closing-length = refl

pub text-length : (b : List ℕ) → length (text b) ≡ size_of (length b)
unfolding text size_of
text-length b =
    simp length-append (omega (arith, opening-length, closing-length, wrap-length (encode b) 70 (omega arith), encode-length b))
