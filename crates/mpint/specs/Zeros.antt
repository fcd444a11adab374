-- The zeros before the first byte that isn't zero, and what the bytes from there on say of the bits.
use Rattle.std.specs.Prelude.{ℕ, zero, suc, ◌+◌, ◌-◌, ◌*◌, ◌/◌, ◌≤◌, ◌<◌, ◌≡◌, refl, true, cond, List, [], ◌∷◌, ◌⊎◌, eqb, ltb, leb, length, get_or, Some, None}
use Rattle.std.proofs.Common.{arith, sym, ◌∙◌, ap, inl, inr}
use borrow.Author.Tests.{ltb-true, ltb-false, leb-true, leb-false, le-leb, lt-leb}
use Rattle.std.specs.Int.Count.{count_leading_zeros, leading_of_zero}
use Rattle.std.proofs.lemmas.Nat.{leading_le}
use Rattle.std.proofs.Math.Dec.{eqb-suc-zero}
use Rattle.std.proofs.Math.ListN.{get_or-eq_default}
use Rattle.fields.specs.Place.{by_bool}
use Rattle.mpint.specs.Mpint.{is_mpint, zeros_before, remaining, bits, at_most, modulus_size}

-- the first two bytes say it, and one that is missing counts as 0
pub mpint_bytes : (b : List ℕ) → is_mpint b ≡ cond (eqb (get_or b 0 0) 0) (leb 0x80 (get_or b 1 0)) (ltb (get_or b 0 0) 0x80)
unfolding is_mpint
mpint_bytes [] = refl
mpint_bytes (zero ∷ []) = refl
mpint_bytes (suc x ∷ []) = rw (eqb-suc-zero x)
mpint_bytes (x ∷ y ∷ b) = refl

-- ---- the zeros

pub zeros_le : (b : List ℕ) → zeros_before b ≤ length b
unfolding zeros_before
zeros_le [] = omega arith
zeros_le (zero ∷ b) = omega (arith, zeros_le b)
zeros_le (suc x ∷ b) = omega arith

pub zeros_zero : (b : List ℕ) (i : ℕ) → i < zeros_before b → get_or b i 0 ≡ 0
unfolding zeros_before
zeros_zero [] i h = refl
zeros_zero (zero ∷ b) zero h = refl
zeros_zero (zero ∷ b) (suc i) h = zeros_zero b i (omega arith)
zeros_zero (suc x ∷ b) i h = absurd (omega arith)

pub zeros_found : (b : List ℕ) → zeros_before b < length b → 0 < get_or b (zeros_before b) 0
unfolding zeros_before
zeros_found [] h = absurd (omega arith)
zeros_found (zero ∷ b) h = zeros_found b (omega arith)
zeros_found (suc x ∷ b) h = omega arith

-- where i bytes are zero: the next, if it isn't zero, is the first that isn't, and if it is zero, there is one zero more
module _ (b : List ℕ) (i : ℕ) (so : i ≤ zeros_before b) where
  pub zeros_here : (get_or b i 0 ≡ 0 → ⊥) → i ≡ zeros_before b
  zeros_here h =
      by_bool (ltb i (zeros_before b))
      (λ w. absurd (h (zeros_zero b i (ltb-true i (zeros_before b) w))))
      (λ w. omega (arith, ltb-false i (zeros_before b) w))

  pub zeros_next : i < length b → get_or b i 0 ≡ 0 → i < zeros_before b
  zeros_next l h =
      by_bool (ltb i (zeros_before b))
      (λ w. ltb-true i (zeros_before b) w)
      (λ w.
      let e : zeros_before b ≡ i = omega (arith, ltb-false i (zeros_before b) w) in
      absurd (omega (arith, rw e at (zeros_found b (omega arith)))))

-- ---- the bits

-- the leading zeros of the first byte that isn't zero
abbrev pub top_zeros : List ℕ → ℕ
top_zeros b = count_leading_zeros 8 (get_or b (zeros_before b) 0)

leading_positive : (k x : ℕ) → 0 < x → count_leading_zeros (suc k) x ≤ k
unfolding count_leading_zeros
leading_positive k zero h = absurd (omega arith)
leading_positive k (suc x) h = leading_le k (suc x / 2)

-- m bytes remain, the first with z leading zeros: there is none, or it has a bit that is set
abbrev Leading : ℕ → ℕ → Type 0
Leading m z = ((m ≡ 0) × (z ≡ 8)) ⊎ ((0 < m) × (z < 8))

top_zeros_lem : (b : List ℕ) → Leading (remaining b) (top_zeros b)
top_zeros_lem b =
    by_bool (ltb (zeros_before b) (length b))
    (λ w.
    let h = ltb-true (zeros_before b) (length b) w in
    inr (omega arith, omega (arith, leading_positive 7 (get_or b (zeros_before b) 0) (zeros_found b h))))
    (λ w.
    let h = ltb-false (zeros_before b) (length b) w in
    inl (omega arith, ap (count_leading_zeros 8) (get_or-eq_default b 0 h) ∙ leading_of_zero 8))

-- a test of numbers for another
same_leb : (a b c d : ℕ) → (a ≤ b → c ≤ d) → (b < a → d < c) → leb a b ≡ leb c d
same_leb a b c d f g =
    by_bool (leb a b) (λ w. w ∙ sym (le-leb c d (f (leb-true a b w)))) (λ w. w ∙ sym (lt-leb c d (g (leb-false a b w))))

less_leb : (a b c d : ℕ) → (a < b → c ≤ d) → (b ≤ a → d < c) → ltb a b ≡ leb c d
less_leb a b c d f g =
    by_bool (ltb a b) (λ w. w ∙ sym (le-leb c d (f (ltb-true a b w)))) (λ w. w ∙ sym (lt-leb c d (g (ltb-false a b w))))

-- as many bytes remain: the leading zeros say which has more bits
pub compare_zeros : (x y : List ℕ) → remaining x ≡ remaining y → leb (top_zeros y) (top_zeros x) ≡ at_most x y
unfolding at_most bits
compare_zeros x y e = go (remaining x) (remaining y) (top_zeros x) (top_zeros y) e (top_zeros_lem x) (top_zeros_lem y)
  where
    go : (m n z w : ℕ) → m ≡ n → Leading m z → Leading n w → leb w z ≡ leb (8 * m - z) (8 * n - w)
    go m n z w e (inl a) (inl b) = same_leb w z (8 * m - z) (8 * n - w) (λ h. omega arith) (λ h. omega arith)
    go m n z w e (inl a) (inr b) = absurd (omega arith)
    go m n z w e (inr a) (inl b) = absurd (omega arith)
    go m n z w e (inr a) (inr b) = same_leb w z (8 * m - z) (8 * n - w) (λ h. omega arith) (λ h. omega arith)

-- otherwise the bytes that remain say it
pub compare_remaining : (x y : List ℕ) → (remaining x ≡ remaining y → ⊥) → ltb (remaining x) (remaining y) ≡ at_most x y
unfolding at_most bits
compare_remaining x y e = go (remaining x) (remaining y) (top_zeros x) (top_zeros y) e (top_zeros_lem x) (top_zeros_lem y)
  where
    go : (m n z w : ℕ) → (m ≡ n → ⊥) → Leading m z → Leading n w → ltb m n ≡ leb (8 * m - z) (8 * n - w)
    go m n z w e (inl a) (inl b) = absurd (e (omega arith))
    go m n z w e (inl a) (inr b) = less_leb m n (8 * m - z) (8 * n - w) (λ h. omega arith) (λ h. omega arith)
    go m n z w e (inr a) (inl b) = less_leb m n (8 * m - z) (8 * n - w) (λ h. omega arith) (λ h. omega arith)
    go m n z w e (inr a) (inr b) = less_leb m n (8 * m - z) (8 * n - w) (λ h. omega arith) (λ h. omega arith)

-- the bits are those of the bytes that remain, less the leading zeros of the first of these
pub bits_most : (b : List ℕ) → bits b ≤ 8 * remaining b
unfolding bits
bits_most b = omega arith

pub bits_least : (b : List ℕ) → 0 < remaining b → 8 * remaining b < bits b + 8
unfolding bits
bits_least b h = go (remaining b) (top_zeros b) h (top_zeros_lem b)
  where
    go : (m z : ℕ) → 0 < m → Leading m z → 8 * m < 8 * m - z + 8
    go m z h (inl a) = absurd (omega arith)
    go m z h (inr a) = omega arith

-- one that has no more bytes than the bits of another fill has at most as many bits
pub short_fits : (x y : List ℕ) → 8 * length x ≤ bits y → at_most x y ≡ true
unfolding at_most
short_fits x y h = le-leb (bits x) (bits y) (omega (arith, bits_most x, h))

-- ---- the size of a modulus

module _ (b : List ℕ) where
  pub size_below : bits b < 1024 → None ≡ modulus_size b
  unfolding modulus_size
  size_below h = rw (lt-leb 1024 (bits b) h)

  pub size_above : 8192 < bits b → None ≡ modulus_size b
  unfolding modulus_size
  size_above h = rw (le-leb 1024 (bits b) (omega arith), lt-leb (bits b) 8192 h)

  pub size_is : 1024 ≤ bits b → bits b ≤ 8192 → Some (bits b) ≡ modulus_size b
  unfolding modulus_size
  size_is h k = rw (le-leb 1024 (bits b) h, le-leb (bits b) 8192 k)
