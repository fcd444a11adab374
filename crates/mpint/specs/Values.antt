-- The number that bytes stand for: byte by byte, below a power of 256, and from the first byte that isn't zero.
use Rattle.std.specs.Prelude.{ℕ, zero, suc, ◌+◌, ◌-◌, ◌*◌, ◌/◌, ◌%◌, ◌^◌, ◌≤◌, ◌<◌, ◌≡◌, refl, true, not, List, [], ◌∷◌, ◌⊎◌, eqb, ltb, length, get_or}
use Rattle.std.proofs.Math.Nat.{pow-succ', suc-sub-suc}
use Rattle.std.proofs.Common.{mul-le-mul_right, arith, sym, ◌∙◌, ap, inl, inr, eqb-true, ltb-true, leb-true, pow-add}
use Rattle.std.proofs.lemmas.Bool.{eqb-false, not-true}
use Rattle.std.proofs.Math.Arith.{digits_lt, digits_div, digits_mod}
use Rattle.fields.specs.Bytes.{AllBytes, both_true}
use Rattle.fields.specs.Place.{clash, by_bool}
use Rattle.mpint.specs.Mpint.{value_from, value, is_mpint, zeros_before, remaining}

-- ---- byte by byte

-- what stands before the bytes is that many times a power of 256
value_from_lem : (n : ℕ) (b : List ℕ) → value_from n b ≡ n * 256 ^ length b + value b
unfolding value value_from
value_from_lem n [] = omega arith
value_from_lem n (x ∷ b) =
    value_from_lem (256 * n + x) b ∙ step n x (256 ^ length b) (value b) (256 ^ suc (length b)) (pow-succ' 256 (length b))
    ∙ ap (λ (v : ℕ). n * 256 ^ suc (length b) + v) (sym (value_from_lem (256 * 0 + x) b))
  where
    step : (n x p v q : ℕ) → q ≡ 256 * p → (256 * n + x) * p + v ≡ n * q + ((256 * 0 + x) * p + v)
    step n x p v q e = rw e (omega arith)

pub value_cons : (x : ℕ) (b : List ℕ) → value (x ∷ b) ≡ x * 256 ^ length b + value b
unfolding value value_from
value_cons x b = value_from_lem (256 * 0 + x) b ∙ ap (λ (y : ℕ). y * 256 ^ length b + value b) (omega arith)

-- as many bytes can't stand for more
pub value-below : (b : List ℕ) → AllBytes b → value b < 256 ^ length b
unfolding value value_from
value-below [] all = omega arith
value-below (x ∷ b) all = rw (value_cons x b, pow-succ' 256 (length b)) (digits_lt (all 0) (value-below b (λ i. all (suc i))))

-- as many bytes that stand for the same number are the same
pub value_same : (a b : List ℕ) → AllBytes a → AllBytes b → length a ≡ length b → value a ≡ value b → a ≡ b
value_same [] [] all also l e = refl
value_same [] (y ∷ b) all also l e = absurd (omega arith)
value_same (x ∷ a) [] all also l e = absurd (omega arith)
value_same (x ∷ a) (y ∷ b) all also l e =
    let k : length a ≡ length b = omega arith in
    let va : value a < 256 ^ length b = rw k at (value-below a (λ i. all (suc i))) in
    let vb = value-below b (λ i. also (suc i)) in
    let f = ap (λ (n : ℕ). x * 256 ^ n + value a) (sym k) ∙ sym (value_cons x a) ∙ e ∙ value_cons y b in
    let h : x ≡ y = sym (digits_div x va) ∙ ap (λ (n : ℕ). n / 256 ^ length b) f ∙ digits_div y vb in
    let v : value a ≡ value b = sym (digits_mod x va) ∙ ap (λ (n : ℕ). n % 256 ^ length b) f ∙ digits_mod y vb in
    let t : a ≡ b = value_same a b (λ i. all (suc i)) (λ i. also (suc i)) k v in
    cc

-- ---- from the first byte that isn't zero

pub record Top (b : List ℕ) : Type 0 where
  pub less : ℕ
  pub is : value b ≡ get_or b (zeros_before b) 0 * 256 ^ (remaining b - 1) + less
  pub below : less < 256 ^ (remaining b - 1)
  pub some : 0 < remaining b
  pub first : 0 < get_or b (zeros_before b) 0

pub value_top : (b : List ℕ) → AllBytes b → 0 < value b → Top b
unfolding value value_from zeros_before
value_top [] all h = absurd (omega arith)
value_top (zero ∷ b) all h =
    let e : value (0 ∷ b) ≡ value b = value_cons 0 b ∙ omega arith in
    let t = value_top b (λ i. all (suc i)) (rw e at h) in
    let k : suc (length b) - suc (zeros_before b) ≡ remaining b = suc-sub-suc (length b) (zeros_before b) in
    record {
      less = t.less;
      is = rw k (e ∙ t.is);
      below = rw k t.below;
      some = rw k t.some;
      first = t.first;
    }
value_top (suc x ∷ b) all h =
    let k : suc (length b) - 0 - 1 ≡ length b = omega arith in
    record {
      less = value b;
      is = rw k (value_cons (suc x) b);
      below = rw k (value-below b (λ i. all (suc i)));
      some = omega arith;
      first = omega arith;
    }

-- a power of 256 is one of 2
pub power_256 : (n : ℕ) → 256 ^ n ≡ 2 ^ (8 * n)
power_256 zero = refl
power_256 (suc n) =
    let k : 8 * suc n ≡ 8 + 8 * n = omega arith in
    rw (pow-succ' 256 n, power_256 n, k, pow-add 2 8 (8 * n))

-- ---- positive and minimal

-- the powers of 256: r of all the bytes, q of those after x, p of those after y
two_bytes :
    (x y v p q r : ℕ) → q ≡ 256 * p → r ≡ 256 * q → v < p → y < 256 → ((x ≡ 0) × (128 ≤ y)) ⊎ ((0 < x) × (x < 128))
    → (q ≤ 2 * (x * q + (y * p + v))) × (2 * (x * q + (y * p + v)) < r)
two_bytes x y v p q r f g hv hy (inl a) =
    let low : 128 * p ≤ y * p = mul-le-mul_right p a.1 in
    let high : y * p ≤ 255 * p = mul-le-mul_right p (omega arith) in
    let none : x * q ≤ 0 * q = mul-le-mul_right q (omega arith) in
    omega arith
two_bytes x y v p q r f g hv hy (inr a) =
    let low : 1 * q ≤ x * q = mul-le-mul_right q a.0 in
    let high : x * q ≤ 127 * q = mul-le-mul_right q (omega arith) in
    let next : y * p ≤ 255 * p = mul-le-mul_right p (omega arith) in
    omega arith

-- twice the number of an mpint is below the power of all its bytes, and not below the power of one byte less
module _ (x y : ℕ) (b : List ℕ) (all : AllBytes (x ∷ y ∷ b)) where
  two_bounds :
      ((x ≡ 0) × (128 ≤ y)) ⊎ ((0 < x) × (x < 128))
      → (256 ^ suc (length b) ≤ 2 * value (x ∷ y ∷ b)) × (2 * value (x ∷ y ∷ b) < 256 ^ suc (suc (length b)))
  two_bounds a =
      rw (value_cons x (y ∷ b), value_cons y b)
      (two_bytes x y (value b) (256 ^ length b) (256 ^ suc (length b)) (256 ^ suc (suc (length b)))
      (pow-succ' 256 (length b)) (pow-succ' 256 (suc (length b))) (value-below b (λ i. all (suc (suc i)))) (all 1) a)

pub mpint_bounds :
    (b : List ℕ) → AllBytes b → is_mpint b ≡ true → (256 ^ (length b - 1) ≤ 2 * value b) × (2 * value b < 256 ^ length b)
unfolding is_mpint value value_from
mpint_bounds [] all e = clash cc
mpint_bounds (x ∷ []) all e =
    let k = both_true (not (eqb x 0)) (ltb x 0x80) e in
    let some = eqb-false x 0 (not-true (eqb x 0) k.0) in
    let small = ltb-true x 0x80 k.1 in
    omega arith
mpint_bounds (x ∷ y ∷ b) all e =
    let n : suc (suc (length b)) - 1 ≡ suc (length b) = omega arith in
    rw n
    (by_bool (eqb x 0)
    (λ w. two_bounds x y b all (inl (eqb-true x 0 w, leb-true 0x80 y (rw w at e))))
    (λ w.
    let some = eqb-false x 0 w in
    two_bounds x y b all (inr (omega arith, ltb-true x 0x80 (rw w at e)))))
