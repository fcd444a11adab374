-- docs/RULES.md, 13, rests on this: a number in decimal digits, in ASCII, with no leading zero.
use Rattle.std.specs.Prelude.{ℕ, zero, suc, ◌+◌, ◌/◌, ◌%◌, ◌≤◌, ◌<◌, ◌^◌, ◌≡◌, refl, cond, List, [], ◌∷◌, ◌++◌, eqb, length}
use Rattle.std.proofs.Common.{pow-suc, arith, sym, append_assoc, eq-eqb, ne_eqb, length-append}

-- the last digit of a number
abbrev pub last_digit : ℕ → ℕ
last_digit n = 48 + n % 10

-- at most `most` digits of a number, none of 0: those of its tenth, and the last
unfoldable pub digits_of : ℕ → ℕ → List ℕ
digits_of zero n = []
digits_of (suc most) n = cond (eqb n 0) [] (digits_of most (n / 10) ++ (last_digit n ∷ []))

-- all digits of a number, none of 0: there are no more of them than the number says
unfoldable pub digits : ℕ → List ℕ
digits n = digits_of n n

-- a number in decimal: the digits of its tenth, and the last, so that 0 has one digit
unfoldable pub decimal : ℕ → List ℕ
decimal n = digits (n / 10) ++ (last_digit n ∷ [])

-- ---- laws

one_more : (most n : ℕ) → 0 < n → digits_of (suc most) n ≡ digits_of most (n / 10) ++ (last_digit n ∷ [])
unfolding digits_of
one_more most n h = rw (ne_eqb n 0 (λ e. omega arith))

-- a bound that is high enough doesn't matter
enough : (m k n : ℕ) → n ≤ m → n ≤ k → digits_of m n ≡ digits_of k n
unfolding digits_of
enough zero zero n h g = refl
enough zero (suc k) n h g = rw (eq-eqb n 0 (omega arith))
enough (suc m) zero n h g = rw (eq-eqb n 0 (omega arith))
enough (suc m) (suc k) zero h g = refl
enough (suc m) (suc k) (suc n) h g =
    rw (one_more m (suc n) (omega arith), one_more k (suc n) (omega arith), enough m k (suc n / 10) (omega arith) (omega arith))

pub digits_none : digits 0 ≡ []
unfolding digits digits_of
digits_none = refl

-- the digits of a number above 0 are its decimal
pub digits_some : (n : ℕ) → 0 < n → digits n ≡ decimal n
unfolding decimal digits
digits_some zero h = absurd (omega arith)
digits_some (suc n) h = rw (one_more n (suc n) (omega arith), enough n (suc n / 10) (suc n / 10) (omega arith) (omega arith))

-- the last digit goes before what stands after them
pub digits_before : (n : ℕ) (t : List ℕ) → 0 < n → digits (n / 10) ++ last_digit n ∷ t ≡ digits n ++ t
unfolding decimal
digits_before n t h = rw (digits_some n h) (sym (append_assoc (digits (n / 10)) (last_digit n ∷ []) t))

digit_more : (k n : ℕ) → length (digits (n / 10)) ≤ k → length (decimal n) ≤ suc k
unfolding decimal
digit_more k n h = simp length-append (omega arith)

-- a number below 10 ^ k has at most k digits
digits_short : (k n : ℕ) → n < 10 ^ k → length (digits n) ≤ k
digits_short zero zero h = rw digits_none (omega arith)
digits_short zero (suc n) h = absurd (omega arith)
digits_short (suc k) zero h = rw digits_none (omega arith)
digits_short (suc k) (suc n) h =
    rw (digits_some (suc n) (omega arith)) (digit_more k (suc n) (digits_short k (suc n / 10) (omega (arith, pow-suc 10 k))))

-- a decimal below 2 ^ 64 has at most 20 digits
pub decimal_short : (n : ℕ) → n < 2 ^ 64 → length (decimal n) ≤ 20
decimal_short n h = digit_more 19 n (digits_short 19 (n / 10) (omega arith))
