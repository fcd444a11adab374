-- The table's rule, both ways, each by one test that is computed over a whole table: the value of the sign of a value below 64 is that
-- value, and the sign of the value of a sign is that sign.
use Rattle.std.specs.Prelude.{ℕ, zero, suc, ◌+◌, ◌<◌, ◌≡◌, refl, Bool, true, false, cond, ◌&&◌, ◌||◌, List, [], ◌∷◌, eqb, ltb, leb, length, get_or}
use Rattle.std.proofs.Common.{add-zero, zero-add, add-suc, suc-add, arith, sym}
use Rattle.std.proofs.lemmas.Bool.{false≢true}
use borrow.Author.Tests.{eqb-true, ltb-true, eq-eqb, lt-ltb}
use Rattle.fields.specs.Bytes.{both_true}
use Rattle.armour_signs.specs.Alphabet.{signs, sign_of, value_of, is_sign, values_from, values}

-- ---- a test of each entry of a table and its place

abbrev every : (ℕ → ℕ → Bool) → ℕ → List ℕ → Bool
every test i [] = true
every test i (x ∷ xs) = test i x && every test (suc i) xs

from : (test : ℕ → ℕ → Bool) (xs : List ℕ) (i : ℕ) → every test i xs ≡ true → (k : ℕ) → k < length xs → test (i + k) (get_or xs k 0) ≡ true
from test [] i t k h = absurd (omega arith)
from test (x ∷ xs) i t zero h = rw (add-zero i) (both_true (test i x) (every test (suc i) xs) t).0
from test (x ∷ xs) i t (suc k) h =
    rw (add-suc i k, ← suc-add i k) (from test xs (suc i) (both_true (test i x) (every test (suc i) xs) t).1 k (omega arith))

at : (test : ℕ → ℕ → Bool) (xs : List ℕ) → every test 0 xs ≡ true → (k : ℕ) → k < length xs → test k (get_or xs k 0) ≡ true
at test xs t k h = rw (zero-add k) at (from test xs 0 t k h)

-- ---- of the signs: each has its place for its value, and none ends a line or a text

-- what a sign is not: a line feed or a carriage return, `-`, `=`
pub record Inner (c : ℕ) : Type 0 where
  pub high : 42 < c
  pub no_dash : c ≡ 45 → ⊥
  pub no_pad : c ≡ 61 → ⊥

inner : ℕ → Bool
inner c = ltb 42 c && (cond (eqb c 45) false true && cond (eqb c 61) false true)

sign_test : ℕ → ℕ → Bool
sign_test v c = eqb (value_of c) v && inner c

all_signs_lem : every sign_test 0 signs ≡ true
unfolding sign_test inner value_of signs
all_signs_lem = refl

signs-length : (v : ℕ) → v < 64 → v < length signs
unfolding signs
signs-length v h = h

not_this : (c n : ℕ) → cond (eqb c n) false true ≡ true → c ≡ n → ⊥
not_this c n t e = false≢true (rw (eq-eqb c n e) at t)

pub value_sign : (v : ℕ) → v < 64 → (value_of (sign_of v) ≡ v) × Inner (sign_of v)
unfolding sign_test inner sign_of
value_sign v h =
    let c : ℕ = get_or signs v 0 in
    let t = both_true _ _ (at sign_test signs all_signs_lem v (signs-length v h)) in
    let s = both_true _ _ t.1 in
    let u = both_true _ _ s.1 in
    (eqb-true _ _ t.0, record { high = ltb-true _ _ s.0; no_dash = not_this c 45 u.0; no_pad = not_this c 61 u.1 })

-- ---- of all bytes: the ranges are those of the signs, and the sign of a value is the byte again

unfoldable pub in_ranges : ℕ → Bool
in_ranges c = ((((leb 65 c && leb c 90) || (leb 97 c && leb c 122)) || (leb 48 c && leb c 57)) || eqb c 43) || eqb c 47

abbrev alike : Bool → Bool → Bool
alike true b = b
alike false b = cond b false true

alike_is : (a b : Bool) → alike a b ≡ true → a ≡ b
alike_is true b e = sym e
alike_is false true e = e
alike_is false false e = refl

range_test : ℕ → ℕ → Bool
range_test c v = alike (in_ranges c) (ltb v 64)

back_test : ℕ → ℕ → Bool
back_test c v = cond (ltb v 64) (eqb (sign_of v) c) true

all_ranges : every range_test 0 values ≡ true
unfolding range_test in_ranges values value_of signs
all_ranges = refl

all_back : every back_test 0 values ≡ true
unfolding back_test values value_of sign_of signs
all_back = refl

pub values_length : length values ≡ 256
unfolding values
values_length = refl

from_at : (k c i : ℕ) → i < k → get_or (values_from c k) i 0 ≡ value_of (c + i)
from_at zero c i h = absurd (omega arith)
from_at (suc k) c zero h = rw (add-zero c)
from_at (suc k) c (suc i) h = rw (add-suc c i, ← suc-add c i) (from_at k (suc c) i (omega arith))

module _ (c : ℕ) (h : c < 256) where
  within : c < length values
  within = rw values_length h

  pub values_are : get_or values c 0 ≡ value_of c
  unfolding values
  values_are = rw (zero-add c) at (from_at 256 0 c h)

  pub ranges_are : in_ranges c ≡ is_sign c
  unfolding range_test is_sign
  ranges_are = alike_is (in_ranges c) (ltb (value_of c) 64) (rw values_are at (at range_test values all_ranges c within))

  pub sign_value : value_of c < 64 → sign_of (value_of c) ≡ c
  unfolding back_test
  sign_value k = eqb-true (sign_of (value_of c)) c (rw (values_are, lt-ltb _ _ k) at (at back_test values all_back c within))

  -- as it is looked up
  pub value_at : (table : List ℕ) → table ≡ values → get_or table c 0 ≡ value_of c
  value_at table e = rw e values_are
