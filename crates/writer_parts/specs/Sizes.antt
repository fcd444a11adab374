-- Lengths added up without a sum that wraps: a sum stops at 2^63, which no slice's length reaches.
use Rattle.std.specs.Prelude.{ℕ, ◌+◌, ◌-◌, ◌≤◌, ◌<◌, ◌^◌, ◌≡◌, true, false, cond, List, ltb, leb, length}
use Rattle.std.proofs.Common.{arith, sym, ◌∙◌, ap, le-leb, lt-ltb, le-ltb, ltb-true, ltb-false, leb-true, leb-false}
use Rattle.std.proofs.lemmas.Bool.{lt-leb}
use Rattle.fields.specs.Place.{by_bool}
use Rattle.buffer.specs.Puts.{IsPut, no_put}

-- a length, or 2^63 where it is as much or more
unfoldable pub capped : ℕ → ℕ
capped n = cond (ltb n (2 ^ 63)) n (2 ^ 63)

-- ---- laws

pub capped_small : (n : ℕ) → n < 2 ^ 63 → capped n ≡ n
unfolding capped
capped_small n h = rw (lt-ltb n (2 ^ 63) h)

pub capped_large : (n : ℕ) → 2 ^ 63 ≤ n → capped n ≡ 2 ^ 63
unfolding capped
capped_large n h = rw (le-ltb n (2 ^ 63) h)

-- it is no more than the length, and the length itself where it is below 2^63
pub capped_le : (n : ℕ) → capped n ≤ n
capped_le n =
    by_bool (ltb n (2 ^ 63))
    (λ w. omega (arith, capped_small n (ltb-true n (2 ^ 63) w)))
    (λ w. omega (arith, capped_large n (ltb-false n (2 ^ 63) w), ltb-false n (2 ^ 63) w))

pub capped_under : (n : ℕ) → capped n < 2 ^ 63 → capped n ≡ n
capped_under n h =
    by_bool (ltb n (2 ^ 63))
    (λ w. capped_small n (ltb-true n (2 ^ 63) w))
    (λ w. absurd (omega (arith, capped_large n (ltb-false n (2 ^ 63) w), h)))

pub capped_again : (n : ℕ) → capped (capped n) ≡ capped n
capped_again n =
    by_bool (ltb n (2 ^ 63))
    (λ w. ap capped (capped_small n (ltb-true n (2 ^ 63) w)))
    (λ w. capped_large (capped n) (omega (arith, capped_large n (ltb-false n (2 ^ 63) w))) ∙ sym (capped_large n (ltb-false n (2 ^ 63) w)))

-- a sum of what was capped
pub capped_sum : (a b : ℕ) → capped (capped a + b) ≡ capped (a + b)
capped_sum a b =
    by_bool (ltb a (2 ^ 63))
    (λ w. ap (λ (n : ℕ). capped (n + b)) (capped_small a (ltb-true a (2 ^ 63) w)))
    (λ w.
    let long = ltb-false a (2 ^ 63) w in
    ap (λ (n : ℕ). capped (n + b)) (capped_large a long) ∙ capped_large (2 ^ 63 + b) (omega arith)
    ∙ sym (capped_large (a + b) (omega (arith, long))))

pub capped_sum_last : (a b : ℕ) → capped (a + capped b) ≡ capped (a + b)
capped_sum_last a b =
    let turned : a + capped b ≡ capped b + a = omega arith in
    let back : b + a ≡ a + b = omega arith in
    ap capped turned ∙ capped_sum b a ∙ ap capped back

-- what is above a limit once it is capped is so itself, and what isn't was measured exactly
pub capped_above : (r n most : ℕ) → r ≡ capped n → most < r → most < n
capped_above r n most e h = omega (arith, e, h, capped_le n)

pub capped_exact : (r n most : ℕ) → r ≡ capped n → r ≤ most → most < 2 ^ 63 → r ≡ n
capped_exact r n most e h k = e ∙ capped_under n (omega (arith, e, h, k))

-- ---- whether there is room

-- within what is left from a place on
pub leb_left : (n at need : ℕ) → at ≤ n → leb need (n - at) ≡ leb (at + need) n
leb_left n at need h =
    by_bool (leb need (n - at))
    (λ w. rw (w, le-leb (at + need) n (omega (arith, leb-true need (n - at) w))))
    (λ w. rw (w, lt-leb (at + need) n (omega (arith, leb-false need (n - at) w))))

module _ (old : List ℕ) (at need : ℕ) (new : List ℕ) (short : length old < 2 ^ 63) (e : need ≡ capped (length new)) where
  -- where a capped length doesn't fit, nothing is put
  pub not_put : leb (at + need) (length old) ≡ false → IsPut old at new at old
  not_put w = no_put old at new (omega (arith, leb-false (at + need) (length old) w, capped_le (length new), e))

  -- where it fits, it is the length
  pub room_for : leb (at + need) (length old) ≡ true → at + length new ≤ length old
  room_for w =
      let fit = leb-true (at + need) (length old) w in
      omega (arith, fit, capped_under (length new) (omega (arith, fit, short, e)), e)
