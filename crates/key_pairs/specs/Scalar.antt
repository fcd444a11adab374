-- A scalar's string, at any size: what its bytes say of zeros, length and place.
use Rattle.std.specs.Prelude.{ℕ, zero, suc, ◌+◌, ◌≤◌, ◌<◌, ◌≡◌, refl, Bool, true, false, ◌||◌, List, ltb, leb, eqb, length, get_or}
use Rattle.std.proofs.Common.{arith, ltb-true, leb-true, leb-false, eqb-true, lt-ltb, le-leb}
use Rattle.fields.specs.Bytes.{both_true}
use Rattle.fields.specs.Fields.{view_of}
use Rattle.fields.specs.Place.{by_bool}
use Rattle.fields.specs.Room.{view_out}
use Rattle.fields.specs.declared.Part.{Part}
use Rattle.mpint.specs.Mpint.{zeros_before, remaining}
use Rattle.mpint.specs.Zeros.{zeros_next}
use Rattle.format.specs.Format.{standing}
use Rattle.format.specs.Scalars.{some_bytes, standing-length, standing_zeros}
use Rattle.key_pairs.specs.Pairs.{is_scalar}

-- it isn't zeros alone
pub scalar_some : (size : ℕ) (b : List ℕ) → is_scalar size b ≡ true → zeros_before b < length b
unfolding is_scalar
scalar_some size b h = ltb-true (zeros_before b) (length b) (both_true (ltb (zeros_before b) (length b)) _ h).0

-- so it is within the image
pub scalar_within : (s : List ℕ) (p : Part) (size : ℕ) → is_scalar size (view_of s p) ≡ true → p.start + p.length ≤ length s
scalar_within s p size h =
    by_bool (leb (p.start + p.length) (length s))
    (λ w. leb-true (p.start + p.length) (length s) w)
    (λ w.
    let none = (view_out s p (leb-false (p.start + p.length) (length s) w)).0 in
    absurd (omega (arith, rw none at (scalar_some size (view_of s p) h))))

-- without its leading zeros it has at most size bytes
pub scalar_short : (size : ℕ) (b : List ℕ) → is_scalar size b ≡ true → length b ≤ size + 1 → remaining b ≤ size
unfolding is_scalar
scalar_short size b h l =
    let some = scalar_some size b h in
    by_bool (leb (length b) size)
    (λ w. omega (arith, leb-true (length b) size w))
    (λ w.
    let zero-first : eqb (get_or b 0 0) 0 ≡ true = rw w at (both_true (ltb (zeros_before b) (length b)) _ h).1 in
    omega (arith, zeros_next b 0 (omega arith) (omega arith) (eqb-true (get_or b 0 0) 0 zero-first)))

-- a scalar after zeros that may stand before it
pub scalar_stands_lem : (size zeros : ℕ) (x : List ℕ) → 0 < get_or x 0 0 → length x ≤ size → zeros + length x ≤ size + 1 → is_scalar size (standing zeros x) ≡ true
unfolding is_scalar
scalar_stands_lem size zeros x first l may =
    let some = some_bytes x first in
    rw (standing_zeros zeros x first, standing-length zeros x, lt-ltb zeros (zeros + length x) (omega arith)) (go zeros)
  where
    or_true : (b : Bool) → (b || true) ≡ true
    or_true true = refl
    or_true false = refl

    go : (z : ℕ) → (leb (z + length x) size || eqb (get_or (standing z x) 0 0) 0) ≡ true
    go zero = rw (le-leb (0 + length x) size (omega arith))
    go (suc n) = or_true (leb (suc n + length x) size)
