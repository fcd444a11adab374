-- Laws of an mpint of any length: reading back, inversion, one spelling for each number, and that its bits are those of its number.
use Rattle.std.specs.Prelude.{ℕ, suc, ◌+◌, ◌-◌, ◌*◌, ◌≤◌, ◌<◌, ◌^◌, ◌≡◌, true, false, List, ◌++◌, ltb, length, get_or, Ok, Err, Some, None}
use Rattle.std.proofs.Common.{le_antisymm, mul-le-mul_right, arith, sym, ◌∙◌, ltb-true, ltb-false, pow-add}
use Rattle.std.proofs.Math.Nat.{one-le-pow, pow-le-pow_right}
use Rattle.std.proofs.Math.Arith.{digits_lt}
use Rattle.std.proofs.lemmas.Nat.{leading_top}
use Rattle.fields.specs.Bytes.{string, AllBytes}
use Rattle.fields.specs.Fields.{string_at, view_of}
use Rattle.fields.specs.Place.{clash, same_read, by_read, by_bool}
use Rattle.fields.specs.Rest.{rest, Good}
use Rattle.fields.specs.Back.{FieldBack, also, string_back}
use Rattle.fields.specs.Read.{StringRead, string_read}
use Rattle.fields.specs.declared.Cursor.{Cursor}
use Rattle.fields.specs.declared.Part.{Part}
use Rattle.mpint.specs.Mpint.{value, is_mpint, mpint_at, zeros_before, remaining, bits, modulus_fits, modulus_size}
use Rattle.mpint.specs.Values.{value_same, value_top, power_256, mpint_bounds}

-- an mpint that stands at a place is read there
pub mpint_back :
    (s : List ℕ) (c : Cursor) → Good s c → (b t : List ℕ) → length b < 2 ^ 32 → is_mpint b ≡ true → rest s c ≡ string b ++ t
    → FieldBack s (mpint_at s c) b t
unfolding mpint_at
mpint_back s c good b t short m e =
    let a = string_back s c good b t short e in
    also a (rw (a.read, a.seen, m))

-- an mpint that was read is the string that stands there
pub mpint_read :
    (s : List ℕ) → AllBytes s → (c : Cursor) (p : Part) (d : Cursor) → mpint_at s c ≡ Ok (p, d)
    → StringRead s c p d × (is_mpint (view_of s p) ≡ true)
unfolding mpint_at
mpint_read s all c p d e =
    by_read (string_at s c)
    (λ f w. let g : Err f ≡ Ok (p, d) = rw w at e in clash cc)
    (λ q x w.
    let g = rw w at e in
    by_bool (is_mpint (view_of s q))
    (λ v.
    let h : Ok (q, x) ≡ Ok (p, d) = rw v at g in
    let i : q ≡ p = (same_read h).0 in
    (string_read s all c p d (w ∙ h), rw i at v))
    (λ v. let h = rw v at g in clash cc))

-- an mpint is a number above zero
pub mpint_positive : (b : List ℕ) → AllBytes b → is_mpint b ≡ true → 0 < value b
mpint_positive b all m = omega (arith, (mpint_bounds b all m).0, one-le-pow (length b - 1) 256 (omega arith))

-- of two mpints of one number, neither is shorter
not_shorter :
    (a b : List ℕ) → AllBytes a → AllBytes b → is_mpint a ≡ true → is_mpint b ≡ true → value a ≡ value b → length b ≤ length a
not_shorter a b all all' m n e =
    by_bool (ltb (length a) (length b))
    (λ w.
    let h = ltb-true (length a) (length b) w in
    let p = pow-le-pow_right {n = 256} (omega arith) {i = length a} {j = length b - 1} (omega arith) in
    absurd (omega (arith, (mpint_bounds a all m).1, (mpint_bounds b all' n).0)))
    (λ w. ltb-false (length a) (length b) w)

-- a number has one spelling
pub mpint_same : (a b : List ℕ) → AllBytes a → AllBytes b → is_mpint a ≡ true → is_mpint b ≡ true → value a ≡ value b → a ≡ b
mpint_same a b all all' m n e =
    value_same a b all all' (le_antisymm (not_shorter b a all' all n m (sym e)) (not_shorter a b all all' m n e)) e

-- the bits are those of the number: the last of so many is set, and none above it
pub bits-value : (b : List ℕ) → AllBytes b → 0 < value b → (2 ^ (bits b - 1) ≤ value b) × (value b < 2 ^ bits b)
unfolding bits
bits-value b all h =
    let t = value_top b all h in
    let k = 8 * (remaining b - 1) in
    let top = leading_top 8 (get_or b (zeros_before b) 0) t.first (all (zeros_before b)) in
    let j = top.0 in
    let n : bits b ≡ suc j + k = omega (arith, t.some, top.1) in
    let m : bits b - 1 ≡ j + k = omega (arith, t.some, top.1) in
    let e : value b ≡ get_or b (zeros_before b) 0 * 2 ^ k + t.less = rw (power_256 (remaining b - 1)) at t.is in
    let less : t.less < 2 ^ k = rw (power_256 (remaining b - 1)) at t.below in
    (rw (m, pow-add 2 j k, e) (omega (arith, mul-le-mul_right (2 ^ k) top.2)), rw (n, pow-add 2 (suc j) k, e) (digits_lt top.3 less))

-- ---- a modulus's size

pub size_fits : (n : List ℕ) → modulus_fits n ≡ true → modulus_size n ≡ Some (bits n)
unfolding modulus_size
size_fits n h = rw h

pub size_inside : (n : List ℕ) (k : ℕ) → modulus_size n ≡ Some k → (modulus_fits n ≡ true) × (k ≡ bits n)
unfolding modulus_size
size_inside n k e =
    by_bool (modulus_fits n)
    (λ w. let g : Some (bits n) ≡ Some k = rw w at e in (w, let o : bits n ≡ k = cc in sym o))
    (λ w. let g = rw w at e in clash cc)

pub size_outside : (n : List ℕ) → modulus_size n ≡ None → modulus_fits n ≡ false
unfolding modulus_size
size_outside n e =
    by_bool (modulus_fits n)
    (λ w. let g : Some (bits n) ≡ None = rw w at e in clash cc)
    (λ w. w)
