-- Reading loosely what was encoded gives the bytes back, and whatever is read loosely are bytes. Rests on the alphabet's rule and on the
-- arithmetic of 24 bits.
use Rattle.std.specs.Prelude.{ℕ, zero, suc, ◌/◌, ◌%◌, ◌<◌, ◌≡◌, refl, Bool, true, false, cond, List, [], ◌∷◌, ◌++◌, eqb, take}
use Rattle.std.proofs.Common.{arith, ap, ◌∙◌, ne_eqb}
use Rattle.fields.specs.Bytes.{AllBytes}
use Rattle.armour_signs.specs.Alphabet.{sign_of, value_of}
use Rattle.armour_signs.specs.Rule.{Inner, value_sign}
use Rattle.armour_text.specs.Base64.{pad, bits_of_bytes, bits_of_values, bytes_of_bits, bytes_of_signs, encode, loosely}
use Rattle.armour_text.specs.Groups.{groups_of, bytes_of}

-- ---- the signs of 24 bits

module _ (n : ℕ) where
  pub sign_0 : (value_of (sign_of (n / 262144 % 64)) ≡ n / 262144 % 64) × Inner (sign_of (n / 262144 % 64))
  sign_0 = value_sign (n / 262144 % 64) (omega arith)

  pub sign_1 : (value_of (sign_of (n / 4096 % 64)) ≡ n / 4096 % 64) × Inner (sign_of (n / 4096 % 64))
  sign_1 = value_sign (n / 4096 % 64) (omega arith)

  pub sign_2 : (value_of (sign_of (n / 64 % 64)) ≡ n / 64 % 64) × Inner (sign_of (n / 64 % 64))
  sign_2 = value_sign (n / 64 % 64) (omega arith)

  pub sign_3 : (value_of (sign_of (n % 64)) ≡ n % 64) × Inner (sign_of (n % 64))
  sign_3 = value_sign (n % 64) (omega arith)

  module _ (h : n < 16777216) where
    pub three_back : bytes_of_signs (sign_of (n / 262144 % 64)) (sign_of (n / 4096 % 64)) (sign_of (n / 64 % 64)) (sign_of (n % 64)) ≡ bytes_of_bits n
    three_back =
        rw (ne_eqb _ _ sign_2.1.no_pad, ne_eqb _ _ sign_3.1.no_pad, sign_0.0, sign_1.0, sign_2.0, sign_3.0, groups_of n h)

    pub two_back :
        n % 64 ≡ 0 → bytes_of_signs (sign_of (n / 262144 % 64)) (sign_of (n / 4096 % 64)) (sign_of (n / 64 % 64)) pad ≡ take 2 (bytes_of_bits n)
    two_back e =
        let f : bits_of_values (n / 262144 % 64) (n / 4096 % 64) (n / 64 % 64) 0 ≡ n = rw e at (groups_of n h) in
        rw (ne_eqb _ _ sign_2.1.no_pad, sign_0.0, sign_1.0, sign_2.0, f)

    pub one_back :
        n % 64 ≡ 0 → n / 64 % 64 ≡ 0 → bytes_of_signs (sign_of (n / 262144 % 64)) (sign_of (n / 4096 % 64)) pad pad ≡ take 1 (bytes_of_bits n)
    one_back e g =
        let f : bits_of_values (n / 262144 % 64) (n / 4096 % 64) 0 0 ≡ n = rw (e, g) at (groups_of n h) in
        rw (sign_0.0, sign_1.0, f)

-- ---- all bytes

pub loosely-encode : (b : List ℕ) → AllBytes b → loosely (encode b) ≡ b
unfolding encode loosely
loosely-encode [] h = refl
loosely-encode (a ∷ []) h =
    let n : ℕ = bits_of_bytes a 0 0 in
    let k : a < 256 = h 0 in
    rw (one_back n (omega arith) (omega arith) (omega arith)) (ap (take 1) (bytes_of a 0 0 k (omega arith) (omega arith)))
loosely-encode (a ∷ b ∷ []) h =
    let n : ℕ = bits_of_bytes a b 0 in
    let k : a < 256 = h 0 in
    let l : b < 256 = h 1 in
    rw (two_back n (omega arith) (omega arith)) (ap (take 2) (bytes_of a b 0 k l (omega arith)))
loosely-encode (a ∷ b ∷ c ∷ more) h =
    let n : ℕ = bits_of_bytes a b c in
    let k : a < 256 = h 0 in
    let l : b < 256 = h 1 in
    let m : c < 256 = h 2 in
    ap (λ (l : List ℕ). l ++ loosely (encode more)) (three_back n (omega arith) ∙ bytes_of a b c k l m)
    ∙ ap (λ (r : List ℕ). a ∷ b ∷ c ∷ r) (loosely-encode more (λ i. h (suc (suc (suc i)))))

-- ---- bytes are read

pub append_bytes : (a b : List ℕ) → AllBytes a → AllBytes b → AllBytes (a ++ b)
append_bytes [] b h k i = k i
append_bytes (x ∷ a) b h k zero = h 0
append_bytes (x ∷ a) b h k (suc i) = append_bytes a b (λ j. h (suc j)) k i

no_bytes : AllBytes []
no_bytes i = omega arith

bits_bytes : (n : ℕ) → AllBytes (bytes_of_bits n)
bits_bytes n zero = omega arith
bits_bytes n (suc zero) = omega arith
bits_bytes n (suc (suc zero)) = omega arith
bits_bytes n (suc (suc (suc i))) = omega arith

two_bytes : (n : ℕ) → AllBytes (take 2 (bytes_of_bits n))
two_bytes n zero = omega arith
two_bytes n (suc zero) = omega arith
two_bytes n (suc (suc i)) = omega arith

one_byte : (n : ℕ) → AllBytes (take 1 (bytes_of_bits n))
one_byte n zero = omega arith
one_byte n (suc i) = omega arith

pub signs_bytes : (w x y z : ℕ) → AllBytes (bytes_of_signs w x y z)
signs_bytes w x y z = go (eqb y pad) (eqb z pad)
  where
    go : (p q : Bool) → AllBytes (cond p (take 1 (bytes_of_bits (bits_of_values (value_of w) (value_of x) 0 0)))
        (cond q (take 2 (bytes_of_bits (bits_of_values (value_of w) (value_of x) (value_of y) 0)))
        (bytes_of_bits (bits_of_values (value_of w) (value_of x) (value_of y) (value_of z)))))
    go true q = one_byte _
    go false true = two_bytes _
    go false false = bits_bytes _

pub loosely_bytes : (s : List ℕ) → AllBytes (loosely s)
unfolding loosely
loosely_bytes [] = no_bytes
loosely_bytes (w ∷ []) = no_bytes
loosely_bytes (w ∷ x ∷ []) = no_bytes
loosely_bytes (w ∷ x ∷ y ∷ []) = no_bytes
loosely_bytes (w ∷ x ∷ y ∷ z ∷ more) = append_bytes (bytes_of_signs w x y z) (loosely more) (signs_bytes w x y z) (loosely_bytes more)
