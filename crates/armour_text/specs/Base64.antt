-- docs/RULES.md, 14.1. RFC 4648, section 4: the encoding represents 24-bit groups of input bits as output strings of 4 encoded characters. A 24-bit input
-- group is formed by concatenating three 8-bit input groups; these 24 bits are then treated as four concatenated 6-bit groups, each of
-- which is translated into a single character of the base64 alphabet. When fewer than 24 input bits are available, bits with value zero
-- are added on the right, and padding is performed using `=`: with 8 bits left there are two characters and two `=`, with 16 bits three
-- characters and one `=`.
use Rattle.std.specs.Prelude.{ℕ, ◌+◌, ◌*◌, ◌/◌, ◌%◌, cond, List, [], ◌∷◌, ◌++◌, eqb, take}
use Rattle.armour_signs.specs.Alphabet.{sign_of, value_of}

-- `=`
abbrev pub pad : ℕ
pad = 61

-- three bytes as 24 bits, the first the highest
abbrev pub bits_of_bytes : ℕ → ℕ → ℕ → ℕ
bits_of_bytes a b c = (a * 256 + b) * 256 + c

-- the signs of the four groups of 6 bits
abbrev pub signs_of_bits : ℕ → List ℕ
signs_of_bits n = sign_of (n / 262144 % 64) ∷ sign_of (n / 4096 % 64) ∷ sign_of (n / 64 % 64) ∷ sign_of (n % 64) ∷ []

unfoldable pub encode : List ℕ → List ℕ
encode [] = []
encode (a ∷ []) = take 2 (signs_of_bits (bits_of_bytes a 0 0)) ++ pad ∷ pad ∷ []
encode (a ∷ b ∷ []) = take 3 (signs_of_bits (bits_of_bytes a b 0)) ++ pad ∷ []
encode (a ∷ b ∷ c ∷ more) = signs_of_bits (bits_of_bytes a b c) ++ encode more

-- ---- the other way, without a look at what else there is: import takes a text only where what was read so gives the text again

-- four values as 24 bits
abbrev pub bits_of_values : ℕ → ℕ → ℕ → ℕ → ℕ
bits_of_values w x y z = ((w * 64 + x) * 64 + y) * 64 + z

abbrev pub bytes_of_bits : ℕ → List ℕ
bytes_of_bits n = n / 65536 % 256 ∷ n / 256 % 256 ∷ n % 256 ∷ []

-- the bytes of four signs: one before two `=`, two before one, or three
abbrev pub bytes_of_signs : ℕ → ℕ → ℕ → ℕ → List ℕ
bytes_of_signs w x y z =
    cond (eqb y pad) (take 1 (bytes_of_bits (bits_of_values (value_of w) (value_of x) 0 0)))
    (cond (eqb z pad) (take 2 (bytes_of_bits (bits_of_values (value_of w) (value_of x) (value_of y) 0)))
    (bytes_of_bits (bits_of_values (value_of w) (value_of x) (value_of y) (value_of z))))

-- of all signs, four by four
unfoldable pub loosely : List ℕ → List ℕ
loosely (w ∷ x ∷ y ∷ z ∷ more) = bytes_of_signs w x y z ++ loosely more
loosely [] = []
loosely (w ∷ []) = []
loosely (w ∷ x ∷ []) = []
loosely (w ∷ x ∷ y ∷ []) = []
