-- RFC 4251, section 5, mpint: 'multiple precision integers in two's complement format, stored as a string, 8 bits per byte, MSB first.
-- Negative numbers have the value 1 as the most significant bit of the first byte of the data partition. If the most significant bit would
-- be set for a positive number, the number MUST be preceded by a zero byte. Unnecessary leading bytes with the value 0 or 255 MUST NOT be
-- included. The value zero MUST be stored as a string with zero bytes of data.'
--
-- docs/RULES.md, 3.5: an mpint here must be positive and minimal; an empty, negative or non-minimal one is 2 where it is read. 6.7 and 6.8: the
-- modulus has 1,024 to 8,192 bits, every other number at most as many as that modulus; bits of a number are those without leading zero bits.
-- 9.1 has a scalar's bytes without leading zeros.
use Rattle.std.specs.Prelude.{ℕ, zero, suc, ◌+◌, ◌-◌, ◌*◌, Bool, false, cond, ◌&&◌, not, List, [], ◌∷◌, eqb, ltb, leb, length, drop, get_or, Ok, Err, Option, Some, None}
use Rattle.std.specs.Int.Count.{count_leading_zeros}
use Rattle.fields.specs.Fields.{fault, on_read, string_at, view_of, Read}
use Rattle.fields.specs.declared.Cursor.{Cursor}
use Rattle.fields.specs.declared.Refusal.TheVariants.{FormatEncoding}
use Rattle.fields.specs.declared.Part.{Part}

-- the number that bytes stand for, the first the highest
unfoldable pub value_from : ℕ → List ℕ → ℕ
value_from n [] = n
value_from n (x ∷ b) = value_from (256 * n + x) b

unfoldable pub value : List ℕ → ℕ
value b = value_from 0 b

-- positive and minimal: some bytes, the most significant bit not set, and no zero before a byte that could stand first
unfoldable pub is_mpint : List ℕ → Bool
is_mpint [] = false
is_mpint (x ∷ []) = not (eqb x 0) && ltb x 0x80
is_mpint (x ∷ y ∷ b) = cond (eqb x 0) (leb 0x80 y) (ltb x 0x80)

-- an empty, negative or non-minimal one: 2, at its field
unfoldable pub mpint_at : List ℕ → Cursor → Read Part
mpint_at s c =
    on_read (string_at s c) Err (λ p d.
    cond (is_mpint (view_of s p)) (Ok (p, d)) (Err (fault FormatEncoding c.at)))

-- the zero bytes before the first byte that isn't zero
unfoldable pub zeros_before : List ℕ → ℕ
zeros_before [] = 0
zeros_before (zero ∷ b) = suc (zeros_before b)
zeros_before (suc x ∷ b) = 0

-- the bytes from there on, and how many they are
unfoldable pub significant : List ℕ → List ℕ
significant b = drop (zeros_before b) b

abbrev pub remaining : List ℕ → ℕ
remaining b = length b - zeros_before b

-- bits without leading zero bits: the leading zeros of the first byte that isn't zero, taken from eight times the remaining length
unfoldable pub bits : List ℕ → ℕ
bits b = 8 * remaining b - count_leading_zeros 8 (get_or b (zeros_before b) 0)

-- at most as many bits as another
unfoldable pub at_most : List ℕ → List ℕ → Bool
at_most x y = leb (bits x) (bits y)

-- the modulus has 1,024 to 8,192 bits
abbrev pub modulus_fits : List ℕ → Bool
modulus_fits b = leb 1024 (bits b) && leb (bits b) 8192

unfoldable pub modulus_size : List ℕ → Option ℕ
modulus_size b = cond (modulus_fits b) (Some (bits b)) None

abbrev pub on_size : {R : Type 0} → Option ℕ → R → (ℕ → R) → R
on_size None outside inside = outside
on_size (Some n) outside inside = inside n
