-- How many bytes four signs give: three, or two before one `=`, or one before two, with no stray bits; and none where they are not the
-- signs of some bytes.
use Prim.Native.Nat.{ℕ, ◌%◌}
use Rattle.std.specs.Prelude.{Option, Some, None, Bool, ◌&&◌, [], ◌∷◌, eqb, ltb}
use Rattle.std.proofs.Math.Bool.{cond}
use Rattle.std.proofs.Math.ListN.{length}
use Rattle.fields.specs.Bytes.{same_bytes}
use Rattle.armour_text.specs.Base64.{bytes_of_signs, encode}

unfoldable pub kind_of : ℕ → ℕ → ℕ → ℕ → ℕ
kind_of w x y z = cond (same_bytes (encode (bytes_of_signs w x y z)) (w ∷ x ∷ y ∷ z ∷ [])) (length (bytes_of_signs w x y z)) 0

-- as an answer: there are some, or none
unfoldable pub counted : ℕ → Option ℕ
counted n = cond (eqb n 0) None (Some n)

-- ---- what the values must be

abbrev pub one_of : ℕ → ℕ → Bool
one_of w x = ltb w 64 && (ltb x 64 && eqb (x % 16) 0)

abbrev pub two_of : ℕ → ℕ → ℕ → Bool
two_of w x y = ltb w 64 && (ltb x 64 && (ltb y 64 && eqb (y % 4) 0))

abbrev pub three_of : ℕ → ℕ → ℕ → ℕ → Bool
three_of w x y z = ltb w 64 && (ltb x 64 && (ltb y 64 && ltb z 64))
