-- docs/RULES.md, 10.1, 10.4 and 10.9: key material for a new image, and its checkint.
--
-- Key material for a new image is one value with room for 133 public and 66 private bytes and their lengths. The checkint is the
-- given one, or, where none is given, the xor of the big-endian 4-byte groups of the private bytes (seed or SIZE bytes), a shorter
-- rest ignored. The scalar of a record has no leading zeros, and is filled with zeros in front for its material.
use Rattle.std.specs.Prelude.{ℕ, ◌-◌, List, [], ◌∷◌, length, Option, Some, None}
use Rattle.std.specs.Int.Bits.{bit_xor}
use Rattle.fields.specs.Fields.{part, number4, view_of}
use Rattle.buffer.specs.Puts.{placed, zeros}
use Rattle.names.specs.declared.Elliptic.{Elliptic}
use Rattle.names.specs.declared.Elliptic.TheVariants.{Ed25519, Ecdsa}
use Rattle.names.specs.Algorithms.{size_of}
use Rattle.key_material.specs.declared.Material.{Material}

-- the public and the private bytes; a length above the room holds none
unfoldable pub public_of : Material → List ℕ
public_of m = view_of m.public (part 0 m.public_length)

unfoldable pub private_of : Material → List ℕ
private_of m = view_of m.private (part 0 m.private_length)

-- x, xored with the big-endian groups of 4 bytes; a shorter rest is ignored
unfoldable pub mixed : ℕ → List ℕ → ℕ
mixed x (a ∷ b ∷ c ∷ d ∷ more) = mixed (bit_xor x (number4 a b c d)) more
mixed x (a ∷ b ∷ c ∷ []) = x
mixed x (a ∷ b ∷ []) = x
mixed x (a ∷ []) = x
mixed x [] = x

unfoldable pub derived_checkint : List ℕ → ℕ
derived_checkint private = mixed 0 private

-- the given one, or, where none is given, the derived
abbrev pub checkint_of : Option ℕ → List ℕ → ℕ
checkint_of (Some n) private = n
checkint_of None private = derived_checkint private

-- the bytes and zeros up to k; only zeros where they don't fit
unfoldable pub padded : ℕ → List ℕ → List ℕ
padded k bytes = placed (zeros k) 0 bytes

-- the zeros that a scalar lacks in front to have SIZE bytes; a seed lacks none
unfoldable pub zeros_missing : Elliptic → List ℕ → ℕ
zeros_missing Ed25519 seed = 0
zeros_missing (Ecdsa curve) scalar = size_of curve - length scalar

-- the value that holds an algorithm's public and private bytes
unfoldable pub material_of : Elliptic → List ℕ → List ℕ → Material
material_of a public private =
    record {
      algorithm = a;
      public = padded 133 public;
      public_length = length public;
      private = padded 66 private;
      private_length = length private;
    }
