-- The parts of a key as they are lent: its algorithm, its public and its private bytes.
use Rattle.std.specs.Prelude.{Bool, true, false}
use Rattle.names.specs.declared.Algorithm.{Algorithm}
use Rattle.names.specs.declared.Algorithm.TheVariants.{Elliptic as OnCurve, Rsa as IsRsa}
use Rattle.format.specs.Format.{PublicBytes, PrivateBytes, of_point, of_scalar, filled}
use Rattle.writer_numbers.specs.Numbers.{public_numbers, private_numbers}
use Rattle.writer_plain.specs.declared.KeyParts.{KeyParts}
use Rattle.writer_plain.specs.declared.KeyParts.TheVariants.{Curve, Rsa}

abbrev pub lent_algorithm : KeyParts → Algorithm
lent_algorithm (Curve algorithm point scalar) = OnCurve algorithm
lent_algorithm (Rsa numbers) = IsRsa

abbrev pub lent_public : KeyParts → PublicBytes
lent_public (Curve algorithm point scalar) = of_point point.now
lent_public (Rsa numbers) = public_numbers numbers

abbrev pub lent_private : KeyParts → PrivateBytes
lent_private (Curve algorithm point scalar) = of_scalar scalar.now
lent_private (Rsa numbers) = private_numbers numbers

-- the private bytes as they are taken: filled, or as they are
abbrev pub lent_taken : Bool → KeyParts → PrivateBytes
lent_taken true key = filled (lent_algorithm key) (lent_private key)
lent_taken false key = lent_private key
