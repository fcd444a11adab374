-- How long what the format writes is, by the lengths of its parts; that it is so long is said by the laws in proofs/.
use Rattle.std.specs.Prelude.{ℕ, ◌+◌, ◌*◌, ◌≡◌, List, [], ◌∷◌, length}
use Rattle.names.specs.declared.Elliptic.{Elliptic}
use Rattle.names.specs.declared.Elliptic.TheVariants.{Ed25519, Ecdsa}
use Rattle.names.specs.declared.Algorithm.{Algorithm}
use Rattle.names.specs.declared.Algorithm.TheVariants.{Elliptic as OnCurve, Rsa}
use Rattle.names.specs.Algorithms.{size_of}
use Rattle.mpint.specs.Mpint.{significant}
use Rattle.format.specs.Format.{PublicBytes, PrivateBytes, Entry, public_length, LengthAllowed, leading_zero, zero_length}

-- the length of a blob whose point has its algorithm's length
abbrev pub point_blob_length : Elliptic → ℕ
point_blob_length Ed25519 = 51
point_blob_length (Ecdsa curve) = 40 + 2 * size_of curve

-- the length of the private field, of a seed that has its length, or of a scalar
abbrev pub private_field_length : Elliptic → List ℕ → ℕ
private_field_length Ed25519 seed = 68
private_field_length (Ecdsa curve) scalar = 4 + zero_length (leading_zero (significant scalar)) + length (significant scalar)

-- the length of a blob, and of a keypair as the writer writes it
abbrev pub blob_length : Algorithm → PublicBytes → ℕ
blob_length (OnCurve e) key = point_blob_length e
blob_length Rsa key = 19 + length key.exponent + length key.modulus

abbrev pub keypair_length : Algorithm → PublicBytes → PrivateBytes → ℕ
keypair_length (OnCurve e) key x = point_blob_length e + private_field_length e x.scalar
keypair_length Rsa key x =
    35 + length key.modulus + length key.exponent + length x.d + length x.iqmp + length x.p + length x.q

-- of bytes that have their kind's lengths, or can be filled to them
abbrev pub LengthsFit : Algorithm → PublicBytes → PrivateBytes → Type 0
LengthsFit (OnCurve e) key x = (length key.point ≡ public_length e) × LengthAllowed e x.scalar
LengthsFit Rsa key x = Unit {0}

-- the lengths of the blobs' strings, and of the entries
abbrev pub blobs_length : List (List ℕ) → ℕ
blobs_length [] = 0
blobs_length (key ∷ more) = 4 + length key + blobs_length more

abbrev pub entries_length : List Entry → ℕ
entries_length [] = 0
entries_length (e ∷ more) = length e.pair + (4 + length e.comment) + entries_length more

-- of one key, as the writer writes it: the section but for its padding, by what stands before the comment
abbrev pub content_length : Algorithm → PublicBytes → PrivateBytes → ℕ → ℕ
content_length a key x comment = 8 + keypair_length a key x + (4 + comment)
