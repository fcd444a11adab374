-- The fields of a blob and of a keypair over a curve, as they are put; that they join to these, and how long they are.
use Rattle.std.specs.Prelude.{ℕ, ◌+◌, ◌≡◌, List, [], ◌∷◌, length}
use Rattle.std.proofs.Common.{arith, ◌∙◌, ap, append_assoc, append-nil, length-append}
use Rattle.fields.specs.Bytes.{string, join}
use Rattle.fields.specs.Rest.{length-string}
use Rattle.names.specs.declared.Elliptic.{Elliptic}
use Rattle.names.specs.declared.Elliptic.TheVariants.{Ed25519}
use Rattle.names.specs.declared.Algorithm.TheVariants.{Elliptic as OnCurve}
use Rattle.names.specs.Algorithms.{algorithm_name}
use Rattle.mpint.specs.Mpint.{significant}
use Rattle.format.specs.Format.{PublicBytes, PrivateBytes, of_point, of_scalar, curve_field, blob, private_field, standing, minimal, leading_zero, zero_length, written_scalar, keypair, written_pair}
use Rattle.format.specs.Scalars.{standing-length}

-- the algorithm's name and the curve's
abbrev pub name_fields : Elliptic → List (List ℕ)
name_fields e = string (algorithm_name (OnCurve e)) ∷ curve_field e ∷ []

-- a keypair, as it is put
abbrev pub keypair_fields : Elliptic → ℕ → PublicBytes → PrivateBytes → List (List ℕ)
keypair_fields e zeros key x = blob (OnCurve e) key ∷ private_field e key.point (standing zeros x.scalar) ∷ []

pub keypair_joined :
    (e : Elliptic) (zeros : ℕ) (key : PublicBytes) (x : PrivateBytes) → join (keypair_fields e zeros key x) ≡ keypair (OnCurve e) zeros key x
unfolding blob keypair
keypair_joined e z key x = simp (append_assoc, append-nil)

-- ---- their lengths

pub blob_size :
    (e : Elliptic) (point : List ℕ) → length (blob (OnCurve e) (of_point point)) ≡ length (join (name_fields e)) + 4 + length point
unfolding blob
blob_size e point = simp (length-append, length-string) (omega arith)

-- the length of a minimal scalar
pub minimal_size :
    (scalar : List ℕ) → length (string (minimal scalar)) ≡ 4 + zero_length (leading_zero (significant scalar)) + length (significant scalar)
minimal_size scalar =
    length-string (minimal scalar)
    ∙ ap (λ (n : ℕ). 4 + n) (standing-length (zero_length (leading_zero (significant scalar))) (significant scalar)) ∙ omega arith

-- of a seed and the public string after it
pub seed_size : (point seed : List ℕ) → length (private_field Ed25519 point (written_scalar Ed25519 seed)) ≡ 4 + length seed + length point
seed_size point seed = length-string _ ∙ simp length-append (omega arith)

pub pair_size :
    (e : Elliptic) (point scalar : List ℕ)
    → length (written_pair (OnCurve e) (of_point point) (of_scalar scalar))
    ≡ length (blob (OnCurve e) (of_point point)) + length (private_field e point (written_scalar e scalar))
unfolding keypair blob
pair_size e point scalar = simp length-append (omega arith)
