-- docs/RULES.md, 4.6, 6.1 to 6.4, 6.6 and 7.2: what reading a public key and a public blob finds, in its order.
use Rattle.std.specs.Prelude.{ℕ, ◌+◌, ◌*◌, List, cond, get_or, eqb, Result, Ok, Err, Option, Some, None}
use Rattle.fields.specs.Fields.{fault, absent, on_read, on_tested, string_at, fixed_at, end_at, view_of, Read}
use Rattle.fields.specs.declared.Cursor.{Cursor}
use Rattle.fields.specs.declared.Fault.{Fault}
use Rattle.fields.specs.declared.Part.{Part}
use Rattle.fields.specs.declared.Refusal.TheVariants.{FormatEncoding, AlgorithmUnknown}
use Rattle.names.specs.declared.Elliptic.{Elliptic}
use Rattle.names.specs.declared.Elliptic.TheVariants.{Ed25519, Ecdsa}
use Rattle.names.specs.declared.Algorithm.{Algorithm}
use Rattle.names.specs.declared.Algorithm.TheVariants.{Elliptic as OnCurve, Rsa}
use Rattle.names.specs.declared.Curve.{Curve}
use Rattle.names.specs.Algorithms.{algorithm_named, curve_named, size_of, same_algorithm}
use Rattle.format.specs.Format.{PublicBytes}
use Rattle.key_rsa.specs.Rsa.{on_rsa_public, rsa_public_at}
use Rattle.key_public.specs.declared.Public.{Public}

-- by what a name is, and by what was read
abbrev pub on_algorithm_name : {R : Type 0} → Option Algorithm → R → (Algorithm → R) → R
on_algorithm_name None unknown known = unknown
on_algorithm_name (Some a) unknown known = known a

abbrev pub on_algorithm : {R : Type 0} → Algorithm → (Elliptic → R) → R → R
on_algorithm (OnCurve named) elliptic rsa = elliptic named
on_algorithm Rsa elliptic rsa = rsa

abbrev pub on_elliptic : {R : Type 0} → Elliptic → R → (Curve → R) → R
on_elliptic Ed25519 ed25519 ecdsa = ed25519
on_elliptic (Ecdsa named) ed25519 ecdsa = ecdsa named

abbrev pub on_curve_name : {R : Type 0} → Option Curve → R → (Curve → R) → R
on_curve_name None unknown known = unknown
on_curve_name (Some k) unknown known = known k

abbrev pub on_ecdsa_public : {R : Type 0} → Read (Curve × Part) → (Fault → R) → (Curve → Part → Cursor → R) → R
on_ecdsa_public (Err f) refused point = refused f
on_ecdsa_public (Ok ((k, p), c)) refused point = point k p c

abbrev pub on_public_key : {R : Type 0} → Read (Algorithm × Public) → (Fault → R) → (Algorithm → Public → Cursor → R) → R
on_public_key (Err f) refused key = refused f
on_public_key (Ok ((a, p), c)) refused key = key a p c

abbrev pub on_blob : {R : Type 0} → Result (Algorithm × Public) Fault → (Fault → R) → (Algorithm → Public → R) → R
on_blob (Err f) refused key = refused f
on_blob (Ok (a, p)) refused key = key a p

-- point string of 1 + 2 SIZE bytes; first byte of a point of the right length not 4: 2, at the point's field
unfoldable pub point_at : List ℕ → Cursor → Curve → Read Part
point_at s c k =
    on_read (fixed_at s c (1 + 2 * size_of k)) Err (λ p d.
    cond (eqb (get_or s p.start 0) 4) (Ok (p, d)) (Err (fault FormatEncoding c.at)))

-- curve string, then point; unknown curve: 4, before the point is read
unfoldable pub ecdsa_public_at : List ℕ → Cursor → Read (Curve × Part)
ecdsa_public_at s c =
    on_read (string_at s c) Err (λ name d.
    on_curve_name (curve_named (view_of s name)) (Err (fault AlgorithmUnknown c.at)) (λ k.
    on_read (point_at s d k) Err (λ point e.
    Ok ((k, point), e))))

-- the places of a public key: what its kind lacks is absent, and only a modulus has bits
unfoldable pub point_place : Part → Public
point_place point = record { point = point; modulus = absent; exponent = absent; bits = 0 }

unfoldable pub modulus_place : Part → Part → ℕ → Public
modulus_place n e k = record { point = absent; modulus = n; exponent = e; bits = k }

-- their bytes
unfoldable pub public_bytes : List ℕ → Public → PublicBytes
public_bytes s key = record { point = view_of s key.point; modulus = view_of s key.modulus; exponent = view_of s key.exponent }

-- in the blob, a curve unlike the name gives 4 after the point, at the curve string
unfoldable pub ecdsa_key_at : List ℕ → Cursor → Curve → Read (Algorithm × Public)
ecdsa_key_at s c named =
    on_ecdsa_public (ecdsa_public_at s c) Err (λ k point d.
    cond (same_algorithm (OnCurve (Ecdsa k)) (OnCurve (Ecdsa named))) (Ok ((OnCurve (Ecdsa named), point_place point), d))
    (Err (fault AlgorithmUnknown c.at)))

-- Ed25519 has a public string of 32
unfoldable pub elliptic_key_at : List ℕ → Cursor → Elliptic → Read (Algorithm × Public)
elliptic_key_at s c named =
    on_elliptic named
    (on_read (fixed_at s c 32) Err (λ point d. Ok ((OnCurve Ed25519, point_place point), d)))
    (ecdsa_key_at s c)

-- RSA has e and n
unfoldable pub rsa_key_at : List ℕ → Cursor → Read (Algorithm × Public)
rsa_key_at s c = on_rsa_public (rsa_public_at s c) Err (λ n e k d. Ok ((Rsa, modulus_place n e k), d))

-- an algorithm name that isn't known: 4, where it is read
unfoldable pub public_key_at : List ℕ → Cursor → Read (Algorithm × Public)
public_key_at s c =
    on_read (string_at s c) Err (λ name d.
    on_algorithm_name (algorithm_named (view_of s name)) (Err (fault AlgorithmUnknown c.at)) (λ a.
    on_algorithm a (elliptic_key_at s d) (rsa_key_at s d)))

-- within the public blob: name, key fields, end, else 6
unfoldable pub blob_at : List ℕ → Cursor → Result (Algorithm × Public) Fault
blob_at s c =
    on_public_key (public_key_at s c) Err (λ a key d.
    on_tested (end_at d) Err
    (Ok (a, key)))
