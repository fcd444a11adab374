-- docs/RULES.md, 7.5: where a public key and a blob refuse. The place lies in what is read, or at its end.
use Rattle.std.specs.Prelude.{ℕ, ◌+◌, ◌*◌, List, eqb, get_or, Result, Ok, Err}
use Rattle.std.proofs.Common.{arith}
use Rattle.fields.specs.Fields.{string_at, fixed_at, end_at, view_of, Read}
use Rattle.fields.specs.Place.{by_read, by_bool, by_tested}
use Rattle.fields.specs.Rest.{Good}
use Rattle.fields.specs.declared.Cursor.{Cursor}
use Rattle.names.specs.declared.Elliptic.TheVariants.{Ed25519, Ecdsa}
use Rattle.names.specs.declared.Algorithm.{Algorithm}
use Rattle.names.specs.declared.Algorithm.TheVariants.{Elliptic as OnCurve, Rsa}
use Rattle.names.specs.declared.Curve.{Curve}
use Rattle.names.specs.Algorithms.{algorithm_named, curve_named, size_of, same_algorithm}
use Rattle.key_rsa.specs.Rsa.{rsa_public_at}
use Rattle.key_public.specs.Keys.{on_algorithm, point_at, ecdsa_public_at, ecdsa_key_at, elliptic_key_at, rsa_key_at, public_key_at, blob_at}
use Rattle.laws_keys.specs.Read.{by_curve, by_algorithm, by_ecdsa, by_public, by_rsa_public}
use Rattle.laws_fields.specs.Fields.{Lies, After, FieldLies, lies_after, after-after, good_after, string_lies, fixed_lies, end_lies}
use Rattle.laws_fields.specs.Numbers.{rsa_public_lies}
use Rattle.fields.specs.declared.Part.{Part}
use Rattle.fields.specs.declared.Fault.{Fault}
use Rattle.key_public.specs.declared.Public.{Public}

-- of each answer: refused, where the refusal is; read, where the next place is
abbrev pub EcdsaLies : Cursor → Read (Curve × Part) → Type 0
EcdsaLies c (Err f) = Lies c f
EcdsaLies c (Ok ((k, p), d)) = After c d

abbrev PublicLies : Cursor → Read (Algorithm × Public) → Type 0
PublicLies c (Err f) = Lies c f
PublicLies c (Ok ((a, p), d)) = After c d

abbrev pub BlobLies : Cursor → Result (Algorithm × Public) Fault → Type 0
BlobLies c (Err f) = Lies c f
BlobLies c (Ok (a, p)) = Unit {0}

point_lies : (s : List ℕ) (c : Cursor) (k : Curve) → Good s c → FieldLies c (point_at s c k)
unfolding point_at
point_lies s c k good =
    by_read (fixed_at s c (1 + 2 * size_of k))
    (λ f w. rw w (rw w at (fixed_lies s c (1 + 2 * size_of k) good)))
    (λ p d w.
    rw w
    (by_bool (eqb (get_or s p.start 0) 4)
    (λ v. rw v (rw w at (fixed_lies s c (1 + 2 * size_of k) good)))
    (λ v. rw v (omega (arith, good)))))

pub ecdsa_public_lies : (s : List ℕ) (c : Cursor) → Good s c → EcdsaLies c (ecdsa_public_at s c)
unfolding ecdsa_public_at
ecdsa_public_lies s c good =
    by_read (string_at s c)
    (λ f w. rw w (rw w at (string_lies s c good)))
    (λ name d w.
    let a = rw w at (string_lies s c good) in
    rw w
    (by_curve (curve_named (view_of s name))
    (λ v. rw v (omega (arith, good)))
    (λ k v.
    let next = point_lies s d k (good_after s c d good a) in
    rw v
    (by_read (point_at s d k)
    (λ f u. rw u (lies_after c d f a (rw u at next)))
    (λ p e u. rw u (after-after c d e a (rw u at next)))))))

ecdsa_key_lies : (s : List ℕ) (c : Cursor) (named : Curve) → Good s c → PublicLies c (ecdsa_key_at s c named)
unfolding ecdsa_key_at
ecdsa_key_lies s c named good =
    by_ecdsa (ecdsa_public_at s c)
    (λ f w. rw w (rw w at (ecdsa_public_lies s c good)))
    (λ k p d w.
    rw w
    (by_bool (same_algorithm (OnCurve (Ecdsa k)) (OnCurve (Ecdsa named)))
    (λ v. rw v (rw w at (ecdsa_public_lies s c good)))
    (λ v. rw v (omega (arith, good)))))

-- the fields that a name asks for
named_key_lies : (s : List ℕ) (c : Cursor) (a : Algorithm) → Good s c → PublicLies c (on_algorithm a (elliptic_key_at s c) (rsa_key_at s c))
unfolding elliptic_key_at rsa_key_at
named_key_lies s c (OnCurve Ed25519) good =
    by_read (fixed_at s c 32)
    (λ f w. rw w (rw w at (fixed_lies s c 32 good)))
    (λ p d w. rw w (rw w at (fixed_lies s c 32 good)))
named_key_lies s c (OnCurve (Ecdsa k)) good = ecdsa_key_lies s c k good
named_key_lies s c Rsa good =
    by_rsa_public (rsa_public_at s c)
    (λ f w. rw w (rw w at (rsa_public_lies s c good)))
    (λ n e k d w. rw w (rw w at (rsa_public_lies s c good)))

public_key_lies : (s : List ℕ) (c : Cursor) → Good s c → PublicLies c (public_key_at s c)
unfolding public_key_at
public_key_lies s c good =
    by_read (string_at s c)
    (λ f w. rw w (rw w at (string_lies s c good)))
    (λ name d w.
    let a = rw w at (string_lies s c good) in
    rw w
    (by_algorithm (algorithm_named (view_of s name))
    (λ v. rw v (omega (arith, good)))
    (λ j v. rw v (moved_on d a (on_algorithm j (elliptic_key_at s d) (rsa_key_at s d)) (named_key_lies s d j (good_after s c d good a))))))
  where
    moved_on : (d : Cursor) → After c d → (r : Read (Algorithm × Public)) → PublicLies d r → PublicLies c r
    moved_on d a (Err f) l = lies_after c d f a l
    moved_on d a (Ok ((j, p), e)) l = after-after c d e a l

pub blob_lies : (s : List ℕ) (c : Cursor) → Good s c → BlobLies c (blob_at s c)
unfolding blob_at
blob_lies s c good =
    by_public (public_key_at s c)
    (λ f w. rw w (rw w at (public_key_lies s c good)))
    (λ a p d w.
    let moved = rw w at (public_key_lies s c good) in
    rw w
    (by_tested (end_at d)
    (λ f v. rw v (lies_after c d f moved (rw v at (end_lies d))))
    (λ v. rw v tt)))
