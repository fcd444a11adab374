-- docs/RULES.md, 7.5: where a scalar and a keypair refuse. The place lies in what is read, or at its end.
use Rattle.std.specs.Prelude.{ℕ, ◌+◌, List, eqb, ltb, Ok, Err}
use Rattle.std.proofs.Common.{arith, ltb-true}
use Rattle.fields.specs.Bytes.{same_bytes}
use Rattle.fields.specs.Fields.{part, string_at, fixed_at, view_of, Read}
use Rattle.fields.specs.Place.{by_read, by_bool, string_place}
use Rattle.fields.specs.Rest.{Good}
use Rattle.fields.specs.declared.Cursor.{Cursor}
use Rattle.names.specs.declared.Elliptic.TheVariants.{Ed25519, Ecdsa}
use Rattle.names.specs.declared.Algorithm.{Algorithm}
use Rattle.names.specs.declared.Algorithm.TheVariants.{Elliptic as OnCurve, Rsa}
use Rattle.names.specs.declared.Curve.{Curve}
use Rattle.names.specs.Algorithms.{algorithm_named, size_of, same_algorithm}
use Rattle.key_rsa.specs.Rsa.{rsa_pair_at}
use Rattle.key_public.specs.Keys.{on_algorithm, ecdsa_public_at}
use Rattle.key_pairs.specs.Pairs.{is_scalar, scalar_at, ed25519_pair_at, ecdsa_pair_at, elliptic_pair_at, rsa_keypair_at, keypair_at}
use Rattle.laws_keys.specs.Read.{by_algorithm, by_ecdsa}
use Rattle.laws_keys.specs.ReadPair.{by_rsa_pair}
use Rattle.laws_fields.specs.Fields.{Lies, After, FieldLies, lies_after, after-after, good_after, string_lies, fixed_lies}
use Rattle.laws_fields.specs.Numbers.{rsa_pair_lies}
use Rattle.laws_fields.specs.Keys.{ecdsa_public_lies}
use Rattle.key_public.specs.declared.Public.{Public}
use Rattle.key_pairs.specs.declared.Private.{Private}

-- refused, where the refusal is; read, where the next place is
abbrev pub PairLies : Cursor → Read (Algorithm × Public × Private) → Type 0
PairLies c (Err f) = Lies c f
PairLies c (Ok ((a, p, x), d)) = After c d

scalar_lies : (s : List ℕ) (c : Cursor) (size : ℕ) → Good s c → FieldLies c (scalar_at s c size)
unfolding scalar_at
scalar_lies s c size good =
    by_read (string_at s c)
    (λ f w. rw w (rw w at (string_lies s c good)))
    (λ p d w.
    rw w
    (by_bool (eqb p.length 0)
    (λ v. rw v (omega (arith, good)))
    (λ v.
    rw v
    (by_bool (ltb (size + 1) p.length)
    (λ u. rw u (omega (arith, ltb-true (size + 1) p.length u, (string_place s c p d w).placed)))
    (λ u.
    rw u
    (by_bool (is_scalar size (view_of s p))
    (λ t. rw t (rw w at (string_lies s c good)))
    (λ t. rw t (omega (arith, good)))))))))

ed25519_pair_lies : (s : List ℕ) (c : Cursor) → Good s c → PairLies c (ed25519_pair_at s c)
unfolding ed25519_pair_at
ed25519_pair_lies s c good =
    by_read (fixed_at s c 32)
    (λ f w. rw w (rw w at (fixed_lies s c 32 good)))
    (λ point d w.
    let a = rw w at (fixed_lies s c 32 good) in
    let next = fixed_lies s d 64 (good_after s c d good a) in
    rw w
    (by_read (fixed_at s d 64)
    (λ f v. rw v (lies_after c d f a (rw v at next)))
    (λ both e v.
    rw v
    (by_bool (same_bytes (view_of s (part (both.start + 32) 32)) (view_of s point))
    (λ u. rw u (after-after c d e a (rw v at next)))
    (λ u. rw u (omega (arith, good, a)))))))

ecdsa_pair_lies : (s : List ℕ) (c : Cursor) (named : Curve) → Good s c → PairLies c (ecdsa_pair_at s c named)
unfolding ecdsa_pair_at
ecdsa_pair_lies s c named good =
    by_ecdsa (ecdsa_public_at s c)
    (λ f w. rw w (rw w at (ecdsa_public_lies s c good)))
    (λ k point d w.
    let a = rw w at (ecdsa_public_lies s c good) in
    let next = scalar_lies s d (size_of k) (good_after s c d good a) in
    rw w
    (by_read (scalar_at s d (size_of k))
    (λ f v. rw v (lies_after c d f a (rw v at next)))
    (λ scalar e v.
    rw v
    (by_bool (same_algorithm (OnCurve (Ecdsa k)) (OnCurve (Ecdsa named)))
    (λ u. rw u (after-after c d e a (rw v at next)))
    (λ u. rw u (omega (arith, good)))))))

-- the fields that a name asks for
named_pair_lies : (s : List ℕ) (c : Cursor) (a : Algorithm) → Good s c → PairLies c (on_algorithm a (elliptic_pair_at s c) (rsa_keypair_at s c))
unfolding elliptic_pair_at rsa_keypair_at
named_pair_lies s c (OnCurve Ed25519) good = ed25519_pair_lies s c good
named_pair_lies s c (OnCurve (Ecdsa k)) good = ecdsa_pair_lies s c k good
named_pair_lies s c Rsa good =
    by_rsa_pair (rsa_pair_at s c)
    (λ f w. rw w (rw w at (rsa_pair_lies s c good)))
    (λ x k d w. rw w (rw w at (rsa_pair_lies s c good)))

pub keypair_lies : (s : List ℕ) (c : Cursor) → Good s c → PairLies c (keypair_at s c)
unfolding keypair_at
keypair_lies s c good =
    by_read (string_at s c)
    (λ f w. rw w (rw w at (string_lies s c good)))
    (λ name d w.
    let a = rw w at (string_lies s c good) in
    rw w
    (by_algorithm (algorithm_named (view_of s name))
    (λ v. rw v (omega (arith, good)))
    (λ j v. rw v (moved_on d a (on_algorithm j (elliptic_pair_at s d) (rsa_keypair_at s d)) (named_pair_lies s d j (good_after s c d good a))))))
  where
    moved_on : (d : Cursor) → After c d → (r : Read (Algorithm × Public × Private)) → PairLies d r → PairLies c r
    moved_on d a (Err f) l = lies_after c d f a l
    moved_on d a (Ok ((j, p, x), e)) l = after-after c d e a l
