-- docs/RULES.md, 6, in a section: what reading a scalar and a keypair finds, in its order.
use Rattle.std.specs.Prelude.{ℕ, ◌+◌, ◌-◌, List, Bool, cond, ◌&&◌, ◌||◌, length, get_or, eqb, ltb, leb, Ok, Err}
use Rattle.fields.specs.Bytes.{same_bytes}
use Rattle.fields.specs.Fields.{fault, part, absent, on_read, string_at, fixed_at, view_of, Read}
use Rattle.fields.specs.declared.Cursor.{Cursor}
use Rattle.fields.specs.declared.Fault.{Fault}
use Rattle.fields.specs.declared.Part.{Part}
use Rattle.fields.specs.declared.Refusal.TheVariants.{Length, FormatEncoding, Crypto, AlgorithmUnknown, TrailingData}
use Rattle.names.specs.declared.Elliptic.{Elliptic}
use Rattle.names.specs.declared.Elliptic.TheVariants.{Ed25519, Ecdsa}
use Rattle.names.specs.declared.Algorithm.{Algorithm}
use Rattle.names.specs.declared.Algorithm.TheVariants.{Elliptic as OnCurve, Rsa}
use Rattle.names.specs.declared.Curve.{Curve}
use Rattle.names.specs.Algorithms.{algorithm_named, size_of, same_algorithm}
use Rattle.mpint.specs.Mpint.{zeros_before, remaining}
use Rattle.format.specs.Format.{PrivateBytes}
use Rattle.key_rsa.specs.declared.Six.{Six}
use Rattle.key_rsa.specs.Rsa.{on_rsa_pair, rsa_pair_at}
use Rattle.key_public.specs.declared.Public.{Public}
use Rattle.key_public.specs.Keys.{on_algorithm_name, on_algorithm, on_elliptic, on_ecdsa_public, ecdsa_public_at, point_place, modulus_place}
use Rattle.key_pairs.specs.declared.Private.{Private}

-- by what was read
abbrev pub on_keypair : {R : Type 0} → Read (Algorithm × Public × Private) → (Fault → R) → (Algorithm → Public → Private → Cursor → R) → R
on_keypair (Err f) refused pair = refused f
on_keypair (Ok ((a, p, x), c)) refused pair = pair a p x c

-- what bytes a scalar's string may have: not zeros alone, and of more than size the first is a zero
unfoldable pub is_scalar : ℕ → List ℕ → Bool
is_scalar size b = ltb (zeros_before b) (length b) && (leb (length b) size || eqb (get_or b 0 0) 0)

-- a part without its leading zeros
unfoldable pub significant_part : List ℕ → Part → Part
significant_part s p = part (p.start + zeros_before (view_of s p)) (remaining (view_of s p))

-- a scalar's string has 1 to size bytes, or size + 1 with a zero first. An empty one: 1. A longer one: 6, with the bytes above size, at the
-- first of them. One of zeros, or of size + 1 without a zero first: 2. What is read is the stored part without leading zeros.
unfoldable pub scalar_at : List ℕ → Cursor → ℕ → Read Part
scalar_at s c size =
    on_read (string_at s c) Err (λ p d.
    cond (eqb p.length 0) (Err (fault Length c.at))
    (cond (ltb (size + 1) p.length) (Err (fault (TrailingData (p.length - size)) (c.at + 4 + size)))
    (cond (is_scalar size (view_of s p)) (Ok (significant_part s p, d))
    (Err (fault FormatEncoding c.at)))))

-- the places of the private parts: what its kind lacks is absent
unfoldable pub scalar_place : Part → Private
scalar_place scalar = record { scalar = scalar; d = absent; iqmp = absent; p = absent; q = absent }

unfoldable pub numbers_place : Six → Private
numbers_place x = record { scalar = absent; d = x.d; iqmp = x.iqmp; p = x.p; q = x.q }

-- their bytes
unfoldable pub private_bytes : List ℕ → Private → PrivateBytes
private_bytes s x =
    record {
      scalar = view_of s x.scalar;
      d = view_of s x.d;
      iqmp = view_of s x.iqmp;
      p = view_of s x.p;
      q = view_of s x.q;
    }

-- in a section a string of 64 follows, seed then public; second half unlike the public string: 3, at the string of 64
unfoldable pub ed25519_pair_at : List ℕ → Cursor → Read (Algorithm × Public × Private)
ed25519_pair_at s c =
    on_read (fixed_at s c 32) Err (λ point d.
    on_read (fixed_at s d 64) Err (λ both e.
    cond (same_bytes (view_of s (part (both.start + 32) 32)) (view_of s point))
    (Ok ((OnCurve Ed25519, point_place point, scalar_place (part both.start 32)), e))
    (Err (fault Crypto d.at))))

-- in a section the scalar string follows, of the size that the curve string sets, and the 4 for a curve unlike the name comes
-- after the scalar
unfoldable pub ecdsa_pair_at : List ℕ → Cursor → Curve → Read (Algorithm × Public × Private)
ecdsa_pair_at s c named =
    on_ecdsa_public (ecdsa_public_at s c) Err (λ k point d.
    on_read (scalar_at s d (size_of k)) Err (λ scalar e.
    cond (same_algorithm (OnCurve (Ecdsa k)) (OnCurve (Ecdsa named)))
    (Ok ((OnCurve (Ecdsa named), point_place point, scalar_place scalar), e))
    (Err (fault AlgorithmUnknown c.at))))

unfoldable pub elliptic_pair_at : List ℕ → Cursor → Elliptic → Read (Algorithm × Public × Private)
elliptic_pair_at s c named = on_elliptic named (ed25519_pair_at s c) (ecdsa_pair_at s c)

-- RSA has n, e, d, iqmp, p, q
unfoldable pub rsa_keypair_at : List ℕ → Cursor → Read (Algorithm × Public × Private)
rsa_keypair_at s c =
    on_rsa_pair (rsa_pair_at s c) Err (λ x k d. Ok ((Rsa, modulus_place x.n x.e k, numbers_place x), d))

-- a keypair is read by its own name
unfoldable pub keypair_at : List ℕ → Cursor → Read (Algorithm × Public × Private)
keypair_at s c =
    on_read (string_at s c) Err (λ name d.
    on_algorithm_name (algorithm_named (view_of s name)) (Err (fault AlgorithmUnknown c.at)) (λ a.
    on_algorithm a (elliptic_pair_at s d) (rsa_keypair_at s d)))

-- what the code of the form looks at: so many bytes before a part stands the last byte of the length of a string that has these bytes and
-- the part. Of accepted images `form_scalar` (reader_image/FormLaws) says what it tells
unfoldable pub begins_before : List ℕ → Part → ℕ → Bool
begins_before s p zeros = ltb zeros p.start && eqb (get_or s (p.start - (zeros + 1)) 0) (p.length + zeros)
