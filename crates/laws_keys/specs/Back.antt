-- Reading back: a public key, a blob or a keypair that stands at a place as the format writes it is read there, with its bytes.
use Rattle.std.specs.Prelude.{ℕ, ◌+◌, ◌-◌, ◌*◌, ◌≤◌, ◌<◌, ◌^◌, ◌≡◌, refl, List, [], ◌++◌, get_or, replicate, Result, Ok}
use Rattle.std.proofs.Common.{add-zero, arith, sym, ◌∙◌, append_assoc, append-nil, length-append}
use Rattle.std.proofs.Math.Path.{ap}
use Rattle.std.proofs.Math.Bool.{true}
use borrow.Author.Tests.{eq-eqb, ne_eqb, le-ltb, eqb-true}
use Rattle.std.specs.Int.Count.{count_leading_zeros}
use Rattle.std.proofs.Math.ListN.{length}
use Rattle.std.proofs.lemmas.List.{length-replicate}
use Rattle.fields.specs.Bytes.{string, join, same_self}
use Rattle.fields.specs.Fields.{part, view_of, Read}
use Rattle.fields.specs.Rest.{rest, Good, view_byte, view_two, view_absent}
use Rattle.fields.specs.Back.{FieldBack, also, string_back, fixed_back, end_back}
use Rattle.fields.specs.declared.Cursor.{Cursor}
use Rattle.fields.specs.declared.Part.{Part}
use Rattle.names.specs.declared.Elliptic.{Elliptic}
use Rattle.names.specs.declared.Elliptic.TheVariants.{Ed25519, Ecdsa}
use Rattle.names.specs.declared.Algorithm.{Algorithm}
use Rattle.names.specs.declared.Algorithm.TheVariants.{Elliptic as OnCurve, Rsa}
use Rattle.names.specs.declared.Curve.{Curve}
use Rattle.names.specs.Algorithms.{algorithm_name, curve_name, size_of, curve_back, algorithm_back, algorithm_self, size_small}
use Rattle.mpint.specs.Mpint.{zeros_before, bits}
use Rattle.format.specs.Format.{PublicBytes, PrivateBytes, of_point, of_scalar, of_modulus, of_numbers, curve_field, public_fields, blob, pair_fields, keypair as pair, standing, MayStand, PublicFits, PrivateFits}
use Rattle.format.proofs.Laws.{blob_then, keypair_then}
use Rattle.format.specs.Scalars.{some_bytes, standing-length, standing_zeros}
use Rattle.key_public.specs.declared.Public.{Public}
use Rattle.key_rsa.specs.declared.Six.{Six}
use Rattle.key_pairs.specs.declared.Private.{Private}
use Rattle.key_public.specs.Keys.{on_algorithm, point_at, ecdsa_public_at, point_place, modulus_place, public_bytes, ecdsa_key_at, elliptic_key_at, rsa_key_at, public_key_at, blob_at}
use Rattle.laws_keys.specs.RsaBack.{rsa_public_back, rsa_pair_back}
use Rattle.key_pairs.specs.Scalar.{scalar_stands_lem}
use Rattle.key_pairs.specs.Pairs.{is_scalar, significant_part, scalar_at, scalar_place, numbers_place, private_bytes, ed25519_pair_at, ecdsa_pair_at, elliptic_pair_at, rsa_keypair_at, keypair_at}
use Rattle.fields.specs.declared.Fault.{Fault}

-- the first byte of a part is that of its bytes
first_byte :
    (s : List ℕ) (p : Part) (b : List ℕ) → view_of s p ≡ b → p.length ≡ length b → p.start + p.length ≤ length s → 0 < length b
    → get_or s p.start 0 ≡ get_or b 0 0
first_byte s p b e l inside some =
    ap (λ (i : ℕ). get_or s i 0) (sym (add-zero p.start)) ∙ sym (view_byte s p 0 inside (omega arith)) ∙ ap (λ (x : List ℕ). get_or x 0 0) e

-- a point, at its curve
module _ (s : List ℕ) (c : Cursor) (good : Good s c) (k : Curve) (x t : List ℕ) (l : length x ≡ 1 + 2 * size_of k) (four : get_or x 0 0 ≡ 4) where
  pub point_back : rest s c ≡ string x ++ t → FieldBack s (point_at s c k) x t
  unfolding point_at
  point_back e =
      let a = fixed_back s c good x t (omega (arith, size_small k)) e (1 + 2 * size_of k) l in
      let first = first_byte s a.place x a.seen a.size a.inside (omega arith) ∙ four in
      also a (rw (a.read, eq-eqb _ _ first))

-- a scalar's place in a string in which zeros stand before it
scalar_place_lem :
    (s : List ℕ) (p : Part) (zeros : ℕ) (x : List ℕ) → 0 < get_or x 0 0 → view_of s p ≡ standing zeros x → significant_part s p ≡ part (p.start + zeros) (length x)
unfolding significant_part
scalar_place_lem s p zeros x first seen =
    let left : zeros + length x - zeros ≡ length x = omega arith in
    rw (seen, standing_zeros zeros x first, standing-length zeros x, left)

-- a scalar, at any size whose strings' lengths are a uint32, after zeros that may stand before it
module _ (s : List ℕ) (c : Cursor) (good : Good s c) (size : ℕ) (small : size + 1 < 2 ^ 32) (x t : List ℕ) (short : length x ≤ size) (first : 0 < get_or x 0 0) where
  pub scalar_back : (zeros : ℕ) → zeros + length x ≤ size + 1 → rest s c ≡ string (standing zeros x) ++ t → FieldBack s (scalar_at s c size) x t
  unfolding scalar_at
  scalar_back zeros may e =
      let b = standing zeros x in
      let long = standing-length zeros x in
      let a = string_back s c good b t (omega arith) e in
      let place : a.place.length ≡ zeros + length x = a.size ∙ long in
      let some = some_bytes x first in
      let two = view_two s a.place zeros (length x) (replicate zeros 0) x a.inside place (length-replicate zeros 0) a.seen in
      let is : is_scalar size (view_of s a.place) ≡ true = ap (is_scalar size) a.seen ∙ scalar_stands_lem size zeros x first short may in
      record {
        place = part (a.place.start + zeros) (length x);
        next = a.next;
        read =
            rw (
              a.read,
              ne_eqb a.place.length 0 (λ z. omega (arith, place)),
              le-ltb (size + 1) a.place.length (omega (arith, place)),
              is,
              scalar_place_lem s a.place zeros x first a.seen,
            );
        seen = two.1;
        size = refl;
        inside = omega (arith, a.inside, place);
        good = a.good;
        more = a.more;
      }

-- an answer that has a key, its bytes, the bits of its modulus, and what is left
pub record KeyBack (s : List ℕ) (w : Read (Algorithm × Public)) (a : Algorithm) (key : PublicBytes) (t : List ℕ) : Type 0 where
  pub place : Public
  pub next : Cursor
  pub read : w ≡ Ok ((a, place), next)
  pub seen : public_bytes s place ≡ key
  pub counted : place.bits ≡ bits key.modulus
  pub good : Good s next
  pub more : rest s next ≡ t

pub record PointBack (s : List ℕ) (w : Read (Curve × Part)) (k : Curve) (point t : List ℕ) : Type 0 where
  pub place : Part
  pub next : Cursor
  pub read : w ≡ Ok ((k, place), next)
  pub seen : view_of s place ≡ point
  pub good : Good s next
  pub more : rest s next ≡ t

pub ecdsa_public_back :
    (s : List ℕ) (c : Cursor) → Good s c → (k : Curve) (x t : List ℕ) → length x ≡ 1 + 2 * size_of k → get_or x 0 0 ≡ 4
    → rest s c ≡ string (curve_name k) ++ (string x ++ t) → PointBack s (ecdsa_public_at s c) k x t
unfolding ecdsa_public_at
ecdsa_public_back s c good k x t l four e =
    let n = string_back s c good (curve_name k) (string x ++ t) (curve_back k).1 e in
    let p = point_back s n.next n.good k x t l four n.more in
    record {
      place = p.place;
      next = p.next;
      read = rw (n.read, n.seen, (curve_back k).0, p.read);
      seen = p.seen;
      good = p.good;
      more = p.more;
    }

-- no bytes have no bits
bits_none : (key : PublicBytes) → key ≡ of_point key.point → bits key.modulus ≡ 0
unfolding bits zeros_before count_leading_zeros
bits_none key only = ap (λ (k : PublicBytes). bits k.modulus) only

-- what is seen at a key's places
point_seen : (s : List ℕ) (p : Part) (key : PublicBytes) → view_of s p ≡ key.point → key ≡ of_point key.point → public_bytes s (point_place p) ≡ key
unfolding public_bytes point_place
point_seen s p key seen only = rw (seen, view_absent s) (sym only)

modulus_seen :
    (s : List ℕ) (n e : Part) (k : ℕ) (key : PublicBytes) → view_of s n ≡ key.modulus → view_of s e ≡ key.exponent
    → key ≡ of_modulus key.modulus key.exponent → public_bytes s (modulus_place n e k) ≡ key
unfolding public_bytes modulus_place
modulus_seen s n e k key seen_n seen_e only = rw (seen_n, seen_e, view_absent s) (sym only)

scalar_seen : (s : List ℕ) (p : Part) (x : PrivateBytes) → view_of s p ≡ x.scalar → x ≡ of_scalar x.scalar → private_bytes s (scalar_place p) ≡ x
unfolding private_bytes scalar_place
scalar_seen s p x seen only = rw (seen, view_absent s) (sym only)

numbers_seen :
    (s : List ℕ) (y : Six) (x : PrivateBytes) → view_of s y.d ≡ x.d → view_of s y.iqmp ≡ x.iqmp → view_of s y.p ≡ x.p → view_of s y.q ≡ x.q
    → x ≡ of_numbers x.d x.iqmp x.p x.q → private_bytes s (numbers_place y) ≡ x
unfolding private_bytes numbers_place
numbers_seen s y x seen_d seen_iqmp seen_p seen_q only = rw (seen_d, seen_iqmp, seen_p, seen_q, view_absent s) (sym only)

-- the fields of a key over a curve
elliptic_key_back :
    (s : List ℕ) (c : Cursor) → Good s c → (e : Elliptic) (key : PublicBytes) (t : List ℕ) → PublicFits (OnCurve e) key
    → rest s c ≡ curve_field e ++ (string key.point ++ t) → KeyBack s (elliptic_key_at s c e) (OnCurve e) key t
unfolding elliptic_key_at ecdsa_key_at point_place
elliptic_key_back s c good Ed25519 key t fits e =
    let p = fixed_back s c good key.point t (omega (arith, fits.0)) e 32 fits.0 in
    record {
      place = point_place p.place;
      next = p.next;
      read = rw p.read;
      seen = point_seen s p.place key p.seen fits.2;
      counted = sym (bits_none key fits.2);
      good = p.good;
      more = p.more;
    }
elliptic_key_back s c good (Ecdsa k) key t fits e =
    let p = ecdsa_public_back s c good k key.point t fits.0 (eqb-true _ _ fits.1) e in
    record {
      place = point_place p.place;
      next = p.next;
      read = rw (p.read, algorithm_self);
      seen = point_seen s p.place key p.seen fits.2;
      counted = sym (bits_none key fits.2);
      good = p.good;
      more = p.more;
    }

-- the numbers of an RSA key
rsa_key_back :
    (s : List ℕ) (c : Cursor) → Good s c → length s < 2 ^ 32 → (key : PublicBytes) (t : List ℕ) → PublicFits Rsa key
    → rest s c ≡ string key.exponent ++ (string key.modulus ++ t) → KeyBack s (rsa_key_at s c) Rsa key t
unfolding rsa_key_at modulus_place
rsa_key_back s c good small key t fits e =
    let p = rsa_public_back s small c good key.modulus key.exponent t fits.0 e in
    record {
      place = modulus_place p.modulus p.exponent (bits key.modulus);
      next = p.next;
      read = rw p.read;
      seen = modulus_seen s p.modulus p.exponent (bits key.modulus) key p.seen_n p.seen_e fits.1;
      counted = refl;
      good = p.good;
      more = p.more;
    }

-- the fields that a name asks for
key_fields_back :
    (s : List ℕ) (c : Cursor) → Good s c → length s < 2 ^ 32 → (a : Algorithm) (key : PublicBytes) (t : List ℕ) → PublicFits a key
    → rest s c ≡ join (public_fields a key) ++ t → KeyBack s (on_algorithm a (elliptic_key_at s c) (rsa_key_at s c)) a key t
key_fields_back s c good small (OnCurve k) key t fits e = elliptic_key_back s c good k key t fits (e ∙ simp append_assoc)
key_fields_back s c good small Rsa key t fits e = rsa_key_back s c good small key t fits (e ∙ simp append_assoc)

-- a public key as the format writes it
public_key_back :
    (s : List ℕ) (c : Cursor) → Good s c → length s < 2 ^ 32 → (a : Algorithm) (key : PublicBytes) (t : List ℕ) → PublicFits a key
    → rest s c ≡ blob a key ++ t → KeyBack s (public_key_at s c) a key t
unfolding public_key_at
public_key_back s c good small a key t fits e =
    let n = string_back s c good (algorithm_name a) (join (public_fields a key) ++ t) (algorithm_back a).1 (e ∙ blob_then a key t) in
    let p = key_fields_back s n.next n.good small a key t fits n.more in
    record {
      place = p.place;
      next = p.next;
      read = rw (n.read, n.seen, (algorithm_back a).0) p.read;
      seen = p.seen;
      counted = p.counted;
      good = p.good;
      more = p.more;
    }

-- a whole blob
pub record BlobBack (s : List ℕ) (w : Result (Algorithm × Public) Fault) (a : Algorithm) (key : PublicBytes) : Type 0 where
  pub place : Public
  pub read : w ≡ Ok (a, place)
  pub seen : public_bytes s place ≡ key
  pub counted : place.bits ≡ bits key.modulus

pub blob_back :
    (s : List ℕ) (c : Cursor) → Good s c → length s < 2 ^ 32 → (a : Algorithm) (key : PublicBytes) → PublicFits a key → rest s c ≡ blob a key
    → BlobBack s (blob_at s c) a key
unfolding blob_at
blob_back s c good small a key fits e =
    let p = public_key_back s c good small a key [] fits (e ∙ sym (append-nil (blob a key))) in
    record {
      place = p.place;
      read = rw (p.read, end_back s p.next p.good p.more);
      seen = p.seen;
      counted = p.counted;
    }

-- an answer that has a keypair, its bytes, and what is left
pub record PairBack (s : List ℕ) (w : Read (Algorithm × Public × Private)) (a : Algorithm) (key : PublicBytes) (x : PrivateBytes) (t : List ℕ) : Type 0 where
  pub place : Public
  pub private : Private
  pub next : Cursor
  pub read : w ≡ Ok ((a, place, private), next)
  pub seen : public_bytes s place ≡ key
  pub kept : private_bytes s private ≡ x
  pub good : Good s next
  pub more : rest s next ≡ t

-- seed and public string in one string
ed25519_pair_back :
    (s : List ℕ) (c : Cursor) → Good s c → (key : PublicBytes) (x : PrivateBytes) (t : List ℕ) → PublicFits (OnCurve Ed25519) key → PrivateFits (OnCurve Ed25519) key x
    → rest s c ≡ string key.point ++ (string (x.scalar ++ key.point) ++ t) → PairBack s (ed25519_pair_at s c) (OnCurve Ed25519) key x t
unfolding ed25519_pair_at
ed25519_pair_back s c good key x t fits fit e =
    let point = key.point in
    let seed = x.scalar in
    let p = fixed_back s c good point (string (seed ++ point) ++ t) (omega (arith, fits.0)) e 32 fits.0 in
    let l : length (seed ++ point) ≡ 64 = length-append seed point ∙ omega (arith, fits.0, fit.0) in
    let q = fixed_back s p.next p.good (seed ++ point) t (omega arith) p.more 64 l in
    let start = q.place.start in
    let size : q.place.length ≡ 64 = q.size ∙ l in
    let two = view_two s q.place 32 32 seed point q.inside (omega arith) fit.0 q.seen in
    record {
      place = point_place p.place;
      private = scalar_place (part start 32);
      next = q.next;
      read = rw (p.read, q.read, two.1, p.seen, same_self point);
      seen = point_seen s p.place key p.seen fits.2;
      kept = scalar_seen s (part start 32) x two.0 fit.1;
      good = q.good;
      more = q.more;
    }

-- curve, point and scalar, in any of its forms
ecdsa_pair_back :
    (s : List ℕ) (c : Cursor) → Good s c → (k : Curve) (zeros : ℕ) (key : PublicBytes) (x : PrivateBytes) (t : List ℕ) → PublicFits (OnCurve (Ecdsa k)) key
    → PrivateFits (OnCurve (Ecdsa k)) key x → MayStand (OnCurve (Ecdsa k)) zeros x
    → rest s c ≡ string (curve_name k) ++ (string key.point ++ (string (standing zeros x.scalar) ++ t))
    → PairBack s (ecdsa_pair_at s c k) (OnCurve (Ecdsa k)) key x t
unfolding ecdsa_pair_at
ecdsa_pair_back s c good k zeros key x t fits fit may e =
    let p = ecdsa_public_back s c good k key.point (string (standing zeros x.scalar) ++ t) fits.0 (eqb-true _ _ fits.1) e in
    let q = scalar_back s p.next p.good (size_of k) (omega (arith, size_small k)) x.scalar t fit.0.0 fit.0.1 zeros may p.more in
    record {
      place = point_place p.place;
      private = scalar_place q.place;
      next = q.next;
      read = rw (p.read, q.read, algorithm_self);
      seen = point_seen s p.place key p.seen fits.2;
      kept = scalar_seen s q.place x q.seen fit.1;
      good = q.good;
      more = q.more;
    }

-- n, e, d, iqmp, p, q
rsa_keypair_back :
    (s : List ℕ) (c : Cursor) → Good s c → length s < 2 ^ 32 → (key : PublicBytes) (x : PrivateBytes) (t : List ℕ) → PublicFits Rsa key → PrivateFits Rsa key x
    → rest s c
    ≡ string key.modulus ++ (string key.exponent ++ (string x.d ++ (string x.iqmp ++ (string x.p ++ (string x.q ++ t)))))
    → PairBack s (rsa_keypair_at s c) Rsa key x t
unfolding rsa_keypair_at
rsa_keypair_back s c good small key x t fits fit e =
    let r = rsa_pair_back s small c good key.modulus key.exponent x.d x.iqmp x.p x.q t fits.0 fit.0 e in
    record {
      place = modulus_place r.numbers.n r.numbers.e (bits key.modulus);
      private = numbers_place r.numbers;
      next = r.next;
      read = rw r.read;
      seen = modulus_seen s r.numbers.n r.numbers.e (bits key.modulus) key r.seen_n r.seen_e fits.1;
      kept = numbers_seen s r.numbers x r.seen_d r.seen_iqmp r.seen_p r.seen_q fit.1;
      good = r.good;
      more = r.more;
    }

-- the fields that a name asks for
pair_fields_back :
    (s : List ℕ) (c : Cursor) → Good s c → length s < 2 ^ 32 → (a : Algorithm) (zeros : ℕ) (key : PublicBytes) (x : PrivateBytes) (t : List ℕ) → PublicFits a key
    → PrivateFits a key x → MayStand a zeros x → rest s c ≡ join (pair_fields a zeros key x) ++ t
    → PairBack s (on_algorithm a (elliptic_pair_at s c) (rsa_keypair_at s c)) a key x t
unfolding elliptic_pair_at
pair_fields_back s c good small (OnCurve Ed25519) z key x t fits fit may e =
    ed25519_pair_back s c good key x t fits fit (e ∙ rw may (simp append_assoc))
pair_fields_back s c good small (OnCurve (Ecdsa k)) z key x t fits fit may e =
    ecdsa_pair_back s c good k z key x t fits fit may (e ∙ simp append_assoc)
pair_fields_back s c good small Rsa z key x t fits fit may e =
    rsa_keypair_back s c good small key x t fits fit (e ∙ simp append_assoc)

-- a keypair as the format writes it, a scalar in any of its forms
pub keypair_back :
    (s : List ℕ) (c : Cursor) → Good s c → length s < 2 ^ 32 → (a : Algorithm) (zeros : ℕ) (key : PublicBytes) (x : PrivateBytes) (t : List ℕ) → PublicFits a key
    → PrivateFits a key x → MayStand a zeros x → rest s c ≡ pair a zeros key x ++ t → PairBack s (keypair_at s c) a key x t
unfolding keypair_at
keypair_back s c good small a zeros key x t fits fit may e =
    let n = string_back s c good (algorithm_name a) (join (pair_fields a zeros key x) ++ t) (algorithm_back a).1 (e ∙ keypair_then a zeros key x t) in
    let p = pair_fields_back s n.next n.good small a zeros key x t fits fit may n.more in
    record {
      place = p.place;
      private = p.private;
      next = p.next;
      read = rw (n.read, n.seen, (algorithm_back a).0) p.read;
      seen = p.seen;
      kept = p.kept;
      good = p.good;
      more = p.more;
    }
