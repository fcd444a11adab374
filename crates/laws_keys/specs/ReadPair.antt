-- Inversion: a keypair that was read stands at its place as the format writes it, its scalar in the form that it had.
use Rattle.std.specs.Prelude.{ℕ, ◌+◌, ◌-◌, ◌≤◌, ◌<◌, ◌≡◌, refl, true, eqb, ltb, replicate, Ok, Err}
use native.Mathlib.Omega.{arith}
use Rattle.std.proofs.Math.Path.{sym, ap}
use Rattle.std.proofs.Common.{◌∙◌}
use mathlib.Core.List.{List, ◌++◌, append_assoc}
use borrow.Author.Tests.{eq-eqb, ne_eqb, eqb-true, eqb-false, ltb-true, ltb-false, lt-ltb}
use Rattle.std.proofs.Math.ListN.{length, get_or}
use Rattle.std.proofs.lemmas.List.{length-replicate}
use Rattle.fields.specs.Bytes.{string, join, AllBytes, same_bytes, same_true}
use Rattle.fields.specs.Fields.{number4, part, string_at, fixed_at, view_of, Read}
use Rattle.fields.specs.Place.{clash, by_read, by_bool, uint32_place, string_place, fixed_place, same_read, same_triple}
use Rattle.fields.specs.Rest.{rest, view_two, view_byte, view_split, view_length, view_absent}
use Rattle.fields.specs.Read.{StringRead, string_read, length_byte}
use Rattle.fields.specs.declared.Cursor.{Cursor}
use Rattle.fields.specs.declared.Fault.{Fault}
use Rattle.fields.specs.declared.Part.{Part}
use Rattle.names.specs.declared.Elliptic.{Elliptic}
use Rattle.names.specs.declared.Elliptic.TheVariants.{Ed25519, Ecdsa}
use Rattle.names.specs.declared.Algorithm.{Algorithm}
use Rattle.names.specs.declared.Algorithm.TheVariants.{Elliptic as OnCurve, Rsa}
use Rattle.names.specs.declared.Curve.{Curve}
use Rattle.names.specs.Algorithms.{algorithm_name, algorithm_named, curve_name, size_of, same_algorithm, algorithm_same, size_small}
use Rattle.format.specs.Format.{of_scalar, curve_field, public_length, point_tag, private_field, standing, pair_fields, keypair as pair, MayStand, ScalarFits, PublicFits, PrivateFits}
use Rattle.mpint.specs.Mpint.{zeros_before, significant, remaining}
use Rattle.mpint.specs.Zeros.{zeros_le, zeros_zero}
use Rattle.format.proofs.Laws.{keypair_then}
use Rattle.format.specs.Scalars.{standing_again, significant-length, significant_first}
use Rattle.key_rsa.specs.declared.Six.{Six}
use Rattle.key_rsa.specs.Rsa.{rsa_pair_at}
use Rattle.key_public.specs.declared.Public.{Public}
use Rattle.key_pairs.specs.declared.Private.{Private}
use Rattle.key_public.specs.Keys.{on_algorithm, ecdsa_public_at, point_place, modulus_place, public_bytes}
use Rattle.key_pairs.specs.Pairs.{is_scalar, significant_part, scalar_at, scalar_place, numbers_place, private_bytes, ed25519_pair_at, ecdsa_pair_at, elliptic_pair_at, rsa_keypair_at, keypair_at, begins_before}
use Rattle.key_pairs.specs.Scalar.{scalar_some, scalar_short}
use Rattle.laws_keys.specs.RsaRead.{RsaPairRead, rsa_pair_read}
use Rattle.laws_keys.specs.Read.{by_algorithm, by_ecdsa, ecdsa_public_read, named_text}

pub by_rsa_pair : {P : Type 0} (w : Read (Six × ℕ)) → ((f : Fault) → w ≡ Err f → P) → ((x : Six) (k : ℕ) (c : Cursor) → w ≡ Ok ((x, k), c) → P) → P
by_rsa_pair (Err f) refused numbers = refused f refl
by_rsa_pair (Ok ((x, k), c)) refused numbers = numbers x k c refl

-- what is said of a scalar: a seed is none, and RSA has none
abbrev pub IfScalar : Algorithm → Type 0 → Type 0
IfScalar (OnCurve Ed25519) said = Unit {0}
IfScalar (OnCurve (Ecdsa k)) said = said
IfScalar Rsa said = Unit {0}

-- whether the string that holds a part begins no or one byte before it tells whether so many zeros stand there
abbrev pub Begins : List ℕ → Part → ℕ → Type 0
Begins s p zeros = (k : ℕ) → k < 2 → begins_before s p k ≡ eqb k zeros

-- the byte before the last of a short string's length is zero
number_high : (a b c d n : ℕ) → number4 a b c d ≡ n → n < 256 → c ≡ 0
number_high a b c d n e h = omega arith

length_high : (s : List ℕ) (c : Cursor) (p : Part) (d : Cursor) → string_at s c ≡ Ok (p, d) → p.length < 256 → get_or s (p.start - 2) 0 ≡ 0
length_high s c p d e h =
    let k = string_place s c p d e in
    let u = uint32_place s c p.length k.body k.length in
    let i : p.start - 2 ≡ c.at + 2 = omega (arith, k.placed.start) in
    ap (λ (j : ℕ). get_or s j 0) i ∙ number_high (get_or s c.at 0) (get_or s (c.at + 1) 0) (get_or s (c.at + 2) 0) (get_or s (c.at + 3) 0) p.length u.number h

module _ (s : List ℕ) (all : AllBytes s) where
  -- a scalar, in the form that it has
  pub record ScalarRead (c : Cursor) (size : ℕ) (p : Part) (d : Cursor) : Type 0 where
    pub zeros : ℕ
    pub text : rest s c ≡ string (standing zeros (view_of s p)) ++ rest s d
    pub long : length (view_of s p) ≤ size
    pub first : 0 < get_or (view_of s p) 0 0
    pub may : zeros + length (view_of s p) ≤ size + 1
    pub begins : size < 255 → Begins s p zeros
    pub end : d.end ≡ c.end

  -- a scalar in its string, which stands in the image as the part q
  module _ (c : Cursor) (size : ℕ) (q : Part) (d : Cursor) (w : string_at s c ≡ Ok (q, d)) where
    abbrev stored : List ℕ
    stored = view_of s q

    read_string : StringRead s c q d
    read_string = string_read s all c q d w

    significant_seen : view_of s (significant_part s q) ≡ significant stored
    unfolding significant_part
    significant_seen =
        let r = read_string in
        let l = zeros_le stored in
        (view_two s q (zeros_before stored) (remaining stored) (replicate (zeros_before stored) 0) (significant stored) (omega (arith, r.place.placed))
        (omega (arith, r.size)) (length-replicate (zeros_before stored) 0) (sym (standing_again stored))).1

    -- before it stand its zeros, and before these the string's length, in one byte if size is below 255
    begins_there : size < 255 → q.length ≤ size + 1 → zeros_before stored < length stored → Begins s (significant_part s q) (zeros_before stored)
    unfolding begins_before significant_part
    begins_there small l some k two =
        let r = read_string in
        let z = zeros_before stored in
        let start = r.place.placed.start in
        rw (lt-ltb k (q.start + z) (omega (arith, start)))
        (by_bool (eqb k z)
        (λ v.
        let same = eqb-true k z v in
        let at : q.start + z - (k + 1) ≡ q.start - 1 = omega (arith, start) in
        let whole : q.length ≡ remaining stored + k = omega (arith, r.size) in
        rw v (eq-eqb (get_or s (q.start + z - (k + 1)) 0) (remaining stored + k) (ap (λ (i : ℕ). get_or s i 0) at ∙ length_byte s c q d w (omega arith) ∙ whole)))
        (λ v.
        let other = eqb-false k z v in
        rw v
        (by_bool (ltb k z)
        (λ u.
        let less = ltb-true k z u in
        let at : q.start + z - (k + 1) ≡ q.start + (z - (k + 1)) = omega arith in
        let byte = view_byte s q (z - (k + 1)) (omega (arith, r.place.placed)) (omega (arith, r.size)) in
        let none : get_or s (q.start + z - (k + 1)) 0 ≡ 0 = ap (λ (i : ℕ). get_or s i 0) at ∙ sym byte ∙ zeros_zero stored (z - (k + 1)) (omega arith) in
        ne_eqb (get_or s (q.start + z - (k + 1)) 0) (remaining stored + k) (λ e. omega (arith, none, e)))
        (λ u.
        let more = ltb-false k z u in
        let at : q.start + z - (k + 1) ≡ q.start - 2 = omega (arith, start, other) in
        let none : get_or s (q.start + z - (k + 1)) 0 ≡ 0 = ap (λ (i : ℕ). get_or s i 0) at ∙ length_high s c q d w (omega arith) in
        ne_eqb (get_or s (q.start + z - (k + 1)) 0) (remaining stored + k) (λ e. omega (arith, none, e))))))

    scalar_text : rest s c ≡ string (standing (zeros_before stored) (view_of s (significant_part s q))) ++ rest s d
    scalar_text =
        read_string.text
        ∙ ap (λ (l : List ℕ). string l ++ rest s d) (sym (standing_again stored) ∙ ap (standing (zeros_before stored)) (sym significant_seen))

  scalar_read : (c : Cursor) (size : ℕ) (p : Part) (d : Cursor) → scalar_at s c size ≡ Ok (p, d) → ScalarRead c size p d
  unfolding scalar_at
  scalar_read c size p d e =
      by_read (string_at s c)
      (λ f w. let g : Err f ≡ Ok (p, d) = rw w at e in clash cc)
      (λ q x w.
      let g = rw w at e in
      by_bool (eqb q.length 0)
      (λ v. let h = rw v at g in clash cc)
      (λ v.
      let h = rw v at g in
      by_bool (ltb (size + 1) q.length)
      (λ u. let i = rw u at h in clash cc)
      (λ u.
      let i = rw u at h in
      by_bool (is_scalar size (view_of s q))
      (λ t.
      let j : Ok (significant_part s q, x) ≡ Ok (p, d) = rw t at i in
      let o : significant_part s q ≡ p = (same_read j).0 in
      let m : x ≡ d = (same_read j).1 in
      let b = view_of s q in
      let r = string_read s all c q x w in
      let l : q.length ≤ size + 1 = ltb-false (size + 1) q.length u in
      let some = scalar_some size b t in
      let short = scalar_short size b t (omega (arith, r.size)) in
      let seen = significant_seen c size q x w in
      let long = ap length seen ∙ significant-length b in
      rw (← o, ← m)
      (record {
        zeros = zeros_before b;
        text = scalar_text c size q x w;
        long = omega (arith, long);
        first = rw seen (significant_first b some);
        may = omega (arith, long, r.size);
        begins = λ small. begins_there c size q x w small l some;
        end = r.place.placed.end;
      }))
      (λ t. let j = rw t at i in clash cc))))

  -- an accepted keypair: its public and its private bytes, a scalar in the form that it has
  pub record PairRead (c : Cursor) (a : Algorithm) (p : Public) (x : Private) (d : Cursor) : Type 0 where
    pub zeros : ℕ
    pub text : rest s c ≡ pair a zeros (public_bytes s p) (private_bytes s x) ++ rest s d
    pub fits : PublicFits a (public_bytes s p)
    pub private : PrivateFits a (public_bytes s p) (private_bytes s x)
    pub may : MayStand a zeros (private_bytes s x)
    pub begins : IfScalar a (Begins s x.scalar zeros)
    pub end : d.end ≡ c.end

  -- the fields that a name asks for
  record PairFieldsRead (c : Cursor) (named a : Algorithm) (p : Public) (x : Private) (d : Cursor) : Type 0 where
    pub kind : named ≡ a
    pub zeros : ℕ
    pub text : rest s c ≡ join (pair_fields named zeros (public_bytes s p) (private_bytes s x)) ++ rest s d
    pub fits : PublicFits named (public_bytes s p)
    pub private : PrivateFits named (public_bytes s p) (private_bytes s x)
    pub may : MayStand named zeros (private_bytes s x)
    pub begins : IfScalar named (Begins s x.scalar zeros)
    pub end : d.end ≡ c.end

  -- the parts of a key over a curve, at their places
  elliptic_fields :
      (c : Cursor) (e : Elliptic) (zeros : ℕ) (q y : Part) (d : Cursor)
      → rest s c ≡ curve_field e ++ (string (view_of s q) ++ (private_field e (view_of s q) (standing zeros (view_of s y)) ++ rest s d))
      → length (view_of s q) ≡ public_length e → point_tag e (view_of s q) ≡ true → ScalarFits e (view_of s y) → MayStand (OnCurve e) zeros (of_scalar (view_of s y))
      → IfScalar (OnCurve e) (Begins s y zeros) → d.end ≡ c.end → PairFieldsRead c (OnCurve e) (OnCurve e) (point_place q) (scalar_place y) d
  unfolding public_bytes point_place private_bytes scalar_place
  elliptic_fields c e zeros q y d text long tag private may begins end =
      record {
        kind = refl;
        zeros = zeros;
        text = text ∙ simp append_assoc;
        fits = (long, tag, rw (view_absent s));
        private = (private, rw (view_absent s));
        may = rw (view_absent s) may;
        begins = begins;
        end = end;
      }

  -- the public string, then the string of seed and public string
  seed_fields :
      (c : Cursor) (q : Part) (b : Cursor) (y : Part) (m : Cursor) → fixed_at s c 32 ≡ Ok (q, b) → fixed_at s b 64 ≡ Ok (y, m)
      → view_of s (part (y.start + 32) 32) ≡ view_of s q
      → PairFieldsRead c (OnCurve Ed25519) (OnCurve Ed25519) (point_place q) (scalar_place (part y.start 32)) m
  seed_fields c q b y m w v same =
      let f₁ = fixed_place s c 32 q b w in
      let r₁ = string_read s all c q b f₁.0 in
      let f₂ = fixed_place s b 64 y m v in
      let r₂ = string_read s all b y m f₂.0 in
      let inside : y.start + (32 + 32) ≤ length s = omega (arith, r₂.place.placed, f₂.1) in
      let halves : view_of s y ≡ view_of s (part y.start 32) ++ view_of s q =
      ap (λ (j : ℕ). view_of s (part y.start j)) f₂.1 ∙ view_split s y.start 32 32 inside
      ∙ ap (λ (z : List ℕ). view_of s (part y.start 32) ++ z) same in
      let both : rest s b ≡ string (view_of s (part y.start 32) ++ view_of s q) ++ rest s m = rw halves at r₂.text in
      elliptic_fields c Ed25519 0 q (part y.start 32) m (r₁.text ∙ ap (λ (z : List ℕ). string (view_of s q) ++ z) both) (r₁.size ∙ f₁.1) refl
      (view_length s (part y.start 32) (omega arith)) refl tt
      (r₂.place.placed.end ∙ r₁.place.placed.end)

  ed25519_pair_read :
      (c : Cursor) (a : Algorithm) (p : Public) (x : Private) (d : Cursor) → ed25519_pair_at s c ≡ Ok ((a, p, x), d)
      → PairFieldsRead c (OnCurve Ed25519) a p x d
  unfolding ed25519_pair_at
  ed25519_pair_read c a p x d e =
      by_read (fixed_at s c 32)
      (λ f w. let g : Err f ≡ Ok ((a, p, x), d) = rw w at e in clash cc)
      (λ q b w.
      let g = rw w at e in
      by_read (fixed_at s b 64)
      (λ f v. let h : Err f ≡ Ok ((a, p, x), d) = rw v at g in clash cc)
      (λ y m v.
      let h = rw v at g in
      by_bool (same_bytes (view_of s (part (y.start + 32) 32)) (view_of s q))
      (λ u.
      let i : Ok ((OnCurve Ed25519, point_place q, scalar_place (part y.start 32)), m) ≡ Ok ((a, p, x), d) = rw u at h in
      let j : OnCurve Ed25519 ≡ a = (same_triple (same_read i).0).0 in
      let o : point_place q ≡ p = (same_triple (same_read i).0).1 in
      let k : scalar_place (part y.start 32) ≡ x = (same_triple (same_read i).0).2 in
      let n : m ≡ d = (same_read i).1 in
      rw (← j, ← o, ← k, ← n) (seed_fields c q b y m w v (same_true _ _ u)))
      (λ u. let i = rw u at h in clash cc)))

  -- curve, point and scalar
  ecdsa_pair_read :
      (c : Cursor) (named : Curve) (a : Algorithm) (p : Public) (x : Private) (d : Cursor) → ecdsa_pair_at s c named ≡ Ok ((a, p, x), d)
      → PairFieldsRead c (OnCurve (Ecdsa named)) a p x d
  unfolding ecdsa_pair_at
  ecdsa_pair_read c named a p x d e =
      by_ecdsa (ecdsa_public_at s c)
      (λ f w. let g : Err f ≡ Ok ((a, p, x), d) = rw w at e in clash cc)
      (λ k q b w.
      let g = rw w at e in
      by_read (scalar_at s b (size_of k))
      (λ f v. let h : Err f ≡ Ok ((a, p, x), d) = rw v at g in clash cc)
      (λ y m v.
      let h = rw v at g in
      by_bool (same_algorithm (OnCurve (Ecdsa k)) (OnCurve (Ecdsa named)))
      (λ u.
      let i : Ok ((OnCurve (Ecdsa named), point_place q, scalar_place y), m) ≡ Ok ((a, p, x), d) = rw u at h in
      let same : OnCurve (Ecdsa k) ≡ OnCurve (Ecdsa named) = algorithm_same (OnCurve (Ecdsa k)) (OnCurve (Ecdsa named)) u in
      let j : k ≡ named = cc in
      let t : OnCurve (Ecdsa named) ≡ a = (same_triple (same_read i).0).0 in
      let o : point_place q ≡ p = (same_triple (same_read i).0).1 in
      let l : scalar_place y ≡ x = (same_triple (same_read i).0).2 in
      let n : m ≡ d = (same_read i).1 in
      let r₁ = ecdsa_public_read s all c named q b (rw j at w) in
      let r₂ = scalar_read b (size_of named) y d (rw (j, n) at v) in
      rw (← t, ← o, ← l)
      (elliptic_fields c (Ecdsa named) r₂.zeros q y d (r₁.0 ∙ ap (λ (z : List ℕ). string (curve_name named) ++ (string (view_of s q) ++ z)) r₂.text) r₁.1
      r₁.2 (r₂.long, r₂.first) r₂.may (r₂.begins (omega (arith, size_small named))) (r₂.end ∙ r₁.3)))
      (λ u. let i = rw u at h in clash cc)))

  -- n, e, d, iqmp, p, q
  numbers_fields :
      (c : Cursor) (y : Six) (k : ℕ) (d : Cursor) → RsaPairRead s all c y k d → PairFieldsRead c Rsa Rsa (modulus_place y.n y.e k) (numbers_place y) d
  unfolding public_bytes modulus_place private_bytes numbers_place
  numbers_fields c y k d r =
      record {
        kind = refl;
        zeros = 0;
        text = r.numbers.text ∙ simp append_assoc;
        fits = (r.fits, rw (view_absent s));
        private = (r.others, rw (view_absent s));
        may = refl;
        begins = tt;
        end = r.numbers.end;
      }

  rsa_keypair_read :
      (c : Cursor) (a : Algorithm) (p : Public) (x : Private) (d : Cursor) → rsa_keypair_at s c ≡ Ok ((a, p, x), d) → PairFieldsRead c Rsa a p x d
  unfolding rsa_keypair_at
  rsa_keypair_read c a p x d e =
      by_rsa_pair (rsa_pair_at s c)
      (λ f w. let g : Err f ≡ Ok ((a, p, x), d) = rw w at e in clash cc)
      (λ y k z w.
      let g : Ok ((Rsa, modulus_place y.n y.e k, numbers_place y), z) ≡ Ok ((a, p, x), d) = rw w at e in
      let i : Rsa ≡ a = (same_triple (same_read g).0).0 in
      let o : modulus_place y.n y.e k ≡ p = (same_triple (same_read g).0).1 in
      let l : numbers_place y ≡ x = (same_triple (same_read g).0).2 in
      let m : z ≡ d = (same_read g).1 in
      rw (← i, ← o, ← l) (numbers_fields c y k d (rsa_pair_read s all c y k d (rw m at w))))

  named_pair :
      (c : Cursor) (named a : Algorithm) (p : Public) (x : Private) (d : Cursor)
      → on_algorithm named (elliptic_pair_at s c) (rsa_keypair_at s c) ≡ Ok ((a, p, x), d) → PairFieldsRead c named a p x d
  unfolding elliptic_pair_at
  named_pair c (OnCurve Ed25519) a p x d e = ed25519_pair_read c a p x d e
  named_pair c (OnCurve (Ecdsa k)) a p x d e = ecdsa_pair_read c k a p x d e
  named_pair c Rsa a p x d e = rsa_keypair_read c a p x d e

  pub keypair_read :
      (c : Cursor) (a : Algorithm) (p : Public) (x : Private) (d : Cursor) → keypair_at s c ≡ Ok ((a, p, x), d) → PairRead c a p x d
  unfolding keypair_at
  keypair_read c a p x d e =
      by_read (string_at s c)
      (λ f w. let g : Err f ≡ Ok ((a, p, x), d) = rw w at e in clash cc)
      (λ n b w.
      let g = rw w at e in
      by_algorithm (algorithm_named (view_of s n))
      (λ v. let h = rw v at g in clash cc)
      (λ j v.
      let r = named_pair b j a p x d (rw v at g) in
      let key = public_bytes s p in
      let private = private_bytes s x in
      rw (← r.kind)
      (record {
        zeros = r.zeros;
        text =
            named_text s all c n b j w v ∙ ap (λ (y : List ℕ). string (algorithm_name j) ++ y) r.text
            ∙ sym (keypair_then j r.zeros key private (rest s d));
        fits = r.fits;
        private = r.private;
        may = r.may;
        begins = r.begins;
        end = r.end ∙ (string_read s all c n b w).place.placed.end;
      })))
