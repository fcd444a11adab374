-- Inversion: a public key or a blob that was read stands at its place as the format writes it.
use Rattle.std.specs.Prelude.{ℕ, ◌+◌, ◌-◌, ◌*◌, ◌≤◌, ◌≡◌, refl, true, eqb, Ok, Err, Option, Some, None}
use Rattle.std.proofs.Common.{add-zero, arith, ◌∙◌, ap₂}
use Rattle.std.proofs.Math.Path.{sym, ap}
use mathlib.Core.List.{List, ◌++◌, append_assoc, append-nil}
use borrow.Author.Tests.{eq-eqb, eqb-true}
use Rattle.std.proofs.Math.ListN.{length, get_or}
use Rattle.fields.specs.Bytes.{string, join, AllBytes}
use Rattle.fields.specs.Fields.{part, on_read, string_at, fixed_at, end_at, view_of, Read}
use Rattle.fields.specs.Place.{clash, by_read, by_bool, by_tested, fixed_place, string_place, same_pair, same_read}
use Rattle.fields.specs.Rest.{rest, view_byte, view_absent}
use Rattle.fields.specs.Read.{StringRead, string_read, end_read}
use Rattle.fields.specs.declared.Cursor.{Cursor}
use Rattle.fields.specs.declared.Fault.{Fault}
use Rattle.fields.specs.declared.Part.{Part}
use Rattle.names.specs.declared.Elliptic.{Elliptic}
use Rattle.names.specs.declared.Elliptic.TheVariants.{Ed25519, Ecdsa}
use Rattle.names.specs.declared.Algorithm.{Algorithm}
use Rattle.names.specs.declared.Algorithm.TheVariants.{Elliptic as OnCurve, Rsa}
use Rattle.names.specs.declared.Curve.{Curve}
use Rattle.names.specs.Algorithms.{algorithm_name, algorithm_named, curve_name, curve_named, size_of, same_algorithm, curve_read, algorithm_read, algorithm_same}
use Rattle.mpint.specs.Mpint.{bits}
use Rattle.format.specs.Format.{PublicBytes, curve_field, public_length, point_tag, public_fields, blob, PublicFits}
use Rattle.format.proofs.Laws.{blob_then}
use Rattle.key_rsa.specs.Rsa.{rsa_public_at}
use Rattle.key_public.specs.declared.Public.{Public}
use Rattle.key_public.specs.Keys.{on_algorithm, point_at, ecdsa_public_at, point_place, modulus_place, public_bytes, ecdsa_key_at, elliptic_key_at, rsa_key_at, public_key_at, blob_at}
use Rattle.laws_keys.specs.RsaRead.{RsaPublicRead, rsa_public_read}

-- by cases, with the equation in hand
pub by_curve : {P : Type 0} (w : Option Curve) → (w ≡ None → P) → ((k : Curve) → w ≡ Some k → P) → P
by_curve None unknown known = unknown refl
by_curve (Some k) unknown known = known k refl

pub by_algorithm : {P : Type 0} (w : Option Algorithm) → (w ≡ None → P) → ((a : Algorithm) → w ≡ Some a → P) → P
by_algorithm None unknown known = unknown refl
by_algorithm (Some a) unknown known = known a refl

pub by_ecdsa : {P : Type 0} (w : Read (Curve × Part)) → ((f : Fault) → w ≡ Err f → P) → ((k : Curve) (p : Part) (c : Cursor) → w ≡ Ok ((k, p), c) → P) → P
by_ecdsa (Err f) refused point = refused f refl
by_ecdsa (Ok ((k, p), c)) refused point = point k p c refl

pub by_public : {P : Type 0} (w : Read (Algorithm × Public)) → ((f : Fault) → w ≡ Err f → P) → ((a : Algorithm) (p : Public) (c : Cursor) → w ≡ Ok ((a, p), c) → P) → P
by_public (Err f) refused key' = refused f refl
by_public (Ok ((a, p), c)) refused key' = key' a p c refl

-- where a public key's parts lie, if it ends at a place: its last part ends there, and four length bytes stand before each
abbrev ending_at : ℕ → ℕ → Part
ending_at end k = part (end - k) k

unfoldable pub public_place : ℕ → Algorithm → PublicBytes → Public
public_place end (OnCurve e) key = point_place (ending_at end (length key.point))
public_place end Rsa key =
    modulus_place (ending_at end (length key.modulus)) (ending_at (end - length key.modulus - 4) (length key.exponent)) (bits key.modulus)

ending_is : (p : Part) (end k : ℕ) → p.length ≡ k → p.start + p.length ≡ end → p ≡ ending_at end k
ending_is p end k size ends =
    let start : p.start ≡ end - k = omega (arith, size, ends) in
    ap₂ part start size

pub by_rsa_public :
    {P : Type 0} (w : Read (Part × Part × ℕ)) → ((f : Fault) → w ≡ Err f → P)
    → ((n e : Part) (k : ℕ) (c : Cursor) → w ≡ Ok ((n, e, k), c) → P) → P
by_rsa_public (Err f) refused numbers = refused f refl
by_rsa_public (Ok ((n, e, k), c)) refused numbers = numbers n e k c refl

module _ (s : List ℕ) (all : AllBytes s) where
  -- the place after a part is its end, within what encloses it, and the part is as long as it looks
  abbrev pub Lies : Part → Cursor → Type 0
  Lies p d = (d.at ≡ p.start + p.length) × (d.at ≤ d.end) × (length (view_of s p) ≡ p.length)

  lies : (c : Cursor) (p : Part) (d : Cursor) → StringRead s c p d → Lies p d
  lies c p d r = (r.place.placed.after, r.place.placed.inside, r.size)

  -- a point is a string of its length that begins with 4
  point_read :
      (c : Cursor) (k : Curve) (p : Part) (d : Cursor) → point_at s c k ≡ Ok (p, d)
      → StringRead s c p d × (length (view_of s p) ≡ 1 + 2 * size_of k) × (point_tag (Ecdsa k) (view_of s p) ≡ true)
  unfolding point_at
  point_read c k p d e =
      by_read (fixed_at s c (1 + 2 * size_of k))
      (λ f w. let g : Err f ≡ Ok (p, d) = rw w at e in clash cc)
      (λ q x w.
      let g = rw w at e in
      by_bool (eqb (get_or s q.start 0) 4)
      (λ v.
      let h : Ok (q, x) ≡ Ok (p, d) = rw v at g in
      let f = fixed_place s c (1 + 2 * size_of k) p d (w ∙ h) in
      let r = string_read s all c p d f.0 in
      let o : q ≡ p = (same_read h).0 in
      let first : get_or (view_of s p) 0 0 ≡ get_or s p.start 0 =
      view_byte s p 0 (omega (arith, r.place.placed)) (omega (arith, f.1)) ∙ ap (λ (i : ℕ). get_or s i 0) (add-zero p.start) in
      let four : get_or s p.start 0 ≡ 4 = rw o at (eqb-true (get_or s q.start 0) 4 v) in
      (r, r.size ∙ f.1, eq-eqb _ _ (first ∙ four)))
      (λ v. let h = rw v at g in clash cc))

  pub ecdsa_public_read :
      (c : Cursor) (k : Curve) (p : Part) (d : Cursor) → ecdsa_public_at s c ≡ Ok ((k, p), d)
      → (rest s c ≡ string (curve_name k) ++ (string (view_of s p) ++ rest s d)) × (length (view_of s p) ≡ 1 + 2 * size_of k)
      × (point_tag (Ecdsa k) (view_of s p) ≡ true) × (d.end ≡ c.end) × Lies p d
  unfolding ecdsa_public_at
  ecdsa_public_read c k p d e =
      by_read (string_at s c)
      (λ f w. let g : Err f ≡ Ok ((k, p), d) = rw w at e in clash cc)
      (λ n b w.
      let g = rw w at e in
      by_curve (curve_named (view_of s n))
      (λ v. let h = rw v at g in clash cc)
      (λ j v.
      let h = rw v at g in
      by_read (point_at s b j)
      (λ f u. let i : Err f ≡ Ok ((k, p), d) = rw u at h in clash cc)
      (λ q x u.
      let i : Ok ((j, q), x) ≡ Ok ((k, p), d) = rw u at h in
      let a : j ≡ k = (same_pair (same_read i).0).0 in
      let o : q ≡ p = (same_pair (same_read i).0).1 in
      let m : x ≡ d = (same_read i).1 in
      let t = point_read b k p d (rw (a, o, m) at u) in
      let name : view_of s n ≡ curve_name k = curve_read (view_of s n) k (rw a at v) in
      let r = string_read s all c n b w in (
        rw name at r.text ∙ ap (λ (y : List ℕ). string (curve_name k) ++ y) t.0.text,
        t.1,
        t.2,
        t.0.place.placed.end ∙ r.place.placed.end,
        lies b p d t.0,
      ))))

  -- the fields that a name asks for
  record FieldsRead (c : Cursor) (named a : Algorithm) (p : Public) (d : Cursor) : Type 0 where
    pub kind : named ≡ a
    pub text : rest s c ≡ join (public_fields named (public_bytes s p)) ++ rest s d
    pub fits : PublicFits named (public_bytes s p)
    pub end : d.end ≡ c.end
    pub inside : d.at ≤ d.end
    pub lies : p ≡ public_place d.at named (public_bytes s p)

  -- a point after its curve's name, or a public string
  point_fields :
      (c : Cursor) (e : Elliptic) (q : Part) (d : Cursor) → rest s c ≡ curve_field e ++ (string (view_of s q) ++ rest s d) → length (view_of s q) ≡ public_length e
      → point_tag e (view_of s q) ≡ true → d.end ≡ c.end → Lies q d → FieldsRead c (OnCurve e) (OnCurve e) (point_place q) d
  unfolding public_bytes point_place public_place
  point_fields c e q d text long tag end lie =
      record {
        kind = refl;
        text = text ∙ simp append_assoc;
        fits = (long, tag, rw (view_absent s));
        end = end;
        inside = lie.1;
        lies = ap point_place (ending_is q d.at (length (view_of s q)) (sym lie.2) (sym lie.0));
      }

  ecdsa_key_read :
      (c : Cursor) (named : Curve) (a : Algorithm) (p : Public) (d : Cursor) → ecdsa_key_at s c named ≡ Ok ((a, p), d)
      → FieldsRead c (OnCurve (Ecdsa named)) a p d
  unfolding ecdsa_key_at
  ecdsa_key_read c named a p d e =
      by_ecdsa (ecdsa_public_at s c)
      (λ f w. let g : Err f ≡ Ok ((a, p), d) = rw w at e in clash cc)
      (λ k q x w.
      let g = rw w at e in
      by_bool (same_algorithm (OnCurve (Ecdsa k)) (OnCurve (Ecdsa named)))
      (λ v.
      let h : Ok ((OnCurve (Ecdsa named), point_place q), x) ≡ Ok ((a, p), d) = rw v at g in
      let same : OnCurve (Ecdsa k) ≡ OnCurve (Ecdsa named) = algorithm_same (OnCurve (Ecdsa k)) (OnCurve (Ecdsa named)) v in
      let j : k ≡ named = cc in
      let i : OnCurve (Ecdsa named) ≡ a = (same_pair (same_read h).0).0 in
      let o : point_place q ≡ p = (same_pair (same_read h).0).1 in
      let m : x ≡ d = (same_read h).1 in
      let r = ecdsa_public_read c named q d (rw (j, m) at w) in
      rw (← i, ← o) (point_fields c (Ecdsa named) q d r.0 r.1 r.2 r.3 r.4))
      (λ v. let h = rw v at g in clash cc))

  ed25519_key_read :
      (c : Cursor) (a : Algorithm) (p : Public) (d : Cursor)
      → on_read {R = Read (Algorithm × Public)} (fixed_at s c 32) Err (λ point e. Ok ((OnCurve Ed25519, point_place point), e)) ≡ Ok ((a, p), d)
      → FieldsRead c (OnCurve Ed25519) a p d
  ed25519_key_read c a p d h =
      by_read (fixed_at s c 32)
      (λ f u. let i : Err f ≡ Ok ((a, p), d) = rw u at h in clash cc)
      (λ q x u.
      let i : Ok ((OnCurve Ed25519, point_place q), x) ≡ Ok ((a, p), d) = rw u at h in
      let j : OnCurve Ed25519 ≡ a = (same_pair (same_read i).0).0 in
      let o : point_place q ≡ p = (same_pair (same_read i).0).1 in
      let m : x ≡ d = (same_read i).1 in
      let f = fixed_place s c 32 q d (rw m at u) in
      let r = string_read s all c q d f.0 in
      rw (← j, ← o) (point_fields c Ed25519 q d r.text (r.size ∙ f.1) refl r.place.placed.end (lies c q d r)))

  -- e and n
  modulus_fields : (c : Cursor) (n x : Part) (k : ℕ) (d : Cursor) → RsaPublicRead s all c n x k d → FieldsRead c Rsa Rsa (modulus_place n x k) d
  unfolding public_bytes modulus_place public_place
  modulus_fields c n x k d r =
      let lie = lies r.numbers.mid n d r.numbers.second in
      let before = lies c x r.numbers.mid r.numbers.first in
      let starts = r.numbers.second.place.placed.start in
      let at_n = ending_is n d.at (length (view_of s n)) (sym lie.2) (sym lie.0) in
      let at-e = ending_is x (d.at - length (view_of s n) - 4) (length (view_of s x)) (sym before.2) (omega (arith, lie, before, starts)) in
      record {
        kind = refl;
        text = r.text ∙ simp append_assoc;
        fits = (r.fits, rw (view_absent s));
        end = r.end;
        inside = lie.1;
        lies = three at_n at-e r.counted;
      }
    where
      three : {n' x' : Part} {k' : ℕ} → n ≡ n' → x ≡ x' → k ≡ k' → modulus_place n x k ≡ modulus_place n' x' k'
      three p q o = cc

  rsa_key_read : (c : Cursor) (a : Algorithm) (p : Public) (d : Cursor) → rsa_key_at s c ≡ Ok ((a, p), d) → FieldsRead c Rsa a p d
  unfolding rsa_key_at
  rsa_key_read c a p d e =
      by_rsa_public (rsa_public_at s c)
      (λ f w. let g : Err f ≡ Ok ((a, p), d) = rw w at e in clash cc)
      (λ n x k y w.
      let g : Ok ((Rsa, modulus_place n x k), y) ≡ Ok ((a, p), d) = rw w at e in
      let i : Rsa ≡ a = (same_pair (same_read g).0).0 in
      let o : modulus_place n x k ≡ p = (same_pair (same_read g).0).1 in
      let m : y ≡ d = (same_read g).1 in
      rw (← i, ← o) (modulus_fields c n x k d (rsa_public_read s all c n x k d (rw m at w))))

  named_fields :
      (c : Cursor) (named a : Algorithm) (p : Public) (d : Cursor) → on_algorithm named (elliptic_key_at s c) (rsa_key_at s c) ≡ Ok ((a, p), d)
      → FieldsRead c named a p d
  unfolding elliptic_key_at
  named_fields c (OnCurve Ed25519) a p d e = ed25519_key_read c a p d e
  named_fields c (OnCurve (Ecdsa k)) a p d e = ecdsa_key_read c k a p d e
  named_fields c Rsa a p d e = rsa_key_read c a p d e

  -- the name, then the fields that it asks for
  pub named_text : (c : Cursor) (n : Part) (b : Cursor) (a : Algorithm) → string_at s c ≡ Ok (n, b) → algorithm_named (view_of s n) ≡ Some a
      → rest s c ≡ string (algorithm_name a) ++ rest s b
  named_text c n b a w v = rw (algorithm_read (view_of s n) a v) at (string_read s all c n b w).text

  -- an accepted public key
  pub record KeyRead (c : Cursor) (a : Algorithm) (p : Public) (d : Cursor) : Type 0 where
    pub text : rest s c ≡ blob a (public_bytes s p) ++ rest s d
    pub fits : PublicFits a (public_bytes s p)
    pub end : d.end ≡ c.end
    pub inside : d.at ≤ d.end
    pub lies : p ≡ public_place d.at a (public_bytes s p)

  public_key_read : (c : Cursor) (a : Algorithm) (p : Public) (d : Cursor) → public_key_at s c ≡ Ok ((a, p), d) → KeyRead c a p d
  unfolding public_key_at
  public_key_read c a p d e =
      by_read (string_at s c)
      (λ f w. let g : Err f ≡ Ok ((a, p), d) = rw w at e in clash cc)
      (λ n b w.
      let g = rw w at e in
      by_algorithm (algorithm_named (view_of s n))
      (λ v. let h = rw v at g in clash cc)
      (λ j v.
      let r = named_fields b j a p d (rw v at g) in
      rw (← r.kind)
      (record {
        text =
            named_text c n b j w v ∙ ap (λ (y : List ℕ). string (algorithm_name j) ++ y) r.text ∙ sym (blob_then j (public_bytes s p) (rest s d));
        fits = r.fits;
        end = r.end ∙ (string_place s c n b w).placed.end;
        inside = r.inside;
        lies = r.lies;
      })))

  -- an accepted blob
  pub record BlobRead (c : Cursor) (a : Algorithm) (p : Public) : Type 0 where
    pub text : rest s c ≡ blob a (public_bytes s p)
    pub fits : PublicFits a (public_bytes s p)
    pub lies : p ≡ public_place c.end a (public_bytes s p)

  pub blob_read : (c : Cursor) (a : Algorithm) (p : Public) → blob_at s c ≡ Ok (a, p) → BlobRead c a p
  unfolding blob_at
  blob_read c a p e =
      by_public (public_key_at s c)
      (λ f w. let g : Err f ≡ Ok (a, p) = rw w at e in clash cc)
      (λ j q d w.
      let g = rw w at e in
      by_tested (end_at d)
      (λ f v. let h : Err f ≡ Ok (a, p) = rw v at g in clash cc)
      (λ v.
      let h : Ok (j, q) ≡ Ok (a, p) = rw v at g in
      let i : j ≡ a = (same_read h).0 in
      let o : q ≡ p = (same_read h).1 in
      let r = public_key_read c a p d (rw (i, o) at w) in
      let z = end_read s d v in
      let closes : d.at ≡ c.end = omega (arith, r.inside, r.end, z.1) in
      record {
        text = r.text ∙ ap (λ (y : List ℕ). blob a (public_bytes s p) ++ y) z.0 ∙ append-nil (blob a (public_bytes s p));
        fits = r.fits;
        lies = r.lies ∙ ap (λ (i : ℕ). public_place i a (public_bytes s p)) closes;
      }))
