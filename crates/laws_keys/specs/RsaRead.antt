-- Inversion of RSA's numbers: those that were read stand at their place as mpints, of sizes that fit, and the bits are the modulus's.
use Rattle.std.specs.Prelude.{ℕ, ◌≡◌, refl, true, Ok, Err, Option, Some, None}
use Rattle.std.proofs.Common.{◌∙◌, ap}
use mathlib.Core.List.{List, [], ◌∷◌, ◌++◌}
use Rattle.fields.specs.Bytes.{string, AllBytes}
use Rattle.fields.specs.Fields.{view_of, Read}
use Rattle.fields.specs.Place.{clash, by_read, by_bool, by_tested, same_pair, same_read, same_triple}
use Rattle.fields.specs.Rest.{rest}
use Rattle.fields.specs.Read.{StringRead}
use Rattle.fields.specs.declared.Cursor.{Cursor}
use Rattle.fields.specs.declared.Fault.{Fault}
use Rattle.fields.specs.declared.Part.{Part}
use Rattle.mpint.specs.Mpint.{is_mpint, mpint_at, bits, at_most, modulus_size}
use Rattle.mpint.specs.Laws.{mpint_read, size_inside}
use Rattle.format.specs.Format.{ModulusFits, NumbersFit}
use Rattle.key_rsa.specs.declared.Six.{Six}
use Rattle.key_rsa.specs.Rsa.{two_at, six_at, others_at, others_of, rsa_public_at, rsa_pair_at}

-- by cases, with the equation in hand
pub by_two : {P : Type 0} (w : Read (Part × Part)) → ((f : Fault) → w ≡ Err f → P) → ((a b : Part) (c : Cursor) → w ≡ Ok ((a, b), c) → P) → P
by_two (Err f) refused numbers = refused f refl
by_two (Ok ((a, b), c)) refused numbers = numbers a b c refl

pub by_six : {P : Type 0} (w : Read Six) → ((f : Fault) → w ≡ Err f → P) → ((x : Six) (c : Cursor) → w ≡ Ok (x, c) → P) → P
by_six (Err f) refused numbers = refused f refl
by_six (Ok (x, c)) refused numbers = numbers x c refl

pub by_size : {P : Type 0} (w : Option ℕ) → (w ≡ None → P) → ((k : ℕ) → w ≡ Some k → P) → P
by_size None outside inside = outside refl
by_size (Some k) outside inside = inside k refl

-- numbers of which none has more bits than the modulus: the first, and the others
others_read :
    (s : List ℕ) (n x : Part) (more : List Part) → others_at s n (x ∷ more) ≡ Ok tt
    → (at_most (view_of s x) (view_of s n) ≡ true) × (others_at s n more ≡ Ok tt)
unfolding others_at
others_read s n x more e =
    by_bool (at_most (view_of s x) (view_of s n))
    (λ w. (w, rw w at e))
    (λ w. let g = rw w at e in clash cc)

module _ (s : List ℕ) (all : AllBytes s) where
  pub record TwoRead (c : Cursor) (a b : Part) (d : Cursor) : Type 0 where
    pub mid : Cursor
    pub first : StringRead s c a mid
    pub second : StringRead s mid b d
    pub mpint_first : is_mpint (view_of s a) ≡ true
    pub mpint_second : is_mpint (view_of s b) ≡ true

  two_read : (c : Cursor) (a b : Part) (d : Cursor) → two_at s c ≡ Ok ((a, b), d) → TwoRead c a b d
  unfolding two_at
  two_read c a b d e =
      by_read (mpint_at s c)
      (λ f w. let g : Err f ≡ Ok ((a, b), d) = rw w at e in clash cc)
      (λ p x w.
      let g = rw w at e in
      by_read (mpint_at s x)
      (λ f v. let h : Err f ≡ Ok ((a, b), d) = rw v at g in clash cc)
      (λ q y v.
      let h : Ok ((p, q), y) ≡ Ok ((a, b), d) = rw v at g in
      let i : p ≡ a = (same_pair (same_read h).0).0 in
      let j : q ≡ b = (same_pair (same_read h).0).1 in
      let k : y ≡ d = (same_read h).1 in
      let r₁ = mpint_read s all c a x (rw i at w) in
      let r₂ = mpint_read s all x b d (rw (j, k) at v) in
      record { mid = x; first = r₁.0; second = r₂.0; mpint_first = r₁.1; mpint_second = r₂.1 }))

  two_text : (c : Cursor) (a b : Part) (d : Cursor) → TwoRead c a b d → rest s c ≡ string (view_of s a) ++ (string (view_of s b) ++ rest s d)
  two_text c a b d r = r.first.text ∙ ap (λ (x : List ℕ). string (view_of s a) ++ x) r.second.text

  two_end : (c : Cursor) (a b : Part) (d : Cursor) → TwoRead c a b d → d.end ≡ c.end
  two_end c a b d r = r.second.place.placed.end ∙ r.first.place.placed.end

  pub record RsaPublicRead (c : Cursor) (n e : Part) (k : ℕ) (d : Cursor) : Type 0 where
    pub numbers : TwoRead c e n d
    pub text : rest s c ≡ string (view_of s e) ++ (string (view_of s n) ++ rest s d)
    pub fits : ModulusFits (view_of s n) (view_of s e)
    pub counted : k ≡ bits (view_of s n)
    pub end : d.end ≡ c.end

  pub rsa_public_read : (c : Cursor) (n e : Part) (k : ℕ) (d : Cursor) → rsa_public_at s c ≡ Ok ((n, e, k), d) → RsaPublicRead c n e k d
  unfolding rsa_public_at
  rsa_public_read c n e k d q =
      by_two (two_at s c)
      (λ f w. let g : Err f ≡ Ok ((n, e, k), d) = rw w at q in clash cc)
      (λ a b x w.
      let g = rw w at q in
      by_tested (others_at s b (a ∷ []))
      (λ f v. let h : Err f ≡ Ok ((n, e, k), d) = rw v at g in clash cc)
      (λ v.
      let h = rw v at g in
      by_size (modulus_size (view_of s b))
      (λ u. let i = rw u at h in clash cc)
      (λ m u.
      let i : Ok ((b, a, m), x) ≡ Ok ((n, e, k), d) = rw u at h in
      let o₁ : a ≡ e = (same_triple (same_read i).0).1 in
      let o₂ : b ≡ n = (same_triple (same_read i).0).0 in
      let o₃ : m ≡ k = (same_triple (same_read i).0).2 in
      let o₄ : x ≡ d = (same_read i).1 in
      let r = two_read c e n d (rw (o₁, o₂, o₄) at w) in
      let size = size_inside (view_of s n) k (rw (o₂, o₃) at u) in
      record {
        numbers = r;
        text = two_text c e n d r;
        fits =
            record {
              modulus = r.mpint_second;
              exponent = r.mpint_first;
              size = size.0;
              exponent_size = (others_read s n e [] (rw (o₁, o₂) at v)).0;
            };
        counted = size.1;
        end = two_end c e n d r;
      })))

  -- the six numbers, in pairs
  pub record SixText (c : Cursor) (x : Six) (d : Cursor) : Type 0 where
    pub text :
        rest s c
        ≡ string (view_of s x.n)
        ++ (string (view_of s x.e)
        ++ (string (view_of s x.d) ++ (string (view_of s x.iqmp) ++ (string (view_of s x.p) ++ (string (view_of s x.q) ++ rest s d)))))
    pub mpint_n : is_mpint (view_of s x.n) ≡ true
    pub mpint_e : is_mpint (view_of s x.e) ≡ true
    pub mpint_d : is_mpint (view_of s x.d) ≡ true
    pub mpint_iqmp : is_mpint (view_of s x.iqmp) ≡ true
    pub mpint_p : is_mpint (view_of s x.p) ≡ true
    pub mpint_q : is_mpint (view_of s x.q) ≡ true
    pub end : d.end ≡ c.end

  six_joined :
      (c : Cursor) (n e : Part) (c₁ : Cursor) (d iqmp : Part) (c₂ : Cursor) (p q : Part) (c₃ : Cursor) → TwoRead c n e c₁ → TwoRead c₁ d iqmp c₂ → TwoRead c₂ p q c₃
      → SixText c (record { n = n; e = e; d = d; iqmp = iqmp; p = p; q = q }) c₃
  six_joined c n e c₁ d iqmp c₂ p q c₃ r₁ r₂ r₃ =
      record {
        text =
            two_text c n e c₁ r₁
            ∙ ap (λ (y : List ℕ). string (view_of s n) ++ (string (view_of s e) ++ y))
            (two_text c₁ d iqmp c₂ r₂ ∙ ap (λ (y : List ℕ). string (view_of s d) ++ (string (view_of s iqmp) ++ y)) (two_text c₂ p q c₃ r₃));
        mpint_n = r₁.mpint_first;
        mpint_e = r₁.mpint_second;
        mpint_d = r₂.mpint_first;
        mpint_iqmp = r₂.mpint_second;
        mpint_p = r₃.mpint_first;
        mpint_q = r₃.mpint_second;
        end = two_end c₂ p q c₃ r₃ ∙ two_end c₁ d iqmp c₂ r₂ ∙ two_end c n e c₁ r₁;
      }

  six_read : (c : Cursor) (x : Six) (d : Cursor) → six_at s c ≡ Ok (x, d) → SixText c x d
  unfolding six_at
  six_read c x z q =
      by_two (two_at s c)
      (λ f w. let g : Err f ≡ Ok (x, z) = rw w at q in clash cc)
      (λ n e c₁ w₁.
      let g₁ = rw w₁ at q in
      by_two (two_at s c₁)
      (λ f w. let g : Err f ≡ Ok (x, z) = rw w at g₁ in clash cc)
      (λ d iqmp c₂ w₂.
      let g₂ = rw w₂ at g₁ in
      by_two (two_at s c₂)
      (λ f w. let g : Err f ≡ Ok (x, z) = rw w at g₂ in clash cc)
      (λ p q c₃ w₃.
      let g₃ : Ok (record { n = n; e = e; d = d; iqmp = iqmp; p = p; q = q }, c₃) ≡ Ok (x, z) = rw w₃ at g₂ in
      let o₁ : record { n = n; e = e; d = d; iqmp = iqmp; p = p; q = q } ≡ x = (same_read g₃).0 in
      let o₂ : c₃ ≡ z = (same_read g₃).1 in
      rw (← o₁, ← o₂)
      (six_joined c n e c₁ d iqmp c₂ p q c₃ (two_read c n e c₁ w₁) (two_read c₁ d iqmp c₂ w₂) (two_read c₂ p q c₃ w₃)))))

  pub record RsaPairRead (c : Cursor) (x : Six) (k : ℕ) (d : Cursor) : Type 0 where
    pub numbers : SixText c x d
    pub fits : ModulusFits (view_of s x.n) (view_of s x.e)
    pub others : NumbersFit (view_of s x.n) (view_of s x.d) (view_of s x.iqmp) (view_of s x.p) (view_of s x.q)
    pub counted : k ≡ bits (view_of s x.n)

  pub rsa_pair_read : (c : Cursor) (x : Six) (k : ℕ) (d : Cursor) → rsa_pair_at s c ≡ Ok ((x, k), d) → RsaPairRead c x k d
  unfolding rsa_pair_at
  rsa_pair_read c x k d q =
      by_six (six_at s c)
      (λ f w. let g : Err f ≡ Ok ((x, k), d) = rw w at q in clash cc)
      (λ y z w.
      let g = rw w at q in
      by_size (modulus_size (view_of s y.n))
      (λ v. let h = rw v at g in clash cc)
      (λ m v.
      let h = rw v at g in
      by_tested (others_at s y.n (others_of y))
      (λ f u. let i : Err f ≡ Ok ((x, k), d) = rw u at h in clash cc)
      (λ u.
      let i : Ok ((y, m), z) ≡ Ok ((x, k), d) = rw u at h in
      let o₁ : y ≡ x = (same_pair (same_read i).0).0 in
      let o₂ : m ≡ k = (same_pair (same_read i).0).1 in
      let o₃ : z ≡ d = (same_read i).1 in
      let r = six_read c x d (rw (o₁, o₃) at w) in
      let size = size_inside (view_of s x.n) k (rw (o₁, o₂) at v) in
      let t₁ = others_read s x.n x.e (x.d ∷ x.iqmp ∷ x.p ∷ x.q ∷ []) (rw o₁ at u) in
      let t₂ = others_read s x.n x.d (x.iqmp ∷ x.p ∷ x.q ∷ []) t₁.1 in
      let t₃ = others_read s x.n x.iqmp (x.p ∷ x.q ∷ []) t₂.1 in
      let t₄ = others_read s x.n x.p (x.q ∷ []) t₃.1 in
      let t₅ = others_read s x.n x.q [] t₄.1 in
      record {
        numbers = r;
        fits = record { modulus = r.mpint_n; exponent = r.mpint_e; size = size.0; exponent_size = t₁.0 };
        others =
            record {
              mpint_d = r.mpint_d;
              mpint_iqmp = r.mpint_iqmp;
              mpint_p = r.mpint_p;
              mpint_q = r.mpint_q;
              size_d = t₂.0;
              size_iqmp = t₃.0;
              size_p = t₄.0;
              size_q = t₅.0;
            };
        counted = size.1;
      })))
