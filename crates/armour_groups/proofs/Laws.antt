-- How many bytes four signs give: three, or two before one `=`, or one before two, with no stray bits; and none where they are not the
-- signs of some bytes. Rests on the alphabet's rule and on the arithmetic of 24 bits.
use Prim.Native.Nat.{ℕ, zero, suc, ◌*◌, ◌/◌, ◌%◌, ◌<◌, ◌≤◌}
use native.Mathlib.Omega.{arith}
use Rattle.std.specs.Prelude.{Some, None, ◌≡◌, Bool, ◌&&◌, List, [], ◌∷◌, eqb, take}
use Rattle.std.proofs.Math.Path.{refl, sym}
use Rattle.std.proofs.Common.{ap, ◌∙◌, append-nil}
use Rattle.std.proofs.Math.Bool.{true, false, cond}
use borrow.Author.Tests.{eq-eqb, ne_eqb, eqb-true, lt-ltb, ltb-true}
use Rattle.std.proofs.Math.ListN.{length}
use Rattle.fields.specs.Bytes.{AllBytes, same_bytes, same_true, same_self, both_true}
use Rattle.fields.specs.Place.{by_bool, clash}
use Rattle.armour_signs.specs.Alphabet.{signs, sign_of, value_of}
use Rattle.armour_signs.specs.Rule.{sign_value}
use Rattle.armour_text.specs.Base64.{pad, bits_of_bytes, bits_of_values, bytes_of_bits, bytes_of_signs, encode, loosely}
use Rattle.armour_text.specs.Groups.{bits_of, group_0, group_1, group_2, group_3}
use Rattle.armour_text.specs.Inverse.{sign_0, sign_1, sign_2, sign_3, loosely-encode}
use Rattle.armour_groups.specs.Kinds.{kind_of, counted, one_of, two_of, three_of}

-- two tests are the same that hold together
alike : (a b : Bool) → (a ≡ true → b ≡ true) → (b ≡ true → a ≡ true) → a ≡ b
alike true b f g = sym (f refl)
alike false true f g = g refl
alike false false f g = refl

both : (a b : Bool) → a ≡ true → b ≡ true → (a && b) ≡ true
both a b e f = rw (e, f)

-- the value of a sign that was looked up
found_0 : (n w : ℕ) → sign_of (n / 262144 % 64) ≡ w → value_of w ≡ n / 262144 % 64
found_0 n w e = ap value_of (sym e) ∙ (sign_0 n).0

found_1 : (n w : ℕ) → sign_of (n / 4096 % 64) ≡ w → value_of w ≡ n / 4096 % 64
found_1 n w e = ap value_of (sym e) ∙ (sign_1 n).0

found_2 : (n w : ℕ) → sign_of (n / 64 % 64) ≡ w → value_of w ≡ n / 64 % 64
found_2 n w e = ap value_of (sym e) ∙ (sign_2 n).0

found_3 : (n w : ℕ) → sign_of (n % 64) ≡ w → value_of w ≡ n % 64
found_3 n w e = ap value_of (sym e) ∙ (sign_3 n).0

pad_value : value_of pad ≡ 64
unfolding value_of signs
pad_value = refl

no_pad : (x : ℕ) → value_of x < 64 → x ≡ pad → ⊥
no_pad x h e = let f : value_of x ≡ 64 = ap value_of e ∙ pad_value in omega arith

positive : (n : ℕ) → eqb n 0 ≡ false → 0 < n
positive zero e = clash cc
positive (suc n) e = omega arith

second_zero : (w x q : ℕ) → x ≡ 16 * q → bits_of_values w x 0 0 / 256 % 256 ≡ 0
second_zero w x q e = omega arith

module _ (w x y z : ℕ) (hw : w < 256) (hx : x < 256) (hy : y < 256) (hz : z < 256) where
  abbrev W : ℕ
  W = value_of w

  abbrev X : ℕ
  X = value_of x

  abbrev Y : ℕ
  Y = value_of y

  abbrev Z : ℕ
  Z = value_of z

  -- ---- three bytes

  three_signs : three_of W X Y Z ≡ true → encode (bytes_of_bits (bits_of_values W X Y Z)) ≡ w ∷ x ∷ y ∷ z ∷ []
  unfolding encode
  three_signs t =
      let a = both_true _ _ t in
      let b = both_true _ _ a.1 in
      let c = both_true _ _ b.1 in
      let iw = ltb-true W 64 a.0 in
      let ix = ltb-true X 64 b.0 in
      let iy = ltb-true Y 64 c.0 in
      let iz = ltb-true Z 64 c.1 in
      let n : ℕ = bits_of_values W X Y Z in
      rw (
        bits_of n (omega arith),
        group_0 W X Y Z iw ix iy iz,
        group_1 W X Y Z iw ix iy iz,
        group_2 W X Y Z iw ix iy iz,
        group_3 W X Y Z iw ix iy iz,
        sign_value w hw iw,
        sign_value x hx ix,
        sign_value y hy iy,
        sign_value z hz iz,
      )

  three_needs : (a b c : ℕ) → encode (a ∷ b ∷ c ∷ []) ≡ w ∷ x ∷ y ∷ z ∷ [] → three_of W X Y Z ≡ true
  unfolding encode
  three_needs a b c e =
      let n : ℕ = bits_of_bytes a b c in
      let f = found_0 n w cc in
      let g = found_1 n x cc in
      let h = found_2 n y cc in
      let i = found_3 n z cc in
      both _ _ (lt-ltb W 64 (omega arith)) (both _ _ (lt-ltb X 64 (omega arith)) (both _ _ (lt-ltb Y 64 (omega arith)) (lt-ltb Z 64 (omega arith))))

  pub kind_three : (y ≡ pad → ⊥) → (z ≡ pad → ⊥) → (r : Bool) → r ≡ three_of W X Y Z → cond r 3 0 ≡ kind_of w x y z
  unfolding kind_of
  kind_three f g r e =
      rw (ne_eqb y pad f, ne_eqb z pad g, e)
      (ap (λ (b : Bool). cond b 3 0)
      (alike (three_of W X Y Z) (same_bytes (encode (bytes_of_bits (bits_of_values W X Y Z))) (w ∷ x ∷ y ∷ z ∷ [])) (λ t. rw (three_signs t) (same_self (w ∷ x ∷ y ∷ z ∷ [])))
      (λ t. three_needs _ _ _ (same_true _ (w ∷ x ∷ y ∷ z ∷ []) t))))

  -- ---- two bytes and `=`

  two_signs : two_of W X Y ≡ true → z ≡ pad → encode (take 2 (bytes_of_bits (bits_of_values W X Y 0))) ≡ w ∷ x ∷ y ∷ z ∷ []
  unfolding encode
  two_signs t p =
      let a = both_true _ _ t in
      let b = both_true _ _ a.1 in
      let c = both_true _ _ b.1 in
      let iw = ltb-true W 64 a.0 in
      let ix = ltb-true X 64 b.0 in
      let iy = ltb-true Y 64 c.0 in
      let s = eqb-true (Y % 4) 0 c.1 in
      let iz : 0 < 64 = omega arith in
      let n : ℕ = bits_of_values W X Y 0 in
      let m : n % 256 ≡ 0 = omega arith in
      let k : bits_of_bytes (n / 65536 % 256) (n / 256 % 256) 0 ≡ n = rw m at (bits_of n (omega arith)) in
      rw (k, p, group_0 W X Y 0 iw ix iy iz, group_1 W X Y 0 iw ix iy iz, group_2 W X Y 0 iw ix iy iz, sign_value w hw iw, sign_value x hx ix, sign_value y hy iy)

  two_needs : (a b : ℕ) → encode (a ∷ b ∷ []) ≡ w ∷ x ∷ y ∷ z ∷ [] → two_of W X Y ≡ true
  unfolding encode
  two_needs a b e =
      let n : ℕ = bits_of_bytes a b 0 in
      let f = found_0 n w cc in
      let g = found_1 n x cc in
      let h = found_2 n y cc in
      let s : Y % 4 ≡ 0 = omega arith in
      both _ _ (lt-ltb W 64 (omega arith)) (both _ _ (lt-ltb X 64 (omega arith)) (both _ _ (lt-ltb Y 64 (omega arith)) (eq-eqb (Y % 4) 0 s)))

  pub kind_two : (y ≡ pad → ⊥) → z ≡ pad → (r : Bool) → r ≡ two_of W X Y → cond r 2 0 ≡ kind_of w x y z
  unfolding kind_of
  kind_two f g r e =
      rw (ne_eqb y pad f, eq-eqb z pad g, e)
      (ap (λ (b : Bool). cond b 2 0)
      (alike (two_of W X Y) (same_bytes (encode (take 2 (bytes_of_bits (bits_of_values W X Y 0)))) (w ∷ x ∷ y ∷ z ∷ [])) (λ t. rw (two_signs t g) (same_self (w ∷ x ∷ y ∷ z ∷ [])))
      (λ t. two_needs _ _ (same_true _ (w ∷ x ∷ y ∷ z ∷ []) t))))

  -- ---- one byte and `==`

  one_signs : one_of W X ≡ true → y ≡ pad → z ≡ pad → encode (take 1 (bytes_of_bits (bits_of_values W X 0 0))) ≡ w ∷ x ∷ y ∷ z ∷ []
  unfolding encode
  one_signs t p q =
      let a = both_true _ _ t in
      let b = both_true _ _ a.1 in
      let iw = ltb-true W 64 a.0 in
      let ix = ltb-true X 64 b.0 in
      let s = eqb-true (X % 16) 0 b.1 in
      let iz : 0 < 64 = omega arith in
      let n : ℕ = bits_of_values W X 0 0 in
      let m : n % 256 ≡ 0 = omega arith in
      let o : n / 256 % 256 ≡ 0 = second_zero W X (X / 16) (omega arith) in
      let k : bits_of_bytes (n / 65536 % 256) 0 0 ≡ n = rw (m, o) at (bits_of n (omega arith)) in
      rw (k, p, q, group_0 W X 0 0 iw ix iz iz, group_1 W X 0 0 iw ix iz iz, sign_value w hw iw, sign_value x hx ix)

  one_needs : (a : ℕ) → encode (a ∷ []) ≡ w ∷ x ∷ y ∷ z ∷ [] → (one_of W X ≡ true) × (z ≡ pad)
  unfolding encode
  one_needs a e =
      let n : ℕ = bits_of_bytes a 0 0 in
      let f = found_0 n w cc in
      let g = found_1 n x cc in
      let s : X % 16 ≡ 0 = omega arith in
      (both _ _ (lt-ltb W 64 (omega arith)) (both _ _ (lt-ltb X 64 (omega arith)) (eq-eqb (X % 16) 0 s)), cc)

  pub kind_one : y ≡ pad → (r : Bool) → r ≡ (eqb z pad && one_of W X) → cond r 1 0 ≡ kind_of w x y z
  unfolding kind_of
  kind_one f r e =
      rw (eq-eqb y pad f, e)
      (ap (λ (b : Bool). cond b 1 0)
      (alike (eqb z pad && one_of W X) (same_bytes (encode (take 1 (bytes_of_bits (bits_of_values W X 0 0)))) (w ∷ x ∷ y ∷ z ∷ []))
      (λ t. let u = both_true _ _ t in rw (one_signs u.1 f (eqb-true z pad u.0)) (same_self (w ∷ x ∷ y ∷ z ∷ [])))
      (λ t. let u = one_needs _ (same_true _ (w ∷ x ∷ y ∷ z ∷ []) t) in both _ _ (eq-eqb z pad u.1) u.0)))

  -- four signs without `=`
  pub kind_signs : W < 64 → X < 64 → Y < 64 → Z < 64 → kind_of w x y z ≡ 3
  kind_signs iw ix iy iz =
      sym (kind_three (no_pad y iy) (no_pad z iz) true (sym (both _ _ (lt-ltb W 64 iw) (both _ _ (lt-ltb X 64 ix) (both _ _ (lt-ltb Y 64 iy) (lt-ltb Z 64 iz))))))

-- ---- what an answer says of the number

pub counted_none : (n : ℕ) → counted n ≡ None → n ≡ 0
unfolding counted
counted_none n e = by_bool (eqb n 0) (λ t. eqb-true n 0 t) (λ f. let q : Some n ≡ None = rw f at e in clash cc)

pub counted_some : (n m : ℕ) → counted n ≡ Some m → (m ≡ n) × (0 < n)
unfolding counted
counted_some n m e =
    by_bool (eqb n 0)
    (λ t. let q : None ≡ Some m = rw t at e in clash cc)
    (λ f. let q : Some n ≡ Some m = rw f at e in (cc, positive n f))

-- ---- laws of the kind

module _ (w x y z : ℕ) where
  most : length (bytes_of_signs w x y z) ≤ 3
  most = go (eqb y pad) (eqb z pad)
    where
      go : (p q : Bool) → length (cond p (take 1 (bytes_of_bits (bits_of_values (value_of w) (value_of x) 0 0)))
          (cond q (take 2 (bytes_of_bits (bits_of_values (value_of w) (value_of x) (value_of y) 0)))
          (bytes_of_bits (bits_of_values (value_of w) (value_of x) (value_of y) (value_of z))))) ≤ 3
      go true q = omega arith
      go false true = omega arith
      go false false = omega arith

  pub kind_most : kind_of w x y z ≤ 3
  unfolding kind_of
  kind_most = go (same_bytes (encode (bytes_of_signs w x y z)) (w ∷ x ∷ y ∷ z ∷ [])) most
    where
      go : (p : Bool) → length (bytes_of_signs w x y z) ≤ 3 → cond p (length (bytes_of_signs w x y z)) 0 ≤ 3
      go true h = h
      go false h = omega arith

  -- signs of some kind are those of their bytes
  pub kind_is : 0 < kind_of w x y z → (encode (bytes_of_signs w x y z) ≡ w ∷ x ∷ y ∷ z ∷ []) × (length (bytes_of_signs w x y z) ≡ kind_of w x y z)
  unfolding kind_of
  kind_is h = go (same_bytes (encode (bytes_of_signs w x y z)) (w ∷ x ∷ y ∷ z ∷ [])) refl h
    where
      go : (p : Bool) → same_bytes (encode (bytes_of_signs w x y z)) (w ∷ x ∷ y ∷ z ∷ []) ≡ p → 0 < cond p (length (bytes_of_signs w x y z)) 0
          → (encode (bytes_of_signs w x y z) ≡ w ∷ x ∷ y ∷ z ∷ []) × (length (bytes_of_signs w x y z) ≡ cond p (length (bytes_of_signs w x y z)) 0)
      go true e h = (same_true _ _ e, refl)
      go false e h = absurd (omega arith)

  -- the signs of up to three bytes are of their kind
  pub kind_of_lem : (b : List ℕ) → AllBytes b → encode b ≡ w ∷ x ∷ y ∷ z ∷ [] → kind_of w x y z ≡ length b
  unfolding kind_of loosely
  kind_of_lem b h e =
      let t : bytes_of_signs w x y z ≡ b = sym (append-nil (bytes_of_signs w x y z)) ∙ rw e at (loosely-encode b h) in
      rw (t, e, same_self (w ∷ x ∷ y ∷ z ∷ []))
