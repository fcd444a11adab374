-- The bytes of a text that was judged, read off four signs at a time.
use Prim.Native.Nat.{ℕ, zero, suc, ◌+◌, ◌/◌, ◌%◌, ◌-◌, ◌<◌, ◌≤◌}
use Rattle.std.proofs.Common.{add-one, sym, ap, ◌∙◌, eqb-true, length-drop}
use native.Mathlib.Omega.{arith}
use Rattle.std.specs.Prelude.{◌≡◌, refl, Bool, true, false, List, [], ◌∷◌, ◌++◌, eqb, length, take, drop, get_or, set}
use Rattle.std.proofs.lemmas.Bool.{eqb-false}
use Rattle.std.proofs.lemmas.List.Edits.{sets}
use Rattle.fields.specs.Bytes.{AllBytes}
use Rattle.armour_signs.specs.Alphabet.{signs, sign_of, value_of}
use Rattle.armour_text.specs.Base64.{pad, bits_of_bytes, bits_of_values, bytes_of_bits, encode}
use Rattle.armour_text.specs.Groups.{groups_of}
use Rattle.armour_text.specs.Inverse.{sign_0, sign_1, sign_2, sign_3}
use Rattle.armour_text.specs.Text.{wrap, closing}
use Rattle.armour_text.specs.Places.{at_next, drop_end, encode_three, encode_two, encode_one}
use Rattle.armour_judge.specs.Rest.{rest, strip_front}
use Rattle.armour_judge.specs.Signs.{four, after, FourAt}
use Rattle.armour_judge.specs.Sized.{wrap-four, four_same}
use Rattle.armour_judge.specs.Runs.{rest_four}

-- ---- four signs that are known to come next

pub record Ready (t : List ℕ) (p k : ℕ) : Type 0 where
  pub w : ℕ
  pub x : ℕ
  pub y : ℕ
  pub z : ℕ
  pub more : List ℕ
  pub high : (42 < w) × (42 < x) × (42 < y) × (42 < z)
  pub begins : rest t p ≡ four k w x y z more

-- the byte at a place, where what is left begins with one that ends no line
pub byte_at : (t : List ℕ) (p x : ℕ) (r : List ℕ) → 42 < x → rest t p ≡ x ∷ r → (p < length t) × (get_or t p 0 ≡ x) × (rest t (p + 1) ≡ r)
byte_at t p x r h e =
    let f = strip_front (drop p t) x r (omega arith) e in
    let l : length (drop p t) ≡ suc (length f.tail) = ap length f.is in
    let i : p < length t = omega (arith, l, length-drop p t) in
    let a = at_next t p i in
    let b = f.is in
    let g : drop (p + 1) t ≡ f.tail = cc in
    (i, cc, rw g f.left)

pub ready_four :
    (t : List ℕ) (p k : ℕ) → Ready t p k → 4 ≤ k
    → (p + 4 ≤ length t) × (42 < get_or t p 0) × (42 < get_or t (p + 1) 0) × (42 < get_or t (p + 2) 0) × (42 < get_or t (p + 3) 0)
ready_four t p (suc (suc (suc (suc k)))) r h =
    let e₁ : p + 1 + 1 ≡ p + 2 = omega arith in
    let e₂ : p + 2 + 1 ≡ p + 3 = omega arith in
    let a = byte_at t p r.w _ r.high.0 r.begins in
    let b = rw e₁ at (byte_at t (p + 1) r.x _ r.high.1 a.2) in
    let c = rw e₂ at (byte_at t (p + 2) r.y _ r.high.2 b.2) in
    let d = byte_at t (p + 3) r.z _ r.high.3 c.2 in
    (omega (arith, d.0), rw a.1 r.high.0, rw b.1 r.high.1, rw c.1 r.high.2, rw d.1 r.high.3)
ready_four t p zero r h = absurd (omega arith)
ready_four t p (suc zero) r h = absurd (omega arith)
ready_four t p (suc (suc zero)) r h = absurd (omega arith)
ready_four t p (suc (suc (suc zero))) r h = absurd (omega arith)

-- in their line they stand one after the other
pub four_in_line :
    (t : List ℕ) (p k : ℕ) → Ready t p k → 4 ≤ k
    → FourAt t p k (get_or t p 0) (get_or t (p + 1) 0) (get_or t (p + 2) 0) (get_or t (p + 3) 0) (p + 4) (k - 4)
four_in_line t p k r h =
    let a = ready_four t p k r h in
    let f = rest_four t p k a.0 h a.1 a.2 a.3 a.4 in
    (f.0, f.1, omega arith, a.0)

-- ---- what is left of the text of b is that of its bytes from o on

abbrev pub Lines : List ℕ → List ℕ → ℕ → ℕ → ℕ → Type 0
Lines t b o p k = rest t p ≡ wrap (encode (drop o b)) k ++ closing

-- not none, not one: two
pub two_left : (o n : ℕ) → o ≤ n → (n ≡ o → ⊥) → (n - o ≡ 1 → ⊥) → n < o + 3 → o + 2 ≡ n
two_left o n h f g l = go (n - o) (omega arith) (λ e. f (omega arith)) g (omega arith)
  where
    go : (d : ℕ) → o + d ≡ n → (d ≡ 0 → ⊥) → (d ≡ 1 → ⊥) → d < 3 → o + 2 ≡ n
    go zero e f g l = absurd (f refl)
    go (suc zero) e f g l = absurd (g refl)
    go (suc (suc zero)) e f g l = e
    go (suc (suc (suc d))) e f g l = absurd (omega arith)

-- the next four signs of the bytes
pub record Next (b : List ℕ) (o : ℕ) : Type 0 where
  pub w : ℕ
  pub x : ℕ
  pub y : ℕ
  pub z : ℕ
  pub more : List ℕ
  pub are : encode (drop o b) ≡ w ∷ x ∷ y ∷ z ∷ more
  pub high : (42 < w) × (42 < x) × (42 < y) × (42 < z)

abbrev bits_at : List ℕ → ℕ → ℕ
bits_at b o = bits_of_bytes (get_or b o 0) (get_or b (o + 1) 0) (get_or b (o + 2) 0)

abbrev bits_two : List ℕ → ℕ → ℕ
bits_two b o = bits_of_bytes (get_or b o 0) (get_or b (o + 1) 0) 0

abbrev bits_one : List ℕ → ℕ → ℕ
bits_one b o = bits_of_bytes (get_or b o 0) 0 0

module _ (b : List ℕ) (o : ℕ) where
  unfoldable pub next_three : o + 3 ≤ length b → Next b o
  next_three h =
      let n : ℕ = bits_at b o in
      record {
        w = sign_of (n / 262144 % 64);
        x = sign_of (n / 4096 % 64);
        y = sign_of (n / 64 % 64);
        z = sign_of (n % 64);
        more = encode (drop (o + 3) b);
        are = encode_three b o h;
        high = ((sign_0 n).1.high, (sign_1 n).1.high, (sign_2 n).1.high, (sign_3 n).1.high);
      }

  unfoldable pub next_two : o + 2 ≡ length b → Next b o
  next_two h =
      let n : ℕ = bits_two b o in
      record {
        w = sign_of (n / 262144 % 64);
        x = sign_of (n / 4096 % 64);
        y = sign_of (n / 64 % 64);
        z = pad;
        more = [];
        are = encode_two b o h;
        high = ((sign_0 n).1.high, (sign_1 n).1.high, (sign_2 n).1.high, omega arith);
      }

  unfoldable pub next_one : o + 1 ≡ length b → Next b o
  next_one h =
      let n : ℕ = bits_one b o in
      record {
        w = sign_of (n / 262144 % 64);
        x = sign_of (n / 4096 % 64);
        y = pad;
        z = pad;
        more = [];
        are = encode_one b o h;
        high = ((sign_0 n).1.high, (sign_1 n).1.high, omega arith, omega arith);
      }

  -- one or two are left
  pub next_rest_lem : o ≤ length b → (length b ≡ o → ⊥) → length b < o + 3 → Next b o
  next_rest_lem h f l = go (eqb (o + 1) (length b)) refl
    where
      go : (x : Bool) → eqb (o + 1) (length b) ≡ x → Next b o
      go true e = next_one (eqb-true _ _ e)
      go false e = next_two (two_left o (length b) h f (λ q. eqb-false (o + 1) (length b) e (omega arith)) l)

module _ (t b : List ℕ) (o p k : ℕ) (e : Lines t b o p k) (s : Next b o) where
  begun : rest t p ≡ four k s.w s.x s.y s.z (wrap s.more (after k) ++ closing)
  begun = e ∙ rw (s.are, wrap-four s.w s.x s.y s.z s.more k)

  pub ready : Ready t p k
  ready = record { w = s.w; x = s.x; y = s.y; z = s.z; more = wrap s.more (after k) ++ closing; high = s.high; begins = begun }

  pub these :
      (w x y z q j : ℕ) → FourAt t p k w x y z q j
      → (w ≡ s.w) × (x ≡ s.x) × (y ≡ s.y) × (z ≡ s.z) × (rest t q ≡ wrap s.more j ++ closing)
  these w x y z q j h =
      let u = four_same k w x y z s.w s.x s.y s.z (rest t q) _ (sym h.0 ∙ begun) in
      (u.0, u.1, u.2, u.3, u.4 ∙ rw h.1)

-- ---- stores

pub store_three_lem : (l : List ℕ) (o x y z : ℕ) → set (set (set l o x) (o + 1) y) (o + 2) z ≡ sets l o (x ∷ y ∷ z ∷ [])
store_three_lem l o x y z =
    let e : o + 1 ≡ suc o = omega arith in
    let f : o + 2 ≡ suc (suc o) = omega arith in
    rw (e, f)

pub store_two : (l : List ℕ) (o x y : ℕ) → set (set l o x) (o + 1) y ≡ sets l o (x ∷ y ∷ [])
store_two l o x y = rw (add-one o)

-- three bytes, and then the others
store_more : (l : List ℕ) (o x y z : ℕ) (r : List ℕ) → sets (sets l o (x ∷ y ∷ z ∷ [])) (o + 3) r ≡ sets l o (x ∷ y ∷ z ∷ r)
store_more l o x y z r = let e : o + 3 ≡ suc (suc (suc o)) = omega arith in rw e

drop_three : (b : List ℕ) (i : ℕ) → i + 3 ≤ length b → drop i b ≡ get_or b i 0 ∷ get_or b (i + 1) 0 ∷ get_or b (i + 2) 0 ∷ drop (i + 3) b
drop_three b i h =
    let e : i + 1 + 1 ≡ i + 2 = omega arith in
    let f : i + 2 + 1 ≡ i + 3 = omega arith in
    rw (at_next b i (omega arith), at_next b (i + 1) (omega arith), e, at_next b (i + 2) (omega arith), f)

drop_two : (b : List ℕ) (i : ℕ) → i + 2 ≡ length b → drop i b ≡ get_or b i 0 ∷ get_or b (i + 1) 0 ∷ []
drop_two b i h =
    let e : i + 1 + 1 ≡ i + 2 = omega arith in
    rw (at_next b i (omega arith), at_next b (i + 1) (omega arith), e, drop_end b (i + 2) h)

drop_one : (b : List ℕ) (i : ℕ) → i + 1 ≡ length b → drop i b ≡ get_or b i 0 ∷ []
drop_one b i h = rw (at_next b i (omega arith), drop_end b (i + 1) h)

-- ---- the bytes of the signs that were read

first_of : (a b c : ℕ) → a < 256 → b < 256 → c < 256 → bits_of_bytes a b c / 65536 % 256 ≡ a
first_of a b c h k l = omega arith

second_of : (a b c : ℕ) → a < 256 → b < 256 → c < 256 → bits_of_bytes a b c / 256 % 256 ≡ b
second_of a b c h k l = omega arith

third_of : (a b c : ℕ) → a < 256 → b < 256 → c < 256 → bits_of_bytes a b c % 256 ≡ c
third_of a b c h k l = omega arith

-- the value of `A`
a_value : value_of 65 ≡ 0
unfolding value_of signs
a_value = refl

no_third : (a : ℕ) → bits_of_bytes a 0 0 / 64 % 64 ≡ 0
no_third a = omega arith

module _ (t b : List ℕ) (o p k : ℕ) (e : Lines t b o p k) (all : AllBytes b) (w x y z q j : ℕ) (h : FourAt t p k w x y z q j) where
  module _ (l : o + 3 ≤ length b) where
    bits_three : bits_of_values (value_of w) (value_of x) (value_of y) (value_of z) ≡ bits_at b o
    unfolding next_three
    bits_three =
        let u = these t b o p k e (next_three b o l) w x y z q j h in
        let n : ℕ = bits_at b o in
        let i₀ = all o in
        let i₁ = all (o + 1) in
        let i₂ = all (o + 2) in
        rw (u.0, u.1, u.2, u.3, (sign_0 n).0, (sign_1 n).0, (sign_2 n).0, (sign_3 n).0) (groups_of n (omega arith))

    pub fill_three :
        (old : List ℕ)
        → (sets (sets old o (bytes_of_bits (bits_of_values (value_of w) (value_of x) (value_of y) (value_of z)))) (o + 3) (drop (o + 3) b) ≡ sets old o (drop o b))
        × Lines t b (o + 3) q j
    unfolding next_three
    fill_three old =
        let i₀ = all o in
        let i₁ = all (o + 1) in
        let i₂ = all (o + 2) in (
          rw (bits_three, first_of _ _ _ i₀ i₁ i₂, second_of _ _ _ i₀ i₁ i₂, third_of _ _ _ i₀ i₁ i₂, drop_three b o l)
              (store_more old o (get_or b o 0) (get_or b (o + 1) 0) (get_or b (o + 2) 0) (drop (o + 3) b)),
          (these t b o p k e (next_three b o l) w x y z q j h).4,
        )

  pub fill_two :
      o + 2 ≡ length b → (old : List ℕ) → sets old o (take 2 (bytes_of_bits (bits_of_values (value_of w) (value_of x) (value_of y) (value_of 65)))) ≡ sets old o (drop o b)
  unfolding next_two
  fill_two l old =
      let u = these t b o p k e (next_two b o l) w x y z q j h in
      let n : ℕ = bits_two b o in
      let i₀ = all o in
      let i₁ = all (o + 1) in
      let s : n % 64 ≡ 0 = omega arith in
      let r : bits_of_values (n / 262144 % 64) (n / 4096 % 64) (n / 64 % 64) 0 ≡ n = rw s at (groups_of n (omega arith)) in
      let m : bits_of_values (value_of w) (value_of x) (value_of y) (value_of 65) ≡ n = rw (a_value, u.0, u.1, u.2, (sign_0 n).0, (sign_1 n).0, (sign_2 n).0) r in
      rw (m, first_of _ _ 0 i₀ i₁ (omega arith), second_of _ _ 0 i₀ i₁ (omega arith), drop_two b o l)

  pub fill_one :
      o + 1 ≡ length b → (old : List ℕ) → set old o (bits_of_values (value_of w) (value_of x) (value_of 65) (value_of 65) / 65536 % 256) ≡ sets old o (drop o b)
  unfolding next_one
  fill_one l old =
      let u = these t b o p k e (next_one b o l) w x y z q j h in
      let n : ℕ = bits_one b o in
      let i₀ = all o in
      let s : n % 64 ≡ 0 = omega arith in
      let v = no_third (get_or b o 0) in
      let r : bits_of_values (n / 262144 % 64) (n / 4096 % 64) 0 0 ≡ n = rw (s, v) at (groups_of n (omega arith)) in
      let m : bits_of_values (value_of w) (value_of x) (value_of 65) (value_of 65) ≡ n = rw (a_value, u.0, u.1, (sign_0 n).0, (sign_1 n).0) r in
      rw (m, first_of _ 0 0 i₀ (omega arith) (omega arith), drop_one b o l)

pub fill_none : (b : List ℕ) (o : ℕ) (l : List ℕ) → o ≡ length b → l ≡ sets l o (drop o b)
fill_none b o l n = rw (drop_end b o n)
