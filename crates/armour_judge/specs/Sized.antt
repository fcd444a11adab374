-- What is left of a text of some bytes, and of how many, four signs at a time: the signs of three bytes and what is left after them, or the
-- last ones. Rests on what four signs are (armour_groups/Kinds).
use Prim.Native.Nat.{ℕ, zero, suc, ◌+◌, ◌<◌}
use Rattle.std.proofs.Common.{add_assoc, zero-add, sym, ◌∙◌, ne_eqb, length-append}
use native.Mathlib.Omega.{arith}
use Rattle.std.specs.Prelude.{◌≡◌, length}
use Rattle.std.proofs.Math.Path.{refl}
use mathlib.Core.List.{List, [], ◌∷◌, ◌++◌, append_assoc}
use Rattle.fields.specs.Bytes.{AllBytes}
use Rattle.armour_text.specs.Base64.{bytes_of_signs, encode}
use Rattle.armour_text.specs.Inverse.{append_bytes, signs_bytes}
use Rattle.armour_text.specs.Text.{fewer, last, wrap, closing}
use Rattle.armour_text.proofs.Ends.{encode_within}
use Rattle.armour_judge.specs.Signs.{four, after, lead_same}
use Rattle.armour_groups.specs.Kinds.{kind_of}
use Rattle.armour_groups.proofs.Laws.{kind_is, kind_of_lem}

-- r is what is left of the text of n bytes, where the line has k columns left
pub record Sized (r : List ℕ) (k n : ℕ) : Type 0 where
  pub bytes : List ℕ
  pub are : AllBytes bytes
  pub lines : r ≡ wrap (encode bytes) k ++ closing
  pub size : length bytes ≡ n

-- it is that of no list of bytes, however long
abbrev pub NoBytes : List ℕ → ℕ → Type 0
NoBytes r k = (m : ℕ) → Sized r k m → ⊥

-- ---- four signs of a text

pub wrap-four : (w x y z : ℕ) (s : List ℕ) (k : ℕ) → wrap (w ∷ x ∷ y ∷ z ∷ s) k ++ closing ≡ four k w x y z (wrap s (after k) ++ closing)
unfolding wrap
wrap-four w x y z s k = simp append_assoc

pub four_same :
    (k w x y z w' x' y' z' : ℕ) (r s : List ℕ) → four k w x y z r ≡ four k w' x' y' z' s → (w ≡ w') × (x ≡ x') × (y ≡ y') × (z ≡ z') × (r ≡ s)
four_same k w x y z w' x' y' z' r s e =
    let a = lead_same k w w' _ _ e in
    let b = lead_same (fewer k) x x' _ _ a.1 in
    let c = lead_same (fewer (fewer k)) y y' _ _ b.1 in
    let d = lead_same (fewer (fewer (fewer k))) z z' r s c.1 in
    (a.0, b.0, c.0, d.0, d.1)

encode_more : (a b c : ℕ) (w x y z : ℕ) (more : List ℕ) → encode (a ∷ b ∷ c ∷ []) ≡ w ∷ x ∷ y ∷ z ∷ [] → encode (a ∷ b ∷ c ∷ more) ≡ w ∷ x ∷ y ∷ z ∷ encode more
unfolding encode
encode_more a b c w x y z more e = cc

encode_front : (f : List ℕ) (w x y z : ℕ) (more : List ℕ) → length f ≡ 3 → encode f ≡ w ∷ x ∷ y ∷ z ∷ [] → encode (f ++ more) ≡ w ∷ x ∷ y ∷ z ∷ encode more
encode_front [] w x y z more l e = absurd (omega arith)
encode_front (a ∷ []) w x y z more l e = absurd (omega arith)
encode_front (a ∷ b ∷ []) w x y z more l e = absurd (omega arith)
encode_front (a ∷ b ∷ c ∷ []) w x y z more l e = encode_more a b c w x y z more e
encode_front (a ∷ b ∷ c ∷ d ∷ f) w x y z more l e = absurd (omega arith)

-- a line that has a column left is ended
last_feed : (k : ℕ) → k < 70 → last k ≡ 10 ∷ []
last_feed k h = rw (ne_eqb k 70 (λ e. omega arith))

pub after_less : (k : ℕ) → k < 70 → after k < 70
after_less k h = less _ (less _ (less _ (less k h)))
  where
    less : (k : ℕ) → k < 70 → fewer k < 70
    less zero h = omega arith
    less (suc k) h = omega arith

-- what is left, but for its end, begins with four signs
record First (r : List ℕ) (k : ℕ) : Type 0 where
  pub w : ℕ
  pub x : ℕ
  pub y : ℕ
  pub z : ℕ
  pub more : List ℕ
  pub are : AllBytes more
  pub high : (42 < w) × (42 < x) × (42 < y) × (42 < z)
  pub begins : r ≡ four k w x y z (wrap (encode more) (after k) ++ closing)
  pub some : 0 < kind_of w x y z
  pub last_one : kind_of w x y z < 3 → more ≡ []

module _ (r : List ℕ) (k : ℕ) (less : k < 70) where
  first_of :
      (f b more : List ℕ) (w x y z : ℕ) → AllBytes f → 0 < length f → encode f ≡ w ∷ x ∷ y ∷ z ∷ [] → encode b ≡ w ∷ x ∷ y ∷ z ∷ encode more
      → AllBytes more → (length f < 3 → more ≡ []) → r ≡ wrap (encode b) k ++ closing → First r k
  first_of f b more w x y z h l e g i n t =
      let q = kind_of_lem w x y z f h e in
      let v = rw e at (encode_within f) in
      record {
        w = w;
        x = x;
        y = y;
        z = z;
        more = more;
        are = i;
        high = (v.0, v.2.0, v.2.2.0, v.2.2.2.0);
        begins = t ∙ rw (g, wrap-four w x y z (encode more) k);
        some = rw q l;
        last_one = λ u. n (rw q at u);
      }

  first_at : (b : List ℕ) → AllBytes b → (r ≡ 10 ∷ closing → ⊥) → r ≡ wrap (encode b) k ++ closing → First r k
  unfolding encode wrap
  first_at [] h f e = absurd (f (e ∙ rw (last_feed k less)))
  first_at (a ∷ []) h f e = first_of (a ∷ []) (a ∷ []) [] _ _ _ _ h (omega arith) refl refl (λ i. omega arith) (λ u. refl) e
  first_at (a ∷ b ∷ []) h f e = first_of (a ∷ b ∷ []) (a ∷ b ∷ []) [] _ _ _ _ h (omega arith) refl refl (λ i. omega arith) (λ u. refl) e
  first_at (a ∷ b ∷ c ∷ more) h f e =
      first_of (a ∷ b ∷ c ∷ []) (a ∷ b ∷ c ∷ more) more _ _ _ _ (three h) (omega arith) refl refl (λ i. h (suc (suc (suc i)))) (λ u. absurd (omega arith)) e
    where
      three : AllBytes (a ∷ b ∷ c ∷ more) → AllBytes (a ∷ b ∷ c ∷ [])
      three h zero = h 0
      three h (suc zero) = h 1
      three h (suc (suc zero)) = h 2
      three h (suc (suc (suc i))) = omega arith

  pub sized_end : r ≡ 10 ∷ closing → Sized r k 0
  unfolding wrap encode
  sized_end e = record { bytes = []; are = λ i. omega arith; lines = e ∙ rw (last_feed k less); size = refl }

  module _ (f : r ≡ 10 ∷ closing → ⊥) where
    -- no four signs
    pub none_group : ((w x y z : ℕ) (s : List ℕ) → (42 < w) × (42 < x) × (42 < y) × (42 < z) → r ≡ four k w x y z s → ⊥) → NoBytes r k
    none_group g m s = let a = first_at s.bytes s.are f s.lines in g a.w a.x a.y a.z _ a.high a.begins

    module _ (w x y z : ℕ) (r' : List ℕ) (e : r ≡ four k w x y z r') where
      -- what is left after the signs that were read
      same_first : (a : First r k) → (kind_of a.w a.x a.y a.z ≡ kind_of w x y z) × (r' ≡ wrap (encode a.more) (after k) ++ closing)
      same_first a =
          let q = four_same k w x y z a.w a.x a.y a.z r' _ (sym e ∙ a.begins) in
          (rw (q.0, q.1, q.2, q.3), q.4)

      pub none_kind : kind_of w x y z ≡ 0 → NoBytes r k
      none_kind h m s =
          let a = first_at s.bytes s.are f s.lines in
          let q = same_first a in
          omega (arith, a.some, q.0, h)

      pub none_last : kind_of w x y z < 3 → (r' ≡ 10 ∷ closing → ⊥) → NoBytes r k
      unfolding wrap encode
      none_last h g m s =
          let a = first_at s.bytes s.are f s.lines in
          let q = same_first a in
          let n : a.more ≡ [] = a.last_one (rw q.0 h) in
          g (q.1 ∙ rw (n, last_feed (after k) (after_less k less)))

      pub none_more : NoBytes r' (after k) → NoBytes r k
      none_more g m s =
          let a = first_at s.bytes s.are f s.lines in
          let q = same_first a in
          g (length a.more) (record { bytes = a.more; are = a.are; lines = q.1; size = refl })

  module _ (w x y z : ℕ) (r' : List ℕ) (e : r ≡ four k w x y z r') where
    pub sized_last : 0 < kind_of w x y z → r' ≡ 10 ∷ closing → Sized r k (kind_of w x y z)
    unfolding wrap
    sized_last h l =
        let q = kind_is w x y z h in
        record {
          bytes = bytes_of_signs w x y z;
          are = signs_bytes w x y z;
          lines = e ∙ rw (q.0, wrap-four w x y z [] k, last_feed (after k) (after_less k less), l);
          size = q.1;
        }

    pub sized_more : kind_of w x y z ≡ 3 → (m : ℕ) → Sized r' (after k) m → Sized r k (3 + m)
    sized_more h m s =
        let q = kind_is w x y z (omega arith) in
        let g = encode_front (bytes_of_signs w x y z) w x y z s.bytes (q.1 ∙ h) q.0 in
        record {
          bytes = bytes_of_signs w x y z ++ s.bytes;
          are = append_bytes (bytes_of_signs w x y z) s.bytes (signs_bytes w x y z) s.are;
          lines = e ∙ rw (g, wrap-four w x y z (encode s.bytes) k, s.lines);
          size = length-append (bytes_of_signs w x y z) s.bytes ∙ rw (q.1, h, s.size);
        }

-- ---- on the way: what is left, with n bytes more, is what was there at first

pub record Through (r₀ : List ℕ) (k₀ n : ℕ) (r : List ℕ) (k : ℕ) : Type 0 where
  pub to : (m : ℕ) → Sized r k m → Sized r₀ k₀ (n + m)
  pub back : NoBytes r k → NoBytes r₀ k₀

pub through_none : (r : List ℕ) (k : ℕ) → Through r k 0 r k
through_none r k = record { to = λ m s. rw (zero-add m) s; back = λ f. f }

-- four signs of three bytes
pub through_more :
    {r₀ : List ℕ} {k₀ n : ℕ} {r : List ℕ} {k : ℕ} → k < 70 → (w x y z : ℕ) (r' : List ℕ) → Through r₀ k₀ n r k → (r ≡ 10 ∷ closing → ⊥)
    → r ≡ four k w x y z r' → kind_of w x y z ≡ 3 → Through r₀ k₀ (n + 3) r' (after k)
through_more {n = n} {r = r} {k = k} l w x y z r' t f e h = record {
  to = λ m s. rw (add_assoc n 3 m) (t.to (3 + m) (sized_more r k l w x y z r' e h m s));
  back = λ g. t.back (none_more r k l f w x y z r' e g);
}
