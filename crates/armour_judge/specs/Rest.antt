-- What is left of a text from a place on, without its carriage returns before line feeds: how it goes on, byte by byte.
use Rattle.std.specs.Prelude.{Option, Some, None, ℕ, ◌+◌, ◌-◌, ◌<◌, ◌≤◌, refl, Bool, true, false, cond, ◌&&◌, List, [], ◌∷◌, eqb, ltb, length, drop}
use native.Mathlib.Omega.{arith}
use Rattle.std.proofs.Math.Path.{◌≡◌, ap}
use Rattle.std.proofs.Common.{◌∙◌, ne_eqb, eqb-true, drop_of_length-le}
use Rattle.std.proofs.Math.ListN.{get_or}
use Rattle.fields.specs.Bytes.{both_true}
use Rattle.armour_text.specs.Import.{feeds, strip}
use Rattle.armour_text.specs.Places.{at_next}

abbrev pub rest : List ℕ → ℕ → List ℕ
rest t p = strip (drop p t)

-- ---- the next byte

pub rest_none : (t : List ℕ) (p : ℕ) → length t ≤ p → rest t p ≡ []
unfolding strip
rest_none t p h = rw (drop_of_length-le t h)

pub rest_byte : (t : List ℕ) (p : ℕ) → p < length t → (get_or t p 0 ≡ 13 → ⊥) → rest t p ≡ get_or t p 0 ∷ rest t (p + 1)
unfolding strip
rest_byte t p h f = rw (at_next t p h, ne_eqb _ _ f)

-- a carriage return that ends the text, or that no line feed follows
pub rest_last : (t : List ℕ) (p : ℕ) → p < length t → length t - p < 2 → get_or t p 0 ≡ 13 → rest t p ≡ 13 ∷ []
unfolding strip
rest_last t p h l e =
    let z : drop (p + 1) t ≡ [] = drop_of_length-le t {i = p + 1} (omega arith) in
    rw (at_next t p h, e, z)

pub rest_return : (t : List ℕ) (p : ℕ) → p + 1 < length t → get_or t p 0 ≡ 13 → (get_or t (p + 1) 0 ≡ 10 → ⊥) → rest t p ≡ 13 ∷ rest t (p + 1)
unfolding strip
rest_return t p h e f = rw (at_next t p (omega arith), e) (go (at_next t (p + 1) h))
  where
    go : {d : List ℕ} → d ≡ get_or t (p + 1) 0 ∷ drop (p + 1 + 1) t → cond (feeds d) (strip d) (13 ∷ strip d) ≡ 13 ∷ strip d
    go q = rw (q, ne_eqb _ _ f)

pub rest_feed : (t : List ℕ) (p : ℕ) → p + 1 < length t → get_or t p 0 ≡ 13 → get_or t (p + 1) 0 ≡ 10 → rest t p ≡ 10 ∷ rest t (p + 2)
unfolding strip
rest_feed t p h e f =
    let z : p + 1 + 1 ≡ p + 2 = omega arith in
    rw (at_next t p (omega arith), e, at_next t (p + 1) h, f, z)

-- ---- the other way: what begins with a byte that ends no line

pub record Front (d : List ℕ) (x : ℕ) (r : List ℕ) : Type 0 where
  pub tail : List ℕ
  pub is : d ≡ x ∷ tail
  pub left : strip tail ≡ r

pub strip_front : (d : List ℕ) (x : ℕ) (r : List ℕ) → 13 < x → strip d ≡ x ∷ r → Front d x r
unfolding strip
strip_front [] x r h e = absurd (let z : ◌≡◌ {A = ℕ} 0 1 = cc in omega arith)
strip_front (y ∷ []) x r h e = go (eqb y 13) e
  where
    go : (b : Bool) → cond (b && false) [] (y ∷ []) ≡ x ∷ r → Front (y ∷ []) x r
    go true f = record { tail = []; is = cc; left = cc }
    go false f = record { tail = []; is = cc; left = cc }
strip_front (y ∷ z ∷ d) x r h e = go (eqb y 13 && eqb z 10) refl e
  where
    go : (b : Bool) → (eqb y 13 && eqb z 10) ≡ b → cond b (strip (z ∷ d)) (y ∷ strip (z ∷ d)) ≡ x ∷ r → Front (y ∷ z ∷ d) x r
    go true q f =
        let k : z ≡ 10 = eqb-true z 10 (both_true (eqb y 13) (eqb z 10) q).1 in
        let g : strip (10 ∷ d) ≡ x ∷ r = rw k at f in
        let n : 10 ≡ x = cc in
        absurd (omega arith)
    go false q f = record { tail = z ∷ d; is = cc; left = cc }

-- whether all bytes are such
abbrev pub above : List ℕ → Bool
above [] = true
above (x ∷ s) = cond (ltb 13 x) (above s) false

-- ---- past a line end

-- a line end comes next, and q is the place past it
abbrev pub EndedAt : List ℕ → ℕ → ℕ → Type 0
EndedAt t p q = (rest t p ≡ 10 ∷ rest t q) × (p < q) × (q ≤ length t)

unfoldable pub Ended : List ℕ → ℕ → Option ℕ → Type 0
Ended t p (Some q) = EndedAt t p q
Ended t p None = (r : List ℕ) → rest t p ≡ 10 ∷ r → ⊥

module _ (t : List ℕ) (p : ℕ) where
  pub ended_none : length t ≤ p → Ended t p None
  unfolding Ended
  ended_none h r e = let f = rest_none t p h in let z : ◌≡◌ {A = ℕ} 0 1 = cc in omega arith

  pub ended_other : p < length t → (get_or t p 0 ≡ 10 → ⊥) → (get_or t p 0 ≡ 13 → ⊥) → Ended t p None
  unfolding Ended
  ended_other h f g r e = let k = rest_byte t p h g in let z : get_or t p 0 ≡ 10 = cc in f z

  pub ended_last : p < length t → length t - p < 2 → get_or t p 0 ≡ 13 → Ended t p None
  unfolding Ended
  ended_last h l g r e = let k = rest_last t p h l g in let z : ◌≡◌ {A = ℕ} 13 10 = cc in omega arith

  pub ended_return : p + 1 < length t → get_or t p 0 ≡ 13 → (get_or t (p + 1) 0 ≡ 10 → ⊥) → Ended t p None
  unfolding Ended
  ended_return h g f r e = let k = rest_return t p h g f in let z : ◌≡◌ {A = ℕ} 13 10 = cc in omega arith

  pub ended_feed : p < length t → get_or t p 0 ≡ 10 → Ended t p (Some (p + 1))
  unfolding Ended
  ended_feed h f = (rest_byte t p h (λ e. omega arith) ∙ ap (λ (x : ℕ). x ∷ rest t (p + 1)) f, omega arith, omega arith)

  pub ended_both : p + 1 < length t → get_or t p 0 ≡ 13 → get_or t (p + 1) 0 ≡ 10 → Ended t p (Some (p + 2))
  unfolding Ended
  ended_both h e f = (rest_feed t p h e f, omega arith, omega arith)

pub ended_place : (t : List ℕ) (p q : ℕ) → Ended t p (Some q) → q ≤ length t
unfolding Ended
ended_place t p q h = h.2
