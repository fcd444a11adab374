-- A run of signs in their line: as it is tested, and that it is gone through group by group.
use Rattle.std.specs.Prelude.{ℕ, zero, suc, ◌+◌, ◌*◌, ◌-◌, ◌<◌, ◌≤◌, ◌≡◌, refl, Bool, true, false, ◌&&◌, List, ltb, leb, length, get_or}
use Rattle.std.proofs.Common.{add_assoc, add-zero, eq-or-lt_of_le, arith, ⊎_elim, ◌∙◌, ltb-true, ltb-false, leb-true}
use Rattle.fields.specs.Bytes.{AllBytes, both_true}
use Rattle.armour_signs.specs.Alphabet.{value_of, is_sign, all_signs}
use Rattle.armour_signs.specs.Rule.{value_sign, sign_value}
use Rattle.armour_judge.specs.Rest.{rest, rest_byte}
use Rattle.armour_judge.specs.Signs.{four, after}
use Rattle.armour_groups.proofs.Laws.{kind_signs}
use Rattle.armour_judge.specs.Sized.{Through, through_more}

-- each of the n bytes from p on is a sign
abbrev pub AllSigns : List ℕ → ℕ → ℕ → Type 0
AllSigns t p n = (i : ℕ) → i < n → is_sign (get_or t (p + i) 0) ≡ true

pub all_are : (n : ℕ) (t : List ℕ) (p : ℕ) → all_signs n t p ≡ true → AllSigns t p n
all_are zero t p e i h = absurd (omega arith)
all_are (suc n) t p e i h =
    let b = both_true (all_signs n t p) (is_sign (get_or t (p + n) 0)) e in
    ⊎_elim (λ q. rw q b.1) (λ l. all_are n t p b.0 i l) (eq-or-lt_of_le (le_of_lt_succ i n h))
  where
    le_of_lt_succ : (i n : ℕ) → i < suc n → i ≤ n
    le_of_lt_succ i n h = omega arith

-- g groups of signs come next in their line, which has k columns left
pub record Run (t : List ℕ) (p k g : ℕ) : Type 0 where
  pub in_line : 4 * g ≤ k
  pub within : p + 4 * g ≤ length t
  pub signs : AllSigns t p (4 * g)

pub run_none : (t : List ℕ) (p k : ℕ) → p ≤ length t → Run t p k 0
run_none t p k h = record { in_line = omega arith; within = omega arith; signs = λ i j. absurd (omega arith) }

-- as it is tested
pub run_tested :
    (t : List ℕ) (p k g : ℕ) → (leb (4 * g) k && (leb (p + 4 * g) (length t) && all_signs (4 * g) t p)) ≡ true → Run t p k g
run_tested t p k g e =
    let a = both_true (leb (4 * g) k) _ e in
    let b = both_true (leb (p + 4 * g) (length t)) (all_signs (4 * g) t p) a.1 in
    record { in_line = leb-true _ _ a.0; within = leb-true _ _ b.0; signs = all_are (4 * g) t p b.1 }

-- one run after the other
pub run_then : (t : List ℕ) (p k g m : ℕ) → Run t p k g → Run t (p + 4 * g) (k - 4 * g) m → Run t p k (g + m)
run_then t p k g m r s =
    record {
      in_line = omega (arith, r.in_line, s.in_line);
      within = omega (arith, s.within);
      signs = λ n h. either n (ltb n (4 * g)) refl (omega arith);
    }
  where
    either : (n : ℕ) (x : Bool) → ltb n (4 * g) ≡ x → n < 4 * g + 4 * m → is_sign (get_or t (p + n) 0) ≡ true
    either n true e h = r.signs n (ltb-true n (4 * g) e)
    either n false e h =
        let l : 4 * g ≤ n = ltb-false n (4 * g) e in
        let q : p + 4 * g + (n - 4 * g) ≡ p + n = omega arith in
        rw q at (s.signs (n - 4 * g) (omega arith))

pub sign_below : (c : ℕ) → is_sign c ≡ true → value_of c < 64
unfolding is_sign
sign_below c e = ltb-true (value_of c) 64 e

-- a sign ends no line
sign_high : (c : ℕ) → c < 256 → value_of c < 64 → 42 < c
sign_high c h k = let v = (value_sign (value_of c) k).1.high in rw (sign_value c h k) at v

pub rest_four :
    (t : List ℕ) (p k : ℕ) → p + 4 ≤ length t → 4 ≤ k → 42 < get_or t p 0 → 42 < get_or t (p + 1) 0 → 42 < get_or t (p + 2) 0 → 42 < get_or t (p + 3) 0
    → (rest t p ≡ four k (get_or t p 0) (get_or t (p + 1) 0) (get_or t (p + 2) 0) (get_or t (p + 3) 0) (rest t (p + 4))) × (k - 4 ≡ after k)
rest_four t p (suc (suc (suc (suc k)))) h l a b c d =
    let e₁ : p + 1 + 1 ≡ p + 2 = omega arith in
    let e₂ : p + 2 + 1 ≡ p + 3 = omega arith in
    let e₃ : p + 3 + 1 ≡ p + 4 = omega arith in
    let r₀ = rest_byte t p (omega arith) (λ e. omega arith) in
    let r₁ = rw e₁ at (rest_byte t (p + 1) (omega arith) (λ e. omega arith)) in
    let r₂ = rw e₂ at (rest_byte t (p + 2) (omega arith) (λ e. omega arith)) in
    let r₃ = rw e₃ at (rest_byte t (p + 3) (omega arith) (λ e. omega arith)) in
    (r₀ ∙ rw (r₁, r₂, r₃), omega arith)
rest_four t p zero h l a b c d = absurd (omega arith)
rest_four t p (suc zero) h l a b c d = absurd (omega arith)
rest_four t p (suc (suc zero)) h l a b c d = absurd (omega arith)
rest_four t p (suc (suc (suc zero))) h l a b c d = absurd (omega arith)

module _ (t : List ℕ) (all : AllBytes t) where
  -- one group
  through_four :
      {r₀ : List ℕ} {k₀ n : ℕ} (p k : ℕ) → k < 70 → 4 ≤ k → p + 4 ≤ length t → AllSigns t p 4 → Through r₀ k₀ n (rest t p) k
      → Through r₀ k₀ (n + 3) (rest t (p + 4)) (k - 4)
  through_four p k l h i s v =
      let a₀ = sign_below _ (rw (add-zero p) at (s 0 (omega arith))) in
      let a₁ = sign_below _ (s 1 (omega arith)) in
      let a₂ = sign_below _ (s 2 (omega arith)) in
      let a₃ = sign_below _ (s 3 (omega arith)) in
      let b₀ = sign_high _ (all p) a₀ in
      let f = rest_four t p k i h b₀ (sign_high _ (all (p + 1)) a₁) (sign_high _ (all (p + 2)) a₂) (sign_high _ (all (p + 3)) a₃) in
      let g = rest_byte t p (omega arith) (λ e. omega arith) in
      rw f.1
      (through_more l (get_or t p 0) (get_or t (p + 1) 0) (get_or t (p + 2) 0) (get_or t (p + 3) 0) (rest t (p + 4)) v (λ e. let z : get_or t p 0 ≡ 10 = cc in omega arith) f.0
      (kind_signs _ _ _ _ (all p) (all (p + 1)) (all (p + 2)) (all (p + 3)) a₀ a₁ a₂ a₃))

  -- all groups of a run
  pub through_run :
      {r₀ : List ℕ} {k₀ : ℕ} (g n p k : ℕ) → k < 70 → 4 * g ≤ k → p + 4 * g ≤ length t → AllSigns t p (4 * g) → Through r₀ k₀ n (rest t p) k
      → Through r₀ k₀ (n + 3 * g) (rest t (p + 4 * g)) (k - 4 * g)
  through_run zero n p k l h i s v = let d : k - 4 * 0 ≡ k = omega arith in rw (add-zero n, add-zero p, d) v
  through_run {r₀} {k₀} (suc g) n p k l h i s v =
      let u = through_four p k l (omega arith) (omega arith) (λ j q. s j (omega arith)) v in
      let shift : AllSigns t (p + 4) (4 * g) = λ j q. rw (add_assoc p 4 j) (s (4 + j) (omega arith)) in
      let x = through_run g (n + 3) (p + 4) (k - 4) (omega arith) (omega arith) (omega arith) shift u in
      let a : n + 3 + 3 * g ≡ n + 3 * suc g = omega arith in
      let b : p + 4 + 4 * g ≡ p + 4 * suc g = omega arith in
      let c : k - 4 - 4 * g ≡ k - 4 * suc g = omega arith in
      rw (a, b, c) at x
