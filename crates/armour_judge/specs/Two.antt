-- Two whole lines at once: 140 signs are 35 groups, one of which the line end parts, and carry 105 bytes.
use Rattle.std.specs.Prelude.{Option, Some, None, ℕ, ◌+◌, ◌*◌, ◌<◌, ◌≤◌, ◌≡◌, List, ◌∷◌, Bool, true, ◌&&◌, leb, length, get_or}
use Rattle.std.proofs.Common.{add_assoc, add-zero, arith, sym, ap, ◌∙◌, leb-true}
use Rattle.fields.specs.Bytes.{AllBytes, both_true}
use Rattle.armour_signs.specs.Alphabet.{value_of, all_signs}
use Rattle.armour_signs.specs.Rule.{Inner, value_sign, sign_value}
use Rattle.armour_text.specs.Text.{closing}
use Rattle.armour_groups.proofs.Laws.{kind_signs}
use Rattle.armour_judge.specs.Rest.{rest, rest_byte, Ended}
use Rattle.armour_judge.specs.Signs.{four, after}
use Rattle.armour_judge.specs.Sized.{Through, through_more}
use Rattle.armour_judge.specs.Runs.{through_run, AllSigns, all_are, sign_below, rest_four}

-- as a line is tested
pub line_tested : (t : List ℕ) (p : ℕ) (x : Bool) → x ≡ (leb (p + 70) (length t) && all_signs 70 t p) → x ≡ true → (p + 70 ≤ length t) × AllSigns t p 70
line_tested t p x e h =
    let b = both_true (leb (p + 70) (length t)) (all_signs 70 t p) (sym e ∙ h) in
    (leb-true _ _ b.0, all_are 70 t p b.1)

-- from p on stand a line end, 70 signs, a line end and 70 signs, up to e
pub record Pair (t : List ℕ) (p e : ℕ) : Type 0 where
  pub first : ℕ
  pub second : ℕ
  pub opened : Ended t p (Some first)
  pub signs : AllSigns t first 70
  pub parted : Ended t (first + 70) (Some second)
  pub others : AllSigns t second 70
  pub end : e ≡ second + 70
  pub within : e ≤ length t

unfoldable pub Pairs : List ℕ → ℕ → Option ℕ → Type 0
Pairs t p (Some e) = Pair t p e
Pairs t p None = Unit {0}

pub no_pair : (t : List ℕ) (p : ℕ) → Pairs t p None
unfolding Pairs
no_pair t p = tt

pub a_pair : (t : List ℕ) (p e : ℕ) → Pair t p e → Pairs t p (Some e)
unfolding Pairs
a_pair t p e q = q

pub the_pair : (t : List ℕ) (p e : ℕ) → Pairs t p (Some e) → Pair t p e
unfolding Pairs
the_pair t p e q = q

-- where a line end ends
ended_is : (t : List ℕ) (p q : ℕ) → Ended t p (Some q) → (rest t p ≡ 10 ∷ rest t q) × (p < q) × (q ≤ length t)
unfolding Ended
ended_is t p q h = h

pub pair_past : (t : List ℕ) (p e : ℕ) → Pair t p e → (p + 142 ≤ e) × (e ≤ length t)
pair_past t p e q =
    let a = ended_is t p q.first q.opened in
    let b = ended_is t (q.first + 70) q.second q.parted in
    (omega (arith, a.1, b.1, q.end), q.within)

-- what goes on with a sign is not the end
goes_on : (c : ℕ) (r s : List ℕ) → (c ≡ 45 → ⊥) → s ≡ 10 ∷ c ∷ r → s ≡ 10 ∷ closing → ⊥
unfolding closing
goes_on c r s f e g = f cc

module _ (t : List ℕ) (all : AllBytes t) where
  inner : (c : ℕ) → c < 256 → value_of c < 64 → Inner c
  inner c h k = rw (sign_value c h k) at (value_sign (value_of c) k).1

  -- the value of a sign of a run
  low : (p n i : ℕ) → AllSigns t p n → i < n → value_of (get_or t (p + i) 0) < 64
  low p n i s h = sign_below _ (s i h)

  part : (p n i m : ℕ) → AllSigns t p n → i + m ≤ n → AllSigns t (p + i) m
  part p n i m s h j k = rw (add_assoc p i j) (s (i + j) (omega arith))

  -- four signs that stand in the text, wherever the line ends among them
  through_signs :
      {r₀ : List ℕ} {k₀ n : ℕ} {r : List ℕ} {k : ℕ} → k < 70 → (a b c d : ℕ) (r' : List ℕ) → Through r₀ k₀ n r k → (r ≡ 10 ∷ closing → ⊥)
      → r ≡ four k (get_or t a 0) (get_or t b 0) (get_or t c 0) (get_or t d 0) r' → value_of (get_or t a 0) < 64 → value_of (get_or t b 0) < 64
      → value_of (get_or t c 0) < 64 → value_of (get_or t d 0) < 64 → Through r₀ k₀ (n + 3) r' (after k)
  through_signs l a b c d r' v f e i₀ i₁ i₂ i₃ = through_more l _ _ _ _ r' v f e (kind_signs _ _ _ _ (all a) (all b) (all c) (all d) i₀ i₁ i₂ i₃)

  -- the four after a line end
  first-four :
      {r₀ : List ℕ} {k₀ n : ℕ} (p f : ℕ) → Ended t p (Some f) → AllSigns t f 70 → f + 70 ≤ length t → Through r₀ k₀ n (rest t p) 0
      → Through r₀ k₀ (n + 3) (rest t (f + 4)) 66
  first-four p f h s l v =
      let a = ended_is t p f h in
      let i₀ = rw (add-zero f) at (low f 70 0 s (omega arith)) in
      let i₁ = low f 70 1 s (omega arith) in
      let i₂ = low f 70 2 s (omega arith) in
      let i₃ = low f 70 3 s (omega arith) in
      let n₀ = inner _ (all f) i₀ in
      let g = rest_four t f 70 (omega arith) (omega arith) n₀.high (inner _ (all (f + 1)) i₁).high (inner _ (all (f + 2)) i₂).high (inner _ (all (f + 3)) i₃).high in
      let b : rest t p ≡ 10 ∷ four 70 (get_or t f 0) (get_or t (f + 1) 0) (get_or t (f + 2) 0) (get_or t (f + 3) 0) (rest t (f + 4)) = a.0 ∙ ap (λ (r : List ℕ). 10 ∷ r) g.0 in
      through_signs (omega arith) f (f + 1) (f + 2) (f + 3) (rest t (f + 4)) v (goes_on (get_or t f 0) _ (rest t p) n₀.no_dash b) b i₀ i₁ i₂ i₃

  -- the four that a line end parts
  parted_four :
      {r₀ : List ℕ} {k₀ n : ℕ} (s q : ℕ) → Ended t (s + 2) (Some q) → AllSigns t s 2 → AllSigns t q 70 → s + 2 ≤ length t → q + 70 ≤ length t
      → Through r₀ k₀ n (rest t s) 2 → Through r₀ k₀ (n + 3) (rest t (q + 2)) 68
  parted_four s q h x y l m v =
      let a = ended_is t (s + 2) q h in
      let i₀ = rw (add-zero s) at (low s 2 0 x (omega arith)) in
      let i₁ = low s 2 1 x (omega arith) in
      let i₂ = rw (add-zero q) at (low q 70 0 y (omega arith)) in
      let i₃ = low q 70 1 y (omega arith) in
      let n₀ = inner _ (all s) i₀ in
      let n₁ = inner _ (all (s + 1)) i₁ in
      let n₂ = inner _ (all q) i₂ in
      let n₃ = inner _ (all (q + 1)) i₃ in
      let e₁ : s + 1 + 1 ≡ s + 2 = omega arith in
      let e₂ : q + 1 + 1 ≡ q + 2 = omega arith in
      let r₁ = rest_byte t s (omega arith) (λ e. omega (arith, n₀.high)) in
      let r₂ = rw e₁ at (rest_byte t (s + 1) (omega arith) (λ e. omega (arith, n₁.high))) in
      let r₃ = rest_byte t q (omega arith) (λ e. omega (arith, n₂.high)) in
      let r₄ = rw e₂ at (rest_byte t (q + 1) (omega arith) (λ e. omega (arith, n₃.high))) in
      let r₅ = a.0 in
      through_signs (omega arith) s (s + 1) q (q + 1) (rest t (q + 2)) v (λ e. let z : get_or t s 0 ≡ 10 = cc in omega (arith, n₀.high, z)) (r₁ ∙ rw (r₂, r₅, r₃, r₄)) i₀ i₁ i₂ i₃

  -- both lines
  pub through_two :
      {r₀ : List ℕ} {k₀ n : ℕ} (p e : ℕ) → Pair t p e → Through r₀ k₀ n (rest t p) 0 → Through r₀ k₀ (n + 105) (rest t e) 0
  through_two {n = n} p e q v =
      let f : ℕ = q.first in
      let g : ℕ = q.second in
      let c = ended_is t (f + 70) g q.parted in
      let w : g + 70 ≤ length t = rw (← q.end) q.within in
      let a = first-four p f q.opened q.signs (omega (arith, c.1, c.2)) v in
      let b = through_run t all 16 (n + 3) (f + 4) 66 (omega arith) (omega arith) (omega (arith, c.1, c.2)) (part f 70 4 64 q.signs (omega arith)) a in
      let x : f + 4 + 4 * 16 ≡ f + 68 = omega arith in
      let y : f + 68 + 2 ≡ f + 70 = omega arith in
      let b' : Through _ _ (n + 3 + 3 * 16) (rest t (f + 68)) 2 = rw x at b in
      let d = parted_four (f + 68) g (rw y q.parted) (part f 70 68 2 q.signs (omega arith)) q.others (omega (arith, c.1, c.2)) w b' in
      let h = through_run t all 17 (n + 3 + 3 * 16 + 3) (g + 2) 68 (omega arith) (omega arith) (omega (arith, w)) (part g 70 2 68 q.others (omega arith)) d in
      let i : n + 3 + 3 * 16 + 3 + 3 * 17 ≡ n + 105 = omega arith in
      let j : g + 2 + 4 * 17 ≡ g + 70 = omega arith in
      rw q.end (rw (i, j) at h)
