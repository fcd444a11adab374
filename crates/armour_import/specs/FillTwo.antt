-- The bytes of whole runs and of two whole lines of a text that was judged.
use Rattle.std.specs.Prelude.{ℕ, zero, suc, ◌+◌, ◌*◌, ◌%◌, ◌-◌, ◌<◌, ◌≤◌, ◌≡◌, refl, Bool, true, false, List, [], ◌∷◌, ◌++◌, eqb, ltb, length, drop, get_or}
use Rattle.std.proofs.Common.{add-zero, arith, ap, ◌∙◌, eqb-true, ltb-true, ltb-false}
use Rattle.std.proofs.lemmas.Bool.{eqb-false}
use Rattle.std.proofs.lemmas.List.Edits.{sets}
use Rattle.fields.specs.Bytes.{AllBytes}
use Rattle.armour_signs.specs.Alphabet.{value_of}
use Rattle.armour_text.specs.Base64.{bytes_of_bits, bits_of_values, encode}
use Rattle.armour_text.specs.Text.{wrap, closing}
use Rattle.armour_judge.specs.Rest.{rest, EndedAt, rest_none, rest_byte, rest_last, rest_return, rest_feed}
use Rattle.armour_judge.specs.Signs.{FourAt, after}
use Rattle.armour_judge.specs.Judge.{wrap_opened}
use Rattle.armour_import.specs.Fill.{Lines, Ready, ready, ready_four, four_in_line, these, byte_at, next_three, fill_three}

-- ---- a run in its line

module _ (t b : List ℕ) where
  -- the next group, four bytes further on
  lines_four : (o p k : ℕ) → Lines t b o p k → 4 ≤ k → o + 3 ≤ length b → Lines t b (o + 3) (p + 4) (k - 4)
  unfolding next_three
  lines_four o p k e h l = let n = next_three b o l in (these t b o p k e n _ _ _ _ _ _ (four_in_line t p k (ready t b o p k e n) h)).4

  pub lines_run : (g o p k : ℕ) → Lines t b o p k → 4 * g ≤ k → o + 3 * g ≤ length b → Lines t b (o + 3 * g) (p + 4 * g) (k - 4 * g)
  lines_run zero o p k e h l = let d : k - 4 * 0 ≡ k = omega arith in rw (add-zero o, add-zero p, d) e
  lines_run (suc g) o p k e h l =
      let x = lines_run g (o + 3) (p + 4) (k - 4) (lines_four o p k e (omega arith) (omega arith)) (omega arith) (omega arith) in
      let a : o + 3 + 3 * g ≡ o + 3 * suc g = omega arith in
      let c : p + 4 + 4 * g ≡ p + 4 * suc g = omega arith in
      let d : k - 4 - 4 * g ≡ k - 4 * suc g = omega arith in
      rw (a, c, d) at x

-- seventeen groups come next in a line
pub record Full (t b : List ℕ) (p o : ℕ) : Type 0 where
  pub columns : ℕ
  pub lines : Lines t b o p columns
  pub wide : 68 ≤ columns
  pub bytes : o + 51 ≤ length b

module _ (t b : List ℕ) (all : AllBytes b) (p o : ℕ) (f : Full t b p o) (i : ℕ) (h : i < 17) where
  at_group : Lines t b (o + 3 * i) (p + 4 * i) (f.columns - 4 * i)
  at_group = lines_run t b i o p f.columns f.lines (omega (arith, f.wide)) (omega (arith, f.bytes))

  three_more : o + 3 * i + 3 ≤ length b
  three_more = omega (arith, f.bytes)

  four_more : 4 ≤ f.columns - 4 * i
  four_more = omega (arith, f.wide)

  is_ready : Ready t (p + 4 * i) (f.columns - 4 * i)
  is_ready = ready t b (o + 3 * i) (p + 4 * i) (f.columns - 4 * i) at_group (next_three b (o + 3 * i) three_more)

  pub run_within : p + 4 * i + 4 ≤ length t
  run_within = (ready_four t (p + 4 * i) (f.columns - 4 * i) is_ready four_more).0

  pub run_three :
      (old : List ℕ)
      → sets (sets old (o + 3 * i) (bytes_of_bits (bits_of_values (value_of (get_or t (p + 4 * i) 0)) (value_of (get_or t (p + 4 * i + 1) 0)) (value_of (get_or t (p + 4 * i + 2) 0))
      (value_of (get_or t (p + 4 * i + 3) 0))))) (o + 3 * (i + 1)) (drop (o + 3 * (i + 1)) b)
      ≡ sets old (o + 3 * i) (drop (o + 3 * i) b)
  run_three old =
      let e : o + 3 * i + 3 ≡ o + 3 * (i + 1) = omega arith in
      let g = four_in_line t (p + 4 * i) (f.columns - 4 * i) is_ready four_more in
      rw e at (fill_three t b (o + 3 * i) (p + 4 * i) (f.columns - 4 * i) at_group all _ _ _ _ _ _ g three_more old).0

-- ---- a line end that is known to come

pub record Feed (t : List ℕ) (p : ℕ) : Type 0 where
  pub more : List ℕ
  pub comes : rest t p ≡ 10 ∷ more

module _ (t : List ℕ) (p : ℕ) (f : Feed t p) where
  pub feed_within : p < length t
  feed_within = go (ltb p (length t)) refl
    where
      go : (b : Bool) → ltb p (length t) ≡ b → p < length t
      go true e = ltb-true p (length t) e
      go false e = let z = rest_none t p (ltb-false p (length t) e) in let c = f.comes in let n : ◌≡◌ {A = ℕ} 0 1 = cc in absurd (omega arith)

  pub feed_both : get_or t p 0 ≡ 13 → (p + 1 < length t) × (get_or t (p + 1) 0 ≡ 10)
  feed_both e = go (ltb (p + 1) (length t)) refl
    where
      other : p + 1 < length t → (x : Bool) → eqb (get_or t (p + 1) 0) 10 ≡ x → get_or t (p + 1) 0 ≡ 10
      other l true q = eqb-true _ _ q
      other l false q =
          let z = rest_return t p l e (eqb-false _ _ q) in
          let c = f.comes in
          let n : ◌≡◌ {A = ℕ} 13 10 = cc in
          absurd (omega arith)

      go : (x : Bool) → ltb (p + 1) (length t) ≡ x → (p + 1 < length t) × (get_or t (p + 1) 0 ≡ 10)
      go true q = let l = ltb-true (p + 1) (length t) q in (l, other l (eqb (get_or t (p + 1) 0) 10) refl)
      go false q =
          let l = ltb-false (p + 1) (length t) q in
          let z = rest_last t p feed_within (omega arith) e in
          let c = f.comes in
          let n : ◌≡◌ {A = ℕ} 13 10 = cc in
          absurd (omega arith)

  pub feed_here : (get_or t p 0 ≡ 13 → ⊥) → get_or t p 0 ≡ 10
  feed_here g = let z = rest_byte t p feed_within g in let c = f.comes in cc

  pub past_both : get_or t p 0 ≡ 13 → EndedAt t p (p + 2)
  past_both e = let b = feed_both e in (rest_feed t p b.0 e b.1, omega arith, omega (arith, b.0))

  pub past_feed : (get_or t p 0 ≡ 13 → ⊥) → EndedAt t p (p + 1)
  past_feed g =
      let h = feed_within in
      (rest_byte t p h g ∙ ap (λ (x : ℕ). x ∷ rest t (p + 1)) (feed_here g), omega arith, omega (arith, h))

-- ---- four signs after a line end

module _ (t : List ℕ) (p : ℕ) (r : Ready t p 0) where
  pub opened_feed : Feed t p
  opened_feed = record { more = r.w ∷ r.x ∷ r.y ∷ r.z ∷ r.more; comes = r.begins }

  module _ (q : ℕ) (h : EndedAt t p q) where
    in_line : Ready t q 70
    in_line =
        record { w = r.w; x = r.x; y = r.y; z = r.z; more = r.more; high = r.high; begins = let a = h.0 in let c = r.begins in cc }

    pub opened_within : q + 4 ≤ length t
    opened_within = (ready_four t q 70 in_line (omega arith)).0

    pub opened_is : FourAt t p 0 (get_or t q 0) (get_or t (q + 1) 0) (get_or t (q + 2) 0) (get_or t (q + 3) 0) (q + 4) 66
    opened_is =
        let f = four_in_line t q 70 in_line (omega arith) in
        (h.0 ∙ ap (λ (l : List ℕ). 10 ∷ l) f.0, refl, omega (arith, h.1), opened_within)

-- ---- four signs that a line end parts

module _ (t : List ℕ) (p : ℕ) (r : Ready t p 2) where
  byte_0 : (p < length t) × (get_or t p 0 ≡ r.w) × (rest t (p + 1) ≡ r.x ∷ 10 ∷ r.y ∷ r.z ∷ r.more)
  byte_0 = byte_at t p r.w _ r.high.0 r.begins

  byte_1 : (p + 1 < length t) × (get_or t (p + 1) 0 ≡ r.x) × (rest t (p + 2) ≡ 10 ∷ r.y ∷ r.z ∷ r.more)
  byte_1 = let a : p + 1 + 1 ≡ p + 2 = omega arith in rw a at (byte_at t (p + 1) r.x _ r.high.1 byte_0.2)

  pub parted_within : p + 2 ≤ length t
  parted_within = omega (arith, byte_1.0)

  pub parted_feed : Feed t (p + 2)
  parted_feed = record { more = r.y ∷ r.z ∷ r.more; comes = byte_1.2 }

  module _ (q : ℕ) (h : EndedAt t (p + 2) q) where
    goes_on : rest t q ≡ r.y ∷ r.z ∷ r.more
    goes_on = let a = h.0 in let c = byte_1.2 in cc

    byte_2 : (q < length t) × (get_or t q 0 ≡ r.y) × (rest t (q + 1) ≡ r.z ∷ r.more)
    byte_2 = byte_at t q r.y _ r.high.2 goes_on

    byte_3 : (q + 1 < length t) × (get_or t (q + 1) 0 ≡ r.z) × (rest t (q + 2) ≡ r.more)
    byte_3 = let a : q + 1 + 1 ≡ q + 2 = omega arith in rw a at (byte_at t (q + 1) r.z _ r.high.3 byte_2.2)

    pub parted_past : q + 2 ≤ length t
    parted_past = omega (arith, byte_3.0)

    pub parted_is : FourAt t p 2 (get_or t p 0) (get_or t (p + 1) 0) (get_or t q 0) (get_or t (q + 1) 0) (q + 2) 68
    parted_is = (rw (byte_0.1, byte_1.1, byte_2.1, byte_3.1, byte_3.2) r.begins, refl, omega (arith, h.1), parted_past)

-- not in its line, not after its end
pub two_columns : (k : ℕ) → k < 4 → (k ≡ 0 → ⊥) → k % 2 ≡ 0 → k ≡ 2
two_columns zero h f e = absurd (f refl)
two_columns (suc zero) h f e = absurd (omega arith)
two_columns (suc (suc zero)) h f e = refl
two_columns (suc (suc (suc zero))) h f e = absurd (omega arith)
two_columns (suc (suc (suc (suc k)))) h f e = absurd (omega arith)

-- the columns stay even
pub even_after : (t : List ℕ) (p k w x y z q j : ℕ) → k % 2 ≡ 0 → FourAt t p k w x y z q j → j % 2 ≡ 0
even_after t p k w x y z q j e h = rw h.1 (go k e)
  where
    go : (k : ℕ) → k % 2 ≡ 0 → after k % 2 ≡ 0
    go zero e = refl
    go (suc zero) e = absurd (omega arith)
    go (suc (suc zero)) e = refl
    go (suc (suc (suc zero))) e = absurd (omega arith)
    go (suc (suc (suc (suc k)))) e = omega arith

-- ---- two lines

module _ (t b : List ℕ) (all : AllBytes b) (o at : ℕ) (e : Lines t b o at 0) (l : o + 105 ≤ length b) where
  comes : rest t at ≡ 10 ∷ (wrap (encode (drop o b)) 70 ++ closing)
  comes = e ∙ rw (wrap_opened (encode (drop o b)))

  pub first_feed : Feed t at
  first_feed = record { more = wrap (encode (drop o b)) 70 ++ closing; comes = comes }

  module _ (p : ℕ) (h : EndedAt t at p) where
    in_first : Lines t b o p 70
    in_first = let a = h.0 in let c = comes in cc

    pub first_full : Full t b p o
    first_full = record { columns = 70; lines = in_first; wide = omega arith; bytes = omega arith }

    at_parted : Lines t b (o + 51) (p + 68) 2
    at_parted = lines_run t b 17 o p 70 in_first (omega arith) (omega arith)

    is_parted : Ready t (p + 68) 2
    is_parted = ready t b (o + 51) (p + 68) 2 at_parted (next_three b (o + 51) (omega arith))

    pub second_feed : Feed t (p + 70)
    second_feed = let a : p + 68 + 2 ≡ p + 70 = omega arith in rw a at (parted_feed t (p + 68) is_parted)

    module _ (q : ℕ) (k : EndedAt t (p + 70) q) where
      from_parted : EndedAt t (p + 68 + 2) q
      from_parted = let a : p + 68 + 2 ≡ p + 70 = omega arith in rw a k

      pub second_within : q + 2 ≤ length t
      second_within = parted_past t (p + 68) is_parted q from_parted

      four_parted : FourAt t (p + 68) 2 (get_or t (p + 68) 0) (get_or t (p + 69) 0) (get_or t q 0) (get_or t (q + 1) 0) (q + 2) 68
      four_parted = let a : p + 68 + 1 ≡ p + 69 = omega arith in rw a at (parted_is t (p + 68) is_parted q from_parted)

      pub parted_three :
          (old : List ℕ)
          → sets (sets old (o + 51) (bytes_of_bits (bits_of_values (value_of (get_or t (p + 68) 0)) (value_of (get_or t (p + 69) 0)) (value_of (get_or t q 0)) (value_of (get_or t (q + 1) 0))))) (o + 54)
          (drop (o + 54) b)
          ≡ sets old (o + 51) (drop (o + 51) b)
      parted_three old =
          let a : o + 51 + 3 ≡ o + 54 = omega arith in
          rw a at (fill_three t b (o + 51) (p + 68) 2 at_parted all _ _ _ _ _ _ four_parted (omega arith) old).0

      in_second : Lines t b (o + 54) (q + 2) 68
      in_second =
          let a : o + 51 + 3 ≡ o + 54 = omega arith in
          rw a at (fill_three t b (o + 51) (p + 68) 2 at_parted all _ _ _ _ _ _ four_parted (omega arith) []).1

      pub second_full : Full t b (q + 2) (o + 54)
      second_full = record { columns = 68; lines = in_second; wide = omega arith; bytes = omega arith }

      pub after_two : Lines t b (o + 105) (q + 70) 0
      after_two =
          let a : o + 54 + 3 * 17 ≡ o + 105 = omega arith in
          let c : q + 2 + 4 * 17 ≡ q + 70 = omega arith in
          rw (a, c) at (lines_run t b 17 (o + 54) (q + 2) 68 in_second (omega arith) (omega arith))
