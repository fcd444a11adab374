-- The top bits of bytes as one number (`top_bits`): where it is 0 all of them are ASCII (`no_tops`); else the zeros below its lowest set bit
-- are eight for each ASCII byte before the first other one, and fewer than eight more (`tops_zeros`). And how it is made, a byte at a time
-- (`byte_joins`). Rests on the definitions of `top_bits` and `ascii_run`, and on the logic's laws of `bit_and` and of trailing zeros.
use Prim.Native.Nat.{ℕ, zero, suc, ◌+◌, ◌*◌, ◌/◌, ◌%◌, ◌^◌, ◌≤◌, ◌<◌}
use native.Mathlib.Nat.{zero-add, suc-add, mul-one, pow-suc}
use native.Mathlib.Omega.{arith}
use mathlib.Core.Path.{◌≡◌, refl, sym, ◌∙◌}
use mathlib.Core.List.{List, [], ◌∷◌}
use mathlib.Core.Bool.{Bool, true, false, cond}
use borrow.Author.Tests.{ltb-true, ltb-false}
use lib.Bits.{bit_and, and_block, and_high, shifted_half, shifted_even}
use lib.Count.{count_trailing_zeros}
use lib.Dec.{ltb}
use lib.ListN.{length, length-drop, get_or, drop}
use lib.Seq.{drop-cons}
use Rattle.std.specs.Int.{w64, from_le_bytes}
use Rattle.utf8.specs.Steps.{ascii_run, top_bits}

-- ---- what it tells

no_tops : (n : ℕ) (t : List ℕ) → n ≤ length t → top_bits n t ≡ 0 → n ≤ ascii_run t
unfolding top_bits ascii_run
no_tops zero t h e = omega arith
no_tops (suc n) [] h e = absurd (omega (arith, h))
no_tops (suc n) (b ∷ t) h e = go (ltb b 0x80) e (no_tops n t (omega (arith, h)))
  where
    go : (x : Bool) → top_bits n t * 256 + cond x 0 0x80 ≡ 0 → (top_bits n t ≡ 0 → n ≤ ascii_run t) → suc n ≤ cond x (suc (ascii_run t)) 0
    go true e more = omega (arith, more (omega (arith, e)))
    go false e more = absurd (omega (arith, e))

-- the zeros that a number is shifted by
shifted_zeros : (j k n : ℕ) → count_trailing_zeros (j + k) (n * 2 ^ j) ≡ j + count_trailing_zeros k n
unfolding count_trailing_zeros
shifted_zeros zero k n = rw (zero-add k, mul-one n, zero-add (count_trailing_zeros k n))
shifted_zeros (suc j) k n =
    rw (suc-add j k, shifted_even n j, shifted_half n j, shifted_zeros j k n, suc-add j (count_trailing_zeros k n))

odd_zeros : (k n : ℕ) → count_trailing_zeros (suc k) (n * 2 + 1) ≡ 0
unfolding count_trailing_zeros
odd_zeros k n = let e : (n * 2 + 1) % 2 ≡ 1 = omega arith in rw e

-- eight zeros for each byte of the run, and fewer than eight more
abbrev Zeros : ℕ → ℕ → Type 0
Zeros run zeros = (run * 8 ≤ zeros) × (zeros < run * 8 + 8)

tops_zeros : (n : ℕ) (t : List ℕ) → n ≤ length t → (top_bits n t ≡ 0 → ⊥) → Zeros (ascii_run t) (count_trailing_zeros (n * 8) (top_bits n t))
unfolding top_bits ascii_run
tops_zeros zero t h e = absurd (e refl)
tops_zeros (suc n) [] h e = absurd (omega (arith, h))
tops_zeros (suc n) (b ∷ t) h e = go (ltb b 0x80) e (tops_zeros n t (omega (arith, h)))
  where
    tops : ℕ
    tops = top_bits n t

    go : (x : Bool) → (tops * 256 + cond x 0 0x80 ≡ 0 → ⊥) → ((tops ≡ 0 → ⊥) → Zeros (ascii_run t) (count_trailing_zeros (n * 8) tops)) →
        Zeros (cond x (suc (ascii_run t)) 0) (count_trailing_zeros (suc n * 8) (tops * 256 + cond x 0 0x80))
    go true e more =
        let r = more (λ q. e (omega (arith, q))) in
        let m : suc n * 8 ≡ 8 + n * 8 = omega arith in
        let s : tops * 256 + 0 ≡ tops * 2 ^ 8 = omega arith in
        rw (m, s, shifted_zeros 8 (n * 8) tops) (omega (arith, r.0), omega (arith, r.1))
    go false e more =
        let m : suc n * 8 ≡ 7 + suc (n * 8) = omega arith in
        let s : tops * 256 + 0x80 ≡ (tops * 2 + 1) * 2 ^ 7 = omega arith in
        rw (m, s, shifted_zeros 7 (suc (n * 8)) (tops * 2 + 1), odd_zeros (n * 8) tops) (omega arith, omega arith)

module _ (t : List ℕ) (i : ℕ) (h : i + 8 ≤ length t) {tops : ℕ} (e : tops ≡ top_bits 8 (drop i t)) where
  pub all_ascii : tops ≡ 0 → 8 ≤ ascii_run (drop i t)
  all_ascii z = no_tops 8 (drop i t) (omega (arith, h, length-drop i t)) (sym e ∙ z)

  pub fewer_ascii : {k : ℕ} → (tops ≡ 0 → ⊥) → k ≡ count_trailing_zeros 64 tops / 8 → k ≡ ascii_run (drop i t)
  fewer_ascii z q =
      let r = tops_zeros 8 (drop i t) (omega (arith, h, length-drop i t)) (λ q. z (e ∙ q)) in
      omega (arith, q, (rw (← e) at r).0, (rw (← e) at r).1)

-- ---- how it is made

-- the top bits of n bytes, all set
abbrev mask : ℕ → ℕ
mask zero = 0
mask (suc n) = mask n * 256 + 0x80

-- the number has n bytes, and the top bits of those at the place
record Made (t : List ℕ) (i n number : ℕ) : Type 0 where
  small : number < 256 ^ n
  tops : bit_and number (mask n) ≡ top_bits n (drop i t)

top_bit : (b : ℕ) → b < 256 → bit_and b 0x80 ≡ cond (ltb b 0x80) 0 0x80
top_bit b h = and_high b 1 7 ∙ go (ltb b 0x80) (ltb-true b 0x80) (ltb-false b 0x80)
  where
    go : (x : Bool) → (x ≡ true → b < 0x80) → (x ≡ false → 0x80 ≤ b) → (b / 0x80 % 2) * 0x80 ≡ cond x 0 0x80
    go true b< ≤b = omega (arith, b< refl)
    go false b< ≤b = omega (arith, h, ≤b refl)

nothing_made : (t : List ℕ) (i : ℕ) → Made t i 0 0
unfolding top_bits
nothing_made t i = record { small = omega arith; tops = refl }

byte_joins : (t : List ℕ) (i next n number : ℕ) → next ≡ suc i → i < length t → get_or t i 0 < 256 → Made t next n number →
    Made t i (suc n) (number * 256 + get_or t i 0)
unfolding top_bits
byte_joins t i next n number e h k made =
    let b = get_or t i 0 in
    let m = rw e at made in
    record {
      small = rw (pow-suc 256 n) (omega (arith, k, m.small));
      tops = rw (drop-cons t i 0 h, ← m.tops, ← top_bit b k) (and_block 8 number (mask n) b 0x80 k (omega arith));
    }

module _ (t : List ℕ) (bytes : (k : ℕ) → get_or t k 0 < 256) (i : ℕ) (inside : i + 8 ≤ length t) where
  joins : (j next n number : ℕ) → next ≡ suc j → j < i + 8 → Made t next n number → Made t j (suc n) (number * 256 + get_or t j 0)
  joins j next n number e h m = byte_joins t j next n number e (omega (arith, inside, h)) (bytes j) m

  pub eight_tops : (number : ℕ) →
      number ≡ from_le_bytes w64 (get_or t i 0 ∷ get_or t (i + 1) 0 ∷ get_or t (i + 2) 0 ∷ get_or t (i + 3) 0 ∷ get_or t (i + 4) 0 ∷ get_or t (i + 5) 0 ∷ get_or t (i + 6) 0 ∷ get_or t (i + 7) 0 ∷ []) →
      bit_and number 0x8080_8080_8080_8080 ≡ top_bits 8 (drop i t)
  eight_tops number e =
      let m₁ = joins (i + 7) (i + 8) 0 0 (omega arith) (omega arith) (nothing_made t (i + 8)) in
      let m₂ = joins (i + 6) (i + 7) 1 _ (omega arith) (omega arith) m₁ in
      let m₃ = joins (i + 5) (i + 6) 2 _ (omega arith) (omega arith) m₂ in
      let m₄ = joins (i + 4) (i + 5) 3 _ (omega arith) (omega arith) m₃ in
      let m₅ = joins (i + 3) (i + 4) 4 _ (omega arith) (omega arith) m₄ in
      let m₆ = joins (i + 2) (i + 3) 5 _ (omega arith) (omega arith) m₅ in
      let m₇ = joins (i + 1) (i + 2) 6 _ (omega arith) (omega arith) m₆ in
      let m₈ = joins i (i + 1) 7 _ (omega arith) (omega arith) m₇ in
      same_made _ m₈ (omega (arith, e))
    where
      same_made : (n : ℕ) → Made t i 8 n → n ≡ number → bit_and number 0x8080_8080_8080_8080 ≡ top_bits 8 (drop i t)
      same_made n m e = (rw e at m).tops
