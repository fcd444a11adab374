-- How far ASCII goes (`ascii_run`): a run stays within the text; past a part of it the rest of the run is left, and the text from there on
-- answers for the whole (`part_of_run`); what one byte tells of a run, and what a block. Rests on the definition of `ascii_run`, and on `ascii_next`.
use Prim.Native.Nat.{ℕ, zero, suc, ◌+◌, ◌-◌, ◌≤◌, ◌<◌, ◌*◌}
use native.Mathlib.Omega.{arith}
use mathlib.Core.Path.{◌≡◌, refl, sym, ◌∙◌, ap}
use mathlib.Core.List.{List, [], ◌∷◌}
use mathlib.Core.Bool.{Bool, true, false, cond}
use borrow.Author.Tests.{ltb-true, lt-ltb, le-ltb}
use lib.Bits.{bit_or, or_add_and, and_le_l, and_le_r}
use lib.Dec.{ltb}
use lib.ListN.{length, length-drop, get_or, drop, take}
use lib.Seq.{drop-cons, drop-drop}
use Rattle.std.specs.Simd.{first_chunks}
use Rattle.utf8.specs.Utf8.{utf8}
use Rattle.utf8.specs.Laws.{ascii_next}
use Rattle.utf8.specs.Steps.{ascii_run}

pub run_within : (t : List ℕ) → ascii_run t ≤ length t
unfolding ascii_run
run_within [] = omega arith
run_within (b ∷ t) = go (ltb b 0x80) (run_within t)
  where
    go : (x : Bool) → ascii_run t ≤ length t → cond x (suc (ascii_run t)) 0 ≤ suc (length t)
    go true h = omega (arith, h)
    go false h = omega arith

pub run_ends : (t : List ℕ) (i : ℕ) → i ≤ length t → i + ascii_run (drop i t) ≤ length t
run_ends t i h = omega (arith, h, run_within (drop i t), length-drop i t)

-- ---- a part of a run

-- the first byte of a run that isn't empty
run_begins : (b : ℕ) (t : List ℕ) → 0 < ascii_run (b ∷ t) → (b < 0x80) × (ascii_run (b ∷ t) ≡ suc (ascii_run t))
unfolding ascii_run
run_begins b t h = go (ltb b 0x80) (ltb-true b 0x80) h
  where
    go : (x : Bool) → (x ≡ true → b < 0x80) → 0 < cond x (suc (ascii_run t)) 0 →
        (b < 0x80) × (cond x (suc (ascii_run t)) 0 ≡ suc (ascii_run t))
    go true b< h = (b< refl, refl)
    go false b< h = absurd (omega (arith, h))

-- the rest of the run, and of the text
abbrev pub Left : (n : ℕ) (whole rest : List ℕ) → Type 0
Left n whole rest = (ascii_run whole ≡ n + ascii_run rest) × (utf8 rest ≡ utf8 whole)

pub first_part : (n : ℕ) (t : List ℕ) → n ≤ ascii_run t → Left n t (drop n t)
first_part zero t h = (omega arith, refl)
first_part (suc n) [] h = absurd (omega (arith, h, run_within []))
first_part (suc n) (b ∷ t) h =
    let f = run_begins b t (omega (arith, h)) in
    let r = first_part n t (omega (arith, h, f.1)) in
    (omega (arith, f.1, r.0), r.1 ∙ sym (ascii_next b t f.0))

pub part_of_run : (t : List ℕ) (i n : ℕ) → n ≤ ascii_run (drop i t) → Left n (drop i t) (drop (i + n) t)
part_of_run t i n h = rw (drop-drop n i t) at (first_part n (drop i t) h)

-- what is left of the run at `i` ends where the run at `from` ends
abbrev pub SameEnd : List ℕ → ℕ → ℕ → Type 0
SameEnd t from i = i + ascii_run (drop i t) ≡ from + ascii_run (drop from t)

-- past n bytes of it less is left, to the same end
pub passed : (t : List ℕ) (from i n : ℕ) → 0 < n → SameEnd t from i → n ≤ ascii_run (drop i t) →
    (ascii_run (drop (i + n) t) < ascii_run (drop i t)) × SameEnd t from (i + n)
passed t from i n k e h = let p = (part_of_run t i n h).0 in (omega (arith, k, p), omega (arith, e, p))

-- the same end from a place before, within the run
pub back : (t : List ℕ) (from i j : ℕ) → from ≤ i → i ≤ j → SameEnd t from j → SameEnd t from i
back t from i j h k e =
    let d : from + (i - from) ≡ i = omega (arith, h) in
    let p = (part_of_run t from (i - from) (omega (arith, h, k, e))).0 in
    omega (arith, h, rw d at p)

-- ---- one byte

module _ (t : List ℕ) (i : ℕ) where
  run_stands : i < length t → get_or t i 0 < 0x80 → 0 < ascii_run (drop i t)
  unfolding ascii_run
  run_stands h k = rw (drop-cons t i 0 h, lt-ltb (get_or t i 0) 0x80 k) (omega arith)

  -- where a run ends that begins at `i`: past it, within the text, and the text from there on answers for the whole
  pub past : {end : ℕ} → i < length t → get_or t i 0 < 0x80 → end ≡ i + ascii_run (drop i t) →
      (i < end) × (end ≤ length t) × (utf8 (drop end t) ≡ utf8 (drop i t))
  past h k e = (
    omega (arith, e, run_stands h k),
    omega (arith, e, run_ends t i (omega (arith, h))),
    rw e (part_of_run t i (ascii_run (drop i t)) (omega arith)).1,
  )

-- another ASCII byte
pub run_on : (t : List ℕ) (i : ℕ) → i ≤ ascii_run t → i < length t → get_or t i 0 < 0x80 → i + 1 ≤ ascii_run t
run_on t i h k l = omega (arith, run_stands t i k l, (first_part i t h).0)

-- a byte more that is or'ed to others: without a top bit in all of them together each is ASCII
pub byte_ors : (t : List ℕ) (k all : ℕ) → k < length t → (all < 0x80 → k ≤ ascii_run t) → bit_or all (get_or t k 0) < 0x80 →
    k + 1 ≤ ascii_run t
byte_ors t k all h before l =
    let b = get_or t k 0 in
    let s = or_add_and all b in
    run_on t k (before (omega (arith, l, s, and_le_r all b))) h (omega (arith, l, s, and_le_l all b))

-- a byte that isn't ASCII ends the run
pub run_over : (t : List ℕ) (i : ℕ) → i ≤ ascii_run t → i < length t → 0x80 ≤ get_or t i 0 → i ≡ ascii_run t
unfolding ascii_run
run_over t i h k l =
    let e : ascii_run (drop i t) ≡ 0 = rw (drop-cons t i 0 k, le-ltb (get_or t i 0) 0x80 l) in
    omega (arith, e, (first_part i t h).0)

-- the run of a text's beginning is one of the text
pub run_of_front : (n : ℕ) (t : List ℕ) → ascii_run (take n t) ≤ ascii_run t
unfolding ascii_run
run_of_front zero t = omega arith
run_of_front (suc n) [] = omega arith
run_of_front (suc n) (b ∷ t) = go (ltb b 0x80) (run_of_front n t)
  where
    go : (x : Bool) → ascii_run (take n t) ≤ ascii_run t → cond x (suc (ascii_run (take n t))) 0 ≤ cond x (suc (ascii_run t)) 0
    go true h = omega (arith, h)
    go false h = omega arith

-- ---- blocks of 128 bytes

chunk_at : (n i : ℕ) (t d : List ℕ) → i < n → get_or (first_chunks 128 n t) i d ≡ take 128 (drop (i * 128) t)
chunk_at zero i t d h = absurd (omega arith)
chunk_at (suc n) zero t d h = refl
chunk_at (suc n) (suc i) t d h =
    let e : 128 + i * 128 ≡ suc i * 128 = omega arith in
    chunk_at n i (drop 128 t) d (omega arith) ∙ ap (take 128) (drop-drop (i * 128) 128 t ∙ ap (λ (k : ℕ). drop k t) e)

-- another block of ASCII
pub block_on : (t : List ℕ) (blocks : List (List ℕ)) (n i : ℕ) (d : List ℕ) → blocks ≡ first_chunks 128 n t → i < n → i * 128 ≤ ascii_run t →
    128 ≤ ascii_run (get_or blocks i d) → (i + 1) * 128 ≤ ascii_run t
block_on t blocks n i d e h k l =
    let m = rw (e, chunk_at n i t d h) at l in
    omega (arith, m, run_of_front 128 (drop (i * 128) t), (first_part (i * 128) t k).0)
