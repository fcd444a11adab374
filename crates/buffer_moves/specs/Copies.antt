-- Bytes copied within a buffer one by one. To the left the first goes first, to the right the last: what is yet to be copied is then still
-- as it was. Rests on the library's `paste`.
use Rattle.std.specs.Prelude.{ℕ, zero, suc, ◌+◌, ◌-◌, ◌≤◌, ◌<◌, ◌≡◌, List, ◌∷◌, ◌++◌, length, take, drop, get_or, set}
use Rattle.std.proofs.Common.{add-one, arith, sym, ap, ◌∙◌, append_assoc, length-drop, length-take-le, take-suc, drop-cons, get_or-drop, get_or-take}
use Rattle.std.proofs.Math.ListN.{get_or-append}
use Rattle.std.proofs.Math.Seq.{paste, paste-zero, paste-suc}
use Rattle.std.proofs.lemmas.List.Edits.{drop-paste}
use Rattle.std.proofs.lemmas.List.{set_at}
use Rattle.buffer.specs.Puts.{splice}
use Rattle.buffer_moves.specs.Moves.{run, slice_from, run_length}

-- n bytes copied are n bytes moved
pub copied_run : (d : List ℕ) (from to n : ℕ) → from + n ≤ length d → paste d to (drop from d) n ≡ run d from to n
unfolding run splice
copied_run d from to n h =
    let l : length (take n (drop from d)) ≡ n = ap length (sym (slice_from d from n (omega arith))) ∙ run_length d from n h in
    rw (slice_from d from n (omega arith), l)

-- ---- what a copy leaves as it was

module _ (d : List ℕ) (at : ℕ) (s : List ℕ) (j m : ℕ) (inside : at ≤ length d) where
  -- past it
  past_copy : j ≤ length s → at + j ≤ m → get_or (paste d at s j) m 0 ≡ get_or d m 0
  past_copy hs h =
      let e : at + j + (m - (at + j)) ≡ m = omega arith in
      rw (← e, ← get_or-drop (at + j) (paste d at s j) (m - (at + j)) 0, ← get_or-drop (at + j) d (m - (at + j)) 0, drop-paste d at s j inside hs)

  -- and before it
  before_copy : m < at → get_or (paste d at s j) m 0 ≡ get_or d m 0
  before_copy h =
      let low : m < length (take at d) = rw (length-take-le at d inside) h in
      rw (append_assoc (take at d) (take j s) (drop (at + j) d), get_or-append (take at d) (take j s ++ drop (at + j) d) 0 m low)
      (get_or-take at d m 0 h)

-- ---- to the left

pub left_turn :
    (d : List ℕ) (from to i : ℕ) → to ≤ from → from + i < length d
    → set (paste d to (drop from d) i) (to + i) (get_or (paste d to (drop from d) i) (from + i) 0) ≡ paste d to (drop from d) (i + 1)
left_turn d from to i h k =
    let s = drop from d in
    let more : i < length s = simp length-drop (omega arith) in
    let byte : get_or (paste d to s i) (from + i) 0 ≡ get_or s i 0 =
    past_copy d to s i (from + i) (omega arith) (omega arith) (omega arith) ∙ sym (get_or-drop from d i 0) in
    rw (byte, add-one) (paste-suc d to s i 0 (omega arith) more)

-- ---- to the right

-- a store just before what is copied
store_before : (d t r : List ℕ) (a x : ℕ) → a < length d → set ((take (suc a) d ++ t) ++ r) a x ≡ (take a d ++ (x ∷ t)) ++ r
store_before d t r a x h =
    let l : length (take a d) ≡ a = length-take-le a d (omega arith) in
    rw (take-suc d a 0 h) (simp append_assoc (set_at (take a d) (get_or d a 0) (t ++ r) x a l))

one_before :
    (d : List ℕ) (from to i m : ℕ) → from ≤ to → to + suc i + m ≤ length d
    → set (paste d (to + suc i) (drop (from + suc i) d) m) (to + i) (get_or (paste d (to + suc i) (drop (from + suc i) d) m) (from + i) 0)
    ≡ paste d (to + i) (drop (from + i) d) (suc m)
one_before d from to i m h k =
    let byte : get_or (paste d (to + suc i) (drop (from + suc i) d) m) (from + i) 0 ≡ get_or d (from + i) 0 =
    before_copy d (to + suc i) (drop (from + suc i) d) m (from + i) (omega arith) (omega arith) in
    let t : to + suc i ≡ suc (to + i) = omega arith in
    let f : from + suc i ≡ suc (from + i) = omega arith in
    let e : to + i + suc m ≡ suc (to + i) + m = omega arith in
    rw (byte, t, f, drop-cons d (from + i) 0 (omega arith), e)
    (store_before d (take m (drop (suc (from + i)) d)) (drop (suc (to + i) + m) d) (to + i) (get_or d (from + i) 0) (omega arith))

-- nothing is copied yet
pub right_start : (d : List ℕ) (at : ℕ) (s : List ℕ) (n : ℕ) → d ≡ paste d at s (n - n)
right_start d at s n = let none : n - n ≡ 0 = omega arith in rw none (paste-zero d at s)

-- a turn, as the code counts
pub right_turn :
    (d out : List ℕ) (from to i n : ℕ) → from ≤ to → to + n ≤ length d → i ≤ n → 0 < i → out ≡ paste d (to + i) (drop (from + i) d) (n - i)
    → set out (to + (i - 1)) (get_or out (from + (i - 1)) 0) ≡ paste d (to + (i - 1)) (drop (from + (i - 1)) d) (n - (i - 1))
right_turn d out from to zero n h k l p e = absurd (omega arith)
right_turn d out from to (suc j) n h k l p e =
    let here : suc j - 1 ≡ j = omega arith in
    let left : n - j ≡ suc (n - suc j) = omega arith in
    rw (here, left, e) (one_before d from to j (n - suc j) h (omega arith))

pub right_end :
    (d out : List ℕ) (from to i n : ℕ) → from + n ≤ length d → i ≡ 0 → out ≡ paste d (to + i) (drop (from + i) d) (n - i) → out ≡ run d from to n
right_end d out from to i n h z e =
    let t : to + i ≡ to = omega arith in
    let f : from + i ≡ from = omega arith in
    let m : n - i ≡ n = omega arith in
    e ∙ rw (t, f, m) (copied_run d from to n h)
