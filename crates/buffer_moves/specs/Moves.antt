-- docs/RULES.md, 2.3 and 12, rest on this: what a move of bytes within a buffer leaves there. It is a splice of the bytes as they were
-- before, so the two places may overlap.
use Rattle.std.specs.Prelude.{ℕ, ◌+◌, ◌≤◌, ◌<◌, ◌≡◌, cond, ◌&&◌, List, leb, length, take, drop}
use Rattle.std.proofs.Common.{arith, ap, ◌∙◌, length-take-le, take-add, drop_at}
use borrow.Author.Tests.{le-leb, lt-leb}
use Rattle.std.proofs.Math.Seq.{slice, length-slice}
use Rattle.buffer.specs.Puts.{splice}

-- the n bytes that stand at `from`, put at `to`
unfoldable pub run : List ℕ → ℕ → ℕ → ℕ → List ℕ
run old from to n = splice old to (slice from (from + n) old)

-- where both places are within the buffer; else all as it was
unfoldable pub moved : List ℕ → ℕ → ℕ → ℕ → List ℕ
moved old from to n = cond (leb (from + n) (length old) && leb (to + n) (length old)) (run old from to n) old

-- ---- laws

module _ (old : List ℕ) (from to n : ℕ) where
  pub moved-run : from + n ≤ length old → to + n ≤ length old → moved old from to n ≡ run old from to n
  unfolding moved
  moved-run h k = rw (le-leb _ _ h, le-leb _ _ k)

  pub not_from : length old < from + n → moved old from to n ≡ old
  unfolding moved
  not_from h = rw (lt-leb _ _ h)

  pub not_to : from + n ≤ length old → length old < to + n → moved old from to n ≡ old
  unfolding moved
  not_to h k = rw (le-leb _ _ h, lt-leb _ _ k)

  pub moved_fits : from + n ≤ length old → to + n ≤ length old → moved old from to n ≡ splice old to (slice from (from + n) old)
  unfolding run
  moved_fits h k = moved-run h k

-- the bytes from a place on, so many of them
pub slice_from : (l : List ℕ) (from n : ℕ) → from ≤ length l → slice from (from + n) l ≡ take n (drop from l)
slice_from l from n h = ap (drop from) (take-add from n l) ∙ drop_at (take from l) (take n (drop from l)) from (length-take-le from l h)

pub run_length : (l : List ℕ) (from n : ℕ) → from + n ≤ length l → length (slice from (from + n) l) ≡ n
run_length l from n h = length-slice from (from + n) l h ∙ omega arith
