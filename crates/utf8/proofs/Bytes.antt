-- What one byte of a text does. Within a character it lies in its range and leaves the ranges after it (`passes`), or the text is not
-- UTF-8 (`stops`). The first byte of a character leaves the rest of its row. Rests on the definitions of `utf8_from` and `lies_at`.
use Rattle.std.specs.Prelude.{Some}
use lib.Dec.{leb}
use Prim.Native.Nat.{ℕ, zero, suc, ◌+◌, ◌<◌, ◌≤◌}
use native.Mathlib.Numerals.{add-one}
use native.Mathlib.Omega.{arith}
use mathlib.Core.Path.{◌≡◌, refl, sym, ◌∙◌}
use mathlib.Core.List.{List, [], ◌∷◌}
use mathlib.Core.Bool.{true, false, ◌&&◌, false≢true}
use borrow.Author.Tests.{le-leb, lt-leb}
use lib.ListN.{length, get_or, drop, drop_of_length-le, replicate}
use lib.Seq.{drop-cons, drop-drop}
use Rattle.utf8.specs.Utf8.{Range, ◌to◌, Row, UTF8-char, rest, utf8_from, utf8, UTF8-tail}
use Rattle.utf8.specs.Laws.{lies_is, leaves, rest_between}
use Rattle.utf8.specs.Steps.{begins, lies_at, Ends}

one_more : (range : Range) (more : Row) (t : List ℕ) → utf8_from (range ∷ more) t ≡ begins range t && utf8_from more (drop 1 t)
unfolding utf8_from
one_more range more [] = refl
one_more range more (b ∷ t) = refl

-- no byte lies from 1 to 0
pub no_row : (t : List ℕ) → utf8_from (1 to 0 ∷ []) t ≡ false
unfolding utf8_from
no_row [] = refl
no_row (zero ∷ t) = refl
no_row (suc b ∷ t) = rw (le-leb 1 (suc b) (omega arith), lt-leb (suc b) 0 (omega arith))

pub there : (range : Range) (t : List ℕ) (at : ℕ) → lies_at range t at ≡ true → at < length t
unfolding lies_at
there range [] zero e = absurd (false≢true e)
there range [] (suc at) e = absurd (false≢true e)
there range (b ∷ t) zero e = omega arith
there range (b ∷ t) (suc at) e = omega (arith, there range t at e)

pub lies_found : (low high : ℕ) (t : List ℕ) (at : ℕ) → at < length t →
    lies_at (low to high) t at ≡ (leb low (get_or t at 0) && leb (get_or t at 0) high)
unfolding lies_at
lies_found low high t at h = rw (drop-cons t at 0 h)

pub lies_nowhere : (range : Range) (t : List ℕ) (at : ℕ) → length t ≤ at → lies_at range t at ≡ false
unfolding lies_at
lies_nowhere range t at h = rw (drop_of_length-le t h)

module _ (range : Range) (more : Row) (t : List ℕ) (at : ℕ) where
  pub passes : lies_at range t at ≡ true → utf8_from (range ∷ more) (drop at t) ≡ utf8_from more (drop (at + 1) t)
  unfolding lies_at
  passes e = rw (one_more range more (drop at t), e, drop-drop 1 at t)

  pub stops : lies_at range t at ≡ false → utf8_from (range ∷ more) (drop at t) ≡ false
  unfolding lies_at
  stops e = rw (one_more range more (drop at t), e)

module _ (t : List ℕ) (at : ℕ) (h : at < length t) where
  pub first_byte : (left : Row) → left ≡ rest (get_or t at 0) UTF8-char → utf8_from left (drop (at + 1) t) ≡ utf8 (drop at t)
  unfolding utf8 utf8_from
  first_byte left e = rw (e, add-one at, drop-cons t at 0 h)

-- at a first byte of the range that leaves these ranges, the text from there on answers for what is left after it
pub row_goes_on : (low high : ℕ) (left : Row) (t : List ℕ) (at : ℕ) → leaves low high left ≡ true → lies_at (low to high) t at ≡ true →
    utf8_from left (drop (at + 1) t) ≡ utf8 (drop at t)
row_goes_on low high left t at e l =
    let h = there (low to high) t at l in
    let b = lies_is low high (get_or t at 0) (sym (lies_found low high t at h) ∙ l) in
    first_byte t at h left (rest_between low high e b.0 b.1)

-- ---- the tails of a character

-- the text is answered from a place on, where so many tails are left
pub record TailsLeft (row : Row) (t : List ℕ) (from at tails : ℕ) : Type 0 where
  pub inside : at ≤ length t
  pub same : utf8_from (replicate tails UTF8-tail) (drop at t) ≡ utf8_from row (drop from t)

module _ (row : Row) (t : List ℕ) (from at next tails : ℕ) where
  pub first_lies : (range : Range) → row ≡ range ∷ replicate tails UTF8-tail → next ≡ from + 1 → lies_at range t from ≡ true → TailsLeft row t from next tails
  first_lies range r e l = rw (r, e) (record { inside = omega (arith, there range t from l); same = sym (passes range (replicate tails UTF8-tail) t from l) })

  one_tail : (n : ℕ) → n ≡ suc tails → replicate n UTF8-tail ≡ UTF8-tail ∷ replicate tails UTF8-tail
  one_tail n e = rw e

  pub tail_lies : (n : ℕ) → n ≡ suc tails → next ≡ at + 1 → lies_at UTF8-tail t at ≡ true → TailsLeft row t from at n → TailsLeft row t from next tails
  tail_lies n m e l h =
      rw e (record { inside = omega (arith, there UTF8-tail t at l); same = sym (passes UTF8-tail (replicate tails UTF8-tail) t at l) ∙ rw (one_tail n m) at h.same })

  pub tail_missing : (n : ℕ) → n ≡ suc tails → lies_at UTF8-tail t at ≡ false → TailsLeft row t from at n → utf8_from row (drop from t) ≡ false
  tail_missing n m l h = sym h.same ∙ rw (one_tail n m) (stops UTF8-tail (replicate tails UTF8-tail) t at l)

  pub all_lie : tails ≡ 0 → next ≡ at → from ≤ at → TailsLeft row t from at tails → Ends t from row (Some next)
  unfolding utf8
  all_lie e l f h = rw l (f, h.inside, sym h.same ∙ rw e)
