-- `utf8::past_ascii` meets its contract. The loop's invariant: the place is within the text, and what is left of the run there ends where the
-- run at `from` ends. The measure is what is left of it. Rests on `passed`, what bytes of a run leave, on what the top bits tell (`all_ascii`,
-- `fewer_ascii`), and on `back`: the last eight bytes may begin before the place.
use Prim.Native.Nat.{ℕ, ◌+◌, ◌-◌, ◌/◌, ◌≤◌, ◌<◌}
use native.Mathlib.Omega.{arith}
use mathlib.Core.Path.{◌≡◌, ◌∙◌}
use mathlib.Core.List.{List}
use lib.Count.{count_trailing_zeros}
use lib.ListN.{length, drop, take}
use Rattle.std.proofs.lemmas.Grind.{common_steps}
use Rattle.utf8.specs.Steps.{ascii_run, top_bits}
use Rattle.utf8.proofs.Ascii.{SameEnd, part_of_run, passed, back, run_ends}
use Rattle.utf8.proofs.Tops.{all_ascii, fewer_ascii}
use Rattle.utf8.proofs.past_ascii.Goals as goal

module _ (t : List ℕ) (from i : ℕ) {tops : ℕ} (h : i + 8 ≤ length t) (e : tops ≡ top_bits 8 (drop i t)) (s : SameEnd t from i) where
  -- with a byte other than ASCII among the eight the run ends there
  ends-among : {k : ℕ} → (tops ≡ 0 → ⊥) → k ≡ count_trailing_zeros 64 tops / 8 → i + k ≡ from + ascii_run (drop from t)
  ends-among z q = omega (arith, fewer_ascii t i h e z q, s)

  past-eight : tops ≡ 0 → SameEnd t from (i + 8)
  past-eight z = (passed t from i 8 (omega arith) s (all_ascii t i h e z)).1

  past-sixteen : {more : ℕ} → tops ≡ 0 → i + 16 ≤ length t → more ≡ top_bits 8 (drop (i + 8) t) → more ≡ 0 →
      (ascii_run (drop (i + 16) t) < ascii_run (drop i t)) × SameEnd t from (i + 16)
  past-sixteen z l f y =
      let p = (part_of_run t i 8 (all_ascii t i h e z)).0 in
      passed t from i 16 (omega arith) s (omega (arith, p, all_ascii t (i + 8) (omega (arith, l)) f y))

-- the run of the rest of the text
rest-run : (t : List ℕ) (from : ℕ) → from ≤ length t → ascii_run (take (length t - from) (drop from t)) ≡ ascii_run (drop from t)
rest-run t from h = grind (arith, common_steps)

pub overflow_add-result : goal.overflow_add-result
overflow_add-result c = let t = c.args.text.now in
    omega (arith, c.ascii_bytes.ensures, rest-run t c.args.from (omega arith), run_ends t c.args.from (omega arith))

pub returns-then-tops-ne0 : goal.returns-then-tops-ne0
returns-then-tops-ne0 c = let l = c.loop-at in
    let a = c.args in
    ends-among a.text.now a.from l.at (omega arith) c.top_bits-tops.ensures l.invariant.2 c.if-tops-ne0.true c.before_top.ensures.0

pub returns-then-more-ne0 : goal.returns-then-more-ne0
returns-then-more-ne0 c = let l = c.loop-at in
    let a = c.args in
    let s = a.text.now in
    let p = past-eight s a.from l.at (omega arith) c.top_bits-tops.ensures l.invariant.2 c.if-tops-ne0.false in
    ends-among s a.from (l.at + 8) (omega arith) c.top_bits-more.ensures p c.if-more-ne0.true c.before_top-then-more-ne0.ensures.0

pub loop-at-smaller : goal.loop-at-smaller
loop-at-smaller c = let l = c.loop-at in
    let a = c.args in
    let s = a.text.now in
    let z = c.if-tops-ne0.false in
    let p = past-sixteen s a.from l.at (omega arith) c.top_bits-tops.ensures l.invariant.2 z (omega arith) c.top_bits-more.ensures c.if-more-ne0.false in
    p.0

pub loop-at-preserved : goal.loop-at-preserved
loop-at-preserved c = let l = c.loop-at in
    let a = c.args in
    let s = a.text.now in
    let z = c.if-tops-ne0.false in
    let p = past-sixteen s a.from l.at (omega arith) c.top_bits-tops.ensures l.invariant.2 z (omega arith) c.top_bits-more.ensures c.if-more-ne0.false in
    (omega arith, omega arith, p.1)

pub returns-then-last-at : goal.returns-then-last-at
returns-then-last-at c = let l = c.loop-at in
    let a = c.args in
    let s = a.text.now in
    c.past_last.ensures ∙ back s a.from (length s - 8) l.at (omega arith) (omega arith) l.invariant.2

pub returns-then-tops-ne0-2 : goal.returns-then-tops-ne0-2
returns-then-tops-ne0-2 c = let l = c.loop-at in
    let a = c.args in
    ends-among a.text.now a.from l.at (omega arith) c.top_bits-tops-2.ensures l.invariant.2 c.if-tops-ne0-2.true c.before_top-then-tops-ne0-2.ensures.0

pub returns : goal.returns
returns c = let l = c.loop-at in
    let a = c.args in
    let s = a.text.now in
    let p = past-eight s a.from l.at (omega arith) c.top_bits-tops-2.ensures l.invariant.2 c.if-tops-ne0-2.false in
    c.past_last-2.ensures ∙ back s a.from (length s - 8) (l.at + 8) (omega arith) (omega arith) p
