-- `utf8::past_characters` meets its contract: 32 bytes by what each tells after the three before it, or the characters of one row. Rests on
-- `follow_pass` and `follow_stop`, and on `first_byte`.
use Prim.Native.Nat.{ℕ, ◌+◌, ◌-◌, ◌≤◌, ◌<◌}
use native.Mathlib.Omega.{arith}
use mathlib.Core.Path.{◌≡◌, sym, ◌∙◌, ap}
use mathlib.Core.List.{List}
use mathlib.Core.Bool.{true, false}
use lib.ListN.{length, get_or}
use Rattle.utf8.specs.Utf8.{Row, UTF8-char, rest}
use Rattle.utf8.specs.Steps.{Ends, Passes}
use Rattle.utf8.specs.Follow.{all_follow, begin_of}
use Rattle.utf8.proofs.Bytes.{first_byte}
use Rattle.utf8.proofs.Run.{follow_pass, follow_stop}
use Rattle.utf8.proofs.past_characters.Goals as goal
use Rattle.std.specs.Prelude.{Option, Some, None}

-- the three bytes before the place are those from `at` on
module _ (t : List ℕ) (bytes : (i : ℕ) → get_or t i 0 < 256) (at from : ℕ) (e : from ≡ at + 3) (inside : from + 32 ≤ length t) (begun : begin_of t from ≡ from) where
  pass-from : all_follow 32 t at ≡ true → Passes t from (Some (begin_of t (from + 32)))
  pass-from all =
      let far : from + 32 ≡ at + 32 + 3 = omega (arith, e) in
      rw (far, e) (follow_pass t bytes at 32 (omega (arith, e, inside)) (rw e at begun) (omega arith) all)

  stop-from : all_follow 32 t at ≡ false → Passes t from None
  stop-from all = rw e (follow_stop t bytes at 32 (omega (arith, e, inside)) (rw e at begun) all)

one_passes :
    (t : List ℕ) (from : ℕ) → from < length t → (left : Row) → left ≡ rest (get_or t from 0) UTF8-char → (found : Option ℕ)
    → Ends t (from + 1) left found → Passes t from found
one_passes t from h left e (Some at) w = (omega (arith, w.0), w.1, sym (first_byte t from h left e) ∙ w.2)
one_passes t from h left e None w = sym (first_byte t from h left e) ∙ w

pub returns-then-all_follow : goal.returns-then-all_follow
returns-then-all_follow c = let a = c.args in
    rw c.begin_of-then-all_follow.ensures
    (pass-from a.text.now (λ i. (c.type_inv.text i).fits) (a.from - 3) a.from (omega arith) (omega arith)
    (sym c.begin_of.ensures ∙ c.if-begin_of-from.true) (sym c.all_follow.ensures ∙ c.if-all_follow.true))

pub returns-then-begin_of-from : goal.returns-then-begin_of-from
returns-then-begin_of-from c = let a = c.args in
    stop-from a.text.now (λ i. (c.type_inv.text i).fits) (a.from - 3) a.from (omega arith) (omega arith)
    (sym c.begin_of.ensures ∙ c.if-begin_of-from.true) (sym c.all_follow.ensures ∙ c.if-all_follow.false)

pub returns : goal.returns
returns c = one_passes c.args.text.now c.args.from c.requires.0 (rest c.args.lead UTF8-char) (ap (λ (b : ℕ). rest b UTF8-char) c.requires.1) c.past_others.result c.past_others.ensures
