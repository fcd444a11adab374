-- `utf8::end_of` meets its contract. The loop's invariant: the text is answered from the next place on, with the tails that are left.
-- Rests on `first_lies` and what is beside it.
use Rattle.utf8.specs.Utf8.{◌to◌}
use borrow.Author.Rules.{rules}
use mathlib.Core.Path.{◌≡◌}
use Prim.Native.Nat.{◌-◌, ◌+◌}
use native.Mathlib.Omega.{arith}
use Rattle.utf8.proofs.Bytes.{stops, first_lies, tail_lies, tail_missing, all_lie}
use Rattle.utf8.proofs.end_of.Goals as goal

pub returns-then-not-lies_at : goal.returns-then-not-lies_at
returns-then-not-lies_at c = grind (arith, stops)

pub loop-k-init : goal.loop-k-init
loop-k-init c = let a = c.args in
    let all : a.left.2 - 0 ≡ a.left.2 = omega arith in
    first_lies _ _ _ 0 _ _ (a.left.0 to a.left.1) (rw all) (omega arith) (search rules)

pub loop-k-preserved : goal.loop-k-preserved
loop-k-preserved c = let k = c.loop-k.k in
    tail_lies _ _ _ (c.args.from + 1 + k) _ _ (c.args.left.2 - k) (omega arith) (omega arith) (search rules) c.loop-k.invariant

pub returns-then-not-lies_at-2 : goal.returns-then-not-lies_at-2
returns-then-not-lies_at-2 c = let k = c.loop-k.k in
    tail_missing _ _ _ (c.args.from + 1 + k) 0 (c.args.left.2 - (k + 1)) (c.args.left.2 - k) (omega arith) (search rules) c.loop-k.invariant

pub returns : goal.returns
returns c = all_lie _ _ _ (c.args.from + 1 + c.loop-k.k) _ (c.args.left.2 - c.loop-k.k) (omega arith) (omega arith) (omega arith) c.loop-k.invariant
