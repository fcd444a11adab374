-- `fields::same` meets its contract: what was found so far, and whether the bytes from i on are the same, is `same_bytes` of all.
-- Rests on the laws of `same_bytes`.
use native.Mathlib.Omega.{arith}
use native.Mathlib.Numerals.{add-one}
use mathlib.Core.Path.{sym, ◌∙◌, ap}
use mathlib.Core.Bool.{Bool, ◌&&◌}
use Rattle.fields.specs.Bytes.{same_next, same_end, and_next, and_true, not_as_long}
use Rattle.fields.proofs.same.Goals as goal

pub returns-then-a-b : goal.returns-then-a-b
returns-then-a-b c = not_as_long c.args.a.now c.args.b.now c.if-a-b.true

pub loop-i-preserved : goal.loop-i-preserved
loop-i-preserved c = let a = c.args in
    let n = same_next a.a.now a.b.now c.loop-i.i (omega arith) (omega arith) in
    rw add-one (sym (and_next c.loop-i.equal _ _) ∙ ap (λ (t : Bool). c.loop-i.equal && t) (sym n) ∙ c.loop-i.invariant)

pub returns : goal.returns
returns c = let a = c.args in
    let e = same_end a.a.now a.b.now c.loop-i.i (omega arith) (omega arith) in
    and_true c.loop-i.equal ∙ ap (λ (t : Bool). c.loop-i.equal && t) (sym e) ∙ c.loop-i.invariant
