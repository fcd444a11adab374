-- `buffer::put_decimal` meets its contract: what is put is the text from its first digit on, which `spell` says is the decimal.
-- Rests on the callees' contracts alone.
use mathlib.Core.Path.{◌≡◌, ◌∙◌}
use Prim.Native.Nat.{◌-◌}
use native.Mathlib.Omega.{arith}
use lib.ListN.{take, drop, length-drop}
use lib.Seq.{take_all}
use Rattle.buffer.specs.Decimal.{decimal}
use Rattle.buffer.proofs.put_decimal.Goals as goal

pub returns : goal.returns
returns c = let n = c.args.n in
    let start = c.spell-start.result in
    let text = c.spell-start.new.text in
    let all : take (20 - start) (drop start text) ≡ decimal n =
    take_all (20 - start) (drop start text) (simp length-drop (omega (arith, c.spell-start.ensures))) ∙ c.spell-start.ensures.2 in
    rw (← all) c.put.ensures
