-- `buffer_moves::move_left` meets its contract. Rests on `left_turn`, a turn of its loop.
use mathlib.Core.Path.{◌≡◌, ◌∙◌}
use native.Mathlib.Omega.{arith}
use lib.ListN.{length-set}
use Rattle.buffer_moves.specs.Copies.{left_turn, copied_run}
use Rattle.buffer_moves.proofs.move_left.Goals as goal

pub loop-i-preserved : goal.loop-i-preserved
loop-i-preserved c = let a = c.args in (
  rw c.loop-i.invariant.0 (left_turn a.out.now a.from a.to c.loop-i.i (omega arith) (omega arith)),
  simp length-set (omega arith),
)

pub returns : goal.returns
returns c = let a = c.args in
    let all : c.loop-i.i ≡ a.n = omega arith in
    c.loop-i.invariant.0 ∙ rw all (copied_run a.out.now a.from a.to a.n (omega arith))
