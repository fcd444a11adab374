-- `buffer_moves::move_right` meets its contract. Rests on `right_turn`, a turn of its loop.
use mathlib.Core.Path.{refl}
use Prim.Native.Nat.{◌+◌}
use native.Mathlib.Omega.{arith}
use lib.ListN.{drop, length-set}
use Rattle.buffer_moves.specs.Copies.{right_start, right_turn, right_end}
use Rattle.buffer_moves.proofs.move_right.Goals as goal

pub loop-i-init : goal.loop-i-init
loop-i-init c = let a = c.args in (right_start _ (a.to + a.n) (drop (a.from + a.n) a.out.now) a.n, refl)

pub loop-i-preserved : goal.loop-i-preserved
loop-i-preserved c = let a = c.args in (
  right_turn a.out.now _ a.from a.to c.loop-i.i a.n (omega arith) (omega arith) (omega arith) (omega arith) c.loop-i.invariant.0,
  simp length-set (omega arith),
)

pub returns : goal.returns
returns c = let a = c.args in
    right_end a.out.now _ a.from a.to c.loop-i.i a.n (omega arith) (omega arith) c.loop-i.invariant.0
