-- `buffer::put` meets its contract: after i turns the first i bytes are pasted, and all of them at the end.
-- Rests on `copied` and `no_put` of one put, and on the library's `paste`.
use mathlib.Core.Path.{◌≡◌, refl}
use native.Mathlib.Omega.{arith}
use native.Mathlib.Numerals.{add-one}
use lib.ListN.{length, length-set}
use lib.Seq.{paste-suc}
use Rattle.std.proofs.lemmas.Grind.{common_steps}
use Rattle.buffer.specs.Puts.{no_put, copied}
use Rattle.buffer.proofs.put.Goals as goal

pub returns-then-not-has_room : goal.returns-then-not-has_room
returns-then-not-has_room c = no_put _ _ _ (grind (arith, common_steps))

pub loop-i-preserved : goal.loop-i-preserved
loop-i-preserved c = let a = c.args in (
  rw (c.loop-i.invariant.0, paste-suc a.out.now a.at a.bytes.now c.loop-i.i 0 (grind (arith, common_steps)) (omega arith), add-one),
  simp length-set (omega arith),
)

pub returns : goal.returns
returns c = let a = c.args in
    let all : c.loop-i.i ≡ length a.bytes.now = omega arith in
    copied a.out.now a.at a.bytes.now _ (length a.bytes.now) (grind (arith, common_steps)) refl (rw all at c.loop-i.invariant.0)
