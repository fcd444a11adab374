-- `writer_listed::put_numbers` meets its contract: after i turns the first i numbers are pasted, and all of them at the end.
-- Rests on `copied` and `no_put` of one put, and on the library's `paste`.
use mathlib.Core.Path.{◌≡◌, refl}
use native.Mathlib.Omega.{arith}
use native.Mathlib.Numerals.{add-one}
use lib.ListN.{length, length-set}
use lib.Seq.{paste-suc}
use Rattle.std.proofs.lemmas.Grind.{common_steps}
use Rattle.buffer.specs.Puts.{no_put, copied}
use Rattle.writer_listed.proofs.put_numbers.Goals as goal

pub returns-then-not-has_room : goal.returns-then-not-has_room
returns-then-not-has_room c = no_put _ _ _ (grind (arith, common_steps))

pub loop-i-preserved : goal.loop-i-preserved
loop-i-preserved c = let a = c.args in (
  rw (c.loop-i.invariant.0, paste-suc a.table.now a.at a.numbers.now c.loop-i.i 0 (grind (arith, common_steps)) (omega arith), add-one),
  simp length-set (omega arith),
)

pub returns : goal.returns
returns c = let a = c.args in
    let all : c.loop-i.i ≡ length a.numbers.now = omega arith in
    copied a.table.now a.at a.numbers.now _ (length a.numbers.now) (grind (arith, common_steps)) refl (rw all at c.loop-i.invariant.0)
