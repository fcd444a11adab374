-- `replay_telling::rest_of` meets its contract. The loop's invariant: what remains so far, taken on over the bytes from the next on, is
-- what remains of all. Assumes nothing.
use Prim.Native.Nat.{ℕ, suc, ◌+◌, ◌<◌}
use mathlib.Core.List.{List}
use mathlib.Core.Path.{◌≡◌, refl, ◌∙◌}
use native.Mathlib.Omega.{arith}
use lib.ListN.{length, drop, get_or, drop_of_length-le}
use lib.Seq.{drop-cons}
use Rattle.replay_telling.specs.Telling.{next_rest, rest_from, rest_of}
use Rattle.replay_telling.proofs.rest_of.Goals as goal

-- a byte is taken in
step :
    (s : List ℕ) (rest i : ℕ) → i < length s → rest_from (next_rest rest (get_or s i 0)) (drop (i + 1) s) ≡ rest_from rest (drop i s)
unfolding rest_from
step s rest i h =
    let e : i + 1 ≡ suc i = omega arith in
    rw (e, drop-cons s i 0 h)

pub loop-byte-init : goal.loop-byte-init
unfolding rest_of
loop-byte-init c = refl

pub loop-byte-preserved : goal.loop-byte-preserved
loop-byte-preserved c = rw c.next_rest-rest.ensures (step _ _ _ c.loop-byte-test.true ∙ c.loop-byte.invariant)

pub returns : goal.returns
unfolding rest_from
returns c = rw (drop_of_length-le _ c.loop-byte-test.false) at c.loop-byte.invariant
