-- `buffer::put_string` meets its contract: length and bytes are two puts, one after the other. Rests on the laws of runs.
use mathlib.Core.Path.{◌≡◌, ap}
use mathlib.Core.List.{List, [], ◌∷◌, ◌++◌, append-nil}
use Rattle.fields.specs.Bytes.{uint32, string, join}
use Prim.Native.Nat.{ℕ, ◌+◌, ◌≤◌}
use native.Mathlib.Omega.{arith}
use lib.ListN.{length}
use Rattle.std.proofs.lemmas.Grind.{common_steps}
use Rattle.fields.specs.Rest.{length-string}
use Rattle.buffer.specs.Puts.{no_put}
use Rattle.buffer.specs.Runs.{start, step, finish_as}
use Rattle.buffer.proofs.put_string.Goals as goal
use Rattle.buffer.proofs.put_string.Goals.{then-not-has_room-via-then-not-has_room, then-not-has_room-via-else-not-has_room+then-not-has_room-2}

pub returns-then-not-has_room : goal.returns-then-not-has_room
returns-then-not-has_room c =
    elim c.then-not-has_room.branch [
      | then-not-has_room-via-then-not-has_room w ↦ no_put _ _ _ (simp length-string (grind (arith, common_steps)))
      | then-not-has_room-via-else-not-has_room+then-not-has_room-2 w ↦ no_put _ _ _ (simp length-string (grind (arith, common_steps)))
    ]

pub returns : goal.returns
unfolding string
returns c = let a = c.args in
    let fields = uint32 (length a.bytes.now) ∷ a.bytes.now ∷ [] in
    let joined : join fields ≡ string a.bytes.now = ap (λ (b : List ℕ). uint32 (length a.bytes.now) ++ b) (append-nil a.bytes.now) in
    let room : a.at + length (join fields) ≤ length a.out.now = grind (arith, common_steps, ap length joined, length-string a.bytes.now) in
    finish_as _ joined (step (step (start room) c.put_uint32-body.ensures) c.put.ensures)
