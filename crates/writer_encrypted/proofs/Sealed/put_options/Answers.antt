-- `Sealed::put_options` meets its contract: no options, or salt and rounds in one string. Rests on the laws of runs.
use mathlib.Core.List.{append-nil}
use native.Mathlib.Omega.{arith}
use lib.ListN.{length}
use mathlib.Core.Path.{◌≡◌}
use Prim.Native.Nat.{◌+◌}
use Rattle.fields.specs.Bytes.{uint32, string}
use Rattle.fields.specs.Rest.{length-uint32, length-string}
use Rattle.buffer.specs.Runs.{start_as, step, finish_as}
use Rattle.buffer.specs.Runs.{string_joined}
use Rattle.writer_encrypted.proofs.Sealed.put_options.Goals as goal

pub returns-in-None : goal.returns-in-None
unfolding string
returns-in-None c = rw c.in-None.is (λ room. rw append-nil c.put_uint32.ensures)

pub returns-in-Bcrypt : goal.returns-in-Bcrypt
returns-in-Bcrypt c = let salt = c.args.self.now.salt.now in
    let rounds = c.args.self.now.rounds in
    let long : 8 + length salt ≡ length (string salt) + length (uint32 rounds) = omega (arith, length-string salt, length-uint32 rounds) in
    let joined = string_joined (8 + length salt) (string salt) (uint32 rounds) long in
    rw c.in-Bcrypt.is
    (λ room. finish_as _ joined (step (step (step (start_as _ joined room) c.put_uint32-a.ensures) c.put_string-b.ensures) c.put_uint32-in-Bcrypt.ensures))
