-- `Sealed::write` meets its contract: the lengths that it adds up are the image's. Rests on the length of an encrypted image.
use mathlib.Core.Path.{◌≡◌, ◌∙◌}
use native.Mathlib.Omega.{arith}
use lib.ListN.{length}
use Prim.Native.Nat.{◌+◌}
use Rattle.format.proofs.Lengths.{encrypted_length}
use Rattle.writer_reply.specs.Sized.{too_large, no_room, done}
use Rattle.writer_encrypted.specs.Parts.{options_long}
use Rattle.writer_encrypted.specs.Sealed.{sealed_image}
use Rattle.writer_encrypted.proofs.Sealed.write.Goals as goal
use Rattle.writer_encrypted.proofs.Sealed.write.Goals.{After-options_length, then-self-gt65535-via-then-self-gt65535, then-self-gt65535-via-else-self-gt65535+then-self-gt65535-2, then-self-gt65535-via-else-self-gt65535+else-self-gt65535-2+then-self-gt65535-3}

size_is : (c : After-options_length) → length (sealed_image c.args.self.now) ≡ 39 + c.names_length.result + c.options_length.result + length c.args.self.now.blob.now + length c.args.self.now.ciphertext.now + length c.args.self.now.tag.now
size_is c =
    let x = c.args.self.now in
    encrypted_length x.cipher x.kdf x.salt.now x.rounds x.blob.now x.ciphertext.now x.tag.now
    ∙ omega (arith, c.names_length.ensures.0, c.options_length.ensures.0)

pub returns-then-self-gt65535 : goal.returns-then-self-gt65535
returns-then-self-gt65535 c = let x = c.args.self.now in
    let options = options_long x.kdf x.salt.now x.rounds c.requires.1 in
    let whole = encrypted_length x.cipher x.kdf x.salt.now x.rounds x.blob.now x.ciphertext.now x.tag.now in
    rw c.refused.ensures
    (too_large _ _ (elim c.then-self-gt65535.branch [
      | then-self-gt65535-via-then-self-gt65535 w ↦ omega (arith, whole)
      | then-self-gt65535-via-else-self-gt65535+then-self-gt65535-2 w ↦ omega (arith, whole)
      | then-self-gt65535-via-else-self-gt65535+else-self-gt65535-2+then-self-gt65535-3 w ↦ omega (arith, options, whole)
    ]))

pub returns-then-size-gt65535 : goal.returns-then-size-gt65535
returns-then-size-gt65535 c = rw c.refused-then-size-gt65535.ensures (too_large _ _ (omega (arith, c.if-size-gt65535.true, size_is (goal.at.returns-then-size-gt65535 c).After-options_length)))

pub returns-then-out-size : goal.returns-then-out-size
returns-then-out-size c = rw c.refused-then-out-size.ensures (no_room _ _ (omega (arith, c.if-size-gt65535.false, size_is (goal.at.returns-then-out-size c).After-options_length)) (omega (arith, c.if-out-size.true, size_is (goal.at.returns-then-out-size c).After-options_length)))

pub returns : goal.returns
returns c = done _ _ _ _ (omega (arith, c.if-size-gt65535.false, size_is (goal.at.returns c).After-options_length)) (omega (arith, c.if-out-size.false, size_is (goal.at.returns c).After-options_length)) c.put.ensures
