-- `Keys::write` meets its contract: the lengths that it adds up are the image's. Rests on `image_measured`.
use native.Mathlib.Omega.{arith}
use mathlib.Core.Path.{◌≡◌}
use mathlib.Core.List.{map}
use lib.ListN.{length}
use Rattle.format.specs.Format.{key_blob, written_entry, written_image}
use Rattle.writer_reply.specs.Sized.{too_large, no_room, done}
use Rattle.writer_parts.specs.Sizes.{capped, capped_above, capped_exact}
use Rattle.writer_parts.specs.Fields.{image_length_lem, image_measured, entries_exact}
use Rattle.writer_keys.specs.Passes.{keys_from}
use Rattle.writer_keys.proofs.Keys.write.Goals as goal
use Rattle.writer_keys.proofs.Keys.write.Goals.{After-image_length-size}

-- what is added up is the image's length
size_is : (c : After-image_length-size) → c.image_length-size.result ≡ capped (length (written_image c.args.checkint (keys_from c.args.self.now.text.now c.args.self.now.table.now 0 c.args.self.now.count)))
unfolding written_image
size_is c = let keys = keys_from c.args.self.now.text.now c.args.self.now.table.now 0 c.args.self.now.count in
    image_measured c.args.checkint (map key_blob keys) (map written_entry keys) _ _ _ c.blobs_length.ensures c.entries_length-entries.ensures c.image_length-size.ensures

pub returns-then-size-gt65535 : goal.returns-then-size-gt65535
returns-then-size-gt65535 c =
    let size = size_is (goal.at.returns-then-size-gt65535 c).After-image_length-size in
    rw c.refused.ensures (too_large _ c.args.out.now (capped_above _ _ 65535 size (omega (arith, c.if-size-gt65535.true))))

pub returns-then-out-size : goal.returns-then-out-size
returns-then-out-size c =
    let exact = capped_exact _ _ _ (size_is (goal.at.returns-then-out-size c).After-image_length-size) c.if-size-gt65535.false (omega arith) in
    rw c.refused-then-out-size.ensures (no_room _ c.args.out.now (omega (arith, exact, c.if-size-gt65535.false)) (omega (arith, exact, c.if-out-size.true)))

pub put-requires : goal.put-requires
unfolding written_image
put-requires c = let a = c.args in
    let keys = keys_from a.self.now.text.now a.self.now.table.now 0 a.self.now.count in
    let exact = capped_exact _ _ _ (size_is (goal.at.put-requires c).After-image_length-size) c.if-size-gt65535.false (omega arith) in
    let same = entries_exact a.checkint (map key_blob keys) (map written_entry keys) _ c.entries_length-entries.ensures (omega (arith, exact, c.if-size-gt65535.false)) in
    let small = image_length_lem a.checkint (map key_blob keys) (map written_entry keys) in
    (same, omega (arith, same, exact, c.if-size-gt65535.false, small))

pub returns : goal.returns
returns c =
    let exact = capped_exact _ _ _ (size_is (goal.at.returns c).After-image_length-size) c.if-size-gt65535.false (omega arith) in
    done _ c.args.out.now _ _ (omega (arith, exact, c.if-size-gt65535.false)) (omega (arith, exact, c.if-out-size.false)) c.put.ensures
