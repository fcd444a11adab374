-- `writer_plain::write_sized` meets its contract: the lengths that it adds up are the image's. Rests on `alone_measured`.
use native.Mathlib.Omega.{arith}
use mathlib.Core.Path.{◌≡◌}
use lib.ListN.{length}
use Rattle.format.specs.Format.{entry, key_of, alone, blob, written_pair, written_image}
use Rattle.writer_reply.specs.Sized.{too_large, no_room, done}
use Rattle.writer_parts.specs.Sizes.{capped, capped_above, capped_exact}
use Rattle.writer_parts.specs.Fields.{image_length_lem, entries_exact, entry_measured, alone_measured}
use Rattle.writer_plain.specs.Lent.{lent_algorithm, lent_public, lent_private}
use Rattle.writer_plain.proofs.write_sized.Goals as goal
use Rattle.writer_plain.proofs.write_sized.Goals.{After-image_length-size}

-- what is added up is the image's length
size_is :
    (c : After-image_length-size)
    → c.image_length-size.result ≡ capped (length (written_image c.args.checkint (alone (key_of (lent_algorithm c.args.key.now) (lent_public c.args.key.now) (lent_private c.args.key.now) c.args.comment.now))))
size_is c = let a = c.args in
    let k = a.key.now in
    alone_measured (lent_algorithm k) (lent_public k) (lent_private k) a.comment.now a.checkint _ _ _ _ _ _ c.blob_length.ensures c.pair_length.ensures c.added-pair.ensures c.added-entries.ensures c.added-blob.ensures c.image_length-size.ensures

pub returns-then-size-gt65535 : goal.returns-then-size-gt65535
returns-then-size-gt65535 c =
    let size = size_is (goal.at.returns-then-size-gt65535 c).After-image_length-size in
    rw c.refused.ensures (too_large _ c.args.out.now (capped_above _ _ 65535 size (omega (arith, c.if-size-gt65535.true))))

pub returns-then-out-size : goal.returns-then-out-size
returns-then-out-size c =
    let exact = capped_exact _ _ _ (size_is (goal.at.returns-then-out-size c).After-image_length-size) c.if-size-gt65535.false (omega arith) in
    rw c.refused-then-out-size.ensures (no_room _ c.args.out.now (omega (arith, exact, c.if-size-gt65535.false)) (omega (arith, exact, c.if-out-size.true)))

pub put_plain-requires : goal.put_plain-requires
unfolding written_image
put_plain-requires c = let a = c.args in
    let k = a.key.now in
    let pair = written_pair (lent_algorithm k) (lent_public k) (lent_private k) in
    let exact = capped_exact _ _ _ (size_is (goal.at.put_plain-requires c).After-image_length-size) c.if-size-gt65535.false (omega arith) in
    let es = alone (entry pair a.comment.now) in
    let entries = entry_measured (lent_algorithm k) (lent_public k) (lent_private k) a.comment.now _ _ _ c.pair_length.ensures c.added-pair.ensures c.added-entries.ensures in
    let keys = alone (blob (lent_algorithm k) (lent_public k)) in
    let same = entries_exact a.checkint keys es _ entries (omega (arith, exact, c.if-size-gt65535.false)) in
    (same, omega (arith, same, exact, c.if-size-gt65535.false, image_length_lem a.checkint keys es))

pub returns : goal.returns
returns c =
    let exact = capped_exact _ _ _ (size_is (goal.at.returns c).After-image_length-size) c.if-size-gt65535.false (omega arith) in
    done _ c.args.out.now _ _ (omega (arith, exact, c.if-size-gt65535.false)) (omega (arith, exact, c.if-out-size.false)) c.put_plain.ensures
