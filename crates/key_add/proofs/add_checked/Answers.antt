-- `key_add::add_checked` meets its contract: the room that is made is filled with the key's blob, its keypair and its comment. Rests on the laws of
-- Add.
use native.Mathlib.Omega.{arith}
use mathlib.Core.Path.{sym, ◌∙◌}
use Rattle.format.specs.Format.{key_of}
use Rattle.writer_plain.specs.Lent.{lent_algorithm, lent_public, lent_private}
use Rattle.key_add.specs.Add.{few_bytes, room_small, room_refused, room_filled}
use Rattle.std.proofs.lemmas.Result.{err_from_is_err_and}
use Rattle.key_add.proofs.add_checked.Goals as goal

pub overflow_add-entry : goal.overflow_add-entry
overflow_add-entry c = let a = c.args in
    let key = key_of (lent_algorithm a.key.now) (lent_public a.key.now) (lent_private a.key.now) a.comment.now in
    omega (arith, few_bytes a.lent.now (λ i. (c.slice_known-1.given i).fits) a.n a.f c.requires.0, room_small a.lent.now (λ i. (c.slice_known-1.given i).fits) a.n a.f c.requires.0 key c.requires.1 _ _ _ c.blob_length.ensures c.added-blob.ensures c.pair_length-pair.ensures _ _ (sym c.in_ok-size.was ∙ c.make_room.ensures.0, c.make_room.ensures.1))

pub returns-in_err-size : goal.returns-in_err-size
returns-in_err-size c = let a = c.args in
    let key = key_of (lent_algorithm a.key.now) (lent_public a.key.now) (lent_private a.key.now) a.comment.now in
    let p = err_from_is_err_and c.from_residual.result c.from_residual.ensures.1 in
    rw (p.1, p.2) (room_refused a.lent.now (λ i. (c.slice_known-1.given i).fits) a.n a.f c.requires.0 key c.requires.1 _ _ _ c.blob_length.ensures c.added-blob.ensures c.pair_length-pair.ensures _ _ (sym c.in_err-size.was ∙ c.make_room.ensures.0, c.make_room.ensures.1))

pub returns : goal.returns
returns c = let a = c.args in
    let key = key_of (lent_algorithm a.key.now) (lent_public a.key.now) (lent_private a.key.now) a.comment.now in
    room_filled a.lent.now (λ i. (c.slice_known-1.given i).fits) a.n a.f c.requires.0 key c.requires.1 _ _ _ c.blob_length.ensures c.added-blob.ensures c.pair_length-pair.ensures _ _ _ _ _ _ _ _ (sym c.in_ok-size.was ∙ c.make_room.ensures.0, c.make_room.ensures.1) (λ h. c.put_blob.ensures) (λ h. c.put_pair-past.ensures) (λ h. c.put_string.ensures)
