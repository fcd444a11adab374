-- `writer_keys::write_named` meets its contract: the table's conditions, each key's, then size and room. Rests on the callees' contracts, on
-- the laws of checks and on zeros in front changing nothing of what is written.
use mathlib.Core.Path.{refl, sym, ◌∙◌}
use lib.ListN.{length}
use Rattle.std.proofs.lemmas.Result.{err_from_is_err_and}
use Rattle.writer_reply.specs.Reply.{answered}
use Rattle.writer_table.specs.Table.{keys_named}
use Rattle.writer_keys.specs.Named.{named_keys, named_left}
use Rattle.writer_keys.specs.Checked.{checking_keys, written_named, named_refused, named_passed}
use Rattle.writer_keys.proofs.write_named.Goals as goal

pub returns-in_err-check : goal.returns-in_err-check
unfolding named_left
returns-in_err-check c = let a = c.args in
    let reply = named_refused a.filling a.text.now a.table.now _ a.checkint (length a.out.now) (sym c.check.ensures ∙ c.in_err-check.was) in
    let p = err_from_is_err_and c.from_residual.result c.from_residual.ensures.1 in
    rw (p.1, p.2, reply) (refl, refl, refl)

pub returns-in_err-check-2 : goal.returns-in_err-check-2
unfolding named_left keys_named
returns-in_err-check-2 c = let a = c.args in
    let keys = named_keys a.filling a.text.now a.table.now in
    let reply = named_passed a.filling a.text.now a.table.now _ a.checkint (length a.out.now) (sym c.check.ensures ∙ c.in_ok-check.was) in
    let p = err_from_is_err_and c.from_residual-in_err-check-2.result c.from_residual-in_err-check-2.ensures.1 in
    rw (p.1, p.2, reply, (checking_keys keys).refuses _ _ (sym c.check-2.ensures ∙ c.in_err-check-2.was)) (refl, refl, refl)

pub returns : goal.returns
unfolding named_left keys_named
returns c = let a = c.args in
    let keys = named_keys a.filling a.text.now a.table.now in
    let reply = named_passed a.filling a.text.now a.table.now _ a.checkint (length a.out.now) (sym c.check.ensures ∙ c.in_ok-check.was) in
    rw (reply, (checking_keys keys).passes _ _ (sym c.check-2.ensures ∙ c.in_ok-check-2.was), written_named a.filling a.text.now a.table.now a.checkint)
    (answered _ _ _ _ c.write.ensures)
