-- `key_add::add_parts` meets its contract: the image's tests, the key's own, and then the addition. Rests on the laws of Add.
use mathlib.Core.Path.{sym, ◌∙◌}
use Rattle.format.specs.Format.{key_of}
use Rattle.writer_parts.specs.Checks.{checking_key}
use Rattle.writer_plain.specs.Lent.{lent_algorithm, lent_public, lent_private}
use Rattle.key_add.specs.Add.{more_refused, key_refused}
use Rattle.std.proofs.lemmas.Result.{err_from_is_err_and}
use Rattle.key_add.proofs.add_parts.Goals as goal

pub add_checked-requires : goal.add_checked-requires
add_checked-requires c = let a = c.args in
    let key = key_of (lent_algorithm a.key.now) (lent_public a.key.now) (lent_private a.key.now) a.comment.now in
    (sym c.read_for_more.ensures ∙ c.in_ok-fields.was, (checking_key key.algorithm key.public key.private).passes _ _ (sym c.check.ensures ∙ c.in_ok-check.was))

pub returns-in_err-fields : goal.returns-in_err-fields
returns-in_err-fields c = let a = c.args in
    let p = err_from_is_err_and c.from_residual.result c.from_residual.ensures.1 in
    rw (p.1, p.2) (more_refused a.lent.now (λ i. (c.slice_known-1.given i).fits) a.n (key_of (lent_algorithm a.key.now) (lent_public a.key.now) (lent_private a.key.now) a.comment.now) _ (sym c.read_for_more.ensures ∙ c.in_err-fields.was))

pub returns-in_err-check : goal.returns-in_err-check
returns-in_err-check c = let a = c.args in
    let p = err_from_is_err_and c.from_residual-in_err-check.result c.from_residual-in_err-check.ensures.1 in
    rw (p.1, p.2) (key_refused a.lent.now (λ i. (c.slice_known-1.given i).fits) a.n _ (sym c.read_for_more.ensures ∙ c.in_ok-fields.was) (key_of (lent_algorithm a.key.now) (lent_public a.key.now) (lent_private a.key.now) a.comment.now) _ (sym c.check.ensures ∙ c.in_err-check.was))
