-- `writer_plain::write_key` meets its contract: the key's check, the comment's, and the write. Rests on the callees' contracts and on the laws of
-- checks.
use mathlib.Core.Path.{refl, sym, ◌∙◌}
use Rattle.std.proofs.lemmas.Result.{err_from_is_err_and}
use Rattle.writer_reply.specs.Reply.{answered}
use Rattle.writer_parts.specs.Checks.{checking_key}
use Rattle.writer_plain.specs.Plain.{plain_reply, plain_left}
use Rattle.writer_plain.specs.Lent.{lent_algorithm, lent_public, lent_private}
use Rattle.writer_plain.proofs.write_key.Goals as goal

pub returns-then-not-is_utf8 : goal.returns-then-not-is_utf8
unfolding plain_reply plain_left
returns-then-not-is_utf8 c = let a = c.args in
    let k = a.key.now in
    let key = checking_key (lent_algorithm k) (lent_public k) (lent_private k) in
    rw (c.refused.ensures, key.passes _ _ (sym c.check.ensures ∙ c.in_ok-check.was), ← c.is_utf8.ensures, c.if-not-is_utf8.true) (refl, refl, refl)

pub returns-in_err-check : goal.returns-in_err-check
unfolding plain_reply plain_left
returns-in_err-check c = let a = c.args in
    let k = a.key.now in
    let key = checking_key (lent_algorithm k) (lent_public k) (lent_private k) in
    let p = err_from_is_err_and c.from_residual.result c.from_residual.ensures.1 in
    rw (p.1, p.2, key.refuses _ _ (sym c.check.ensures ∙ c.in_err-check.was)) (refl, refl, refl)

pub returns : goal.returns
unfolding plain_reply plain_left
returns c = let a = c.args in
    let k = a.key.now in
    let key = checking_key (lent_algorithm k) (lent_public k) (lent_private k) in
    rw (key.passes _ _ (sym c.check.ensures ∙ c.in_ok-check.was), ← c.is_utf8.ensures, c.if-not-is_utf8.false)
    (answered _ _ _ _ c.write_sized.ensures)
