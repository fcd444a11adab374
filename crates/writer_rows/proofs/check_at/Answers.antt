-- `writer_rows::check_at` meets its contract: the key's check, and then the comment's. Rests on the callees' contracts and on the laws of
-- checks.
use mathlib.Core.Path.{refl, sym, ◌∙◌}
use Rattle.std.proofs.lemmas.Result.{err_from_is_err_and}
use Rattle.writer_parts.specs.Checks.{checking_key}
use Rattle.writer_plain.specs.Plain.{keys_checked}
use Rattle.writer_table.specs.Table.{key_at}
use Rattle.writer_rows.specs.Taken.{key_taken, taken_comment, key_comment}
use Rattle.writer_rows.proofs.check_at.Goals as goal

pub returns-then-not-is_utf8 : goal.returns-then-not-is_utf8
unfolding keys_checked
returns-then-not-is_utf8 c = let k = key_taken c.args.filling (key_at c.args.text.now c.args.table.now c.args.j) in
    let key = checking_key k.algorithm k.public k.private in
    rw (c.refused.ensures, key.passes _ _ (sym c.check_key.ensures ∙ c.in_ok-check_key.was), taken_comment c.args.filling (key_at c.args.text.now c.args.table.now c.args.j), key_comment, ← c.part_at.ensures.0, ← c.is_utf8.ensures, c.if-not-is_utf8.true) refl

pub returns-in_err-check_key : goal.returns-in_err-check_key
unfolding keys_checked
returns-in_err-check_key c = let k = key_taken c.args.filling (key_at c.args.text.now c.args.table.now c.args.j) in
    let key = checking_key k.algorithm k.public k.private in
    let p = err_from_is_err_and c.from_residual.result c.from_residual.ensures.1 in
    rw (p.1, p.2, key.refuses _ _ (sym c.check_key.ensures ∙ c.in_err-check_key.was)) refl

pub returns : goal.returns
unfolding keys_checked
returns c = let k = key_taken c.args.filling (key_at c.args.text.now c.args.table.now c.args.j) in
    let key = checking_key k.algorithm k.public k.private in
    rw (key.passes _ _ (sym c.check_key.ensures ∙ c.in_ok-check_key.was), taken_comment c.args.filling (key_at c.args.text.now c.args.table.now c.args.j), key_comment, ← c.part_at.ensures.0, ← c.is_utf8.ensures, c.if-not-is_utf8.false) refl
