-- `writer_again::rewrite_record` meets its contract: the judgement picks the case, and a record that passes it is what a read
-- gives. Rests on `passes_read` and on the callees' contracts.
use mathlib.Core.Path.{refl, sym, ◌∙◌}
use Rattle.handed_record.specs.Judge.{passes_read}
use Rattle.writer_again.specs.Rewrite.{handed_reply, handed_left}
use Rattle.writer_again.proofs.rewrite_record.Goals as goal

pub returns-then-not-is_read : goal.returns-then-not-is_read
unfolding handed_reply handed_left
returns-then-not-is_read c = rw (c.refused.ensures, ← c.is_read.ensures, c.if-not-is_read.true) (refl, refl, refl)

pub write_record-requires : goal.write_record-requires
write_record-requires c = passes_read c.args.image.now c.args.f (sym c.is_read.ensures ∙ c.if-not-is_read.false)

pub returns : goal.returns
unfolding handed_reply handed_left
returns c = rw (← c.is_read.ensures, c.if-not-is_read.false) c.write_record.ensures
