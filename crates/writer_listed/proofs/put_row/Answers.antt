-- `writer_listed::put_row` meets its contract: the row's numbers are the definition's. Rests on the callees' contracts.
use Rattle.writer_listed.specs.Rows.{row_of}
use Rattle.writer_listed.proofs.put_row.Goals as goal

pub returns : goal.returns
unfolding row_of
returns c = rw (← c.kept-point.ensures, ← c.kept-scalar.ensures, ← c.kept-comment.ensures, ← c.kept-n.ensures, ← c.kept-e.ensures, ← c.kept-d.ensures, ← c.kept-iqmp.ensures, ← c.kept-p.ensures, ← c.kept-q.ensures, ← c.code.ensures)
    c.put_numbers.ensures
