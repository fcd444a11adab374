-- `writer_table::named_part` meets its contract: the two numbers are those of the part. Rests on the callees' contracts and on numbers past
-- the table's end.
use Prim.Native.Nat.{◌+◌, ◌<◌, ◌^◌}
use native.Mathlib.Omega.{arith}
use mathlib.Core.Path.{◌≡◌, ◌∙◌}
use lib.ListN.{length, get_or}
use Rattle.writer_parts.specs.Sizes.{capped_sum}
use Rattle.writer_table.specs.Rows.{number_capped}
use Rattle.writer_table.proofs.named_part.Goals as goal

pub returns : goal.returns
returns c = let a = c.args in
    let short : length a.table.now < 2 ^ 63 = omega arith in
    let start : c.number.result ≡ get_or a.table.now (a.j + a.k) 0 = c.number.ensures ∙ rw c.added-i.ensures (number_capped a.table.now (a.j + a.k) short) in
    let long : c.number-2.result ≡ get_or a.table.now (a.j + a.k + 1) 0 =
    c.number-2.ensures ∙ rw (c.added.ensures, c.added-i.ensures, capped_sum (a.j + a.k) 1) (number_capped a.table.now (a.j + a.k + 1) short) in
    rw (start, long)
