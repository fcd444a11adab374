-- `writer_table::rows_within` meets its contract: each row is asked for its parts. Rests on `rows_numbered`.
use Prim.Native.Nat.{ℕ, ◌*◌, ◌/◌}
use native.Mathlib.Omega.{arith}
use mathlib.Core.Path.{refl, ◌∙◌}
use lib.ListN.{length}
use borrow.Author.Rules.{rules}
use borrow.Author.Tests.{tests}
use Rattle.std.proofs.lemmas.Iterator.{YieldsList-from_range}
use Rattle.std.proofs.lemmas.Iterator.Search.{all_from_yields_List}
use Rattle.writer_table.specs.Table.{row_is_within}
use Rattle.writer_table.specs.Rows.{rows_numbered}
use Rattle.writer_table.proofs.rows_within.Goals as goal

pub returns : goal.returns
returns c = let holds = row_is_within c.args.text.now c.args.table.now in
    let count = length c.args.table.now / 19 in
    let chain = YieldsList-from_range 0 count count refl (omega arith) in
    all_from_yields_List (λ (i : ℕ). holds (19 * i)) _ _ c.all.result c.all.ensures.ran chain (λ x b q k. search (rules, tests))
    ∙ rows_numbered holds 0 count
