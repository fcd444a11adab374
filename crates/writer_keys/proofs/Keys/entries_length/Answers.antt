-- `Keys::entries_length` meets its contract: what is added up and what is left are the whole. Rests on the laws of capped sums.
use native.Mathlib.Omega.{arith}
use mathlib.Core.Path.{◌≡◌, sym, ◌∙◌, ap}
use Prim.Native.Nat.{ℕ, ◌+◌, ◌*◌}
use lib.ListN.{length}
use Rattle.format.specs.Format.{written_entry}
use Rattle.writer_parts.specs.Sizes.{capped, capped_sum, capped_sum_last}
use Rattle.writer_table.specs.Table.{key_at}
use Rattle.writer_rows.specs.Taken.{key_comment}
use Rattle.writer_keys.specs.Passes.{keys_all, keys_next, keys_end, summed_none, summed_more, summed_all}
use Rattle.writer_keys.proofs.Keys.entries_length.Goals as goal

pub loop-i-init : goal.loop-i-init
loop-i-init c = rw keys_all (summed_none _)

pub loop-i-preserved : goal.loop-i-preserved
loop-i-preserved c = let a = c.args in
    let left = rw (keys_next a.self.now.text.now a.self.now.table.now c.loop-i.i a.self.now.count (omega arith)) at c.loop-i.invariant in
    let e = written_entry (key_at a.self.now.text.now a.self.now.table.now (19 * c.loop-i.i)) in
    let comment = c.part_at-comment.ensures.0 ∙ sym (key_comment a.self.now.text.now a.self.now.table.now (19 * c.loop-i.i)) in
    let pair = c.added-pair.ensures ∙ ap (λ (n : ℕ). capped (4 + n)) c.pair_length_at.ensures ∙ capped_sum_last 4 _ in
    let turned : 4 + length e.pair + length e.comment ≡ length e.pair + (4 + length e.comment) = omega arith in
    let s = (rw comment at c.added.ensures) ∙ ap (λ (n : ℕ). capped (n + length e.comment)) pair ∙ capped_sum _ _ ∙ ap capped turned in
    summed_more _ _ _ _ s c.added-sum.ensures left

pub returns : goal.returns
returns c = let a = c.args in
    summed_all (rw (keys_end a.self.now.text.now a.self.now.table.now c.loop-i.i a.self.now.count (omega arith)) at c.loop-i.invariant)
