-- `Keys::blobs_length` meets its contract: what is added up and what is left are the whole. Rests on the laws of capped sums.
use native.Mathlib.Omega.{arith}
use mathlib.Core.Path.{◌∙◌, ap}
use Prim.Native.Nat.{ℕ, ◌+◌}
use Rattle.writer_parts.specs.Sizes.{capped, capped_sum_last}
use Rattle.writer_keys.specs.Passes.{keys_all, keys_next, keys_end, summed_none, summed_more, summed_all}
use Rattle.writer_keys.proofs.Keys.blobs_length.Goals as goal

pub loop-i-init : goal.loop-i-init
loop-i-init c = rw keys_all (summed_none _)

pub loop-i-preserved : goal.loop-i-preserved
loop-i-preserved c = let a = c.args in
    let left = rw (keys_next a.self.now.text.now a.self.now.table.now c.loop-i.i a.self.now.count (omega arith)) at c.loop-i.invariant in
    let s = c.added-one.ensures ∙ ap (λ (n : ℕ). capped (4 + n)) c.blob_length_at.ensures ∙ capped_sum_last 4 _ in
    summed_more _ _ _ _ s c.added-sum.ensures left

pub returns : goal.returns
returns c = let a = c.args in
    summed_all (rw (keys_end a.self.now.text.now a.self.now.table.now c.loop-i.i a.self.now.count (omega arith)) at c.loop-i.invariant)
