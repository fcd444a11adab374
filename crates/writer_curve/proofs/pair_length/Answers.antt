-- `writer_curve::pair_length` meets its contract: the lengths of the public key and of the private bytes. Rests on `pair_size` and on the
-- laws of capped sums.
use Prim.Native.Nat.{ℕ, ◌+◌}
use mathlib.Core.Path.{sym, ◌∙◌, ap, ap₂}
use Rattle.writer_parts.specs.Sizes.{capped, capped_sum, capped_sum_last}
use Rattle.writer_curve.specs.Parts.{pair_size}
use Rattle.writer_curve.proofs.pair_length.Goals as goal

pub returns : goal.returns
returns c = let a = c.args in
    c.added.ensures ∙ ap₂ (λ (m n : ℕ). capped (m + n)) c.blob_length.ensures c.private_length.ensures ∙ capped_sum_last _ _ ∙ capped_sum _ _
    ∙ ap capped (sym (pair_size a.algorithm a.point.now a.scalar.now))
