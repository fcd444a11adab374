-- `writer_numbers::blob_length` meets its contract: the name, two lengths and two numbers. Rests on `blob_size`.
use Prim.Native.Nat.{ℕ, ◌+◌}
use mathlib.Core.Path.{sym, ◌∙◌, ap}
use lib.ListN.{length}
use Rattle.writer_parts.specs.Sizes.{capped, capped_sum}
use Rattle.writer_numbers.specs.Parts.{blob_size}
use Rattle.writer_numbers.proofs.blob_length.Goals as goal

pub returns : goal.returns
returns c = let a = c.args in
    c.added-2.ensures ∙ ap (λ (k : ℕ). capped (k + length a.n.now)) c.added.ensures ∙ capped_sum _ _
    ∙ ap capped (sym (blob_size a.n.now a.e.now))
