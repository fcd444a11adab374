-- `writer_curve::blob_length` meets its contract: the names, a length and the point. Rests on `blob_size`.
use Prim.Native.Nat.{ℕ, ◌+◌}
use mathlib.Core.Path.{sym, ◌∙◌, ap}
use lib.ListN.{length}
use Rattle.writer_parts.specs.Sizes.{capped}
use Rattle.writer_curve.specs.Parts.{blob_size}
use Rattle.writer_curve.proofs.blob_length.Goals as goal

pub returns : goal.returns
returns c = let a = c.args in
    c.added.ensures ∙ ap (λ (n : ℕ). capped (n + 4 + length a.point.now)) c.names_length.ensures.0 ∙ ap capped (sym (blob_size a.algorithm a.point.now))
