-- `writer_curve::private_length` meets its contract: the kind picks the length. Rests on the callees' contracts and on `seed_size`.
use Prim.Native.Nat.{ℕ, ◌+◌}
use mathlib.Core.Path.{sym, ◌∙◌, ap}
use lib.ListN.{length}
use Rattle.writer_parts.specs.Sizes.{capped, capped_sum}
use Rattle.writer_curve.specs.Parts.{seed_size}
use Rattle.writer_curve.proofs.private_length.Goals as goal

pub returns-in-Ed25519 : goal.returns-in-Ed25519
returns-in-Ed25519 c = let a = c.args in
    rw c.in-Ed25519.is
    (c.added-in-Ed25519.ensures ∙ ap (λ (n : ℕ). capped (n + length a.point.now)) c.added.ensures ∙ capped_sum _ _
    ∙ ap capped (sym (seed_size a.point.now a.scalar.now)))
