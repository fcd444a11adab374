-- Any two replies that meet a public function's own contract are equal, and so are the buffers that they leave.
-- Rests on the contracts being equations.
use Rattle.buffer.specs.Determined.{DeterminedBuffer}
use Rattle.edit_change.proofs.change.Reads as change
use Rattle.edit_change.proofs.change.Kinds as change_kinds

pub change_determined : DeterminedBuffer 2 change_kinds.ps change_kinds.r change.Post (λ κs s. s.0.now)
change_determined κs a r₁ r₂ s₁ s₂ p q = (cc, cc)
