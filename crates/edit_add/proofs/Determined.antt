-- Any two replies that meet a public function's own contract are equal, and so are the buffers that they leave.
-- Rests on the contracts being equations.
use Rattle.buffer.specs.Determined.{DeterminedBuffer}
use Rattle.edit_add.proofs.open.Reads as opens
use Rattle.edit_add.proofs.open.Kinds as open_kinds

pub open_determined : DeterminedBuffer 1 open_kinds.ps open_kinds.r opens.Post (λ κs s. s.0.now)
open_determined κs a r₁ r₂ s₁ s₂ p q = (cc, cc)
