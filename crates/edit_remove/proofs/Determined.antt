-- Any two replies that meet a public function's own contract are equal, and so are the buffers that they leave.
-- Rests on the contracts being equations.
use Rattle.buffer.specs.Determined.{DeterminedBuffer}
use Rattle.edit_remove.proofs.remove.Reads as remove
use Rattle.edit_remove.proofs.remove.Kinds as remove_kinds

pub remove_determined : DeterminedBuffer 1 remove_kinds.ps remove_kinds.r remove.Post (λ κs s. s.0.now)
remove_determined κs a r₁ r₂ s₁ s₂ p q = (cc, cc)
