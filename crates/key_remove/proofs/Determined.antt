-- Any two replies that meet a public function's own contract are equal, and so are the buffers that they leave.
-- Rests on the contracts being equations.
use Rattle.buffer.specs.Determined.{DeterminedBuffer}
use Rattle.key_remove.proofs.remove_key.Reads as remove_key
use Rattle.key_remove.proofs.remove_key.Kinds as remove_key_kinds

pub remove_key_determined : DeterminedBuffer 1 remove_key_kinds.ps remove_key_kinds.r remove_key.Post (λ κs s. s.0.now)
remove_key_determined κs a r₁ r₂ s₁ s₂ p q = (cc, cc)
