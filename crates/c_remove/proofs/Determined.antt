-- Any two replies that meet a public function's own contract are equal, and so are the buffers that they leave.
-- Rests on the contracts being equations.
use Rattle.buffer.specs.Determined.{DeterminedBuffer}
use Rattle.c_remove.proofs.saltorchard_remove_key.Reads as saltorchard_remove_key
use Rattle.c_remove.proofs.saltorchard_remove_key.Kinds as saltorchard_remove_key_kinds

pub saltorchard_remove_key_determined : DeterminedBuffer 1 saltorchard_remove_key_kinds.ps saltorchard_remove_key_kinds.r saltorchard_remove_key.Post (λ κs s. s.0.now)
saltorchard_remove_key_determined κs a r₁ r₂ s₁ s₂ p q = (cc, cc)
