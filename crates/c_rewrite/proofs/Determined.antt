-- Any two replies that meet a public function's own contract are equal, and so are the buffers that they leave.
-- Rests on the contracts being equations.
use Rattle.buffer.specs.Determined.{DeterminedBuffer}
use Rattle.c_rewrite.proofs.saltorchard_rewrite.Reads as saltorchard_rewrite
use Rattle.c_rewrite.proofs.saltorchard_rewrite.Kinds as saltorchard_rewrite_kinds

pub saltorchard_rewrite_determined : DeterminedBuffer 2 saltorchard_rewrite_kinds.ps saltorchard_rewrite_kinds.r saltorchard_rewrite.Post (λ κs s. s.1.0.now)
saltorchard_rewrite_determined κs a r₁ r₂ s₁ s₂ p q = (cc, cc)
