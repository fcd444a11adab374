-- Any two replies that meet a public function's own contract are equal, and so are the buffers that they leave.
-- Rests on the contracts being equations.
use Rattle.buffer.specs.Determined.{DeterminedBuffer}
use Rattle.key_add.proofs.add_key.Reads as add_key
use Rattle.key_add.proofs.add_key.Kinds as add_key_kinds
use Rattle.key_add.proofs.add_rsa.Reads as add_rsa
use Rattle.key_add.proofs.add_rsa.Kinds as add_rsa_kinds

pub add_key_determined : DeterminedBuffer 4 add_key_kinds.ps add_key_kinds.r add_key.Post (λ κs s. s.0.now)
add_key_determined κs a r₁ r₂ s₁ s₂ p q = (cc, cc)

pub add_rsa_determined : DeterminedBuffer 8 add_rsa_kinds.ps add_rsa_kinds.r add_rsa.Post (λ κs s. s.0.now)
add_rsa_determined κs a r₁ r₂ s₁ s₂ p q = (cc, cc)
