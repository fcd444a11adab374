-- Any two replies that meet a public function's own contract are equal, and so are the buffers that they leave.
-- Rests on the contracts being equations.
use Rattle.buffer.specs.Determined.{DeterminedBuffer}
use Rattle.c_add.proofs.saltorchard_add_key.Reads as saltorchard_add_key
use Rattle.c_add.proofs.saltorchard_add_key.Kinds as saltorchard_add_key_kinds
use Rattle.c_add.proofs.saltorchard_add_rsa.Reads as saltorchard_add_rsa
use Rattle.c_add.proofs.saltorchard_add_rsa.Kinds as saltorchard_add_rsa_kinds

pub saltorchard_add_key_determined : DeterminedBuffer 4 saltorchard_add_key_kinds.ps saltorchard_add_key_kinds.r saltorchard_add_key.Post (λ κs s. s.0.now)
saltorchard_add_key_determined κs a r₁ r₂ s₁ s₂ p q = (cc, cc)

pub saltorchard_add_rsa_determined : DeterminedBuffer 8 saltorchard_add_rsa_kinds.ps saltorchard_add_rsa_kinds.r saltorchard_add_rsa.Post (λ κs s. s.0.now)
saltorchard_add_rsa_determined κs a r₁ r₂ s₁ s₂ p q = (cc, cc)
