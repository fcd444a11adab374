-- Any two replies that meet a public function's own contract are equal, and so are the buffers that they leave.
-- Rests on the contracts being equations.
use Rattle.buffer.specs.Determined.{DeterminedBuffer}
use Rattle.c_writing.proofs.saltorchard_write_plain.Reads as saltorchard_write_plain
use Rattle.c_writing.proofs.saltorchard_write_plain.Kinds as saltorchard_write_plain_kinds
use Rattle.c_writing.proofs.saltorchard_write_rsa.Reads as saltorchard_write_rsa
use Rattle.c_writing.proofs.saltorchard_write_rsa.Kinds as saltorchard_write_rsa_kinds
use Rattle.c_writing.proofs.saltorchard_write_keys.Reads as saltorchard_write_keys
use Rattle.c_writing.proofs.saltorchard_write_keys.Kinds as saltorchard_write_keys_kinds
use Rattle.c_writing.proofs.saltorchard_write_encrypted.Reads as saltorchard_write_encrypted
use Rattle.c_writing.proofs.saltorchard_write_encrypted.Kinds as saltorchard_write_encrypted_kinds

pub saltorchard_write_plain_determined : DeterminedBuffer 4 saltorchard_write_plain_kinds.ps saltorchard_write_plain_kinds.r saltorchard_write_plain.Post (λ κs s. s.1.1.1.1.1.1.0.now)
saltorchard_write_plain_determined κs a r₁ r₂ s₁ s₂ p q = (cc, cc)

pub saltorchard_write_rsa_determined : DeterminedBuffer 8 saltorchard_write_rsa_kinds.ps saltorchard_write_rsa_kinds.r saltorchard_write_rsa.Post (λ κs s. s.1.1.1.1.1.1.1.1.1.0.now)
saltorchard_write_rsa_determined κs a r₁ r₂ s₁ s₂ p q = (cc, cc)

pub saltorchard_write_keys_determined : DeterminedBuffer 3 saltorchard_write_keys_kinds.ps saltorchard_write_keys_kinds.r saltorchard_write_keys.Post (λ κs s. s.1.1.1.1.0.now)
saltorchard_write_keys_determined κs a r₁ r₂ s₁ s₂ p q = (cc, cc)

pub saltorchard_write_encrypted_determined : DeterminedBuffer 5 saltorchard_write_encrypted_kinds.ps saltorchard_write_encrypted_kinds.r saltorchard_write_encrypted.Post (λ κs s. s.1.1.1.1.1.1.1.0.now)
saltorchard_write_encrypted_determined κs a r₁ r₂ s₁ s₂ p q = (cc, cc)
