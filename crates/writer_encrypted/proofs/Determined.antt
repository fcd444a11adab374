-- Any two replies that meet a public function's own contract are equal, and so are the buffers that they leave.
-- Rests on the contracts being equations.
use Rattle.buffer.specs.Determined.{DeterminedBuffer}
use Rattle.writer_encrypted.proofs.write_encrypted.Reads as write_encrypted
use Rattle.writer_encrypted.proofs.write_encrypted.Kinds as write_encrypted_kinds

pub write_encrypted_determined : DeterminedBuffer 5 write_encrypted_kinds.ps write_encrypted_kinds.r write_encrypted.Post (λ κs s. s.1.1.1.1.1.1.1.0.now)
write_encrypted_determined κs a r₁ r₂ s₁ s₂ p q = (cc, cc)
