-- Any two replies that meet a public function's own contract are equal, and so are the buffers that they leave.
-- Rests on the contracts being equations.
use Rattle.buffer.specs.Determined.{DeterminedBuffer}
use Rattle.writer_rsa.proofs.write_parts.Reads as write_parts
use Rattle.writer_rsa.proofs.write_parts.Kinds as write_parts_kinds
use Rattle.writer_rsa.proofs.write_rsa.Reads as write_rsa
use Rattle.writer_rsa.proofs.write_rsa.Kinds as write_rsa_kinds

pub write_parts_determined : DeterminedBuffer 8 write_parts_kinds.ps write_parts_kinds.r write_parts.Post (λ κs s. s.1.1.1.1.1.1.1.1.0.now)
write_parts_determined κs a r₁ r₂ s₁ s₂ p q = (cc, cc)

pub write_rsa_determined : DeterminedBuffer 8 write_rsa_kinds.ps write_rsa_kinds.r write_rsa.Post (λ κs s. s.1.1.1.1.1.1.1.1.0.now)
write_rsa_determined κs a r₁ r₂ s₁ s₂ p q = (cc, cc)
