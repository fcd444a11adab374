-- Any two replies that meet the public function's own contract are equal, and so are the buffers that they leave.
-- Rests on the contract being an equation.
use Rattle.buffer.specs.Determined.{DeterminedBuffer}
use Rattle.writer_listed.proofs.write_listed.Reads as write_listed
use Rattle.writer_listed.proofs.write_listed.Kinds as write_listed_kinds

pub write_listed_determined : DeterminedBuffer 2 write_listed_kinds.ps write_listed_kinds.r write_listed.Post (λ κs s. s.1.1.0.now)
write_listed_determined κs a r₁ r₂ s₁ s₂ p q = (cc, cc)
