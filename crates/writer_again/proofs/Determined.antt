-- Any two replies that meet a public function's own contract are equal, and so are the buffers that they leave.
-- Rests on the contracts being equations.
use Rattle.buffer.specs.Determined.{DeterminedBuffer}
use Rattle.writer_again.proofs.rewrite.Reads as rewrite
use Rattle.writer_again.proofs.rewrite.Kinds as rewrite_kinds
use Rattle.writer_again.proofs.rewrite_record.Reads as rewrite_record
use Rattle.writer_again.proofs.rewrite_record.Kinds as rewrite_record_kinds

pub rewrite_determined : DeterminedBuffer 2 rewrite_kinds.ps rewrite_kinds.r rewrite.Post (λ κs s. s.1.0.now)
rewrite_determined κs a r₁ r₂ s₁ s₂ p q = (cc, cc)

pub rewrite_record_determined : DeterminedBuffer 2 rewrite_record_kinds.ps rewrite_record_kinds.r rewrite_record.Post (λ κs s. s.1.1.0.now)
rewrite_record_determined κs a r₁ r₂ s₁ s₂ p q = (cc, cc)
