-- Any two replies that meet a public function's own contract are equal, and so are the buffers that they leave.
-- Rests on the contracts being equations.
use Rattle.buffer.specs.Determined.{DeterminedBuffer}
use Rattle.writer_keys.proofs.write_filled.Reads as write-filled
use Rattle.writer_keys.proofs.write_filled.Kinds as write_filled_kinds
use Rattle.writer_keys.proofs.write_keys.Reads as write_keys
use Rattle.writer_keys.proofs.write_keys.Kinds as write_keys_kinds

pub write_filled_determined : DeterminedBuffer 3 write_filled_kinds.ps write_filled_kinds.r write-filled.Post (λ κs s. s.1.1.1.0.now)
write_filled_determined κs a r₁ r₂ s₁ s₂ p q = (cc, cc)

pub write_keys_determined : DeterminedBuffer 3 write_keys_kinds.ps write_keys_kinds.r write_keys.Post (λ κs s. s.1.1.1.0.now)
write_keys_determined κs a r₁ r₂ s₁ s₂ p q = (cc, cc)
