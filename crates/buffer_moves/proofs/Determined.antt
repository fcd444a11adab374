-- Any two replies that meet a public function's own contract are equal, and so are the buffers that they leave.
-- Rests on the contracts being equations.
use mathlib.Core.Path.{refl}
use Rattle.buffer.specs.Determined.{DeterminedBuffer}
use Rattle.buffer_moves.proofs.move_bytes.Reads as move-bytes
use Rattle.buffer_moves.proofs.move_bytes.Kinds as move_bytes_kinds

pub move_bytes_determined : DeterminedBuffer 1 move_bytes_kinds.ps move_bytes_kinds.r move-bytes.Post (λ κs s. s.0.now)
move_bytes_determined κs a r₁ r₂ s₁ s₂ p q = (refl, cc)
