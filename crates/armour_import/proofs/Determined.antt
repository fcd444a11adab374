-- Any two replies that meet a public function's own contract are equal, and so are the buffers that they leave.
-- Rests on the contracts being equations.
use Rattle.buffer.specs.Determined.{DeterminedBuffer}
use Rattle.armour_import.proofs.import.Reads as import
use Rattle.armour_import.proofs.import.Kinds as import_kinds

pub import_determined : DeterminedBuffer 2 import_kinds.ps import_kinds.r import.Post (λ κs s. s.1.0.now)
import_determined κs a r₁ r₂ s₁ s₂ p q = (cc, cc)
