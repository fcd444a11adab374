-- Any two replies that meet a public function's own contract are equal, and so are the buffers that they leave.
-- Rests on the contracts being equations.
use Rattle.buffer.specs.Determined.{DeterminedBuffer}
use Rattle.armour_export.proofs.export.Reads as export
use Rattle.armour_export.proofs.export.Kinds as export_kinds

pub export_determined : DeterminedBuffer 2 export_kinds.ps export_kinds.r export.Post (λ κs s. s.1.0.now)
export_determined κs a r₁ r₂ s₁ s₂ p q = (cc, cc)
