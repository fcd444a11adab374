-- Any two replies that meet a public function's own contract are equal, and so are the buffers that they leave.
-- Rests on the contracts being equations.
use Rattle.buffer.specs.Determined.{DeterminedBuffer}
use Rattle.c_armour.proofs.saltorchard_export.Reads as saltorchard_export
use Rattle.c_armour.proofs.saltorchard_export.Kinds as saltorchard_export_kinds
use Rattle.c_armour.proofs.saltorchard_import.Reads as saltorchard_import
use Rattle.c_armour.proofs.saltorchard_import.Kinds as saltorchard_import_kinds

pub saltorchard_export_determined : DeterminedBuffer 2 saltorchard_export_kinds.ps saltorchard_export_kinds.r saltorchard_export.Post (λ κs s. s.1.0.now)
saltorchard_export_determined κs a r₁ r₂ s₁ s₂ p q = (cc, cc)

pub saltorchard_import_determined : DeterminedBuffer 2 saltorchard_import_kinds.ps saltorchard_import_kinds.r saltorchard_import.Post (λ κs s. s.1.0.now)
saltorchard_import_determined κs a r₁ r₂ s₁ s₂ p q = (cc, cc)
