-- Any two replies that meet the public function's own contract are equal, and so are the buffers that they leave.
-- Rests on the contract being equations.
use Rattle.buffer.specs.Determined.{DeterminedBuffer}
use Rattle.keys_report.proofs.write_keys_report.Reads as write_keys_report
use Rattle.keys_report.proofs.write_keys_report.Kinds as write_keys_report_kinds

pub write_keys_report_determined :
    DeterminedBuffer 2 write_keys_report_kinds.ps write_keys_report_kinds.r write_keys_report.Post (λ κs s. s.1.0.now)
write_keys_report_determined κs a r₁ r₂ s₁ s₂ p q = (cc, cc)
