-- Any two replies that meet the public function's own contract are equal, and so are the buffers that they leave.
-- Rests on the contract being equations.
use Rattle.buffer.specs.Determined.{DeterminedBuffer}
use Rattle.inspect_report.proofs.write_report.Reads as write_report
use Rattle.inspect_report.proofs.write_report.Kinds as write_report_kinds

pub write_report_determined : DeterminedBuffer 2 write_report_kinds.ps write_report_kinds.r write_report.Post (λ κs s. s.1.0.now)
write_report_determined κs a r₁ r₂ s₁ s₂ p q = (cc, cc)
