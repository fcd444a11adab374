-- Any two replies that meet a public function's own contract are equal, and so are the buffers that they leave.
-- Rests on the contracts being equations.
use Rattle.buffer.specs.Determined.{DeterminedBuffer}
use Rattle.report_parts.proofs.put_refused.Reads as Put-refused
use Rattle.report_parts.proofs.put_refused.Kinds as put_refused_kinds
use Rattle.report_parts.proofs.hand_text.Reads as hand_text
use Rattle.report_parts.proofs.hand_text.Kinds as hand_text_kinds

pub put_refused_determined : DeterminedBuffer 1 put_refused_kinds.ps put_refused_kinds.r Put-refused.Post (λ κs s. s.0.now)
put_refused_determined κs a r₁ r₂ s₁ s₂ p q = (cc, cc)

pub hand_text_determined : DeterminedBuffer 2 hand_text_kinds.ps hand_text_kinds.r hand_text.Post (λ κs s. s.1.0.now)
hand_text_determined κs a r₁ r₂ s₁ s₂ p q = (cc, cc)
