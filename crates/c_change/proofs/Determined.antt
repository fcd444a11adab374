-- Any two replies that meet a public function's own contract are equal, and so are the buffers that they leave.
-- Rests on the contracts being equations.
use Rattle.buffer.specs.Determined.{DeterminedBuffer}
use Rattle.c_change.proofs.saltorchard_change_comment.Reads as saltorchard_change_comment
use Rattle.c_change.proofs.saltorchard_change_comment.Kinds as saltorchard_change_comment_kinds
use Rattle.c_change.proofs.saltorchard_change_comment_of.Reads as saltorchard_change_comment_of
use Rattle.c_change.proofs.saltorchard_change_comment_of.Kinds as saltorchard_change_comment_of_kinds

pub saltorchard_change_comment_determined : DeterminedBuffer 2 saltorchard_change_comment_kinds.ps saltorchard_change_comment_kinds.r saltorchard_change_comment.Post (λ κs s. s.0.now)
saltorchard_change_comment_determined κs a r₁ r₂ s₁ s₂ p q = (cc, cc)

pub saltorchard_change_comment_of_determined : DeterminedBuffer 2 saltorchard_change_comment_of_kinds.ps saltorchard_change_comment_of_kinds.r saltorchard_change_comment_of.Post (λ κs s. s.0.now)
saltorchard_change_comment_of_determined κs a r₁ r₂ s₁ s₂ p q = (cc, cc)
