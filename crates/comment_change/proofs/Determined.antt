-- Any two replies that meet a public function's own contract are equal, and so are the buffers that they leave.
-- Rests on the contracts being equations.
use Rattle.buffer.specs.Determined.{DeterminedBuffer}
use Rattle.comment_change.proofs.change_comment_of.Reads as change_comment_of
use Rattle.comment_change.proofs.change_comment_of.Kinds as change_comment_of_kinds
use Rattle.comment_change.proofs.change_comment.Reads as change_comment
use Rattle.comment_change.proofs.change_comment.Kinds as change_comment_kinds

pub change_comment_of_determined : DeterminedBuffer 2 change_comment_of_kinds.ps change_comment_of_kinds.r change_comment_of.Post (λ κs s. s.0.now)
change_comment_of_determined κs a r₁ r₂ s₁ s₂ p q = (cc, cc)

pub change_comment_determined : DeterminedBuffer 2 change_comment_kinds.ps change_comment_kinds.r change_comment.Post (λ κs s. s.0.now)
change_comment_determined κs a r₁ r₂ s₁ s₂ p q = (cc, cc)
