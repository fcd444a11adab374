-- Any two replies that meet a public function's own contract are equal.
-- Rests on the contracts being equations.
use Rattle.fields.specs.Determined.{DeterminedView}
use Rattle.reader_parts.proofs.part.Reads as part
use Rattle.reader_parts.proofs.part.Kinds as part_kinds
use Rattle.reader_parts.proofs.comment.Reads as comment
use Rattle.reader_parts.proofs.comment.Kinds as comment_kinds

pub part_determined : DeterminedView part_kinds.ps part.Post
part_determined κs a r₁ r₂ s₁ s₂ p q = (cc, cc, cc)

pub comment_determined : DeterminedView comment_kinds.ps comment.Post
comment_determined κs a r₁ r₂ s₁ s₂ p q = (cc, cc, cc)
