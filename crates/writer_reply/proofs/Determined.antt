-- Any two replies that meet a public function's own contract are equal.
-- Rests on the contracts being equations.
use Rattle.fields.specs.Determined.{Determined}
use Rattle.writer_reply.proofs.refused.Reads as refused
use Rattle.writer_reply.proofs.refused.Kinds as refused_kinds

pub refused_determined : Determined 0 refused_kinds.ps refused_kinds.r refused.Post
refused_determined κs a r₁ r₂ s₁ s₂ p q = cc
