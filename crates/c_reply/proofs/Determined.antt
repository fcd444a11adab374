-- Any two replies that meet a public function's own contract are equal. Rests on the contracts being equations.
use Rattle.fields.specs.Determined.{Determined}
use Rattle.c_reply.proofs.reply_of.Reads as reply-of
use Rattle.c_reply.proofs.reply_of.Kinds as reply_of_kinds
use Rattle.c_reply.proofs.names_nothing.Reads as names-nothing
use Rattle.c_reply.proofs.names_nothing.Kinds as names_nothing_kinds

pub reply_of_determined : Determined 0 reply_of_kinds.ps reply_of_kinds.r reply-of.Post
reply_of_determined κs a r₁ r₂ s₁ s₂ p q = cc

pub names_nothing_determined : Determined 0 names_nothing_kinds.ps names_nothing_kinds.r names-nothing.Post
names_nothing_determined κs a r₁ r₂ s₁ s₂ p q = cc
