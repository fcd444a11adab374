-- Any two replies that meet a public function's own contract are equal. Rests on the contracts being equations.
use Rattle.fields.specs.Determined.{Determined}
use Rattle.c_handed.proofs.half_of.Reads as half_of_lem
use Rattle.c_handed.proofs.half_of.Kinds as half_of_kinds

pub half_of_determined : Determined 0 half_of_kinds.ps half_of_kinds.r half_of_lem.Post
half_of_determined κs a r₁ r₂ s₁ s₂ p q = cc
