-- Any two replies that meet a public function's own contract are equal.
-- Rests on the contracts being equations.
use Rattle.fields.specs.Determined.{Determined}
use Rattle.armour_groups.proofs.kind.Reads as kind
use Rattle.armour_groups.proofs.kind.Kinds as kind_kinds

pub kind_determined : Determined 0 kind_kinds.ps kind_kinds.r kind.Post
kind_determined κs a r₁ r₂ s₁ s₂ p q = cc
