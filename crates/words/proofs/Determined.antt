-- Any two replies that meet a public function's own contract are equal.
-- Rests on the contracts being equations.
use Rattle.fields.specs.Determined.{Determined}
use Rattle.words.proofs.spells.Reads as spells
use Rattle.words.proofs.spells.Kinds as spells_kinds

pub spells_determined : Determined 2 spells_kinds.ps spells_kinds.r spells.Post
spells_determined κs a r₁ r₂ s₁ s₂ p q = cc
