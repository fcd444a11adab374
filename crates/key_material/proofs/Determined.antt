-- Any two replies that meet a public function's own contract are equal.
-- Rests on the contracts being equations.
use Rattle.fields.specs.Determined.{Determined}
use Rattle.key_material.proofs.derived_checkint.Reads as derived-checkint
use Rattle.key_material.proofs.derived_checkint.Kinds as derived_checkint_kinds
use Rattle.key_material.proofs.zeros_missing.Reads as zeros-missing
use Rattle.key_material.proofs.zeros_missing.Kinds as zeros_missing_kinds
use Rattle.key_material.proofs.Material.new.Reads as new
use Rattle.key_material.proofs.Material.new.Kinds as new_kinds
use Rattle.key_material.proofs.Material.filled.Reads as filled
use Rattle.key_material.proofs.Material.filled.Kinds as filled_kinds
use Rattle.key_material.proofs.Material.checkint.Reads as checkint
use Rattle.key_material.proofs.Material.checkint.Kinds as checkint_kinds

pub derived_checkint_determined : Determined 1 derived_checkint_kinds.ps derived_checkint_kinds.r derived-checkint.Post
derived_checkint_determined κs a r₁ r₂ s₁ s₂ p q = cc

pub zeros_missing_determined : Determined 1 zeros_missing_kinds.ps zeros_missing_kinds.r zeros-missing.Post
zeros_missing_determined κs a r₁ r₂ s₁ s₂ p q = cc

pub new_determined : Determined 2 new_kinds.ps new_kinds.r new.Post
new_determined κs a r₁ r₂ s₁ s₂ p q = cc

pub filled_determined : Determined 2 filled_kinds.ps filled_kinds.r filled.Post
filled_determined κs a r₁ r₂ s₁ s₂ p q = cc

pub checkint_determined : Determined 0 checkint_kinds.ps checkint_kinds.r checkint.Post
checkint_determined κs a r₁ r₂ s₁ s₂ p q = cc
