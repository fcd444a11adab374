-- Any two replies that meet a public function's own contract are equal.
-- Rests on the contracts being equations.
use Rattle.fields.specs.Determined.{Determined}
use Rattle.armour_signs.proofs.sign_table.Reads as sign-table
use Rattle.armour_signs.proofs.sign_table.Kinds as sign_table_kinds
use Rattle.armour_signs.proofs.value_table.Reads as value-table
use Rattle.armour_signs.proofs.value_table.Kinds as value_table_kinds
use Rattle.armour_signs.proofs.value.Reads as value
use Rattle.armour_signs.proofs.value.Kinds as value_kinds
use Rattle.armour_signs.proofs.all_signs.Reads as all_signs_lem
use Rattle.armour_signs.proofs.all_signs.Kinds as all_signs_kinds
use Rattle.armour_signs.proofs.is_sign.Reads as is-sign
use Rattle.armour_signs.proofs.is_sign.Kinds as is_sign_kinds

pub sign_table_determined : Determined 0 sign_table_kinds.ps sign_table_kinds.r sign-table.Post
sign_table_determined κs a r₁ r₂ s₁ s₂ p q = cc

pub value_table_determined : Determined 0 value_table_kinds.ps value_table_kinds.r value-table.Post
value_table_determined κs a r₁ r₂ s₁ s₂ p q = cc

pub value_determined : Determined 0 value_kinds.ps value_kinds.r value.Post
value_determined κs a r₁ r₂ s₁ s₂ p q = cc

pub is_sign_determined : Determined 0 is_sign_kinds.ps is_sign_kinds.r is-sign.Post
is_sign_determined κs a r₁ r₂ s₁ s₂ p q = cc

pub all_signs_determined : Determined 1 all_signs_kinds.ps all_signs_kinds.r all_signs_lem.Post
all_signs_determined κs a r₁ r₂ s₁ s₂ p q = cc
