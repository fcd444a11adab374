-- Any two replies that meet a public function's own contract are equal.
-- Rests on the contracts being equations.
use Rattle.fields.specs.Determined.{Determined}
use Rattle.edit_file.proofs.read_to_edit.Reads as read-to-edit
use Rattle.edit_file.proofs.read_to_edit.Kinds as read_to_edit_kinds
use Rattle.edit_file.proofs.find_key.Reads as find-key
use Rattle.edit_file.proofs.find_key.Kinds as find_key_kinds

pub read_to_edit_determined : Determined 1 read_to_edit_kinds.ps read_to_edit_kinds.r read-to-edit.Post
read_to_edit_determined κs a r₁ r₂ s₁ s₂ p q = cc

pub find_key_determined : Determined 1 find_key_kinds.ps find_key_kinds.r find-key.Post
find_key_determined κs a r₁ r₂ s₁ s₂ p q = cc
