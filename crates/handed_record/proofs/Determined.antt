-- Any two replies that meet a public function's own contract are equal.
-- Rests on the contracts being equations.
use Rattle.fields.specs.Determined.{Determined}
use Rattle.handed_record.proofs.kind_code.Reads as kind-code
use Rattle.handed_record.proofs.kind_code.Kinds as kind_code_kinds
use Rattle.handed_record.proofs.same_section.Reads as same-section
use Rattle.handed_record.proofs.same_section.Kinds as same_section_kinds
use Rattle.handed_record.proofs.is_read.Reads as is_read
use Rattle.handed_record.proofs.is_read.Kinds as is_read_kinds
use Rattle.handed_record.proofs.same_private.Reads as same_private
use Rattle.handed_record.proofs.same_private.Kinds as same_private_kinds

pub kind_code_determined : Determined 0 kind_code_kinds.ps kind_code_kinds.r kind-code.Post
kind_code_determined κs a r₁ r₂ s₁ s₂ p q = cc

pub same_section_determined : Determined 0 same_section_kinds.ps same_section_kinds.r same-section.Post
same_section_determined κs a r₁ r₂ s₁ s₂ p q = cc

pub is_read_determined : Determined 1 is_read_kinds.ps is_read_kinds.r is_read.Post
is_read_determined κs a r₁ r₂ s₁ s₂ p q = cc

pub same_private_determined : Determined 0 same_private_kinds.ps same_private_kinds.r same_private.Post
same_private_determined κs a r₁ r₂ s₁ s₂ p q = cc
