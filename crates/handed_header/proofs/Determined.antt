-- Any two replies that meet a public function's own contract are equal.
-- Rests on the contracts being equations.
use Rattle.fields.specs.Determined.{Determined}
use Rattle.handed_header.proofs.same_part.Reads as same-part
use Rattle.handed_header.proofs.same_part.Kinds as same_part_kinds
use Rattle.handed_header.proofs.same_header.Reads as same_header_lem
use Rattle.handed_header.proofs.same_header.Kinds as same_header_kinds
use Rattle.handed_header.proofs.is_header.Reads as is-header
use Rattle.handed_header.proofs.is_header.Kinds as is_header_kinds
use Rattle.handed_header.proofs.same_public.Reads as same_public
use Rattle.handed_header.proofs.same_public.Kinds as same_public_kinds

pub same_part_determined : Determined 0 same_part_kinds.ps same_part_kinds.r same-part.Post
same_part_determined κs a r₁ r₂ s₁ s₂ p q = cc

pub same_header_determined : Determined 0 same_header_kinds.ps same_header_kinds.r same_header_lem.Post
same_header_determined κs a r₁ r₂ s₁ s₂ p q = cc

pub is_header_determined : Determined 1 is_header_kinds.ps is_header_kinds.r is-header.Post
is_header_determined κs a r₁ r₂ s₁ s₂ p q = cc

pub same_public_determined : Determined 0 same_public_kinds.ps same_public_kinds.r same_public.Post
same_public_determined κs a r₁ r₂ s₁ s₂ p q = cc
