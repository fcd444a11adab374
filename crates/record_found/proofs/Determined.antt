-- Any two replies that meet a public function's own contract are equal.
-- Rests on the contracts being equations.
use Rattle.fields.specs.Determined.{Determined, DeterminedView}
use Rattle.record_found.proofs.find.Reads as find
use Rattle.record_found.proofs.find.Kinds as find_kinds
use Rattle.record_found.proofs.find_section.Reads as find-section
use Rattle.record_found.proofs.find_section.Kinds as find_section_kinds
use Rattle.record_found.proofs.find_header.Reads as find-header
use Rattle.record_found.proofs.find_header.Kinds as find_header_kinds
use Rattle.record_found.proofs.held.Reads as held
use Rattle.record_found.proofs.held.Kinds as held_kinds
use Rattle.record_found.proofs.held_half.Reads as held-half
use Rattle.record_found.proofs.held_half.Kinds as held_half_kinds

pub find_determined : Determined 1 find_kinds.ps find_kinds.r find.Post
find_determined κs a r₁ r₂ s₁ s₂ p q = cc

pub find_section_determined : Determined 1 find_section_kinds.ps find_section_kinds.r find-section.Post
find_section_determined κs a r₁ r₂ s₁ s₂ p q = cc

pub find_header_determined : Determined 1 find_header_kinds.ps find_header_kinds.r find-header.Post
find_header_determined κs a r₁ r₂ s₁ s₂ p q = cc

pub held_determined : DeterminedView held_kinds.ps held.Post
held_determined κs a r₁ r₂ s₁ s₂ p q = (cc, cc, cc)

pub held_half_determined : DeterminedView held_half_kinds.ps held-half.Post
held_half_determined κs a r₁ r₂ s₁ s₂ p q = (cc, cc, cc)
