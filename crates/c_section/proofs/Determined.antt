-- Any two replies that meet a public function's own contract are equal.
-- Rests on the contracts being equations.
use Rattle.fields.specs.Determined.{Determined}
use Rattle.c_section.proofs.saltorchard_read_section.Reads as saltorchard-read-section
use Rattle.c_section.proofs.saltorchard_read_section.Kinds as saltorchard_read_section_kinds

pub saltorchard_read_section_determined : Determined 1 saltorchard_read_section_kinds.ps saltorchard_read_section_kinds.r saltorchard-read-section.Post
saltorchard_read_section_determined κs a r₁ r₂ s₁ s₂ p q = cc
