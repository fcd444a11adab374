-- Any two replies that meet a public function's own contract are equal.
-- Rests on the contracts being equations.
use Rattle.fields.specs.Determined.{Determined}
use Rattle.reader_image.proofs.read.Reads as read
use Rattle.reader_image.proofs.read.Kinds as read_kinds
use Rattle.reader_image.proofs.scalars_in_form.Reads as scalars-in-form
use Rattle.reader_image.proofs.scalars_in_form.Kinds as scalars_in_form_kinds
use Rattle.reader_image.proofs.read_with_form.Reads as read-with-form
use Rattle.reader_image.proofs.read_with_form.Kinds as read_with_form_kinds
use Rattle.reader_image.proofs.read_section.Reads as read-section
use Rattle.reader_image.proofs.read_section.Kinds as read_section_kinds
use Rattle.reader_image.proofs.read_section_with_form.Reads as read-section-with-form
use Rattle.reader_image.proofs.read_section_with_form.Kinds as read_section_with_form_kinds

pub read_determined : Determined 1 read_kinds.ps read_kinds.r read.Post
read_determined κs a r₁ r₂ s₁ s₂ p q = cc

pub scalars_in_form_determined : Determined 1 scalars_in_form_kinds.ps scalars_in_form_kinds.r scalars-in-form.Post
scalars_in_form_determined κs a r₁ r₂ s₁ s₂ p q = cc

pub read_with_form_determined : Determined 1 read_with_form_kinds.ps read_with_form_kinds.r read-with-form.Post
read_with_form_determined κs a r₁ r₂ s₁ s₂ p q = cc

pub read_section_determined : Determined 1 read_section_kinds.ps read_section_kinds.r read-section.Post
read_section_determined κs a r₁ r₂ s₁ s₂ p q = cc

pub read_section_with_form_determined : Determined 1 read_section_with_form_kinds.ps read_section_with_form_kinds.r read-section-with-form.Post
read_section_with_form_determined κs a r₁ r₂ s₁ s₂ p q = cc
