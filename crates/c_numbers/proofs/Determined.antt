-- Any two replies that meet a public function's own contract are equal. Rests on the contracts being equations.
use Rattle.fields.specs.Determined.{Determined}
use Rattle.c_numbers.proofs.image_of.Reads as image_with
use Rattle.c_numbers.proofs.image_of.Kinds as image_of_kinds
use Rattle.c_numbers.proofs.half_image.Reads as half-image
use Rattle.c_numbers.proofs.half_image.Kinds as half_image_kinds
use Rattle.c_numbers.proofs.header_of.Reads as header_of
use Rattle.c_numbers.proofs.header_of.Kinds as header_of_kinds
use Rattle.c_numbers.proofs.refused_key.Reads as refused-key
use Rattle.c_numbers.proofs.refused_key.Kinds as refused_key_kinds
use Rattle.c_numbers.proofs.looked_key.Reads as looked-key
use Rattle.c_numbers.proofs.looked_key.Kinds as looked_key_kinds

pub image_of_determined : Determined 0 image_of_kinds.ps image_of_kinds.r image_with.Post
image_of_determined κs a r₁ r₂ s₁ s₂ p q = cc

pub half_image_determined : Determined 0 half_image_kinds.ps half_image_kinds.r half-image.Post
half_image_determined κs a r₁ r₂ s₁ s₂ p q = cc

pub header_of_determined : Determined 0 header_of_kinds.ps header_of_kinds.r header_of.Post
header_of_determined κs a r₁ r₂ s₁ s₂ p q = cc

pub refused_key_determined : Determined 0 refused_key_kinds.ps refused_key_kinds.r refused-key.Post
refused_key_determined κs a r₁ r₂ s₁ s₂ p q = cc

pub looked_key_determined : Determined 0 looked_key_kinds.ps looked_key_kinds.r looked-key.Post
looked_key_determined κs a r₁ r₂ s₁ s₂ p q = cc
