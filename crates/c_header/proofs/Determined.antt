-- Any two replies that meet a public function's own contract are equal. Rests on the contracts being equations.
use Rattle.fields.specs.Determined.{Determined}
use Rattle.c_header.proofs.saltorchard_read_header.Reads as saltorchard-read-header
use Rattle.c_header.proofs.saltorchard_read_header.Kinds as saltorchard_read_header_kinds

pub saltorchard_read_header_determined : Determined 1 saltorchard_read_header_kinds.ps saltorchard_read_header_kinds.r saltorchard-read-header.Post
saltorchard_read_header_determined κs a r₁ r₂ s₁ s₂ p q = cc
