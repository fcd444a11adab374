-- Any two replies that meet a public function's own contract are equal.
-- Rests on the contracts being equations.
use Rattle.fields.specs.Determined.{Determined}
use Rattle.c_read.proofs.saltorchard_read.Reads as saltorchard-read
use Rattle.c_read.proofs.saltorchard_read.Kinds as saltorchard_read_kinds

pub saltorchard_read_determined : Determined 1 saltorchard_read_kinds.ps saltorchard_read_kinds.r saltorchard-read.Post
saltorchard_read_determined κs a r₁ r₂ s₁ s₂ p q = cc
