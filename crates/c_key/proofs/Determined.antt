-- Any two replies that meet a public function's own contract are equal.
-- Rests on the contracts being equations.
use Rattle.fields.specs.Determined.{Determined}
use Rattle.c_key.proofs.saltorchard_read_key.Reads as saltorchard-read-key
use Rattle.c_key.proofs.saltorchard_read_key.Kinds as saltorchard_read_key_kinds

pub saltorchard_read_key_determined : Determined 1 saltorchard_read_key_kinds.ps saltorchard_read_key_kinds.r saltorchard-read-key.Post
saltorchard_read_key_determined κs a r₁ r₂ s₁ s₂ p q = cc
