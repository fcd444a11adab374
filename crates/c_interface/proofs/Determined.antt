-- Any two replies that meet a public function's own contract are equal.
-- Rests on the contracts being equations.
use Rattle.fields.specs.Determined.{Determined}
use Rattle.c_interface.proofs.saltorchard_interface_10.Reads as saltorchard_interface_10_reads
use Rattle.c_interface.proofs.saltorchard_interface_10.Kinds as saltorchard_interface_10_kinds
use Rattle.c_interface.proofs.saltorchard_interface_9.Reads as saltorchard_interface_9_reads
use Rattle.c_interface.proofs.saltorchard_interface_9.Kinds as saltorchard_interface_9_kinds

pub saltorchard_interface_10_determined : Determined 0 saltorchard_interface_10_kinds.ps saltorchard_interface_10_kinds.r saltorchard_interface_10_reads.Post
saltorchard_interface_10_determined κs a r₁ r₂ s₁ s₂ p q = cc

pub saltorchard_interface_9_determined : Determined 0 saltorchard_interface_9_kinds.ps saltorchard_interface_9_kinds.r saltorchard_interface_9_reads.Post
saltorchard_interface_9_determined κs a r₁ r₂ s₁ s₂ p q = cc
