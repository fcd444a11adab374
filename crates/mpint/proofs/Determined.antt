-- Any two replies that meet a public function's own contract are equal.
-- Rests on the contracts being equations.
use Rattle.fields.specs.Determined.{Determined}
use Rattle.mpint.proofs.is_mpint.Reads as is-mpint
use Rattle.mpint.proofs.is_mpint.Kinds as is_mpint_kinds
use Rattle.mpint.proofs.read_mpint.Reads as read-mpint
use Rattle.mpint.proofs.read_mpint.Kinds as read_mpint_kinds
use Rattle.mpint.proofs.zeros_before.Reads as zeros-before
use Rattle.mpint.proofs.zeros_before.Kinds as zeros_before_kinds
use Rattle.mpint.proofs.at_most.Reads as at_most
use Rattle.mpint.proofs.at_most.Kinds as at_most_kinds
use Rattle.mpint.proofs.modulus_size.Reads as modulus-size
use Rattle.mpint.proofs.modulus_size.Kinds as modulus_size_kinds

pub is_mpint_determined : Determined 1 is_mpint_kinds.ps is_mpint_kinds.r is-mpint.Post
is_mpint_determined κs a r₁ r₂ s₁ s₂ p q = cc

pub read_mpint_determined : Determined 1 read_mpint_kinds.ps read_mpint_kinds.r read-mpint.Post
read_mpint_determined κs a r₁ r₂ s₁ s₂ p q = cc

pub zeros_before_determined : Determined 1 zeros_before_kinds.ps zeros_before_kinds.r zeros-before.Post
zeros_before_determined κs a r₁ r₂ s₁ s₂ p q = cc

pub at_most_determined : Determined 2 at_most_kinds.ps at_most_kinds.r at_most.Post
at_most_determined κs a r₁ r₂ s₁ s₂ p q = cc

pub modulus_size_determined : Determined 1 modulus_size_kinds.ps modulus_size_kinds.r modulus-size.Post
modulus_size_determined κs a r₁ r₂ s₁ s₂ p q = cc
