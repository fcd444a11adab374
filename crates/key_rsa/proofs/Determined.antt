-- Any two replies that meet a public function's own contract are equal.
-- Rests on the contracts being equations.
use Rattle.fields.specs.Determined.{Determined}
use Rattle.key_rsa.proofs.read_two.Reads as read-two
use Rattle.key_rsa.proofs.read_two.Kinds as read_two_kinds
use Rattle.key_rsa.proofs.read_rsa_public.Reads as read-rsa-public
use Rattle.key_rsa.proofs.read_rsa_public.Kinds as read_rsa_public_kinds
use Rattle.key_rsa.proofs.read_six.Reads as read-six
use Rattle.key_rsa.proofs.read_six.Kinds as read_six_kinds
use Rattle.key_rsa.proofs.read_rsa_pair.Reads as read-rsa-pair
use Rattle.key_rsa.proofs.read_rsa_pair.Kinds as read_rsa_pair_kinds

pub read_two_determined : Determined 1 read_two_kinds.ps read_two_kinds.r read-two.Post
read_two_determined κs a r₁ r₂ s₁ s₂ p q = cc

pub read_rsa_public_determined : Determined 1 read_rsa_public_kinds.ps read_rsa_public_kinds.r read-rsa-public.Post
read_rsa_public_determined κs a r₁ r₂ s₁ s₂ p q = cc

pub read_six_determined : Determined 1 read_six_kinds.ps read_six_kinds.r read-six.Post
read_six_determined κs a r₁ r₂ s₁ s₂ p q = cc

pub read_rsa_pair_determined : Determined 1 read_rsa_pair_kinds.ps read_rsa_pair_kinds.r read-rsa-pair.Post
read_rsa_pair_determined κs a r₁ r₂ s₁ s₂ p q = cc
