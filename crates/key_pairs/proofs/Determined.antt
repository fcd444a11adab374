-- Any two replies that meet a public function's own contract are equal.
-- Rests on the contracts being equations.
use Rattle.fields.specs.Determined.{Determined}
use Rattle.key_pairs.proofs.read_scalar.Reads as read-scalar
use Rattle.key_pairs.proofs.read_scalar.Kinds as read_scalar_kinds
use Rattle.key_pairs.proofs.read_ed25519_pair.Reads as read-ed25519-pair
use Rattle.key_pairs.proofs.read_ed25519_pair.Kinds as read_ed25519_pair_kinds
use Rattle.key_pairs.proofs.read_ecdsa_pair.Reads as read-ecdsa-pair
use Rattle.key_pairs.proofs.read_ecdsa_pair.Kinds as read_ecdsa_pair_kinds
use Rattle.key_pairs.proofs.read_keypair.Reads as read-keypair
use Rattle.key_pairs.proofs.read_keypair.Kinds as read_keypair_kinds
use Rattle.key_pairs.proofs.at_scalar.Reads as at-scalar
use Rattle.key_pairs.proofs.at_scalar.Kinds as at_scalar_kinds
use Rattle.key_pairs.proofs.at_numbers.Reads as at-numbers
use Rattle.key_pairs.proofs.at_numbers.Kinds as at_numbers_kinds
use Rattle.key_pairs.proofs.read_elliptic_pair.Reads as read-elliptic-pair
use Rattle.key_pairs.proofs.read_elliptic_pair.Kinds as read_elliptic_pair_kinds
use Rattle.key_pairs.proofs.read_rsa_keypair.Reads as read-rsa-keypair
use Rattle.key_pairs.proofs.read_rsa_keypair.Kinds as read_rsa_keypair_kinds

pub read_scalar_determined : Determined 1 read_scalar_kinds.ps read_scalar_kinds.r read-scalar.Post
read_scalar_determined κs a r₁ r₂ s₁ s₂ p q = cc

pub read_ed25519_pair_determined : Determined 1 read_ed25519_pair_kinds.ps read_ed25519_pair_kinds.r read-ed25519-pair.Post
read_ed25519_pair_determined κs a r₁ r₂ s₁ s₂ p q = cc

pub read_ecdsa_pair_determined : Determined 1 read_ecdsa_pair_kinds.ps read_ecdsa_pair_kinds.r read-ecdsa-pair.Post
read_ecdsa_pair_determined κs a r₁ r₂ s₁ s₂ p q = cc

pub read_keypair_determined : Determined 1 read_keypair_kinds.ps read_keypair_kinds.r read-keypair.Post
read_keypair_determined κs a r₁ r₂ s₁ s₂ p q = cc

pub at_scalar_determined : Determined 0 at_scalar_kinds.ps at_scalar_kinds.r at-scalar.Post
at_scalar_determined κs a r₁ r₂ s₁ s₂ p q = cc

pub at_numbers_determined : Determined 0 at_numbers_kinds.ps at_numbers_kinds.r at-numbers.Post
at_numbers_determined κs a r₁ r₂ s₁ s₂ p q = cc

pub read_elliptic_pair_determined : Determined 1 read_elliptic_pair_kinds.ps read_elliptic_pair_kinds.r read-elliptic-pair.Post
read_elliptic_pair_determined κs a r₁ r₂ s₁ s₂ p q = cc

pub read_rsa_keypair_determined : Determined 1 read_rsa_keypair_kinds.ps read_rsa_keypair_kinds.r read-rsa-keypair.Post
read_rsa_keypair_determined κs a r₁ r₂ s₁ s₂ p q = cc
