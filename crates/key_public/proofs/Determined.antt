-- Any two replies that meet a public function's own contract are equal.
-- Rests on the contracts being equations.
use Rattle.fields.specs.Determined.{Determined}
use Rattle.key_public.proofs.read_point.Reads as read-point
use Rattle.key_public.proofs.read_point.Kinds as read_point_kinds
use Rattle.key_public.proofs.read_ecdsa_public.Reads as read-ecdsa-public
use Rattle.key_public.proofs.read_ecdsa_public.Kinds as read_ecdsa_public_kinds
use Rattle.key_public.proofs.read_ecdsa_key.Reads as read-ecdsa-key
use Rattle.key_public.proofs.read_ecdsa_key.Kinds as read_ecdsa_key_kinds
use Rattle.key_public.proofs.read_public_key.Reads as read-public-key
use Rattle.key_public.proofs.read_public_key.Kinds as read_public_key_kinds
use Rattle.key_public.proofs.read_blob.Reads as read-blob
use Rattle.key_public.proofs.read_blob.Kinds as read_blob_kinds
use Rattle.key_public.proofs.needs_leading_zero.Reads as needs-leading-zero
use Rattle.key_public.proofs.needs_leading_zero.Kinds as needs_leading_zero_kinds
use Rattle.key_public.proofs.public_length.Reads as public-length
use Rattle.key_public.proofs.public_length.Kinds as public_length_kinds
use Rattle.key_public.proofs.private_length.Reads as private-length
use Rattle.key_public.proofs.private_length.Kinds as private_length_kinds
use Rattle.key_public.proofs.at_point.Reads as at-point
use Rattle.key_public.proofs.at_point.Kinds as at_point_kinds
use Rattle.key_public.proofs.at_modulus.Reads as at-modulus
use Rattle.key_public.proofs.at_modulus.Kinds as at_modulus_kinds
use Rattle.key_public.proofs.read_elliptic_key.Reads as read-elliptic-key
use Rattle.key_public.proofs.read_elliptic_key.Kinds as read_elliptic_key_kinds
use Rattle.key_public.proofs.read_rsa_key.Reads as read-rsa-key
use Rattle.key_public.proofs.read_rsa_key.Kinds as read_rsa_key_kinds

pub read_point_determined : Determined 1 read_point_kinds.ps read_point_kinds.r read-point.Post
read_point_determined κs a r₁ r₂ s₁ s₂ p q = cc

pub read_ecdsa_public_determined : Determined 1 read_ecdsa_public_kinds.ps read_ecdsa_public_kinds.r read-ecdsa-public.Post
read_ecdsa_public_determined κs a r₁ r₂ s₁ s₂ p q = cc

pub read_ecdsa_key_determined : Determined 1 read_ecdsa_key_kinds.ps read_ecdsa_key_kinds.r read-ecdsa-key.Post
read_ecdsa_key_determined κs a r₁ r₂ s₁ s₂ p q = cc

pub read_public_key_determined : Determined 1 read_public_key_kinds.ps read_public_key_kinds.r read-public-key.Post
read_public_key_determined κs a r₁ r₂ s₁ s₂ p q = cc

pub read_blob_determined : Determined 1 read_blob_kinds.ps read_blob_kinds.r read-blob.Post
read_blob_determined κs a r₁ r₂ s₁ s₂ p q = cc

pub needs_leading_zero_determined : Determined 1 needs_leading_zero_kinds.ps needs_leading_zero_kinds.r needs-leading-zero.Post
needs_leading_zero_determined κs a r₁ r₂ s₁ s₂ p q = cc

pub public_length_determined : Determined 0 public_length_kinds.ps public_length_kinds.r public-length.Post
public_length_determined κs a r₁ r₂ s₁ s₂ p q = cc

pub private_length_determined : Determined 0 private_length_kinds.ps private_length_kinds.r private-length.Post
private_length_determined κs a r₁ r₂ s₁ s₂ p q = cc

pub at_point_determined : Determined 0 at_point_kinds.ps at_point_kinds.r at-point.Post
at_point_determined κs a r₁ r₂ s₁ s₂ p q = cc

pub at_modulus_determined : Determined 0 at_modulus_kinds.ps at_modulus_kinds.r at-modulus.Post
at_modulus_determined κs a r₁ r₂ s₁ s₂ p q = cc

pub read_elliptic_key_determined : Determined 1 read_elliptic_key_kinds.ps read_elliptic_key_kinds.r read-elliptic-key.Post
read_elliptic_key_determined κs a r₁ r₂ s₁ s₂ p q = cc

pub read_rsa_key_determined : Determined 1 read_rsa_key_kinds.ps read_rsa_key_kinds.r read-rsa-key.Post
read_rsa_key_determined κs a r₁ r₂ s₁ s₂ p q = cc
