-- Any two replies that meet a public function's own contract are equal.
-- Rests on the contracts being equations.
use Rattle.fields.specs.Determined.{Determined}
use Rattle.reader_section.proofs.read_plain.Reads as read_plain
use Rattle.reader_section.proofs.read_plain.Kinds as read_plain_kinds
use Rattle.reader_section.proofs.read_encrypted.Reads as read-encrypted
use Rattle.reader_section.proofs.read_encrypted.Kinds as read_encrypted_kinds

pub read_plain_determined : Determined 1 read_plain_kinds.ps read_plain_kinds.r read_plain.Post
read_plain_determined κs a r₁ r₂ s₁ s₂ p q = cc

pub read_encrypted_determined : Determined 1 read_encrypted_kinds.ps read_encrypted_kinds.r read-encrypted.Post
read_encrypted_determined κs a r₁ r₂ s₁ s₂ p q = cc
