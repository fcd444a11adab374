-- Any two replies that meet a public function's own contract are equal.
-- Rests on the contracts being equations.
use Rattle.fields.specs.Determined.{Determined}
use Rattle.reader_keys.proofs.key_of.Reads as key_of
use Rattle.reader_keys.proofs.key_of.Kinds as key_of_kinds

pub key_of_determined : Determined 1 key_of_kinds.ps key_of_kinds.r key_of.Post
key_of_determined κs a r₁ r₂ s₁ s₂ p q = cc
