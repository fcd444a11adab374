-- Any two replies that meet a public function's own contract are equal.
-- Rests on the contracts being equations.
use Rattle.fields.specs.Determined.{Determined}
use Rattle.reader_header.proofs.read_header.Reads as read-header
use Rattle.reader_header.proofs.read_header.Kinds as read_header_kinds

pub read_header_determined : Determined 1 read_header_kinds.ps read_header_kinds.r read-header.Post
read_header_determined κs a r₁ r₂ s₁ s₂ p q = cc
