-- Any two replies that meet a public function's own contract are equal.
-- Rests on the contracts being equations.
use Rattle.fields.specs.Determined.{Determined}
use Rattle.writer_parts.proofs.added.Reads as added
use Rattle.writer_parts.proofs.added.Kinds as added_kinds
use Rattle.writer_parts.proofs.has_room.Reads as has_room
use Rattle.writer_parts.proofs.has_room.Kinds as has_room_kinds
use Rattle.writer_parts.proofs.image_length.Reads as image_length_lem
use Rattle.writer_parts.proofs.image_length.Kinds as image_length_kinds

pub added_determined : Determined 0 added_kinds.ps added_kinds.r added.Post
added_determined κs a r₁ r₂ s₁ s₂ p q = cc

pub has_room_determined : Determined 0 has_room_kinds.ps has_room_kinds.r has_room.Post
has_room_determined κs a r₁ r₂ s₁ s₂ p q = cc

pub image_length_determined : Determined 0 image_length_kinds.ps image_length_kinds.r image_length_lem.Post
image_length_determined κs a r₁ r₂ s₁ s₂ p q = cc
