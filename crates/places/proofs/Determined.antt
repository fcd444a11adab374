-- Any two replies that meet a public function's own contract are equal.
-- Rests on the contracts being equations.
use Rattle.fields.specs.Determined.{Determined}
use Rattle.places.proofs.Places.none.Reads as none
use Rattle.places.proofs.Places.none.Kinds as none_kinds
use Rattle.places.proofs.Places.push.Reads as push
use Rattle.places.proofs.Places.push.Kinds as push_kinds
use Rattle.places.proofs.Places.get.Reads as get
use Rattle.places.proofs.Places.get.Kinds as get_kinds
use Rattle.places.proofs.Places.same.Reads as same
use Rattle.places.proofs.Places.same.Kinds as same_kinds

pub none_determined : Determined 0 none_kinds.ps none_kinds.r none.Post
none_determined κs a r₁ r₂ s₁ s₂ p q = cc

pub push_determined : Determined 0 push_kinds.ps push_kinds.r push.Post
push_determined κs a r₁ r₂ s₁ s₂ p q = cc

pub get_determined : Determined 0 get_kinds.ps get_kinds.r get.Post
get_determined κs a r₁ r₂ s₁ s₂ p q = cc

pub same_determined : Determined 0 same_kinds.ps same_kinds.r same.Post
same_determined κs a r₁ r₂ s₁ s₂ p q = cc
