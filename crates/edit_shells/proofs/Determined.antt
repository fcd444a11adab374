-- Any two replies that meet a public function's own contract are equal, and so are the buffers that they leave.
-- Rests on the contracts being equations.
use Rattle.buffer.specs.Determined.{DeterminedBuffer}
use Rattle.fields.specs.Determined.{Determined}
use Rattle.edit_shells.proofs.in_order.Reads as in_order
use Rattle.edit_shells.proofs.in_order.Kinds as in_order_kinds
use Rattle.edit_shells.proofs.check_places.Reads as check_places
use Rattle.edit_shells.proofs.check_places.Kinds as check_places_kinds
use Rattle.edit_shells.proofs.check_size.Reads as check_size
use Rattle.edit_shells.proofs.check_size.Kinds as check_size_kinds
use Rattle.edit_shells.proofs.put_ending.Reads as put-ending
use Rattle.edit_shells.proofs.put_ending.Kinds as put_ending_kinds

pub in_order_determined : Determined 1 in_order_kinds.ps in_order_kinds.r in_order.Post
in_order_determined κs a r₁ r₂ s₁ s₂ p q = cc

pub check_places_determined : Determined 1 check_places_kinds.ps check_places_kinds.r check_places.Post
check_places_determined κs a r₁ r₂ s₁ s₂ p q = cc

pub check_size_determined : Determined 0 check_size_kinds.ps check_size_kinds.r check_size.Post
check_size_determined κs a r₁ r₂ s₁ s₂ p q = cc

pub put_ending_determined : DeterminedBuffer 1 put_ending_kinds.ps put_ending_kinds.r put-ending.Post (λ κs s. s.0.now)
put_ending_determined κs a r₁ r₂ s₁ s₂ p q = (cc, cc)
