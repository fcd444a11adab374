-- Any two replies that meet a public function's own contract are equal, and so are the buffers that they leave.
-- Rests on the contracts being equations.
use Rattle.fields.specs.Determined.{Determined}
use Rattle.buffer.specs.Determined.{DeterminedBuffer}
use Rattle.setting_store.proofs.get.Reads as get
use Rattle.setting_store.proofs.get.Kinds as get_kinds
use Rattle.setting_store.proofs.put.Reads as put
use Rattle.setting_store.proofs.put.Kinds as put_kinds
use Rattle.setting_store.proofs.move_to_v2.Reads as move-to-v2
use Rattle.setting_store.proofs.move_to_v2.Kinds as move_to_v2_kinds

pub get_determined : Determined 1 get_kinds.ps get_kinds.r get.Post
get_determined κs a r₁ r₂ s₁ s₂ p q = cc

pub put_determined : DeterminedBuffer 1 put_kinds.ps put_kinds.r put.Post (λ κs s. s.0.now)
put_determined κs a r₁ r₂ s₁ s₂ p q = (cc, cc)

pub move_to_v2_determined : DeterminedBuffer 1 move_to_v2_kinds.ps move_to_v2_kinds.r move-to-v2.Post (λ κs s. s.0.now)
move_to_v2_determined κs a r₁ r₂ s₁ s₂ p q = (cc, cc)
