-- Any two replies that meet a public function's own contract are equal, and so are the buffers that they leave.
-- Rests on the contracts being equations.
use Rattle.fields.specs.Determined.{Determined}
use Rattle.buffer.specs.Determined.{DeterminedBuffer}
use Rattle.c_settings.proofs.saltorchard_read_setting.Reads as saltorchard-read-setting
use Rattle.c_settings.proofs.saltorchard_read_setting.Kinds as saltorchard_read_setting_kinds
use Rattle.c_settings.proofs.saltorchard_write_setting.Reads as saltorchard_write_setting
use Rattle.c_settings.proofs.saltorchard_write_setting.Kinds as saltorchard_write_setting_kinds
use Rattle.c_settings.proofs.saltorchard_store_get.Reads as saltorchard-store-get
use Rattle.c_settings.proofs.saltorchard_store_get.Kinds as saltorchard_store_get_kinds
use Rattle.c_settings.proofs.saltorchard_store_put.Reads as saltorchard_store_put
use Rattle.c_settings.proofs.saltorchard_store_put.Kinds as saltorchard_store_put_kinds
use Rattle.c_settings.proofs.saltorchard_store_move.Reads as saltorchard_store_move
use Rattle.c_settings.proofs.saltorchard_store_move.Kinds as saltorchard_store_move_kinds

pub saltorchard_read_setting_determined : Determined 1 saltorchard_read_setting_kinds.ps saltorchard_read_setting_kinds.r saltorchard-read-setting.Post
saltorchard_read_setting_determined κs a r₁ r₂ s₁ s₂ p q = cc

pub saltorchard_write_setting_determined :
    DeterminedBuffer 1 saltorchard_write_setting_kinds.ps saltorchard_write_setting_kinds.r saltorchard_write_setting.Post
    (λ κs s. s.1.1.1.0.now)
saltorchard_write_setting_determined κs a r₁ r₂ s₁ s₂ p q = (cc, cc)

pub saltorchard_store_get_determined : Determined 1 saltorchard_store_get_kinds.ps saltorchard_store_get_kinds.r saltorchard-store-get.Post
saltorchard_store_get_determined κs a r₁ r₂ s₁ s₂ p q = cc

pub saltorchard_store_put_determined :
    DeterminedBuffer 1 saltorchard_store_put_kinds.ps saltorchard_store_put_kinds.r saltorchard_store_put.Post (λ κs s. s.0.now)
saltorchard_store_put_determined κs a r₁ r₂ s₁ s₂ p q = (cc, cc)

pub saltorchard_store_move_determined :
    DeterminedBuffer 1 saltorchard_store_move_kinds.ps saltorchard_store_move_kinds.r saltorchard_store_move.Post (λ κs s. s.0.now)
saltorchard_store_move_determined κs a r₁ r₂ s₁ s₂ p q = (cc, cc)
