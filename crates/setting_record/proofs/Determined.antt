-- Any two replies that meet a public function's own contract are equal, and so are the buffers that they leave.
-- Rests on the contracts being equations.
use Rattle.fields.specs.Determined.{Determined}
use Rattle.buffer.specs.Determined.{DeterminedBuffer}
use Rattle.setting_record.proofs.record_at.Reads as record_at_lem
use Rattle.setting_record.proofs.record_at.Kinds as record_at_kinds
use Rattle.setting_record.proofs.is_known.Reads as is_Known
use Rattle.setting_record.proofs.is_known.Kinds as is_known_kinds
use Rattle.setting_record.proofs.kind_in.Reads as kind-in
use Rattle.setting_record.proofs.kind_in.Kinds as kind_in_kinds
use Rattle.setting_record.proofs.milliseconds_in.Reads as milliseconds-in
use Rattle.setting_record.proofs.milliseconds_in.Kinds as milliseconds_in_kinds
use Rattle.setting_record.proofs.answer_of.Reads as answer-of
use Rattle.setting_record.proofs.answer_of.Kinds as answer_of_kinds
use Rattle.setting_record.proofs.writable.Reads as writable
use Rattle.setting_record.proofs.writable.Kinds as writable_kinds
use Rattle.setting_record.proofs.pack.Reads as pack
use Rattle.setting_record.proofs.pack.Kinds as pack_kinds
use Rattle.setting_record.proofs.read.Reads as read
use Rattle.setting_record.proofs.read.Kinds as read_kinds
use Rattle.setting_record.proofs.write.Reads as write
use Rattle.setting_record.proofs.write.Kinds as write_kinds

pub record_at_determined : Determined 1 record_at_kinds.ps record_at_kinds.r record_at_lem.Post
record_at_determined κs a r₁ r₂ s₁ s₂ p q = cc

pub is_known_determined : Determined 0 is_known_kinds.ps is_known_kinds.r is_Known.Post
is_known_determined κs a r₁ r₂ s₁ s₂ p q = cc

pub kind_in_determined : Determined 0 kind_in_kinds.ps kind_in_kinds.r kind-in.Post
kind_in_determined κs a r₁ r₂ s₁ s₂ p q = cc

pub milliseconds_in_determined : Determined 0 milliseconds_in_kinds.ps milliseconds_in_kinds.r milliseconds-in.Post
milliseconds_in_determined κs a r₁ r₂ s₁ s₂ p q = cc

pub answer_of_determined : Determined 0 answer_of_kinds.ps answer_of_kinds.r answer-of.Post
answer_of_determined κs a r₁ r₂ s₁ s₂ p q = cc

pub writable_determined : Determined 0 writable_kinds.ps writable_kinds.r writable.Post
writable_determined κs a r₁ r₂ s₁ s₂ p q = cc

pub pack_determined : Determined 0 pack_kinds.ps pack_kinds.r pack.Post
pack_determined κs a r₁ r₂ s₁ s₂ p q = cc

pub read_determined : Determined 1 read_kinds.ps read_kinds.r read.Post
read_determined κs a r₁ r₂ s₁ s₂ p q = cc

pub write_determined : DeterminedBuffer 1 write_kinds.ps write_kinds.r write.Post (λ κs s. s.1.1.1.0.now)
write_determined κs a r₁ r₂ s₁ s₂ p q = (cc, cc)
