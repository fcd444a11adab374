-- Any two replies that meet a public function's own contract are equal.
-- Rests on the contracts being equations.
use Rattle.fields.specs.Determined.{Determined, DeterminedView}
use Rattle.fields.proofs.Refusal.number.Reads as number
use Rattle.fields.proofs.Refusal.number.Kinds as number_kinds
use Rattle.fields.proofs.Refusal.count.Reads as count
use Rattle.fields.proofs.Refusal.count.Kinds as count_kinds
use Rattle.fields.proofs.Refusal.at.Reads as at
use Rattle.fields.proofs.Refusal.at.Kinds as at_kinds
use Rattle.fields.proofs.Cursor.has.Reads as has
use Rattle.fields.proofs.Cursor.has.Kinds as has_kinds
use Rattle.fields.proofs.Cursor.remaining.Reads as remaining
use Rattle.fields.proofs.Cursor.remaining.Kinds as remaining_kinds
use Rattle.fields.proofs.Cursor.uint32.Reads as uint32
use Rattle.fields.proofs.Cursor.uint32.Kinds as uint32_kinds
use Rattle.fields.proofs.Cursor.bytes.Reads as bytes
use Rattle.fields.proofs.Cursor.bytes.Kinds as bytes_kinds
use Rattle.fields.proofs.Cursor.string.Reads as string
use Rattle.fields.proofs.Cursor.string.Kinds as string_kinds
use Rattle.fields.proofs.Cursor.fixed.Reads as fixed
use Rattle.fields.proofs.Cursor.fixed.Kinds as fixed_kinds
use Rattle.fields.proofs.Cursor.finish.Reads as finish
use Rattle.fields.proofs.Cursor.finish.Kinds as finish_kinds
use Rattle.fields.proofs.view.Reads as view
use Rattle.fields.proofs.view.Kinds as view_kinds
use Rattle.fields.proofs.same.Reads as same
use Rattle.fields.proofs.same.Kinds as same_kinds
use Rattle.fields.proofs.byte.Reads as byte
use Rattle.fields.proofs.byte.Kinds as byte_kinds

pub number_determined : Determined 0 number_kinds.ps number_kinds.r number.Post
number_determined κs a r₁ r₂ s₁ s₂ p q = cc

pub count_determined : Determined 0 count_kinds.ps count_kinds.r count.Post
count_determined κs a r₁ r₂ s₁ s₂ p q = cc

pub at_determined : Determined 0 at_kinds.ps at_kinds.r at.Post
at_determined κs a r₁ r₂ s₁ s₂ p q = cc

pub has_determined : Determined 1 has_kinds.ps has_kinds.r has.Post
has_determined κs a r₁ r₂ s₁ s₂ p q = cc

pub remaining_determined : Determined 0 remaining_kinds.ps remaining_kinds.r remaining.Post
remaining_determined κs a r₁ r₂ s₁ s₂ p q = cc

pub uint32_determined : Determined 1 uint32_kinds.ps uint32_kinds.r uint32.Post
uint32_determined κs a r₁ r₂ s₁ s₂ p q = cc

pub bytes_determined : Determined 1 bytes_kinds.ps bytes_kinds.r bytes.Post
bytes_determined κs a r₁ r₂ s₁ s₂ p q = cc

pub string_determined : Determined 1 string_kinds.ps string_kinds.r string.Post
string_determined κs a r₁ r₂ s₁ s₂ p q = cc

pub fixed_determined : Determined 1 fixed_kinds.ps fixed_kinds.r fixed.Post
fixed_determined κs a r₁ r₂ s₁ s₂ p q = cc

pub finish_determined : Determined 0 finish_kinds.ps finish_kinds.r finish.Post
finish_determined κs a r₁ r₂ s₁ s₂ p q = cc

pub view_determined : DeterminedView view_kinds.ps view.Post
view_determined κs a r₁ r₂ s₁ s₂ p q = (cc, cc, cc)

pub same_determined : Determined 2 same_kinds.ps same_kinds.r same.Post
same_determined κs a r₁ r₂ s₁ s₂ p q = cc

pub byte_determined : Determined 1 byte_kinds.ps byte_kinds.r byte.Post
byte_determined κs a r₁ r₂ s₁ s₂ p q = cc
