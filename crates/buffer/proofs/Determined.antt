-- Any two replies that meet a public function's own contract are equal, and so are the buffers that they leave.
-- Rests on the contracts being equations.
use Rattle.buffer.specs.Determined.{DeterminedBuffer}
use Rattle.fields.specs.Determined.{Determined}
use Rattle.buffer.proofs.put.Reads as put
use Rattle.buffer.proofs.put.Kinds as put_kinds
use Rattle.buffer.proofs.put_uint32.Reads as put-uint32
use Rattle.buffer.proofs.put_uint32.Kinds as put_uint32_kinds
use Rattle.buffer.proofs.put_string.Reads as put-string
use Rattle.buffer.proofs.put_string.Kinds as put_string_kinds
use Rattle.buffer.proofs.padding.Reads as padding
use Rattle.buffer.proofs.padding.Kinds as padding_kinds
use Rattle.buffer.proofs.put_padding.Reads as put-padding
use Rattle.buffer.proofs.put_padding.Kinds as put_padding_kinds
use Rattle.buffer.proofs.put_zeros.Reads as put-zeros
use Rattle.buffer.proofs.put_zeros.Kinds as put_zeros_kinds
use Rattle.buffer.proofs.put_decimal.Reads as put-decimal
use Rattle.buffer.proofs.put_decimal.Kinds as put_decimal_kinds

pub put_determined : DeterminedBuffer 2 put_kinds.ps put_kinds.r put.Post (λ κs s. s.0.now)
put_determined κs a r₁ r₂ s₁ s₂ p q = (cc, cc)

pub put_uint32_determined : DeterminedBuffer 1 put_uint32_kinds.ps put_uint32_kinds.r put-uint32.Post (λ κs s. s.0.now)
put_uint32_determined κs a r₁ r₂ s₁ s₂ p q = (cc, cc)

pub put_string_determined : DeterminedBuffer 2 put_string_kinds.ps put_string_kinds.r put-string.Post (λ κs s. s.0.now)
put_string_determined κs a r₁ r₂ s₁ s₂ p q = (cc, cc)

pub padding_determined : Determined 0 padding_kinds.ps padding_kinds.r padding.Post
padding_determined κs a r₁ r₂ s₁ s₂ p q = cc

pub put_padding_determined : DeterminedBuffer 1 put_padding_kinds.ps put_padding_kinds.r put-padding.Post (λ κs s. s.0.now)
put_padding_determined κs a r₁ r₂ s₁ s₂ p q = (cc, cc)

pub put_zeros_determined : DeterminedBuffer 1 put_zeros_kinds.ps put_zeros_kinds.r put-zeros.Post (λ κs s. s.0.now)
put_zeros_determined κs a r₁ r₂ s₁ s₂ p q = (cc, cc)

pub put_decimal_determined : DeterminedBuffer 1 put_decimal_kinds.ps put_decimal_kinds.r put-decimal.Post (λ κs s. s.0.now)
put_decimal_determined κs a r₁ r₂ s₁ s₂ p q = (cc, cc)
