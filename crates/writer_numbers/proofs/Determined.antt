-- Any two replies that meet a public function's own contract are equal, and so are the buffers that they leave.
-- Rests on the contracts being equations.
use Rattle.fields.specs.Determined.{Determined}
use Rattle.buffer.specs.Determined.{DeterminedBuffer}
use Rattle.writer_numbers.proofs.blob_length.Reads as blob-length
use Rattle.writer_numbers.proofs.blob_length.Kinds as blob_length_kinds
use Rattle.writer_numbers.proofs.put_blob.Reads as put-blob
use Rattle.writer_numbers.proofs.put_blob.Kinds as put_blob_kinds
use Rattle.writer_numbers.proofs.Numbers.pair_length.Reads as pair_length_lem
use Rattle.writer_numbers.proofs.Numbers.pair_length.Kinds as pair_length_kinds
use Rattle.writer_numbers.proofs.Numbers.put_pair.Reads as put-pair
use Rattle.writer_numbers.proofs.Numbers.put_pair.Kinds as put_pair_kinds
use Rattle.writer_numbers.proofs.Numbers.check.Reads as check
use Rattle.writer_numbers.proofs.Numbers.check.Kinds as check_kinds

pub blob_length_determined : Determined 2 blob_length_kinds.ps blob_length_kinds.r blob-length.Post
blob_length_determined κs a r₁ r₂ s₁ s₂ p q = cc

pub put_blob_determined : DeterminedBuffer 3 put_blob_kinds.ps put_blob_kinds.r put-blob.Post (λ κs s. s.0.now)
put_blob_determined κs a r₁ r₂ s₁ s₂ p q = (cc, cc)

pub pair_length_determined : Determined 2 pair_length_kinds.ps pair_length_kinds.r pair_length_lem.Post
pair_length_determined κs a r₁ r₂ s₁ s₂ p q = cc

pub put_pair_determined : DeterminedBuffer 3 put_pair_kinds.ps put_pair_kinds.r put-pair.Post (λ κs s. s.1.0.now)
put_pair_determined κs a r₁ r₂ s₁ s₂ p q = (cc, cc)

pub check_determined : Determined 2 check_kinds.ps check_kinds.r check.Post
check_determined κs a r₁ r₂ s₁ s₂ p q = cc
