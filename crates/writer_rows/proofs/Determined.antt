-- Any two replies that meet a public function's own contract are equal, and so are the buffers that they leave.
-- Rests on the contracts being equations.
use Rattle.fields.specs.Determined.{Determined}
use Rattle.buffer.specs.Determined.{DeterminedBuffer}
use Rattle.writer_rows.proofs.check_at.Reads as check-at
use Rattle.writer_rows.proofs.check_at.Kinds as check_at_kinds
use Rattle.writer_rows.proofs.blob_length_at.Reads as blob-length-at
use Rattle.writer_rows.proofs.blob_length_at.Kinds as blob_length_at_kinds
use Rattle.writer_rows.proofs.put_blob_at.Reads as put-blob-at
use Rattle.writer_rows.proofs.put_blob_at.Kinds as put_blob_at_kinds
use Rattle.writer_rows.proofs.pair_length_at.Reads as pair-length-at
use Rattle.writer_rows.proofs.pair_length_at.Kinds as pair_length_at_kinds
use Rattle.writer_rows.proofs.put_pair_at.Reads as put-pair-at
use Rattle.writer_rows.proofs.put_pair_at.Kinds as put_pair_at_kinds

pub check_at_determined : Determined 2 check_at_kinds.ps check_at_kinds.r check-at.Post
check_at_determined κs a r₁ r₂ s₁ s₂ p q = cc

pub blob_length_at_determined : Determined 2 blob_length_at_kinds.ps blob_length_at_kinds.r blob-length-at.Post
blob_length_at_determined κs a r₁ r₂ s₁ s₂ p q = cc

pub put_blob_at_determined : DeterminedBuffer 3 put_blob_at_kinds.ps put_blob_at_kinds.r put-blob-at.Post (λ κs s. s.0.now)
put_blob_at_determined κs a r₁ r₂ s₁ s₂ p q = (cc, cc)

pub pair_length_at_determined : Determined 2 pair_length_at_kinds.ps pair_length_at_kinds.r pair-length-at.Post
pair_length_at_determined κs a r₁ r₂ s₁ s₂ p q = cc

pub put_pair_at_determined : DeterminedBuffer 3 put_pair_at_kinds.ps put_pair_at_kinds.r put-pair-at.Post (λ κs s. s.0.now)
put_pair_at_determined κs a r₁ r₂ s₁ s₂ p q = (cc, cc)
