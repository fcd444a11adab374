-- Any two replies that meet a public function's own contract are equal, and so are the buffers that they leave.
-- Rests on the contracts being equations.
use Rattle.fields.specs.Determined.{Determined}
use Rattle.buffer.specs.Determined.{DeterminedBuffer}
use Rattle.writer_plain.proofs.KeyParts.check.Reads as check
use Rattle.writer_plain.proofs.KeyParts.check.Kinds as check_kinds
use Rattle.writer_plain.proofs.KeyParts.blob_length.Reads as blob-length
use Rattle.writer_plain.proofs.KeyParts.blob_length.Kinds as blob_length_kinds
use Rattle.writer_plain.proofs.KeyParts.put_blob.Reads as put-blob
use Rattle.writer_plain.proofs.KeyParts.put_blob.Kinds as put_blob_kinds
use Rattle.writer_plain.proofs.KeyParts.pair_length.Reads as pair-length
use Rattle.writer_plain.proofs.KeyParts.pair_length.Kinds as pair_length_kinds
use Rattle.writer_plain.proofs.KeyParts.put_pair.Reads as put-pair
use Rattle.writer_plain.proofs.KeyParts.put_pair.Kinds as put_pair_kinds
use Rattle.writer_plain.proofs.write_key.Reads as write_key
use Rattle.writer_plain.proofs.write_key.Kinds as write_key_kinds
use Rattle.writer_plain.proofs.write_parts.Reads as write_parts
use Rattle.writer_plain.proofs.write_parts.Kinds as write_parts_kinds
use Rattle.writer_plain.proofs.write_plain.Reads as write_plain
use Rattle.writer_plain.proofs.write_plain.Kinds as write_plain_kinds

pub check_determined : Determined 2 check_kinds.ps check_kinds.r check.Post
check_determined κs a r₁ r₂ s₁ s₂ p q = cc

pub blob_length_determined : Determined 2 blob_length_kinds.ps blob_length_kinds.r blob-length.Post
blob_length_determined κs a r₁ r₂ s₁ s₂ p q = cc

pub put_blob_determined : DeterminedBuffer 3 put_blob_kinds.ps put_blob_kinds.r put-blob.Post (λ κs s. s.1.0.now)
put_blob_determined κs a r₁ r₂ s₁ s₂ p q = (cc, cc)

pub pair_length_determined : Determined 2 pair_length_kinds.ps pair_length_kinds.r pair-length.Post
pair_length_determined κs a r₁ r₂ s₁ s₂ p q = cc

pub put_pair_determined : DeterminedBuffer 3 put_pair_kinds.ps put_pair_kinds.r put-pair.Post (λ κs s. s.1.0.now)
put_pair_determined κs a r₁ r₂ s₁ s₂ p q = (cc, cc)

pub write_key_determined : DeterminedBuffer 4 write_key_kinds.ps write_key_kinds.r write_key.Post (λ κs s. s.1.1.1.0.now)
write_key_determined κs a r₁ r₂ s₁ s₂ p q = (cc, cc)

pub write_parts_determined : DeterminedBuffer 4 write_parts_kinds.ps write_parts_kinds.r write_parts.Post (λ κs s. s.1.1.1.1.1.0.now)
write_parts_determined κs a r₁ r₂ s₁ s₂ p q = (cc, cc)

pub write_plain_determined : DeterminedBuffer 2 write_plain_kinds.ps write_plain_kinds.r write_plain.Post (λ κs s. s.1.1.1.0.now)
write_plain_determined κs a r₁ r₂ s₁ s₂ p q = (cc, cc)
