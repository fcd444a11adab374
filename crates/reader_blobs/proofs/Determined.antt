-- Any two replies that meet a public function's own contract are equal.
-- Rests on the contracts being equations.
use Rattle.fields.specs.Determined.{Determined}
use Rattle.reader_blobs.proofs.read_blob_field.Reads as read-blob-field
use Rattle.reader_blobs.proofs.read_blob_field.Kinds as read_blob_field_kinds
use Rattle.reader_blobs.proofs.read_blobs.Reads as read-blobs
use Rattle.reader_blobs.proofs.read_blobs.Kinds as read_blobs_kinds

pub read_blob_field_determined : Determined 1 read_blob_field_kinds.ps read_blob_field_kinds.r read-blob-field.Post
read_blob_field_determined κs a r₁ r₂ s₁ s₂ p q = cc

pub read_blobs_determined : Determined 1 read_blobs_kinds.ps read_blobs_kinds.r read-blobs.Post
read_blobs_determined κs a r₁ r₂ s₁ s₂ p q = cc
