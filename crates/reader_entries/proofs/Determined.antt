-- Any two replies that meet a public function's own contract are equal.
-- Rests on the contracts being equations.
use Rattle.fields.specs.Determined.{Determined}
use Rattle.reader_entries.proofs.read_comment.Reads as read-comment
use Rattle.reader_entries.proofs.read_comment.Kinds as read_comment_kinds
use Rattle.reader_entries.proofs.read_pair.Reads as read-pair
use Rattle.reader_entries.proofs.read_pair.Kinds as read_pair_kinds
use Rattle.reader_entries.proofs.read_entry.Reads as read-entry
use Rattle.reader_entries.proofs.read_entry.Kinds as read_entry_kinds
use Rattle.reader_entries.proofs.read_key.Reads as read-key
use Rattle.reader_entries.proofs.read_key.Kinds as read_key_kinds

pub read_comment_determined : Determined 1 read_comment_kinds.ps read_comment_kinds.r read-comment.Post
read_comment_determined κs a r₁ r₂ s₁ s₂ p q = cc

pub read_pair_determined : Determined 1 read_pair_kinds.ps read_pair_kinds.r read-pair.Post
read_pair_determined κs a r₁ r₂ s₁ s₂ p q = cc

pub read_entry_determined : Determined 1 read_entry_kinds.ps read_entry_kinds.r read-entry.Post
read_entry_determined κs a r₁ r₂ s₁ s₂ p q = cc

pub read_key_determined : Determined 1 read_key_kinds.ps read_key_kinds.r read-key.Post
read_key_determined κs a r₁ r₂ s₁ s₂ p q = cc
