-- Any two replies that meet a public function's own contract are equal.
-- Rests on the contracts being equations.
use Rattle.fields.specs.Determined.{Determined}
use Rattle.names.proofs.cipher_named.Reads as cipher-named
use Rattle.names.proofs.cipher_named.Kinds as cipher_named_kinds
use Rattle.names.proofs.Cipher.is_none.Reads as is_none
use Rattle.names.proofs.Cipher.is_none.Kinds as is_none_kinds
use Rattle.names.proofs.Cipher.block_size.Reads as block_size
use Rattle.names.proofs.Cipher.block_size.Kinds as block_size_kinds
use Rattle.names.proofs.Cipher.tag_length.Reads as tag-length
use Rattle.names.proofs.Cipher.tag_length.Kinds as tag_length_kinds
use Rattle.names.proofs.kdf_named.Reads as kdf-named
use Rattle.names.proofs.kdf_named.Kinds as kdf_named_kinds
use Rattle.names.proofs.Curve.size.Reads as size
use Rattle.names.proofs.Curve.size.Kinds as size_kinds
use Rattle.names.proofs.Curve.point_length.Reads as point-length
use Rattle.names.proofs.Curve.point_length.Kinds as point_length_kinds
use Rattle.names.proofs.curve_named.Reads as curve-named
use Rattle.names.proofs.curve_named.Kinds as curve_named_kinds
use Rattle.names.proofs.algorithm_named.Reads as algorithm-named
use Rattle.names.proofs.algorithm_named.Kinds as algorithm_named_kinds
use Rattle.names.proofs.Algorithm.code.Reads as code
use Rattle.names.proofs.Algorithm.code.Kinds as code_kinds

pub cipher_named_determined : Determined 1 cipher_named_kinds.ps cipher_named_kinds.r cipher-named.Post
cipher_named_determined κs a r₁ r₂ s₁ s₂ p q = cc

pub is_none_determined : Determined 0 is_none_kinds.ps is_none_kinds.r is_none.Post
is_none_determined κs a r₁ r₂ s₁ s₂ p q = cc

pub block_size_determined : Determined 0 block_size_kinds.ps block_size_kinds.r block_size.Post
block_size_determined κs a r₁ r₂ s₁ s₂ p q = cc

pub tag_length_determined : Determined 0 tag_length_kinds.ps tag_length_kinds.r tag-length.Post
tag_length_determined κs a r₁ r₂ s₁ s₂ p q = cc

pub kdf_named_determined : Determined 1 kdf_named_kinds.ps kdf_named_kinds.r kdf-named.Post
kdf_named_determined κs a r₁ r₂ s₁ s₂ p q = cc

pub size_determined : Determined 0 size_kinds.ps size_kinds.r size.Post
size_determined κs a r₁ r₂ s₁ s₂ p q = cc

pub point_length_determined : Determined 0 point_length_kinds.ps point_length_kinds.r point-length.Post
point_length_determined κs a r₁ r₂ s₁ s₂ p q = cc

pub curve_named_determined : Determined 1 curve_named_kinds.ps curve_named_kinds.r curve-named.Post
curve_named_determined κs a r₁ r₂ s₁ s₂ p q = cc

pub algorithm_named_determined : Determined 1 algorithm_named_kinds.ps algorithm_named_kinds.r algorithm-named.Post
algorithm_named_determined κs a r₁ r₂ s₁ s₂ p q = cc

pub code_determined : Determined 0 code_kinds.ps code_kinds.r code.Post
code_determined κs a r₁ r₂ s₁ s₂ p q = cc
