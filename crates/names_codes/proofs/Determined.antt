-- Any two replies that meet a public function's own contract are equal.
-- Rests on the contracts being equations.
use Rattle.fields.specs.Determined.{Determined}
use Rattle.names_codes.proofs.cipher_code.Reads as cipher-code
use Rattle.names_codes.proofs.cipher_code.Kinds as cipher_code_kinds
use Rattle.names_codes.proofs.kdf_code.Reads as kdf-code
use Rattle.names_codes.proofs.kdf_code.Kinds as kdf_code_kinds
use Rattle.names_codes.proofs.algorithm_coded.Reads as algorithm_coded_lem
use Rattle.names_codes.proofs.algorithm_coded.Kinds as algorithm_coded_kinds
use Rattle.names_codes.proofs.cipher_coded.Reads as cipher_coded_lem
use Rattle.names_codes.proofs.cipher_coded.Kinds as cipher_coded_kinds
use Rattle.names_codes.proofs.kdf_coded.Reads as kdf_coded_lem
use Rattle.names_codes.proofs.kdf_coded.Kinds as kdf_coded_kinds

pub cipher_code_determined : Determined 0 cipher_code_kinds.ps cipher_code_kinds.r cipher-code.Post
cipher_code_determined κs a r₁ r₂ s₁ s₂ p q = cc

pub kdf_code_determined : Determined 0 kdf_code_kinds.ps kdf_code_kinds.r kdf-code.Post
kdf_code_determined κs a r₁ r₂ s₁ s₂ p q = cc

pub algorithm_coded_determined : Determined 0 algorithm_coded_kinds.ps algorithm_coded_kinds.r algorithm_coded_lem.Post
algorithm_coded_determined κs a r₁ r₂ s₁ s₂ p q = cc

pub cipher_coded_determined : Determined 0 cipher_coded_kinds.ps cipher_coded_kinds.r cipher_coded_lem.Post
cipher_coded_determined κs a r₁ r₂ s₁ s₂ p q = cc

pub kdf_coded_determined : Determined 0 kdf_coded_kinds.ps kdf_coded_kinds.r kdf_coded_lem.Post
kdf_coded_determined κs a r₁ r₂ s₁ s₂ p q = cc
