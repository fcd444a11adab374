-- Any two replies that meet a public function's own contract are equal, and so are the buffers that they leave.
-- Rests on the contracts being equations.
use Rattle.buffer.specs.Determined.{DeterminedBuffer}
use Rattle.fields.specs.Determined.{Determined}
use Rattle.names_spelling.proofs.algorithm_name.Reads as algorithm-name
use Rattle.names_spelling.proofs.algorithm_name.Kinds as algorithm_name_kinds
use Rattle.names_spelling.proofs.cipher_name.Reads as cipher-name
use Rattle.names_spelling.proofs.cipher_name.Kinds as cipher_name_kinds
use Rattle.names_spelling.proofs.kdf_name.Reads as kdf-name
use Rattle.names_spelling.proofs.kdf_name.Kinds as kdf_name_kinds
use Rattle.names_spelling.proofs.put_name.Reads as put-name
use Rattle.names_spelling.proofs.put_name.Kinds as put_name_kinds
use Rattle.names_spelling.proofs.put_cipher.Reads as put-cipher
use Rattle.names_spelling.proofs.put_cipher.Kinds as put_cipher_kinds
use Rattle.names_spelling.proofs.put_kdf.Reads as put-kdf
use Rattle.names_spelling.proofs.put_kdf.Kinds as put_kdf_kinds

pub algorithm_name_determined : Determined 0 algorithm_name_kinds.ps algorithm_name_kinds.r algorithm-name.Post
algorithm_name_determined κs a r₁ r₂ s₁ s₂ p q = cc

pub cipher_name_determined : Determined 0 cipher_name_kinds.ps cipher_name_kinds.r cipher-name.Post
cipher_name_determined κs a r₁ r₂ s₁ s₂ p q = cc

pub kdf_name_determined : Determined 0 kdf_name_kinds.ps kdf_name_kinds.r kdf-name.Post
kdf_name_determined κs a r₁ r₂ s₁ s₂ p q = cc

pub put_name_determined : DeterminedBuffer 1 put_name_kinds.ps put_name_kinds.r put-name.Post (λ κs s. s.0.now)
put_name_determined κs a r₁ r₂ s₁ s₂ p q = (cc, cc)

pub put_cipher_determined : DeterminedBuffer 1 put_cipher_kinds.ps put_cipher_kinds.r put-cipher.Post (λ κs s. s.0.now)
put_cipher_determined κs a r₁ r₂ s₁ s₂ p q = (cc, cc)

pub put_kdf_determined : DeterminedBuffer 1 put_kdf_kinds.ps put_kdf_kinds.r put-kdf.Post (λ κs s. s.0.now)
put_kdf_determined κs a r₁ r₂ s₁ s₂ p q = (cc, cc)
