-- The image that lent parts make.
use Rattle.std.specs.Prelude.{ℕ, List}
use Rattle.format.specs.Format.{encrypted_image}
use Rattle.writer_encrypted.specs.declared.Sealed.{Sealed}

abbrev pub sealed_image : Sealed → List ℕ
sealed_image x = encrypted_image x.cipher x.kdf x.salt.now x.rounds x.blob.now x.ciphertext.now x.tag.now
