-- The fields of an encrypted image, as they are put, and that they join to it.
use Rattle.std.specs.Prelude.{ℕ, ◌≤◌, ◌≡◌, true, List, [], ◌∷◌, ◌++◌, length}
use Rattle.std.proofs.Common.{arith, append_assoc, append-nil, eqb-true, length-append}
use Rattle.fields.specs.Bytes.{uint32, string, join, both_true}
use Rattle.fields.specs.Rest.{length-string}
use Rattle.names.specs.declared.Cipher.{Cipher}
use Rattle.names.specs.declared.Kdf.{Kdf}
use Rattle.names.specs.declared.Kdf.TheVariants as kdf
use Rattle.names.specs.Ciphers.{cipher_name, kdf_name}
use Rattle.format.specs.Format.{alone, magic, options, header, encrypted_image}
use Rattle.writer_encrypted.specs.Encrypted.{options_fit}

-- up to and with the blob's length
unfoldable pub front : Cipher → Kdf → List ℕ → ℕ → ℕ → List ℕ
front cipher kdf salt rounds key =
    join
    (magic ∷ string (cipher_name cipher) ∷ string (kdf_name kdf) ∷ string (options kdf salt rounds) ∷ uint32 1 ∷ uint32 key ∷ [])

unfoldable pub encrypted_fields : Cipher → Kdf → List ℕ → ℕ → List ℕ → List ℕ → List ℕ → List (List ℕ)
encrypted_fields c k salt rounds key ciphertext tag = front c k salt rounds (length key) ∷ key ∷ string ciphertext ∷ tag ∷ []

-- the front and the blob are the header
front_joined :
    (c : Cipher) (k : Kdf) (salt : List ℕ) (rounds : ℕ) (key t : List ℕ)
    → front c k salt rounds (length key) ++ (key ++ t) ≡ header c k salt rounds (alone key) ++ t
unfolding front string header
front_joined c k salt rounds key t = simp (append_assoc, append-nil)

pub encrypted_joined :
    (c : Cipher) (k : Kdf) (salt : List ℕ) (rounds : ℕ) (key ciphertext tag : List ℕ)
    → join (encrypted_fields c k salt rounds key ciphertext tag) ≡ encrypted_image c k salt rounds key ciphertext tag
unfolding encrypted_fields encrypted_image
encrypted_joined c k salt rounds key ciphertext tag = front_joined c k salt rounds key (string ciphertext ++ (tag ++ []))

-- options that fit are no shorter than their salt
pub options_long : (k : Kdf) (salt : List ℕ) (rounds : ℕ) → options_fit k salt rounds ≡ true → length salt ≤ length (options k salt rounds)
options_long kdf.None salt rounds e = omega (arith, eqb-true (length salt) 0 (both_true _ _ e).0)
options_long kdf.Bcrypt salt rounds e = simp (length-append, length-string) (omega arith)
