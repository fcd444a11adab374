-- Where each name stands in one table of them all, and that it is spelled there.
use Rattle.std.specs.Prelude.{ℕ, ◌≤◌, ◌≡◌, refl, List, [], ◌∷◌, length}
use Rattle.std.proofs.Common.{arith}
use Rattle.fields.specs.Bytes.{ascii, join}
use Rattle.fields.specs.Fields.{part, view_of}
use Rattle.fields.specs.declared.Part.{Part}
use Rattle.names.specs.declared.Algorithm.{Algorithm}
use Rattle.names.specs.declared.Algorithm.TheVariants.{Elliptic as OnCurve, Rsa}
use Rattle.names.specs.declared.Elliptic.TheVariants.{Ed25519, Ecdsa}
use Rattle.names.specs.declared.Cipher.{Cipher}
use Rattle.names.specs.declared.Cipher.TheVariants as cipher
use Rattle.names.specs.declared.Curve.TheVariants.{Nistp256, Nistp384, Nistp521}
use Rattle.names.specs.declared.Kdf.{Kdf}
use Rattle.names.specs.declared.Kdf.TheVariants as kdf
use Rattle.names.specs.Algorithms.{algorithm_name}
use Rattle.names.specs.Ciphers.{cipher_name, kdf_name}

abbrev pub name_table : List ℕ
name_table =
    join
    (ascii "none bcrypt 3des-cbc aes128-cbc aes192-cbc aes256-cbc aes128-ctr aes192-ctr aes256-ctr "
    ∷ ascii "aes128-gcm@openssh.com aes256-gcm@openssh.com ssh-ed25519 ecdsa-sha2-nistp256 ecdsa-sha2-nistp384 "
    ∷ ascii "ecdsa-sha2-nistp521 ssh-rsa"
    ∷ [])

abbrev pub algorithm_place : Algorithm → Part
algorithm_place (OnCurve Ed25519) = part 133 11
algorithm_place (OnCurve (Ecdsa Nistp256)) = part 145 19
algorithm_place (OnCurve (Ecdsa Nistp384)) = part 165 19
algorithm_place (OnCurve (Ecdsa Nistp521)) = part 185 19
algorithm_place Rsa = part 205 7

abbrev pub cipher_place : Cipher → Part
cipher_place cipher.None = part 0 4
cipher_place cipher.TripleDesCbc = part 12 8
cipher_place cipher.Aes128Cbc = part 21 10
cipher_place cipher.Aes192Cbc = part 32 10
cipher_place cipher.Aes256Cbc = part 43 10
cipher_place cipher.Aes128Ctr = part 54 10
cipher_place cipher.Aes192Ctr = part 65 10
cipher_place cipher.Aes256Ctr = part 76 10
cipher_place cipher.Aes128Gcm = part 87 22
cipher_place cipher.Aes256Gcm = part 110 22

abbrev pub kdf_place : Kdf → Part
kdf_place kdf.None = part 0 4
kdf_place kdf.Bcrypt = part 5 6

-- ---- each name is spelled where the table says

pub algorithm_spelled : (a : Algorithm) → view_of name_table (algorithm_place a) ≡ algorithm_name a
unfolding view_of
algorithm_spelled (OnCurve Ed25519) = refl
algorithm_spelled (OnCurve (Ecdsa Nistp256)) = refl
algorithm_spelled (OnCurve (Ecdsa Nistp384)) = refl
algorithm_spelled (OnCurve (Ecdsa Nistp521)) = refl
algorithm_spelled Rsa = refl

pub cipher_spelled : (c : Cipher) → view_of name_table (cipher_place c) ≡ cipher_name c
unfolding view_of
cipher_spelled cipher.None = refl
cipher_spelled cipher.TripleDesCbc = refl
cipher_spelled cipher.Aes128Cbc = refl
cipher_spelled cipher.Aes192Cbc = refl
cipher_spelled cipher.Aes256Cbc = refl
cipher_spelled cipher.Aes128Ctr = refl
cipher_spelled cipher.Aes192Ctr = refl
cipher_spelled cipher.Aes256Ctr = refl
cipher_spelled cipher.Aes128Gcm = refl
cipher_spelled cipher.Aes256Gcm = refl

-- how long the names are
pub cipher_length : (c : Cipher) → (cipher_place c).length ≡ length (cipher_name c)
cipher_length cipher.None = refl
cipher_length cipher.TripleDesCbc = refl
cipher_length cipher.Aes128Cbc = refl
cipher_length cipher.Aes192Cbc = refl
cipher_length cipher.Aes256Cbc = refl
cipher_length cipher.Aes128Ctr = refl
cipher_length cipher.Aes192Ctr = refl
cipher_length cipher.Aes256Ctr = refl
cipher_length cipher.Aes128Gcm = refl
cipher_length cipher.Aes256Gcm = refl

pub kdf_length : (k : Kdf) → ((kdf_place k).length ≡ length (kdf_name k)) × (length (kdf_name k) ≤ 6)
kdf_length kdf.None = (refl, omega arith)
kdf_length kdf.Bcrypt = (refl, omega arith)

pub kdf_spelled : (k : Kdf) → view_of name_table (kdf_place k) ≡ kdf_name k
unfolding view_of
kdf_spelled kdf.None = refl
kdf_spelled kdf.Bcrypt = refl
