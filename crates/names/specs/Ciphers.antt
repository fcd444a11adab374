-- docs/RULES.md, 4.3, 4.4 and 4.9: the ciphers' names, block sizes and tag lengths, and the KDFs' names.
use Rattle.std.specs.Prelude.{None, ℕ, ◌≤◌, ◌<◌, ◌^◌, ◌≡◌, refl, Bool, true, false, List, [], ◌∷◌, length, Option, Some}
use Rattle.std.proofs.Common.{arith}
use Rattle.fields.specs.Bytes.{ascii}
use Rattle.fields.specs.Place.{clash}
use Rattle.names.specs.Table.{look_up, named}
use Rattle.names.specs.declared.Cipher.{Cipher}
use Rattle.names.specs.declared.Cipher.TheVariants.{None as NoCipher, TripleDesCbc, Aes128Cbc, Aes192Cbc, Aes256Cbc, Aes128Ctr, Aes192Ctr, Aes256Ctr, Aes128Gcm, Aes256Gcm}
use Rattle.names.specs.declared.Kdf.{Kdf}
use Rattle.names.specs.declared.Kdf.TheVariants as kdf

abbrev pub cipher_name : Cipher → List ℕ
cipher_name NoCipher = ascii "none"
cipher_name TripleDesCbc = ascii "3des-cbc"
cipher_name Aes128Cbc = ascii "aes128-cbc"
cipher_name Aes192Cbc = ascii "aes192-cbc"
cipher_name Aes256Cbc = ascii "aes256-cbc"
cipher_name Aes128Ctr = ascii "aes128-ctr"
cipher_name Aes192Ctr = ascii "aes192-ctr"
cipher_name Aes256Ctr = ascii "aes256-ctr"
cipher_name Aes128Gcm = ascii "aes128-gcm@openssh.com"
cipher_name Aes256Gcm = ascii "aes256-gcm@openssh.com"

-- the table, from its last rows up
abbrev pub gcm_named : List ℕ → Option Cipher
gcm_named = look_up cipher_name Some None (Aes128Gcm ∷ Aes256Gcm ∷ [])

abbrev pub ctr_named : List ℕ → Option Cipher
ctr_named = look_up cipher_name Some None (Aes128Ctr ∷ Aes192Ctr ∷ Aes256Ctr ∷ Aes128Gcm ∷ Aes256Gcm ∷ [])

abbrev pub cbc_named : List ℕ → Option Cipher
cbc_named =
    look_up cipher_name Some None
    (Aes128Cbc ∷ Aes192Cbc ∷ Aes256Cbc ∷ Aes128Ctr ∷ Aes192Ctr ∷ Aes256Ctr ∷ Aes128Gcm ∷ Aes256Gcm ∷ [])

abbrev ciphers : List Cipher
ciphers = NoCipher ∷ TripleDesCbc ∷ Aes128Cbc ∷ Aes192Cbc ∷ Aes256Cbc ∷ Aes128Ctr ∷ Aes192Ctr ∷ Aes256Ctr ∷ Aes128Gcm ∷ Aes256Gcm ∷ []

unfoldable pub cipher_named : List ℕ → Option Cipher
cipher_named = look_up cipher_name Some None ciphers

abbrev pub is_none : Cipher → Bool
is_none NoCipher = true
is_none TripleDesCbc = false
is_none Aes128Cbc = false
is_none Aes192Cbc = false
is_none Aes256Cbc = false
is_none Aes128Ctr = false
is_none Aes192Ctr = false
is_none Aes256Ctr = false
is_none Aes128Gcm = false
is_none Aes256Gcm = false

abbrev pub block_size : Cipher → ℕ
block_size NoCipher = 8
block_size TripleDesCbc = 8
block_size Aes128Cbc = 16
block_size Aes192Cbc = 16
block_size Aes256Cbc = 16
block_size Aes128Ctr = 16
block_size Aes192Ctr = 16
block_size Aes256Ctr = 16
block_size Aes128Gcm = 16
block_size Aes256Gcm = 16

abbrev pub tag_length : Cipher → ℕ
tag_length NoCipher = 0
tag_length TripleDesCbc = 0
tag_length Aes128Cbc = 0
tag_length Aes192Cbc = 0
tag_length Aes256Cbc = 0
tag_length Aes128Ctr = 0
tag_length Aes192Ctr = 0
tag_length Aes256Ctr = 0
tag_length Aes128Gcm = 16
tag_length Aes256Gcm = 16

abbrev pub kdf_name : Kdf → List ℕ
kdf_name kdf.None = ascii "none"
kdf_name kdf.Bcrypt = ascii "bcrypt"

unfoldable pub kdf_named : List ℕ → Option Kdf
kdf_named = look_up kdf_name Some None (kdf.None ∷ kdf.Bcrypt ∷ [])

-- ---- laws

-- what is said of each cipher at once: its name is found, and fits a length; its block is not empty
pub record Row (c : Cipher) : Type 0 where
  pub back : cipher_named (cipher_name c) ≡ Some c
  pub fits : length (cipher_name c) < 2 ^ 32
  pub short : length (cipher_name c) ≤ 22
  pub block : 0 < block_size c
  pub tag : tag_length c ≤ 16

pub row : (c : Cipher) → Row c
unfolding cipher_named
row NoCipher = record { back = refl; fits = omega arith; short = omega arith; block = omega arith; tag = omega arith }
row TripleDesCbc = record { back = refl; fits = omega arith; short = omega arith; block = omega arith; tag = omega arith }
row Aes128Cbc = record { back = refl; fits = omega arith; short = omega arith; block = omega arith; tag = omega arith }
row Aes192Cbc = record { back = refl; fits = omega arith; short = omega arith; block = omega arith; tag = omega arith }
row Aes256Cbc = record { back = refl; fits = omega arith; short = omega arith; block = omega arith; tag = omega arith }
row Aes128Ctr = record { back = refl; fits = omega arith; short = omega arith; block = omega arith; tag = omega arith }
row Aes192Ctr = record { back = refl; fits = omega arith; short = omega arith; block = omega arith; tag = omega arith }
row Aes256Ctr = record { back = refl; fits = omega arith; short = omega arith; block = omega arith; tag = omega arith }
row Aes128Gcm = record { back = refl; fits = omega arith; short = omega arith; block = omega arith; tag = omega arith }
row Aes256Gcm = record { back = refl; fits = omega arith; short = omega arith; block = omega arith; tag = omega arith }

pub cipher_read : (b : List ℕ) (c : Cipher) → cipher_named b ≡ Some c → b ≡ cipher_name c
unfolding cipher_named
cipher_read b c e =
    named cipher_name Some None ciphers b c (λ q. let z : ◌≡◌ {A = ℕ} 0 1 = cc in omega arith) (λ x q. cc) e

pub none_only : (c : Cipher) → is_none c ≡ true → NoCipher ≡ c
none_only NoCipher e = refl
none_only TripleDesCbc e = clash cc
none_only Aes128Cbc e = clash cc
none_only Aes192Cbc e = clash cc
none_only Aes256Cbc e = clash cc
none_only Aes128Ctr e = clash cc
none_only Aes192Ctr e = clash cc
none_only Aes256Ctr e = clash cc
none_only Aes128Gcm e = clash cc
none_only Aes256Gcm e = clash cc

pub kdf_back : (k : Kdf) → (kdf_named (kdf_name k) ≡ Some k) × (length (kdf_name k) < 2 ^ 32)
unfolding kdf_named
kdf_back kdf.None = (refl, omega arith)
kdf_back kdf.Bcrypt = (refl, omega arith)

pub kdf_read : (b : List ℕ) (k : Kdf) → kdf_named b ≡ Some k → b ≡ kdf_name k
unfolding kdf_named
kdf_read b k e =
    named kdf_name Some None (kdf.None ∷ kdf.Bcrypt ∷ []) b k (λ q. let z : ◌≡◌ {A = ℕ} 0 1 = cc in omega arith) (λ x q. cc) e
