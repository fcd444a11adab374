-- docs/RULES.md, 15.1: the C interface's codes: algorithm 0 Ed25519, 1 P-256, 2 P-384, 3 P-521, 4 RSA; KDF 0 none, 1 bcrypt; ciphers 0 to 9
-- in the order of 4.9. Any other number names nothing.
use Rattle.std.specs.Prelude.{ℕ, ◌≡◌, refl, cond, List, [], ◌∷◌, eqb, Option, Some, None}
use Rattle.std.proofs.Common.{sym, ◌∙◌, ap}
use Rattle.names.specs.Algorithms.{algorithm_code, algorithms}
use Rattle.names.specs.declared.Cipher.{Cipher}
use Rattle.names.specs.declared.Cipher.TheVariants.{None as NoCipher, TripleDesCbc, Aes128Cbc, Aes192Cbc, Aes256Cbc, Aes128Ctr, Aes192Ctr, Aes256Ctr, Aes128Gcm, Aes256Gcm}
use Rattle.names.specs.declared.Kdf.{Kdf}
use Rattle.names.specs.declared.Kdf.TheVariants as kdf
use Rattle.names.specs.declared.Curve.TheVariants.{Nistp256, Nistp384, Nistp521}
use Rattle.names.specs.declared.Elliptic.TheVariants.{Ed25519, Ecdsa}
use Rattle.names.specs.declared.Algorithm.{Algorithm}
use Rattle.names.specs.declared.Algorithm.TheVariants.{Elliptic as OnCurve, Rsa}

abbrev pub cipher_code : Cipher → ℕ
cipher_code NoCipher = 0
cipher_code TripleDesCbc = 1
cipher_code Aes128Cbc = 2
cipher_code Aes192Cbc = 3
cipher_code Aes256Cbc = 4
cipher_code Aes128Ctr = 5
cipher_code Aes192Ctr = 6
cipher_code Aes256Ctr = 7
cipher_code Aes128Gcm = 8
cipher_code Aes256Gcm = 9

abbrev pub kdf_code : Kdf → ℕ
kdf_code kdf.None = 0
kdf_code kdf.Bcrypt = 1

-- the first of the things whose code the number is
abbrev pub coded : {A R : Type 0} → (A → ℕ) → (A → R) → R → List A → ℕ → R
coded code known unknown [] n = unknown
coded code known unknown (a ∷ rows) n = cond (eqb n (code a)) (known a) (coded code known unknown rows n)

unfoldable pub algorithm_coded : ℕ → Option Algorithm
algorithm_coded = coded algorithm_code Some None algorithms

unfoldable pub cipher_coded : ℕ → Option Cipher
cipher_coded =
    coded cipher_code Some None
    (NoCipher ∷ TripleDesCbc ∷ Aes128Cbc ∷ Aes192Cbc ∷ Aes256Cbc ∷ Aes128Ctr ∷ Aes192Ctr ∷ Aes256Ctr ∷ Aes128Gcm ∷ Aes256Gcm ∷ [])

unfoldable pub kdf_coded : ℕ → Option Kdf
kdf_coded = coded kdf_code Some None (kdf.None ∷ kdf.Bcrypt ∷ [])

-- ---- laws: a code is its own thing's, and so no other's

pub algorithm_coded_lem : (a : Algorithm) → algorithm_coded (algorithm_code a) ≡ Some a
unfolding algorithm_coded
algorithm_coded_lem (OnCurve Ed25519) = refl
algorithm_coded_lem (OnCurve (Ecdsa Nistp256)) = refl
algorithm_coded_lem (OnCurve (Ecdsa Nistp384)) = refl
algorithm_coded_lem (OnCurve (Ecdsa Nistp521)) = refl
algorithm_coded_lem Rsa = refl

pub cipher_coded_lem : (c : Cipher) → cipher_coded (cipher_code c) ≡ Some c
unfolding cipher_coded
cipher_coded_lem NoCipher = refl
cipher_coded_lem TripleDesCbc = refl
cipher_coded_lem Aes128Cbc = refl
cipher_coded_lem Aes192Cbc = refl
cipher_coded_lem Aes256Cbc = refl
cipher_coded_lem Aes128Ctr = refl
cipher_coded_lem Aes192Ctr = refl
cipher_coded_lem Aes256Ctr = refl
cipher_coded_lem Aes128Gcm = refl
cipher_coded_lem Aes256Gcm = refl

pub kdf_coded_lem : (k : Kdf) → kdf_coded (kdf_code k) ≡ Some k
unfolding kdf_coded
kdf_coded_lem kdf.None = refl
kdf_coded_lem kdf.Bcrypt = refl

pub cipher_code_same : (c d : Cipher) → cipher_code c ≡ cipher_code d → c ≡ d
cipher_code_same c d e =
    let known : Some c ≡ Some d = sym (cipher_coded_lem c) ∙ ap cipher_coded e ∙ cipher_coded_lem d in
    cc

pub kdf_code_same : (k l : Kdf) → kdf_code k ≡ kdf_code l → k ≡ l
kdf_code_same k l e =
    let known : Some k ≡ Some l = sym (kdf_coded_lem k) ∙ ap kdf_coded e ∙ kdf_coded_lem l in
    cc
