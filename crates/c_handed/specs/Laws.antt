-- Numbers handed in are a header's exactly if they are all the numbers of one: every header's own are (`half_own`), and no others
-- (`half_numbers`, in proofs/Laws).
use Rattle.std.specs.Prelude.{ℕ, ◌<◌, ◌^◌, ◌≡◌, Bool, true, ◌&&◌, eqb, Some}
use Rattle.std.proofs.Common.{arith, ◌∙◌, ap, eqb-true, lt-ltb}
use Rattle.fields.specs.Bytes.{both_true}
use Rattle.names.specs.Algorithms.{algorithm_code}
use Rattle.names.specs.declared.Algorithm.{Algorithm}
use Rattle.names.specs.declared.Algorithm.TheVariants.{Elliptic as OnCurve, Rsa}
use Rattle.names.specs.declared.Elliptic.TheVariants.{Ed25519, Ecdsa}
use Rattle.names.specs.declared.Curve.TheVariants.{Nistp256, Nistp384, Nistp521}
use Rattle.names.specs.declared.Cipher.{Cipher}
use Rattle.names.specs.declared.Cipher.TheVariants.{None, TripleDesCbc, Aes128Cbc, Aes192Cbc, Aes256Cbc, Aes128Ctr, Aes192Ctr, Aes256Ctr, Aes128Gcm, Aes256Gcm}
use Rattle.names.specs.declared.Kdf.{Kdf}
use Rattle.names.specs.declared.Kdf.TheVariants as kdf
use Rattle.names_codes.specs.Codes.{cipher_code, kdf_code, algorithm_coded, cipher_coded, kdf_coded, algorithm_coded_lem, cipher_coded_lem, kdf_coded_lem}
use Rattle.reader_header.specs.declared.Header.{Header}
use Rattle.handed_header.specs.Halves.{part_same, eqb_self}
use Rattle.c_numbers.specs.declared.Place.{Place}
use Rattle.c_numbers.specs.declared.Image.{Image}
use Rattle.c_numbers.specs.Numbers.{place_of, half_image}
use Rattle.c_handed.specs.Handed.{same_place, same_image, part_of, code_of, rounds_of, half_from, placed_half, half_of}

place_same : (a b : Place) → same_place a b ≡ true → a ≡ b
place_same a b e = ap place_of (part_same (part_of a) (part_of b) e)

-- the last of a row of comparisons, and those before it
number_last : (before : Bool) (m n : ℕ) → before && eqb m n ≡ true → (before ≡ true) × (m ≡ n)
number_last before m n e = let ok = both_true before (eqb m n) e in (ok.0, eqb-true m n ok.1)

place_last : (before : Bool) (a b : Place) → before && same_place a b ≡ true → (before ≡ true) × (a ≡ b)
place_last before a b e = let ok = both_true before (same_place a b) e in (ok.0, place_same a b ok.1)

pub image_same : (a b : Image) → same_image a b ≡ true → a ≡ b
unfolding same_image
image_same a b e =
    let keys = number_last _ a.keys b.keys e in
    let q = place_last _ a.q b.q keys.0 in
    let p = place_last _ a.p b.p q.0 in
    let iqmp = place_last _ a.iqmp b.iqmp p.0 in
    let d = place_last _ a.d b.d iqmp.0 in
    let exponent = place_last _ a.exponent b.exponent d.0 in
    let modulus = place_last _ a.modulus b.modulus exponent.0 in
    let bits = number_last _ a.bits b.bits modulus.0 in
    let section = number_last _ a.section b.section bits.0 in
    let tag = place_last _ a.tag b.tag section.0 in
    let ciphertext = place_last _ a.ciphertext b.ciphertext tag.0 in
    let salt = place_last _ a.salt b.salt ciphertext.0 in
    let comment = place_last _ a.comment b.comment salt.0 in
    let scalar = place_last _ a.scalar b.scalar comment.0 in
    let point = place_last _ a.point b.point scalar.0 in
    let blob = place_last _ a.blob b.blob point.0 in
    let form = number_last _ a.form b.form blob.0 in
    let padding = number_last _ a.padding b.padding form.0 in
    let checkint = number_last _ a.checkint b.checkint padding.0 in
    let rounds = number_last _ a.rounds b.rounds checkint.0 in
    let kdf = number_last _ a.kdf b.kdf rounds.0 in
    let cipher = number_last _ a.cipher b.cipher kdf.0 in
    let algorithm = number_last _ a.algorithm b.algorithm cipher.0 in
    let kind = number_last _ a.kind b.kind algorithm.0 in
    let at = number_last _ a.at b.at kind.0 in
    let count = number_last _ a.count b.count at.0 in
    let number : a.number ≡ b.number = eqb-true _ _ count.0 in
    let whole : ◌≡◌ {A = Image} (record { number = a.number; count = a.count; at = a.at; kind = a.kind; algorithm = a.algorithm; cipher = a.cipher; kdf = a.kdf; rounds = a.rounds; checkint = a.checkint; padding = a.padding; form = a.form; blob = a.blob; point = a.point; scalar = a.scalar; comment = a.comment; salt = a.salt; ciphertext = a.ciphertext; tag = a.tag; section = a.section; bits = a.bits; modulus = a.modulus; exponent = a.exponent; d = a.d; iqmp = a.iqmp; p = a.p; q = a.q; keys = a.keys }) (record { number = b.number; count = b.count; at = b.at; kind = b.kind; algorithm = b.algorithm; cipher = b.cipher; kdf = b.kdf; rounds = b.rounds; checkint = b.checkint; padding = b.padding; form = b.form; blob = b.blob; point = b.point; scalar = b.scalar; comment = b.comment; salt = b.salt; ciphertext = b.ciphertext; tag = b.tag; section = b.section; bits = b.bits; modulus = b.modulus; exponent = b.exponent; d = b.d; iqmp = b.iqmp; p = b.p; q = b.q; keys = b.keys }) = rw (number, count.1, at.1, kind.1, algorithm.1, cipher.1, kdf.1, rounds.1, checkint.1, padding.1, form.1, blob.1, point.1, scalar.1, comment.1, salt.1, ciphertext.1, tag.1, section.1, bits.1, modulus.1, exponent.1, d.1, iqmp.1, p.1, q.1, keys.1) in
    whole

pub image_self : (a : Image) → same_image a a ≡ true
unfolding same_image
image_self a = simp (eqb_self)

-- every code is below 255, so a thing's own, handed in as a number, names it
coded_own : {A N : Type 0} (code : A → ℕ) (coded : ℕ → N) (known : A → N) → ((a : A) → code a < 255) → ((a : A) → coded (code a) ≡ known a) → (a : A) → coded (code_of (code a)) ≡ known a
coded_own code coded known small own a =
    let byte : code_of (code a) ≡ code a = rw (lt-ltb (code a) 255 (small a)) in
    ap coded byte ∙ own a

algorithm_small : (a : Algorithm) → algorithm_code a < 255
algorithm_small (OnCurve Ed25519) = omega arith
algorithm_small (OnCurve (Ecdsa Nistp256)) = omega arith
algorithm_small (OnCurve (Ecdsa Nistp384)) = omega arith
algorithm_small (OnCurve (Ecdsa Nistp521)) = omega arith
algorithm_small Rsa = omega arith

cipher_small : (c : Cipher) → cipher_code c < 255
cipher_small None = omega arith
cipher_small TripleDesCbc = omega arith
cipher_small Aes128Cbc = omega arith
cipher_small Aes192Cbc = omega arith
cipher_small Aes256Cbc = omega arith
cipher_small Aes128Ctr = omega arith
cipher_small Aes192Ctr = omega arith
cipher_small Aes256Ctr = omega arith
cipher_small Aes128Gcm = omega arith
cipher_small Aes256Gcm = omega arith

kdf_small : (k : Kdf) → kdf_code k < 255
kdf_small kdf.None = omega arith
kdf_small kdf.Bcrypt = omega arith

from_own : (h : Header) → h.rounds < 2 ^ 32 → half_from (half_image h) h.algorithm h.cipher h.kdf ≡ h
unfolding half_from
from_own h small =
    ap (λ (n : ℕ). record { cipher = h.cipher; kdf = h.kdf; salt = h.salt; rounds = n; count = h.count; algorithm = h.algorithm; blob = h.blob; public = h.public; section = h.section })
    (let own : rounds_of h.rounds ≡ h.rounds = rw (lt-ltb h.rounds (2 ^ 32) small) in own)

pub half_own : (h : Header) → h.rounds < 2 ^ 32 → half_of (half_image h) ≡ Some h
unfolding half_of placed_half
half_own h small =
    rw (
      coded_own algorithm_code algorithm_coded Some algorithm_small algorithm_coded_lem h.algorithm,
      coded_own cipher_code cipher_coded Some cipher_small cipher_coded_lem h.cipher,
      coded_own kdf_code kdf_coded Some kdf_small kdf_coded_lem h.kdf,
      from_own h small,
      image_self (half_image h),
    )
