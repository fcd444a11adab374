-- docs/RULES.md, 4.1 to 4.6, 7.3 and 8.1: what reading the header finds. It ends after the last public blob, and of the section it says
-- where it begins and no more.
use Rattle.std.specs.Prelude.{ℕ, ◌+◌, ◌-◌, ◌≡◌, List, Bool, cond, ◌&&◌, length, eqb, leb, ltb, Result, Ok, Err, Option, Some, None}
use Rattle.fields.specs.Bytes.{same_bytes}
use Rattle.fields.specs.Fields.{fault, absent, whole, within, on_read, on_tested, uint32_at, bytes_at, string_at, end_at, view_of, Read}
use Rattle.fields.specs.Refusals.{number_of, count_of}
use Rattle.fields.specs.declared.Cursor.{Cursor}
use Rattle.fields.specs.declared.Fault.{Fault}
use Rattle.fields.specs.declared.Part.{Part}
use Rattle.fields.specs.declared.Refusal.TheVariants.{Length, FormatEncoding, Crypto, AlgorithmUnknown, Size}
use Rattle.names.specs.declared.Algorithm.TheVariants.{Elliptic as OnCurve}
use Rattle.names.specs.declared.Elliptic.TheVariants.{Ed25519}
use Rattle.names.specs.declared.Cipher.{Cipher}
use Rattle.names.specs.declared.Cipher.TheVariants as cipher
use Rattle.names.specs.declared.Kdf.{Kdf}
use Rattle.names.specs.declared.Kdf.TheVariants as kdf
use Rattle.names.specs.Ciphers.{cipher_named, kdf_named, is_none}
use Rattle.format.specs.Format.{magic}
use Rattle.key_public.specs.Keys.{point_place}
use Rattle.reader_blobs.specs.Blobs.{on_blob_field, on_blobs, blob_field_at, blobs_at}
use Rattle.reader_header.specs.declared.Header.{Header}
use Rattle.key_public.specs.declared.Public.{Public}
use Rattle.names.specs.declared.Algorithm.{Algorithm}

-- by what a name is, and by what was read
abbrev pub on_cipher_name : {R : Type 0} → Option Cipher → R → (Cipher → R) → R
on_cipher_name None unknown known = unknown
on_cipher_name (Some c) unknown known = known c

abbrev pub on_kdf_name : {R : Type 0} → Option Kdf → R → (Kdf → R) → R
on_kdf_name None unknown known = unknown
on_kdf_name (Some k) unknown known = known k

abbrev pub on_kdf : {R : Type 0} → Kdf → R → R → R
on_kdf kdf.None none bcrypt = none
on_kdf kdf.Bcrypt none bcrypt = bcrypt

abbrev pub on_cipher_field : {R : Type 0} → Read Cipher → (Fault → R) → (Cipher → Cursor → R) → R
on_cipher_field (Err f) refused read = refused f
on_cipher_field (Ok (k, c)) refused read = read k c

abbrev pub on_kdf_field : {R : Type 0} → Read (Kdf × Part × ℕ) → (Fault → R) → (Kdf → Part → ℕ → Cursor → R) → R
on_kdf_field (Err f) refused read = refused f
on_kdf_field (Ok ((k, salt, rounds), c)) refused read = read k salt rounds c

abbrev pub on_header_read : {R : Type 0} → Result Header Fault → (Fault → R) → (Header → R) → R
on_header_read (Err f) refused read = refused f
on_header_read (Ok h) refused read = read h

-- 4.2: magic, 15 bytes. Fewer than 15 bytes: 1. Other bytes: 2. Both belong to the whole image.
unfoldable pub magic_at : List ℕ → Read Part
magic_at s =
    on_read (bytes_at s (whole s) 15) Err (λ p c.
    cond (same_bytes (view_of s p) magic) (Ok (p, c)) (Err (fault FormatEncoding 0)))

-- 4.1: first, above 65,535 bytes: 11. Then the magic. 4.3: cipher name; unknown: 4.
unfoldable pub cipher_at : List ℕ → Read Cipher
cipher_at s =
    cond (ltb 65535 (length s)) (Err (fault Size 0))
    (on_read (magic_at s) Err (λ p c.
    on_read (string_at s c) Err (λ name d.
    on_cipher_name (cipher_named (view_of s name)) (Err (fault AlgorithmUnknown c.at)) (λ cipher.
    Ok (cipher, d)))))

-- `none` needs empty options, else 3
unfoldable pub none_at : List ℕ → Cursor → Read (Kdf × Part × ℕ)
none_at s c =
    on_read (string_at s c) Err (λ p d.
    cond (eqb p.length 0) (Ok ((kdf.None, absent, 0), d)) (Err (fault Crypto c.at)))

-- `bcrypt` has string salt (any length), uint32 rounds (any number), then end, else 6
unfoldable pub bcrypt_at : List ℕ → Cursor → Read (Kdf × Part × ℕ)
bcrypt_at s c =
    on_read (string_at s c) Err (λ p d.
    on_read (string_at s (within p)) Err (λ salt i.
    on_read (uint32_at s i) Err (λ rounds j.
    on_tested (end_at j) Err
    (Ok ((kdf.Bcrypt, salt, rounds), d)))))

-- 4.4: KDF name; unknown: 4. Then its options string.
unfoldable pub kdf_at : List ℕ → Cursor → Read (Kdf × Part × ℕ)
kdf_at s c =
    on_read (string_at s c) Err (λ name d.
    on_kdf_name (kdf_named (view_of s name)) (Err (fault AlgorithmUnknown c.at)) (λ k.
    on_kdf k (none_at s d) (bcrypt_at s d)))

-- 4.5: key count, uint32; 0 or above 16, or other than 1 with a cipher: 1.
abbrev pub most_keys : ℕ
most_keys = 16

abbrev pub keys_allowed : Cipher → ℕ → Bool
keys_allowed cipher n = cond (is_none cipher) (leb 1 n && leb n most_keys) (eqb n 1)

unfoldable pub count_at : List ℕ → Cursor → Cipher → Read ℕ
count_at s c cipher =
    on_read (uint32_at s c) Err (λ n d.
    cond (keys_allowed cipher n) (Ok (n, d)) (Err (fault Length c.at)))

-- 4.6: the first public blob, and the place after the others
unfoldable pub keys_at : List ℕ → Cursor → ℕ → Read (Algorithm × Part × Public)
keys_at s c more =
    on_blob_field (blob_field_at s c) Err (λ a p key d.
    on_blobs (blobs_at s d more) Err (λ e.
    Ok ((a, p, key), e)))

unfoldable pub header_at : List ℕ → Result Header Fault
header_at s =
    on_cipher_field (cipher_at s) Err (λ cipher c.
    on_kdf_field (kdf_at s c) Err (λ k salt rounds d.
    on_read (count_at s d cipher) Err (λ n e.
    on_blob_field (keys_at s e (n - 1)) Err (λ a blob key g.
    Ok
    (record {
      cipher = cipher;
      kdf = k;
      salt = salt;
      rounds = rounds;
      count = n;
      algorithm = a;
      blob = blob;
      public = key;
      section = g.at;
    })))))

-- where the second blob begins, if there is one
abbrev pub second_blob : List ℕ → Header → Cursor
second_blob s h = record { at = h.blob.start + h.blob.length; end = length s }

-- ---- the rules' reply to a header read

-- the half of a refused image: no place, no number; names are the first of theirs
abbrev pub no_header : Header
no_header =
    record {
      cipher = cipher.None;
      kdf = kdf.None;
      salt = absent;
      rounds = 0;
      count = 0;
      algorithm = OnCurve Ed25519;
      blob = absent;
      public = point_place absent;
      section = 0;
    }

-- number, count, the place at which the failing field began, and the half
pub record ToldHeader : Type 0 where
  pub number : ℕ
  pub count : ℕ
  pub at : ℕ
  pub header : Header

-- of each case of a header read's answer
unfoldable pub told_header : Result Header Fault → ToldHeader
told_header r =
    on_header_read r
    (λ f. record { number = number_of f.why; count = count_of f.why; at = f.at; header = no_header })
    (λ h. record { number = 0; count = 0; at = 0; header = h })

-- the promise of a header read: it answers this, which is this in the rules' numbers
abbrev pub AnswersHeader : List ℕ → Result Header Fault → Type 0
AnswersHeader s r = (r ≡ header_at s) × (told_header r ≡ told_header (header_at s))
