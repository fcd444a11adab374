-- docs/RULES.md, 13.2 and 13.3: the program's examples, and the limit for every input.
use Rattle.std.specs.Prelude.{ℕ, ◌<◌, ◌≡◌, refl, true, List, [], ◌∷◌, length}
use Rattle.std.proofs.Common.{lt-ltb}
use Rattle.fields.specs.Fields.{has_room, bytes_at}
use Rattle.names.specs.declared.Algorithm.TheVariants.{Elliptic as OnCurve, Rsa}
use Rattle.names.specs.declared.Elliptic.TheVariants.{Ed25519, Ecdsa}
use Rattle.names.specs.declared.Cipher.TheVariants as cipher
use Rattle.names.specs.declared.Curve.TheVariants.{Nistp256}
use Rattle.names.specs.declared.Kdf.TheVariants as kdf
use Rattle.reader_header.specs.Header.{magic_at, cipher_at, header_at}
use Rattle.reader_image.specs.Container.{read_at}
use Rattle.buffer.specs.Decimal.{digits_of, digits, decimal}
use Rattle.report_parts.specs.Parts.{printed, refused_line}
use Rattle.inspect_report.specs.Report.{Plain, Encrypted, Refused, line, bits_line, names, lines, summary_of, report_of}

-- an Ed25519 image with comment `oven7`, 234 bytes
pub oven7 :
    lines (Plain (OnCurve Ed25519) 0 cipher.None kdf.None 5 0 234 true)
    ≡ printed
    ("kind plain" ∷ "algorithm ssh-ed25519" ∷ "cipher none" ∷ "kdf none" ∷ "comment 5" ∷ "padding 0" ∷ "image 234" ∷ "form yes" ∷ [])
unfolding lines names bits_line line decimal digits digits_of
oven7 = refl

-- an RSA one, of 3,072 bits
pub silo :
    lines (Plain Rsa 3072 cipher.None kdf.None 9 1 1857 true)
    ≡ printed
    ("kind plain"
    ∷ "algorithm ssh-rsa"
    ∷ "bits 3072"
    ∷ "cipher none"
    ∷ "kdf none"
    ∷ "comment 9"
    ∷ "padding 1"
    ∷ "image 1857"
    ∷ "form yes"
    ∷ [])
unfolding lines names bits_line line decimal digits digits_of
silo = refl

-- an encrypted one with a tag
pub sealed :
    lines (Encrypted (OnCurve (Ecdsa Nistp256)) 0 cipher.Aes256Gcm kdf.Bcrypt 160 16 1405)
    ≡ printed
    ("kind encrypted"
    ∷ "algorithm ecdsa-sha2-nistp256"
    ∷ "cipher aes256-gcm@openssh.com"
    ∷ "kdf bcrypt"
    ∷ "ciphertext 160"
    ∷ "tag 16"
    ∷ "image 1405"
    ∷ [])
unfolding lines names bits_line line decimal digits digits_of
sealed = refl

-- two bytes left over, the first of them byte 241
pub left_over : lines (Refused 6 2 241) ≡ printed ("refused 6 2 241" ∷ [])
unfolding lines refused_line decimal digits digits_of
left_over = refl

-- empty input
pub nothing : report_of [] ≡ printed ("refused 1 0 0" ∷ [])
unfolding report_of summary_of read_at header_at cipher_at magic_at bytes_at has_room lines refused_line decimal digits digits_of
nothing = refl

-- input above the limit
pub above : (s : List ℕ) → 65535 < length s → report_of s ≡ printed ("refused 11 0 0" ∷ [])
unfolding report_of summary_of read_at header_at cipher_at lines refused_line decimal digits digits_of
above s h = rw (lt-ltb 65535 (length s) h)
