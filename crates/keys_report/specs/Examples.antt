-- docs/RULES.md, 13.4: the program's examples, and the limit for every input.
use Rattle.std.specs.Prelude.{ℕ, ◌<◌, ◌≡◌, refl, List, [], ◌∷◌, length}
use Rattle.std.proofs.Common.{lt-ltb}
use Rattle.fields.specs.Bytes.{join}
use Rattle.fields.specs.Fields.{has_room, bytes_at}
use Rattle.names.specs.declared.Algorithm.TheVariants.{Elliptic as OnCurve, Rsa}
use Rattle.names.specs.declared.Elliptic.TheVariants.{Ed25519, Ecdsa}
use Rattle.names.specs.declared.Curve.TheVariants.{Nistp256}
use Rattle.reader_header.specs.Header.{magic_at, cipher_at, header_at}
use Rattle.reader_section.specs.declared.Kind.TheVariants as kind
use Rattle.reader_image.specs.Container.{read_at}
use Rattle.buffer.specs.Decimal.{digits_of, digits, decimal}
use Rattle.report_parts.specs.Parts.{printed, refused_line}
use Rattle.keys_report.specs.Lines.{bits_word, last_word, key_line, keys_report}

-- three keys, the second an RSA one with an empty comment
pub three :
    join (key_line 1 (OnCurve Ed25519) 0 kind.Plain 5 ∷ key_line 2 Rsa 3072 kind.Plain 0 ∷ key_line 3 (OnCurve (Ecdsa Nistp256)) 0 kind.Plain 12 ∷ [])
    ≡ printed ("1 ssh-ed25519 comment 5" ∷ "2 ssh-rsa bits 3072 comment 0" ∷ "3 ecdsa-sha2-nistp256 comment 12" ∷ [])
unfolding key_line bits_word last_word decimal digits digits_of
three = refl

-- the key of an encrypted image
pub sealed : key_line 1 Rsa 4096 kind.Encrypted 0 ≡ printed ("1 ssh-rsa bits 4096 encrypted" ∷ [])
unfolding key_line bits_word last_word decimal digits digits_of
sealed = refl

-- empty input
pub nothing : keys_report [] ≡ printed ("refused 1 0 0" ∷ [])
unfolding keys_report read_at header_at cipher_at magic_at bytes_at has_room refused_line decimal digits digits_of
nothing = refl

-- input above the limit
pub above : (s : List ℕ) → 65535 < length s → keys_report s ≡ printed ("refused 11 0 0" ∷ [])
unfolding keys_report read_at header_at cipher_at refused_line decimal digits digits_of
above s h = rw (lt-ltb 65535 (length s) h)
