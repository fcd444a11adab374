-- A report whose numbers fit 64 bits has at most 256 bytes, so that a lent buffer of 256 bytes is always enough.
use Rattle.std.specs.Prelude.{ℕ, ◌+◌, ◌≤◌, ◌<◌, ◌^◌, ◌≡◌, Bool, true, false, List, length}
use Rattle.std.proofs.Common.{arith, length-append}
use Rattle.fields.specs.Bytes.{join}
use Rattle.names.specs.declared.Algorithm.{Algorithm}
use Rattle.names.specs.declared.Algorithm.TheVariants.{Elliptic as OnCurve, Rsa}
use Rattle.names.specs.declared.Cipher.{Cipher}
use Rattle.names.specs.declared.Kdf.{Kdf}
use Rattle.names.specs.Ciphers.{row}
use Rattle.buffer.specs.Decimal.{decimal_short}
use Rattle.buffer.specs.Runs.{join-append}
use Rattle.names_spelling.specs.Spelling.{kdf_length}
use Rattle.report_parts.specs.Parts.{refused_short, algorithm_short}
use Rattle.inspect_report.specs.Report.{Summary, Plain, Encrypted, Refused, line, bits_line, names, form_name, lines}

line-length : (label value : List ℕ) → length (line label value) ≡ length label + length value + 1
unfolding line
line-length label value = simp length-append (omega arith)

bits_short : (a : Algorithm) (bits : ℕ) → bits < 2 ^ 64 → length (bits_line a bits) ≤ 26
unfolding bits_line
bits_short (OnCurve e) bits h = omega arith
bits_short Rsa bits h = simp line-length (omega (arith, decimal_short bits h))

form_short : (b : Bool) → length (form_name b) ≤ 3
form_short true = omega arith
form_short false = omega arith

names_short : (a : Algorithm) (bits : ℕ) (c : Cipher) (k : Kdf) → bits < 2 ^ 64 → length (join (names a bits c k)) ≤ 97
unfolding names
names_short a bits c k h = simp (length-append, line-length) (omega (arith, algorithm_short a, bits_short a bits h, (row c).short, kdf_length k))

-- each number of a summary fits 64 bits
abbrev pub Fits : Summary → Type 0
Fits (Plain a bits c k comment padding image form) = (bits < 2 ^ 64) × (comment < 2 ^ 64) × (padding < 2 ^ 64) × (image < 2 ^ 64)
Fits (Encrypted a bits c k ciphertext tag image) = (bits < 2 ^ 64) × (ciphertext < 2 ^ 64) × (tag < 2 ^ 64) × (image < 2 ^ 64)
Fits (Refused number count at) = (number < 2 ^ 64) × (count < 2 ^ 64) × (at < 2 ^ 64)

pub lines_short : (x : Summary) → Fits x → length (lines x) ≤ 256
unfolding lines
lines_short (Plain a bits c k comment padding image form) h =
    simp (length-append, line-length, join-append)
    (omega (arith, names_short a bits c k h.0, decimal_short comment h.1, decimal_short padding h.2, decimal_short image h.3, form_short form))
lines_short (Encrypted a bits c k ciphertext tag image) h =
    simp (length-append, line-length, join-append)
    (omega (arith, names_short a bits c k h.0, decimal_short ciphertext h.1, decimal_short tag h.2, decimal_short image h.3))
lines_short (Refused number count at) h = omega (arith, refused_short number count at h.0 h.1 h.2)
