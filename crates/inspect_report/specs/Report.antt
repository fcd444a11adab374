-- docs/RULES.md, 13: the program reads standard input and prints no private byte. What it prints of an image is its summary in lines; what
-- the summary holds is its kind, its names, its lengths and its form, or the refusal. Of RSA the modulus's size is a line `bits N` after
-- `algorithm`; of a refusal the byte at which the failing field began is the third number.
use Rattle.std.specs.Prelude.{ℕ, ◌≤◌, Bool, true, false, List, [], ◌∷◌, ◌++◌, length}
use Rattle.fields.specs.Bytes.{ascii, join}
use Rattle.fields.specs.Refusals.{number_of, count_of}
use Rattle.fields.specs.declared.Fault.{Fault}
use Rattle.names.specs.declared.Algorithm.{Algorithm}
use Rattle.names.specs.declared.Algorithm.TheVariants.{Elliptic as OnCurve, Rsa}
use Rattle.names.specs.declared.Cipher.{Cipher}
use Rattle.names.specs.declared.Kdf.{Kdf}
use Rattle.names.specs.Algorithms.{algorithm_name}
use Rattle.names.specs.Ciphers.{cipher_name, kdf_name}
use Rattle.reader_header.specs.declared.Header.{Header}
use Rattle.reader_section.specs.declared.Section.{Section}
use Rattle.reader_image.specs.Container.{on_read, read_at}
use Rattle.reader_image.specs.Form.{on_kind, form_of}
use Rattle.buffer.specs.Decimal.{decimal}
use Rattle.buffer.specs.Puts.{placed}
use Rattle.report_parts.specs.Parts.{line_feed, refused_line, text_reply, IsShort}
use Rattle.writer_reply.specs.Reply.{Answers, Written}

-- Comment, padding, ciphertext, tag and image are lengths in bytes; bits are RSA's modulus's. `form` says whether the image is in the writer's form.
pub data Summary : Type 0 where
  Plain : (algorithm : Algorithm) (bits : ℕ) (cipher : Cipher) (kdf : Kdf) (comment padding image : ℕ) (form : Bool) → Summary
  Encrypted : (algorithm : Algorithm) (bits : ℕ) (cipher : Cipher) (kdf : Kdf) (ciphertext tag image : ℕ) → Summary
  Refused : (number count at : ℕ) → Summary

-- the summary of an accepted image: its record, its length and its form
unfoldable pub accepted : Header → Section → ℕ → Bool → Summary
accepted h x image form =
    on_kind x.kind
    (Plain h.algorithm h.public.bits h.cipher h.kdf x.comment.length x.padding image form)
    (Encrypted h.algorithm h.public.bits h.cipher h.kdf x.ciphertext.length x.tag.length image)

-- the summary of a refused one
abbrev pub refused_as : Fault → Summary
refused_as f = Refused (number_of f.why) (count_of f.why) f.at

unfoldable pub summary_of : List ℕ → Summary
summary_of s = on_read (read_at s) refused_as (λ f. accepted f.header f.section (length s) (form_of s f))

-- a label, a value, a line feed
unfoldable pub line : List ℕ → List ℕ → List ℕ
line label value = join (label ∷ value ∷ line_feed ∷ [])

-- only RSA has a modulus
unfoldable pub bits_line : Algorithm → ℕ → List ℕ
bits_line (OnCurve e) bits = []
bits_line Rsa bits = line (ascii "bits ") (decimal bits)

-- the lines after the kind, of every accepted image
unfoldable pub names : Algorithm → ℕ → Cipher → Kdf → List (List ℕ)
names algorithm bits cipher kdf =
    line (ascii "algorithm ") (algorithm_name algorithm)
    ∷ bits_line algorithm bits
    ∷ line (ascii "cipher ") (cipher_name cipher)
    ∷ line (ascii "kdf ") (kdf_name kdf)
    ∷ []

abbrev pub form_name : Bool → List ℕ
form_name true = ascii "yes"
form_name false = ascii "no"

unfoldable pub lines : Summary → List ℕ
lines (Plain algorithm bits cipher kdf comment padding image form) =
    join
    (line (ascii "kind ") (ascii "plain")
    ∷ names algorithm bits cipher kdf
    ++ (line (ascii "comment ") (decimal comment)
    ∷ line (ascii "padding ") (decimal padding)
    ∷ line (ascii "image ") (decimal image)
    ∷ line (ascii "form ") (form_name form)
    ∷ []))
lines (Encrypted algorithm bits cipher kdf ciphertext tag image) =
    join
    (line (ascii "kind ") (ascii "encrypted")
    ∷ names algorithm bits cipher kdf
    ++ (line (ascii "ciphertext ") (decimal ciphertext)
    ∷ line (ascii "tag ") (decimal tag)
    ∷ line (ascii "image ") (decimal image)
    ∷ []))
lines (Refused number count at) = refused_line number count at

unfoldable pub report_of : List ℕ → List ℕ
report_of s = lines (summary_of s)

-- what writing it to the start of a buffer replies: its length, or 9 where the buffer is shorter
unfoldable pub report_reply : List ℕ → List ℕ → Written
report_reply s old = text_reply (report_of s) old

-- the promise of a report: that reply, and the lines at the start of the buffer where they fit; 256 bytes are always enough
abbrev pub IsReport : List ℕ → List ℕ → Written → List ℕ → Type 0
IsReport s old r out = Answers (report_reply s old) (placed old 0 (report_of s)) r out × (length (report_of s) ≤ 256)

-- ---- what the code's helpers go by

-- what putting a summary's lines at the start of a text answers, r, and leaves, out, where there is room. 256 bytes are enough.
abbrev pub IsText : List ℕ → Summary → ℕ → List ℕ → Type 0
IsText old x r out = IsShort 256 old 0 (lines x) r out
