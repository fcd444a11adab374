-- docs/RULES.md, 13.4: the program `keys` prints a line for each key of an accepted image, in their order: number, algorithm, of RSA `bits` and how many its
-- modulus has, `comment` and its length in bytes; of an encrypted image `encrypted` for the comment. Of a refused image it prints the line of 13.2.
use Rattle.std.specs.Prelude.{ℕ, zero, suc, ◌+◌, ◌≤◌, List, [], ◌∷◌, length}
use Rattle.fields.specs.Bytes.{ascii, join}
use Rattle.fields.specs.Refusals.{number_of, count_of}
use Rattle.names.specs.declared.Algorithm.{Algorithm}
use Rattle.names.specs.declared.Algorithm.TheVariants.{Elliptic as OnCurve, Rsa}
use Rattle.names.specs.Algorithms.{algorithm_name}
use Rattle.reader_section.specs.declared.Kind.{Kind}
use Rattle.reader_image.specs.declared.Fields.{Fields}
use Rattle.reader_image.specs.Container.{on_read, read_at}
use Rattle.reader_image.specs.Form.{on_kind}
use Rattle.reader_keys.specs.Keys.{on_looked, key_numbered}
use Rattle.buffer.specs.Decimal.{decimal}
use Rattle.report_parts.specs.Parts.{line_feed, refused_line, IsHandedText}
use Rattle.writer_reply.specs.Reply.{Written}

-- only RSA has a modulus
unfoldable pub bits_word : Algorithm → ℕ → List ℕ
bits_word (OnCurve e) bits = []
bits_word Rsa bits = join (ascii " bits " ∷ decimal bits ∷ [])

-- the comment of an encrypted image isn't known
unfoldable pub last_word : Kind → ℕ → List ℕ
last_word kind comment = on_kind kind (join (ascii " comment " ∷ decimal comment ∷ [])) (ascii " encrypted")

unfoldable pub key_line : (number : ℕ) (algorithm : Algorithm) (bits : ℕ) (kind : Kind) (comment : ℕ) → List ℕ
key_line number algorithm bits kind comment =
    join (decimal number ∷ ascii " " ∷ algorithm_name algorithm ∷ bits_word algorithm bits ∷ last_word kind comment ∷ line_feed ∷ [])

-- the line of a record's key k; of a number that it doesn't have, none
unfoldable pub line_of : List ℕ → Fields → ℕ → List ℕ
line_of s f k =
    on_looked (key_numbered s f k) [] (λ key.
    key_line k key.algorithm key.public.bits f.section.kind key.comment.length)

-- the lines of n keys, from number k on
abbrev pub lines_from : List ℕ → Fields → ℕ → ℕ → List (List ℕ)
lines_from s f k zero = []
lines_from s f k (suc n) = line_of s f k ∷ lines_from s f (k + 1) n

unfoldable pub keys_report : List ℕ → List ℕ
keys_report s =
    on_read (read_at s)
    (λ g. refused_line (number_of g.why) (count_of g.why) g.at)
    (λ f. join (lines_from s f 1 f.header.count))

-- the promise: the lines are handed to the buffer, or 9 where it is shorter; 1,536 bytes are always enough
abbrev pub IsKeysReport : List ℕ → List ℕ → Written → List ℕ → Type 0
IsKeysReport s old r out = IsHandedText (keys_report s) old r out × (length (keys_report s) ≤ 1536)
