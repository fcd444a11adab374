-- The lines of a record's keys have at most 96 bytes each, and an accepted image has at most sixteen keys. Lines are put one after the other.
use Rattle.std.specs.Prelude.{ℕ, zero, suc, ◌+◌, ◌*◌, ◌-◌, ◌≤◌, ◌<◌, ◌^◌, ◌≡◌, refl, List, [], ◌∷◌, ◌++◌, length, Ok}
use Rattle.std.proofs.Common.{arith, ap, append-nil, length-append}
use Rattle.fields.specs.Bytes.{AllBytes, join}
use Rattle.names.specs.declared.Algorithm.{Algorithm}
use Rattle.names.specs.declared.Algorithm.TheVariants.{Elliptic as OnCurve, Rsa}
use Rattle.reader_header.specs.Place.{keys_most}
use Rattle.reader_header.specs.Read.{header-text}
use Rattle.reader_section.specs.declared.Kind.{Kind}
use Rattle.reader_section.specs.declared.Kind.TheVariants as kind
use Rattle.reader_image.specs.declared.Fields.{Fields}
use Rattle.reader_image.specs.Container.{read_at}
use Rattle.reader_image.specs.Read.{halves}
use Rattle.buffer.specs.Decimal.{decimal_short}
use Rattle.buffer.specs.Puts.{nothing_put}
use Rattle.buffer.specs.Runs.{start_as, run, finish_as}
use Rattle.report_parts.specs.Parts.{IsShort, algorithm_short}
use Rattle.keys_report.specs.Lines.{bits_word, last_word, key_line, line_of, lines_from}

bits_short : (a : Algorithm) (bits : ℕ) → bits < 2 ^ 64 → length (bits_word a bits) ≤ 26
unfolding bits_word
bits_short (OnCurve e) bits h = omega arith
bits_short Rsa bits h = simp length-append (omega (arith, decimal_short bits h))

last_short : (k : Kind) (comment : ℕ) → comment < 2 ^ 64 → length (last_word k comment) ≤ 29
unfolding last_word
last_short kind.Plain comment h = simp length-append (omega (arith, decimal_short comment h))
last_short kind.Encrypted comment h = omega arith

-- a line whose numbers fit 64 bits
pub line_short :
    (number : ℕ) (a : Algorithm) (bits : ℕ) (k : Kind) (comment : ℕ) → number < 2 ^ 64 → bits < 2 ^ 64 → comment < 2 ^ 64
    → length (key_line number a bits k comment) ≤ 96
unfolding key_line
line_short number a bits k comment h i j =
    simp length-append (omega (arith, decimal_short number h, algorithm_short a, bits_short a bits i, last_short k comment j))

-- an accepted image has no more than sixteen keys
pub few_keys : (s : List ℕ) → AllBytes s → (f : Fields) → read_at s ≡ Ok f → f.header.count ≤ 16
few_keys s all f e = keys_most f.header.cipher f.header.count (header-text s all f.header (halves s f e).0).allowed

-- of no keys nothing is put
pub lines_none :
    (s : List ℕ) (f : Fields) (k n : ℕ) → n ≡ 0 → (old : List ℕ) (at : ℕ) → IsShort (96 * n) old at (join (lines_from s f k n)) at old
lines_none s f k n e old at = rw e (omega arith, λ room. nothing_put old at)

-- one line more, and the others
pub lines_more :
    (s : List ℕ) (f : Fields) (k n : ℕ) → (n ≡ 0 → ⊥) → (old : List ℕ) (at p : ℕ) (mid : List ℕ) (r : ℕ) (out : List ℕ)
    → IsShort 96 old at (line_of s f k) p mid → IsShort (96 * (n - 1)) mid p (join (lines_from s f (k + 1) (n - 1))) r out
    → IsShort (96 * n) old at (join (lines_from s f k n)) r out
lines_more s f k zero h old at p mid r out line rest = absurd (h refl)
lines_more s f k (suc n) h old at p mid r out line rest =
    let less : suc n - 1 ≡ n = omega arith in
    let others = rw less at rest in
    let l = line_of s f k in
    let more = lines_from s f (k + 1) n in
    let e : join (l ∷ join more ∷ []) ≡ join (l ∷ more) = ap (λ (x : List ℕ). l ++ x) (append-nil (join more)) in (
      simp length-append (omega (arith, line.0, others.0)),
      λ room. finish_as (join (l ∷ more)) e (run (run (start_as (join (l ∷ more)) e room) line.1) others.1),
    )
