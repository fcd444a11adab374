-- docs/RULES.md, 13.2: of a refused image the line `refused`, with number, count and the byte at which the failing field began. 2.3: a text goes to
-- the start of a lent buffer, or is refused with 9 and changes nothing.
use Rattle.std.specs.Prelude.{ℕ, ◌≤◌, ◌<◌, ◌^◌, ◌≡◌, List, [], ◌∷◌, ◌++◌, length, take, replicate, Ok}
use Prim.Native.String.{String}
use Rattle.std.proofs.Common.{arith, ◌∙◌, length-append}
use Rattle.std.proofs.lemmas.List.{length-replicate}
use Rattle.fields.specs.Bytes.{ascii, join}
use Rattle.fields.specs.declared.Refusal.TheVariants.{Room}
use Rattle.names.specs.declared.Algorithm.{Algorithm}
use Rattle.names.specs.declared.Algorithm.TheVariants.{Elliptic as OnCurve, Rsa}
use Rattle.names.specs.declared.Elliptic.TheVariants.{Ed25519, Ecdsa}
use Rattle.names.specs.declared.Curve.TheVariants.{Nistp256, Nistp384, Nistp521}
use Rattle.names.specs.Algorithms.{algorithm_name}
use Rattle.buffer.specs.Decimal.{decimal, decimal_short}
use Rattle.buffer.specs.Puts.{fits, placed, begins}
use Rattle.buffer.specs.Runs.{IsRun}
use Rattle.writer_reply.specs.Reply.{unless, Answers, Written}

abbrev pub line_feed : List ℕ
line_feed = 10 ∷ []

-- lines as they are printed
abbrev pub printed : List String → List ℕ
printed [] = []
printed (text ∷ more) = ascii text ++ line_feed ++ printed more

unfoldable pub refused_line : (number count place : ℕ) → List ℕ
refused_line number count place = join (ascii "refused " ∷ decimal number ∷ ascii " " ∷ decimal count ∷ ascii " " ∷ decimal place ∷ line_feed ∷ [])

-- what handing a text to a buffer replies: its length, or 9 where the buffer is shorter
abbrev pub text_reply : List ℕ → List ℕ → Written
text_reply text old = unless (fits old 0 text) Room (Ok (length text))

-- the promise: that reply, and the text at the start of the buffer where it fits
abbrev pub IsHandedText : List ℕ → List ℕ → Written → List ℕ → Type 0
IsHandedText text old r out = Answers (text_reply text old) (placed old 0 text) r out

-- ---- what the code's helpers go by

-- a run of puts, of so many bytes at the most
abbrev pub IsShort : ℕ → List ℕ → ℕ → List ℕ → ℕ → List ℕ → Type 0
IsShort most old at new r out = (length new ≤ most) × IsRun old at new r out

-- a text of zeros with room for it then begins with what was put
pub spelled :
    (room : ℕ) (new : List ℕ) (n : ℕ) (text : List ℕ) → IsShort room (replicate room 0) 0 new n text
    → (n ≡ length new) × (take n text ≡ new) × (length text ≡ room)
spelled room new n text p =
    let empty : List ℕ = replicate room 0 in
    let long : length empty ≡ room = length-replicate room 0 in
    let k = begins empty new n text (omega (arith, p.0, long)) (p.1 (omega (arith, p.0, long))) in
    (k.0, k.1, k.2 ∙ long)

-- ---- how long a line is

-- a line whose numbers fit 64 bits
pub refused_short :
    (number count place : ℕ) → number < 2 ^ 64 → count < 2 ^ 64 → place < 2 ^ 64 → length (refused_line number count place) ≤ 71
unfolding refused_line
refused_short number count place h k l =
    simp length-append (omega (arith, decimal_short number h, decimal_short count k, decimal_short place l))

pub algorithm_short : (a : Algorithm) → length (algorithm_name a) ≤ 19
algorithm_short (OnCurve Ed25519) = omega arith
algorithm_short (OnCurve (Ecdsa Nistp256)) = omega arith
algorithm_short (OnCurve (Ecdsa Nistp384)) = omega arith
algorithm_short (OnCurve (Ecdsa Nistp521)) = omega arith
algorithm_short Rsa = omega arith
