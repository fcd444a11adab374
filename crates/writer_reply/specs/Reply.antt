-- docs/RULES.md, 2.2, 2.3 and 10.8: what a writer answers, and what it leaves in the lent buffer.
use Rattle.std.specs.Prelude.{ℕ, ◌≡◌, Bool, true, false, List, leb, length, Ok, Err}
use Rattle.std.proofs.Common.{ap, Result}
use Rattle.fields.specs.Fields.{fault}
use Rattle.fields.specs.Refusals.{number_of, count_of}
use Rattle.fields.specs.declared.Fault.{Fault}
use Rattle.fields.specs.declared.Refusal.{Refusal}
use Rattle.fields.specs.declared.Refusal.TheVariants.{Room, Size}
use Rattle.buffer.specs.Puts.{splice}

-- a length, or the refusal
abbrev pub Written : Type 0
Written = Result ℕ Fault

-- by what was answered
abbrev pub on_written : {R : Type 0} → Written → (Fault → R) → (ℕ → R) → R
on_written (Err f) refused accepted = refused f
on_written (Ok n) refused accepted = accepted n

-- the rules' reply: number, count, the place at which the failing field began, and the written length
pub record Told : Type 0 where
  pub number : ℕ
  pub count : ℕ
  pub at : ℕ
  pub length : ℕ

-- of each case of a writer's answer
unfoldable pub told : Written → Told
told w =
    on_written w
    (λ f. record { number = number_of f.why; count = count_of f.why; at = f.at; length = 0 })
    (λ n. record { number = 0; count = 0; at = 0; length = n })

-- every refusal of a writer is at 0
abbrev pub refused : Refusal → Written
refused why = Err (fault why 0)

-- what comes next where a condition holds, else the refusal
abbrev pub unless : Bool → Refusal → Written → Written
unless true why next = next
unless false why next = refused why

-- refused, the buffer keeps every byte; else the image stands at its start, and the bytes past it stay
abbrev pub left : Written → List ℕ → List ℕ → List ℕ
left (Err f) image old = old
left (Ok n) image old = splice old 0 image

-- size 11; room 9; by the image's length
abbrev pub sized_by : ℕ → ℕ → Written
sized_by size room =
    unless (leb size 65535) Size
    (unless (leb size room) Room
    (Ok size))

unfoldable pub sized : List ℕ → ℕ → Written
sized image room = sized_by (length image) room

-- the promise of every writer: it answers w, which is this in the rules' numbers, and leaves this in the buffer
abbrev pub Answers : Written → List ℕ → Written → List ℕ → Type 0
Answers w after r out = (r ≡ w) × (out ≡ after) × (told r ≡ told w)

-- the contract of a write whose parts were checked: it answers r and leaves out
abbrev pub IsSized : List ℕ → List ℕ → Written → List ℕ → Type 0
IsSized image old r out = (r ≡ sized image (length old)) × (out ≡ left (sized image (length old)) image old)

-- an answer and what is left are all that a promise says
pub answered : (r w : Written) (out after : List ℕ) → (r ≡ w) × (out ≡ after) → Answers w after r out
answered r w out after p = (p.0, p.1, ap told p.0)
