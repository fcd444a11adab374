-- docs/RULES.md, 15.1 and 15.2: what a writer answered, in plain numbers: the refusal, or 0 0 0 and the length. A code that names nothing is 4,
-- before all else.
use Rattle.std.specs.Prelude.{ℕ, ◌≡◌, List}
use Rattle.std.proofs.Common.{◌∙◌, ap}
use Rattle.fields.specs.declared.Refusal.TheVariants.{AlgorithmUnknown}
use Rattle.writer_reply.specs.Reply.{refused, Answers, told, Written}
use Rattle.c_reply.specs.declared.Reply.{Reply}

unfoldable pub reply_of : Written → Reply
reply_of w = record { number = (told w).number; count = (told w).count; at = (told w).at; length = (told w).length }

-- the promise of a writer for C: it answers w in numbers, and leaves this in the buffer
abbrev pub AnswersC : Written → List ℕ → Reply → List ℕ → Type 0
AnswersC w after r out = (r ≡ reply_of w) × (out ≡ after)

abbrev pub names_nothing : Written
names_nothing = refused AlgorithmUnknown

-- ---- laws

-- what a writer answers is handed on
pub handed_on : (v w : Written) (after out : List ℕ) (r : Reply) → r ≡ reply_of v → Answers w after v out → AnswersC w after r out
handed_on v w after out r e p = (e ∙ ap reply_of p.0, p.1)
