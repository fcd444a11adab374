-- docs/RULES.md, 14.3: import takes LF or CR LF line ends, and only the spelling that export gives otherwise. Refusals: anything else in
-- the text is 2, then bytes above the limit 11, then room 9. All of the text is judged before 11.
--
-- That a text is taken exactly if it is export's of some bytes with some of its line feeds made CR LF is `takes` and `takes_only` (Exactly).
use Rattle.std.specs.Prelude.{ℕ, Bool, false, cond, ◌&&◌, List, [], ◌∷◌, eqb, length, drop}
use Rattle.fields.specs.Bytes.{same_bytes}
use Rattle.fields.specs.declared.Refusal.TheVariants.{FormatEncoding}
use Rattle.writer_reply.specs.Reply.{refused, sized, left, Written}
use Rattle.armour_text.specs.Base64.{loosely}
use Rattle.armour_text.specs.Text.{text}

-- whether a line feed comes next
abbrev pub feeds : List ℕ → Bool
feeds [] = false
feeds (y ∷ t) = eqb y 10

-- without the carriage returns that stand before a line feed
unfoldable pub strip : List ℕ → List ℕ
strip [] = []
strip (x ∷ t) = cond (eqb x 13 && feeds t) (strip t) (x ∷ strip t)

-- the signs up to the first `-`
unfoldable pub unwrap : List ℕ → List ℕ
unwrap [] = []
unwrap (x ∷ t) = cond (eqb x 10) (unwrap t) (cond (eqb x 45) [] (x ∷ unwrap t))

-- the bytes that the text carries, if it is that of some list of bytes: those of the signs after the line that opens it, whose length is 36
unfoldable pub carried : List ℕ → List ℕ
carried t = loosely (unwrap (drop 36 (strip t)))

-- whether it does: these bytes give the text again
unfoldable pub carries : List ℕ → Bool
carries t = same_bytes (text (carried t)) (strip t)

-- what import answers, and what it leaves in the lent buffer
unfoldable pub import_reply : List ℕ → ℕ → Written
import_reply t room = cond (carries t) (sized (carried t) room) (refused FormatEncoding)

unfoldable pub import_left : List ℕ → List ℕ → List ℕ
import_left t old = left (import_reply t (length old)) (carried t) old
