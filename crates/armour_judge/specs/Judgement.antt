-- The judgement of a text: how many bytes it carries, if it is that of some list of bytes.
use Rattle.std.specs.Prelude.{Option, Some, None, ℕ, ◌≡◌, refl, Bool, true, false, cond, List, ◌++◌, length}
use Rattle.std.proofs.Common.{sym, ap, ◌∙◌}
use Rattle.armour_text.specs.Base64.{encode}
use Rattle.armour_text.specs.Text.{wrap, closing}
use Rattle.armour_text.specs.Import.{carried, carries}
use Rattle.armour_text.proofs.Exactly.{carried_of, carries_of, carried_bytes, carries_only}
use Rattle.armour_judge.specs.Rest.{rest}
use Rattle.armour_judge.specs.Signs.{opens, opens_line, rest-stands}
use Rattle.armour_judge.specs.Judge.{Judges, lines_of, text_lines}

unfoldable pub judge_of : List ℕ → Option ℕ
judge_of t = cond (carries t) (Some (length (carried t))) None

not_taken : (t : List ℕ) → Judges t None → carries t ≡ false
unfolding Judges
not_taken t f = go (carries t) refl
  where
    go : (b : Bool) → carries t ≡ b → b ≡ false
    go true e = absurd (f (carried t) (carried_bytes t) (sym (carries_only t e)))
    go false e = refl

-- what was found of a text is its judgement
pub judged : (t : List ℕ) (r : Option ℕ) → Judges t r → r ≡ judge_of t
unfolding judge_of Judges
judged t (Some n) j =
    let c = carried_of t j.bytes j.are j.whole in
    rw (carries_of t j.bytes j.are j.whole, c) (ap Some (sym j.size))
judged t None j = rw (not_taken t j)

-- the lines of a text that carries some bytes
pub lines_carried : (t : List ℕ) → carries t ≡ true → rest t 35 ≡ wrap (encode (carried t)) 0 ++ closing
lines_carried t e =
    let w = sym (carries_only t e) in
    lines_of t (rest-stands t 0 opens opens_line.0 _ (w ∙ text_lines (carried t))) (carried t) w
