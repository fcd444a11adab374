-- What import answers and leaves, by what the judgement was.
use Rattle.std.specs.Prelude.{ℕ, ◌+◌, ◌<◌, ◌≤◌, ◌≡◌, refl, Bool, true, false, cond, List, ◌++◌, Ok, Some, None}
use Rattle.std.proofs.Common.{arith, ◌∙◌}
use borrow.Author.Tests.{le-leb, lt-leb}
use Rattle.std.proofs.Math.ListN.{length}
use Rattle.std.proofs.lemmas.List.Edits.{sets}
use Rattle.std.proofs.Math.Seq.{sets-eq}
use Rattle.fields.specs.declared.Refusal.TheVariants.{FormatEncoding, Size, Room}
use Rattle.buffer.specs.Puts.{splice}
use Rattle.writer_reply.specs.Reply.{refused, sized, Answers, answered}
use Rattle.armour_text.specs.Base64.{encode}
use Rattle.armour_text.specs.Text.{wrap, closing}
use Rattle.armour_text.specs.Import.{carried, carries, import_reply, import_left}
use Rattle.armour_judge.specs.Rest.{rest}
use Rattle.armour_judge.specs.Judgement.{judge_of, lines_carried}

-- the text carries n bytes, which stand in its lines
pub record Body (t : List ℕ) (n : ℕ) : Type 0 where
  pub taken : carries t ≡ true
  pub size : length (carried t) ≡ n
  pub lines : rest t 35 ≡ wrap (encode (carried t)) 0 ++ closing

-- by the judgement
pub judged_body : (t : List ℕ) (n : ℕ) → Some n ≡ judge_of t → Body t n
unfolding judge_of
judged_body t n = go (carries t) refl
  where
    go : (b : Bool) → carries t ≡ b → Some n ≡ cond b (Some (length (carried t))) None → Body t n
    go true e j = record { taken = e; size = cc; lines = lines_carried t e }
    go false e j = absurd (let z : ◌≡◌ {A = ℕ} 0 1 = cc in omega arith)

not_taken : (t : List ℕ) → None ≡ judge_of t → carries t ≡ false
unfolding judge_of
not_taken t = go (carries t)
  where
    go : (b : Bool) → None ≡ cond b (Some (length (carried t))) None → b ≡ false
    go true j = absurd (let z : ◌≡◌ {A = ℕ} 0 1 = cc in omega arith)
    go false j = refl

module _ (t old : List ℕ) where
  pub refused_text : None ≡ judge_of t → Answers (import_reply t (length old)) (import_left t old) (refused FormatEncoding) old
  unfolding import_reply import_left
  refused_text j = answered (refused FormatEncoding) _ old _ (rw (not_taken t j) (refl, refl))

  module _ (n : ℕ) (b : Body t n) where
    pub too_large : 65535 < n → Answers (import_reply t (length old)) (import_left t old) (refused Size) old
    unfolding import_reply import_left sized
    too_large h = answered (refused Size) _ old _ (rw (b.taken, b.size, lt-leb _ _ h) (refl, refl))

    pub no_room : n ≤ 65535 → length old < n → Answers (import_reply t (length old)) (import_left t old) (refused Room) old
    unfolding import_reply import_left sized
    no_room h k = answered (refused Room) _ old _ (rw (b.taken, b.size, le-leb _ _ h, lt-leb _ _ k) (refl, refl))

    pub done :
        n ≤ 65535 → n ≤ length old → (out : List ℕ) → out ≡ sets old 0 (carried t) → Answers (import_reply t (length old)) (import_left t old) (Ok n) out
    unfolding import_reply import_left sized splice
    done h k out e =
        let fit : 0 + length (carried t) ≤ length old = omega (arith, b.size) in
        answered (Ok n) _ out _ (rw (b.taken, b.size, le-leb _ _ h, le-leb _ _ k) (refl, e ∙ sets-eq (carried t) old 0 fit))
