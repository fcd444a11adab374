-- Whether a text is that of some bytes, and of how many: its lines, by what is left of them, and the whole text.
use Rattle.std.specs.Prelude.{Option, Some, None, ℕ, ◌+◌, ◌<◌, ◌≤◌, ◌≡◌, true, false, length, drop}
use Rattle.std.proofs.Common.{add-zero, ◌∙◌, drop_at}
use Rattle.std.proofs.Math.Path.{refl, sym, ap}
use Rattle.std.proofs.lemmas.Bool.{false≢true}
use mathlib.Core.List.{List, [], ◌∷◌, ◌++◌}
use Rattle.fields.specs.Bytes.{AllBytes}
use Rattle.armour_text.specs.Base64.{encode}
use Rattle.armour_text.specs.Text.{wrap, opening, closing, text}
use Rattle.armour_text.specs.Import.{strip}
use Rattle.armour_judge.specs.Rest.{rest}
use Rattle.armour_judge.specs.Signs.{stands, stands-rest, rest-stands, opens, opens_line, End, Groups, some_four, four, after}
use Rattle.armour_groups.specs.Kinds.{kind_of}
use Rattle.armour_judge.specs.Sized.{Sized, NoBytes, after_less, sized_end, none_group, none_kind, none_last, sized_last, Through, through_more}

-- where four signs end
pub group_past : (t : List ℕ) (p k w x y z q j : ℕ) → k < 70 → Groups t p k (some_four w x y z q j) → (p + 4 ≤ q) × (q ≤ length t) × (j < 70)
unfolding Groups
group_past t p k w x y z q j l h = (h.2, h.3, rw h.1 (after_less k l))

-- ---- the judgement of the lines, which begin with the end of the line that opens the text

unfoldable pub Bodies : List ℕ → Option ℕ → Type 0
Bodies t (Some n) = Sized (rest t 35) 0 n
Bodies t None = NoBytes (rest t 35) 0

module _ (t : List ℕ) (p k n : ℕ) (l : k < 70) (v : Through (rest t 35) 0 n (rest t p) k) where
  pub body_end : End t p true → Bodies t (Some n)
  unfolding End Bodies
  body_end e = rw (add-zero n) at (v.to 0 (sized_end (rest t p) k l e))

  module _ (f : End t p false) where
    pub body_none : Groups t p k None → Bodies t None
    unfolding End Bodies Groups
    body_none h = v.back (none_group (rest t p) k l f h)

    module _ (w x y z q j : ℕ) (h : Groups t p k (some_four w x y z q j)) where
      begins : rest t p ≡ four k w x y z (rest t q)
      unfolding Groups
      begins = h.0

      columns : j ≡ after k
      unfolding Groups
      columns = h.1

      pub body_kind : kind_of w x y z ≡ 0 → Bodies t None
      unfolding End Bodies
      body_kind g = v.back (none_kind (rest t p) k l f w x y z (rest t q) begins g)

      pub body_last : 0 < kind_of w x y z → End t q true → Bodies t (Some (n + kind_of w x y z))
      unfolding End Bodies
      body_last g e = v.to (kind_of w x y z) (sized_last (rest t p) k l w x y z (rest t q) begins g e)

      pub body_not_last : kind_of w x y z < 3 → End t q false → Bodies t None
      unfolding End Bodies
      body_not_last g e = v.back (none_last (rest t p) k l f w x y z (rest t q) begins g e)

      pub body_more : kind_of w x y z ≡ 3 → Through (rest t 35) 0 (n + 3) (rest t q) j
      unfolding End
      body_more g = rw columns (through_more l w x y z (rest t q) v f begins g)

-- ---- the whole text

-- the text is that of n bytes
pub record Whole (t : List ℕ) (n : ℕ) : Type 0 where
  pub bytes : List ℕ
  pub are : AllBytes bytes
  pub whole : strip t ≡ text bytes
  pub size : length bytes ≡ n

unfoldable pub Judges : List ℕ → Option ℕ → Type 0
Judges t (Some n) = Whole t n
Judges t None = (b : List ℕ) → AllBytes b → strip t ≡ text b → ⊥

pub wrap_opened : (s : List ℕ) → wrap s 0 ≡ 10 ∷ wrap s 70
unfolding wrap
wrap_opened [] = refl
wrap_opened (x ∷ s) = refl

pub text_lines : (b : List ℕ) → text b ≡ opens ++ (wrap (encode b) 0 ++ closing)
unfolding text opening opens
text_lines b = rw (wrap_opened (encode b))

pub judge_not_opened : (t : List ℕ) → stands t 0 opens ≡ false → Judges t None
unfolding Judges
judge_not_opened t s b a e = false≢true (sym s ∙ rest-stands t 0 opens opens_line.0 _ (e ∙ text_lines b))

module _ (t : List ℕ) (s : stands t 0 opens ≡ true) where
  pub opened : strip t ≡ opens ++ rest t 35
  opened = rw opens_line.1 at (stands-rest t 0 opens opens_line.0 s)

  pub lines_of : (b : List ℕ) → strip t ≡ text b → rest t 35 ≡ wrap (encode b) 0 ++ closing
  lines_of b e = sym (drop_at opens _ 35 opens_line.1) ∙ ap (drop 35) (sym opened ∙ e ∙ text_lines b) ∙ drop_at opens _ 35 opens_line.1

  pub judge_opened : (r : Option ℕ) → Bodies t r → Judges t r
  unfolding Bodies Judges
  judge_opened (Some n) z =
      record { bytes = z.bytes; are = z.are; whole = opened ∙ ap (λ (l : List ℕ). opens ++ l) z.lines ∙ sym (text_lines z.bytes); size = z.size }
  judge_opened None f = λ b a e. f (length b) (record { bytes = b; are = a; lines = lines_of b e; size = refl })
