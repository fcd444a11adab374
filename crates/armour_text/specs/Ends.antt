-- The lines of a text: the signs between their ends, and the ends, LF or CR LF.
use Rattle.std.specs.Prelude.{ℕ, ◌<◌, ◌≡◌, Bool, true, false, cond, List, [], ◌∷◌, eqb}

-- ---- signs, `=` among them, are neither ends of lines nor `-`

abbrev pub Within : List ℕ → Type 0
Within [] = Unit {0}
Within (x ∷ s) = (42 < x) × (x ≡ 45 → ⊥) × Within s

-- ---- line ends

-- t is s with some of its line feeds made CR LF
pub data CrLf : List ℕ → List ℕ → Type 0 where
  none : CrLf [] []
  same : (x : ℕ) (s t : List ℕ) → CrLf s t → CrLf (x ∷ s) (x ∷ t)
  crlf : (s t : List ℕ) → CrLf s t → CrLf (10 ∷ s) (13 ∷ 10 ∷ t)

-- whether there is no carriage return
abbrev pub has_no_return : List ℕ → Bool
has_no_return [] = true
has_no_return (x ∷ s) = cond (eqb x 13) false (has_no_return s)
