-- docs/RULES.md, 10.2 and 10.9: the scalar that a caller hands in has SIZE bytes; a record's has no leading zeros, and is filled with zeros
-- in front.
use Rattle.std.specs.Prelude.{ℕ, ◌≡◌, refl, Bool, true, false, List}
use Rattle.names.specs.declared.Elliptic.{Elliptic}
use Rattle.format.specs.Format.{scalar_filled, not_zero}
use Rattle.format.specs.Scalars.{filled_zero}

-- a scalar as it is taken: filled, or as it is
abbrev pub scalar_taken : Bool → Elliptic → List ℕ → List ℕ
scalar_taken true e x = scalar_filled e x
scalar_taken false e x = x

-- zeros in front don't make it another number
pub taken_zero : (filling : Bool) (e : Elliptic) (x : List ℕ) → not_zero e (scalar_taken filling e x) ≡ not_zero e x
taken_zero true e x = filled_zero e x
taken_zero false e x = refl
