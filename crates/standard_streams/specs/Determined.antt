-- What it is for a contract to fix the replies of some kind, as those that are no error: any two of them that meet it, for the same
-- arguments, are equal.
use Rattle.std.specs.Prelude.{ℕ, ◌≡◌, List}
use borrow.Fn.Kinds.{Dens, res_t, ended_of, ParamKind, ResultKind, Out}
use contract.Lifetimes.{Lfts}
use denote.Triple.Clauses.{AtExit}

abbrev pub DeterminedIf :
    (n : ℕ) (ps : List (ParamKind n)) (r : ResultKind n) → ((κs : Lfts n) → (res_t r κs).Denot → Type 0) → Out n ps r → Type 0
DeterminedIf n ps r P Post =
    (κs : Lfts n) (a : Dens κs ps) (r₁ r₂ : (res_t r κs).Denot) (s₁ s₂ : AtExit (ended_of n ps r) κs) → Post κs a r₁ s₁ → Post κs a r₂ s₂
    → P κs r₁ → P κs r₂ → r₁ ≡ r₂
