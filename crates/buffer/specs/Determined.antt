-- What it is for a contract to fix the reply and a lent buffer: any two replies that meet it, for the same arguments, are equal, and
-- so is what they leave in the buffer.
use Rattle.std.specs.Prelude.{ℕ, ◌≡◌, List}
use contract.Lifetimes.{Lfts}
use borrow.Fn.Kinds.{Dens, res_t, ended_of, ParamKind, ResultKind, Out}
use denote.Triple.Clauses.{AtExit}

-- `left` is what a buffer holds as the function returns
abbrev pub DeterminedBuffer :
    (n : ℕ) (ps : List (ParamKind n)) (r : ResultKind n) → Out n ps r → ((κs : Lfts n) → AtExit (ended_of n ps r) κs → List ℕ) → Type 0
DeterminedBuffer n ps r Post left =
    (κs : Lfts n) (a : Dens κs ps) (r₁ r₂ : (res_t r κs).Denot) (s₁ s₂ : AtExit (ended_of n ps r) κs)
    → Post κs a r₁ s₁ → Post κs a r₂ s₂ → (r₁ ≡ r₂) × (left κs s₁ ≡ left κs s₂)
