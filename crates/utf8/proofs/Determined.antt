-- Any two answers that meet the contract of a public function, as it stands at the function, are equal.
-- Rests on the contract being an equation.
use Prim.Native.Nat.{ℕ}
use mathlib.Core.Path.{◌≡◌}
use mathlib.Core.List.{List}
use contract.Lifetimes.{Lfts}
use borrow.Fn.Kinds.{Dens, res_t, ended_of, ParamKind, ResultKind, Out}
use denote.Triple.Clauses.{AtExit}
use Rattle.utf8.proofs.is_utf8.Reads as is-utf8
use Rattle.utf8.proofs.is_utf8.Kinds as is_utf8_kinds

abbrev Determined : (n : ℕ) (ps : List (ParamKind n)) (r : ResultKind n) → Out n ps r → Type 0
Determined n ps r Post =
    (κs : Lfts n) (a : Dens κs ps) (r₁ r₂ : (res_t r κs).Denot) (s₁ s₂ : AtExit (ended_of n ps r) κs) →
    Post κs a r₁ s₁ → Post κs a r₂ s₂ → r₁ ≡ r₂

pub is_utf8_determined : Determined 1 is_utf8_kinds.ps is_utf8_kinds.r is-utf8.Post
is_utf8_determined κs a r₁ r₂ s₁ s₂ p q = cc
