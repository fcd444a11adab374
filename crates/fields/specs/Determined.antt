-- What it is for a contract to fix the reply: any two replies that meet it, for the same arguments, are equal.
use Rattle.std.specs.Prelude.{ℕ, ◌≡◌, List}
use Rattle.std.specs.Int.{w8}
use contract.Lifetimes.{Lfts}
use borrow.Table.Referent.{rt_f, f_int}
use borrow.Kind.ShrSlice.{r_shr_s}
use borrow.Fn.Kinds.{Dens, res_t, ended_of, ParamKind, ResultKind, Out}
use denote.Triple.Clauses.{AtExit}

abbrev pub Determined : (n : ℕ) (ps : List (ParamKind n)) (r : ResultKind n) → Out n ps r → Type 0
Determined n ps r Post =
    (κs : Lfts n) (a : Dens κs ps) (r₁ r₂ : (res_t r κs).Denot) (s₁ s₂ : AtExit (ended_of n ps r) κs) → Post κs a r₁ s₁ → Post κs a r₂ s₂ → r₁ ≡ r₂

-- the result of a view, bytes that are lent on
abbrev pub a_view : ResultKind 1
a_view = r_shr_s (rt_f (f_int w8)) 0 tt

-- of a view: the same bytes, at the same place in memory
abbrev pub DeterminedView : (ps : List (ParamKind 1)) → Out 1 ps a_view → Type 0
DeterminedView ps Post =
    (κs : Lfts 1) (a : Dens κs ps) (r₁ r₂ : (res_t a_view κs).Denot) (s₁ s₂ : AtExit (ended_of 1 ps a_view) κs) → Post κs a r₁ s₁ → Post κs a r₂ s₂
    → (r₁.now ≡ r₂.now) × (r₁.ref_ptr.0 ≡ r₂.ref_ptr.0) × (r₁.ref_ptr.1 ≡ r₂.ref_ptr.1)
