-- Any two replies that meet a public function's own contract are equal; of a view, that it is the same part of the caller's memory.
-- Rests on the contracts being equations.
use mathlib.Core.Path.{◌≡◌}
use contract.Lifetimes.{Lfts}
use borrow.Fn.Kinds.{Dens, res_t, ended_of}
use denote.Triple.Clauses.{AtExit}
use Rattle.fields.specs.Determined.{Determined}
use Rattle.writer_table.proofs.part_at.Reads as part_at
use Rattle.writer_table.proofs.part_at.Kinds as part_at_kinds
use Rattle.writer_table.proofs.algorithm_at.Reads as algorithm-at
use Rattle.writer_table.proofs.algorithm_at.Kinds as algorithm_at_kinds
use Rattle.writer_table.proofs.check.Reads as check
use Rattle.writer_table.proofs.check.Kinds as check_kinds

pub part_at_determined :
    (κs : Lfts 2) (a : Dens κs part_at_kinds.ps) (r₁ r₂ : (res_t part_at_kinds.r κs).Denot) (s₁ s₂ : AtExit (ended_of 2 part_at_kinds.ps part_at_kinds.r) κs)
    → part_at.Post κs a r₁ s₁ → part_at.Post κs a r₂ s₂ → (r₁.now ≡ r₂.now) × (r₁.ref_ptr.0 ≡ r₂.ref_ptr.0) × (r₁.ref_ptr.1 ≡ r₂.ref_ptr.1)
part_at_determined κs a r₁ r₂ s₁ s₂ p q = (cc, cc, cc)

pub algorithm_at_determined : Determined 1 algorithm_at_kinds.ps algorithm_at_kinds.r algorithm-at.Post
algorithm_at_determined κs a r₁ r₂ s₁ s₂ p q = cc

pub check_determined : Determined 2 check_kinds.ps check_kinds.r check.Post
check_determined κs a r₁ r₂ s₁ s₂ p q = cc
