-- Any two replies that meet a public function's own contract are equal.
-- Rests on the contracts being equations.
use Rattle.fields.specs.Determined.{Determined}
use Rattle.armour_judge.proofs.judge.Reads as judge
use Rattle.armour_judge.proofs.judge.Kinds as judge_kinds

pub judge_determined : Determined 1 judge_kinds.ps judge_kinds.r judge.Post
judge_determined κs a r₁ r₂ s₁ s₂ p q = cc
