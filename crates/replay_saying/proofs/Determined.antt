-- Any two replies that meet a public function's own contract and report no failed write are equal. What is put to the output is in no
-- contract.
use Rattle.std.specs.Prelude.{IsOk, Ok, Err}
use Rattle.std.specs.declared.io.traits.Write.{Ghosts}
use denote.Param.Laws.{Laws}
use denote.RattleType.{RattleType}
use mathlib.Core.Path.{refl}
use mir.Syntax.{Dict}
use Rattle.replay_telling.specs.Determined.{DeterminedIf}
use Rattle.replay_saying.proofs.say_record.Reads as say_record
use Rattle.replay_saying.proofs.say_record.Kinds as say_record_kinds

pub say_record_determined :
    (W : RattleType) (L : Laws W) (G : Ghosts W.Denot) (d : Dict) →
    DeterminedIf 3 (say_record_kinds.ps W L) (say_record_kinds.r W L) (λ κs x. IsOk x) (say_record.Post W L G d)
say_record_determined W L G d κs a (Ok x) (Ok y) s₁ s₂ p q u v = refl
say_record_determined W L G d κs a (Ok x) (Err f) s₁ s₂ p q u v = cc
say_record_determined W L G d κs a (Err e) y s₁ s₂ p q u v = cc
