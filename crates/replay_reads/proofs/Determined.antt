-- Any two replies that meet a public function's own contract and report no failed write are equal. What is put to the output is in no
-- contract.
use Rattle.std.specs.Prelude.{IsOk, Ok, Err}
use Rattle.std.specs.declared.io.traits.Write.{Ghosts}
use denote.Param.Laws.{Laws}
use denote.RattleType.{RattleType}
use mathlib.Core.Path.{refl}
use mir.Syntax.{Dict}
use Rattle.replay_telling.specs.Determined.{DeterminedIf}
use Rattle.replay_reads.proofs.say_read.Reads as say_read
use Rattle.replay_reads.proofs.say_read.Kinds as say_read_kinds
use Rattle.replay_reads.proofs.say_header_read.Reads as say_header_read
use Rattle.replay_reads.proofs.say_header_read.Kinds as say_header_read_kinds

pub say_read_determined :
    (W : RattleType) (L : Laws W) (G : Ghosts W.Denot) (d : Dict) →
    DeterminedIf 3 (say_read_kinds.ps W L) (say_read_kinds.r W L) (λ κs x. IsOk x) (say_read.Post W L G d)
say_read_determined W L G d κs a (Ok x) (Ok y) s₁ s₂ p q u v = refl
say_read_determined W L G d κs a (Ok x) (Err f) s₁ s₂ p q u v = cc
say_read_determined W L G d κs a (Err e) y s₁ s₂ p q u v = cc

pub say_header_read_determined :
    (W : RattleType) (L : Laws W) (G : Ghosts W.Denot) (d : Dict) →
    DeterminedIf 3 (say_header_read_kinds.ps W L) (say_header_read_kinds.r W L) (λ κs x. IsOk x) (say_header_read.Post W L G d)
say_header_read_determined W L G d κs a (Ok x) (Ok y) s₁ s₂ p q u v = refl
say_header_read_determined W L G d κs a (Ok x) (Err f) s₁ s₂ p q u v = cc
say_header_read_determined W L G d κs a (Err e) y s₁ s₂ p q u v = cc
