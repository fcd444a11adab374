-- Any two replies that meet a public function's own contract and report no failed write are equal: these functions answer nothing
-- else, and what they put to standard output and standard error is in no contract.
use Rattle.std.specs.Prelude.{IsOk, Ok, Err}
use Rattle.std.specs.declared.io.traits.Write.{Ghosts}
use denote.Param.Laws.{Laws}
use denote.RattleType.{RattleType}
use mathlib.Core.Path.{refl}
use mir.Syntax.{Dict}
use Rattle.standard_streams.specs.Determined.{DeterminedIf}
use Rattle.standard_streams.proofs.tell_unread.Reads as tell_unread
use Rattle.standard_streams.proofs.tell_unread.Kinds as tell_unread_kinds
use Rattle.standard_streams.proofs.tell_refused.Reads as tell_refused
use Rattle.standard_streams.proofs.tell_refused.Kinds as tell_refused_kinds
use Rattle.standard_streams.proofs.hand_out.Reads as hand_out
use Rattle.standard_streams.proofs.hand_out.Kinds as hand_out_kinds

pub tell_refused_determined :
    (E : RattleType) (L : Laws E) (W : Ghosts E.Denot) (d : Dict) →
    DeterminedIf 2 (tell_refused_kinds.ps E L) (tell_refused_kinds.r E L) (λ κs x. IsOk x) (tell_refused.Post E L W d)
tell_refused_determined E L W d κs a (Ok x) (Ok y) s₁ s₂ p q u v = refl
tell_refused_determined E L W d κs a (Ok x) (Err f) s₁ s₂ p q u v = cc
tell_refused_determined E L W d κs a (Err e) y s₁ s₂ p q u v = cc

pub tell_unread_determined :
    (E : RattleType) (L : Laws E) (W : Ghosts E.Denot) (d : Dict) →
    DeterminedIf 3 (tell_unread_kinds.ps E L) (tell_unread_kinds.r E L) (λ κs x. IsOk x) (tell_unread.Post E L W d)
tell_unread_determined E L W d κs a (Ok x) (Ok y) s₁ s₂ p q u v = refl
tell_unread_determined E L W d κs a (Ok x) (Err f) s₁ s₂ p q u v = cc
tell_unread_determined E L W d κs a (Err e) y s₁ s₂ p q u v = cc

pub hand_out_determined :
    (O E : RattleType) (K : Laws O) (L : Laws E) (V : Ghosts O.Denot) (W : Ghosts E.Denot) (c d : Dict) →
    DeterminedIf 6 (hand_out_kinds.ps O E K L) (hand_out_kinds.r O E K L) (λ κs x. IsOk x) (hand_out.Post O E K L V c W d)
hand_out_determined O E K L V W c d κs a (Ok x) (Ok y) s₁ s₂ p q u v = refl
hand_out_determined O E K L V W c d κs a (Ok x) (Err f) s₁ s₂ p q u v = cc
hand_out_determined O E K L V W c d κs a (Err e) y s₁ s₂ p q u v = cc
