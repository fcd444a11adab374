-- Any two replies that meet the public function's own contract and report no failed read or write are equal. What is put to standard
-- output is in no contract.
use Rattle.std.specs.Prelude.{IsOk, Ok, Err}
use Rattle.std.specs.declared.fs.files.Files.{Ghosts as FilesGhosts}
use Rattle.std.specs.declared.fs.files.OpenFile.{Ghosts as OpenFileGhosts}
use Rattle.std.specs.declared.io.Eprint.{Ghosts as EprintGhosts}
use Rattle.std.specs.declared.io.Print.{Ghosts as PrintGhosts}
use Rattle.std.specs.declared.io.traits.Read.{Ghosts as ReadGhosts}
use Rattle.std.specs.declared.io.traits.Seek.{Ghosts as SeekGhosts}
use Rattle.std.specs.declared.io.traits.Write.{Ghosts as WriteGhosts}
use denote.Param.Laws.{Laws}
use denote.RattleType.{RattleType}
use mathlib.Core.Path.{refl}
use mir.Syntax.{Dict}
use Rattle.replay_telling.specs.Determined.{DeterminedIf}
use Rattle.replay_listed.proofs.replay_lists.Reads as replay_lists
use Rattle.replay_listed.proofs.replay_lists.Kinds as replay_lists_kinds

-- whatever the runtime is, with its files and folders, by its traits
module _ (R F D : RattleType) (A : Laws R) (B : Laws F) (C : Laws D) (G : FilesGhosts R.Denot F.Denot D.Denot) (g : Dict)
    (H : ReadGhosts F.Denot) (h : Dict) (I : WriteGhosts F.Denot) (i : Dict) (J : SeekGhosts F.Denot) (j : Dict)
    (K : OpenFileGhosts F.Denot) (k : Dict) (M : ReadGhosts D.Denot) (m : Dict) (N : PrintGhosts R.Denot) (n : Dict)
    (O : EprintGhosts R.Denot) (o : Dict) (q : Dict) (r : Dict) where
  pub replay_lists_determined :
      DeterminedIf 4 (replay_lists_kinds.ps R F D A B C) (replay_lists_kinds.r R F D A B C) (λ κs x. IsOk x)
      (replay_lists.Post R F D A B C G g H h I i J j K k M m N n O o q r)
  replay_lists_determined κs a (Ok x) (Ok y) s₁ s₂ e f u v = refl
  replay_lists_determined κs a (Ok x) (Err z) s₁ s₂ e f u v = cc
  replay_lists_determined κs a (Err x) y s₁ s₂ e f u v = cc
