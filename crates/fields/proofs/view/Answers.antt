-- `fields::view` meets its contract: the part is within the image or it isn't, and either way begins where `view_start` says. Assumes nothing.
use native.Mathlib.Omega.{arith}
use native.Mathlib.Nat.{add-sub_cancel_left, add_comm, add-zero}
use mathlib.Core.Path.{refl, sym}
use Prim.Native.Nat.{◌+◌, ◌≤◌}
use lib.ListN.{length}
use Rattle.fields.specs.Room.{view_in, view_out, start_in, take-drop}
use Rattle.fields.proofs.view.Goals as goal

pub returns-then-image-start : goal.returns-then-image-start
returns-then-image-start c = let a = c.args in
    let k = view_out a.image.now a.part (omega arith) in
    (sym k.0, refl, rw k.1 (sym (add-zero _)))

pub returns-then-image-start-2 : goal.returns-then-image-start-2
returns-then-image-start-2 c = let a = c.args in
    let k = view_out a.image.now a.part (omega arith) in
    (sym k.0, refl, rw k.1 (sym (add-zero _)))

pub returns : goal.returns
returns c = let a = c.args in
    let inside : a.part.start + a.part.length ≤ length a.image.now = omega arith in (
      rw (add-sub_cancel_left, take-drop) (sym (view_in a.image.now a.part inside)),
      refl,
      rw (start_in a.image.now a.part inside) (add_comm _ _),
    )
