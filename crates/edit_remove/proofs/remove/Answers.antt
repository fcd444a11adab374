-- `edit_remove::remove` meets its contract: the test of the places is the definition's. Rests on the contract of `remove_within`.
use Prim.Native.Nat.{◌≤◌}
use mathlib.Core.Path.{sym, ◌∙◌}
use mathlib.Core.List.{[], ◌∷◌, ◌++◌}
use lib.ListN.{length}
use Rattle.std.proofs.lemmas.Result.{err_from_is_err_and}
use Rattle.edit_shells.specs.Parts.{Rises}
use Rattle.edit_shells.specs.Shells.{removed_at}
use Rattle.edit_shells.specs.Edits.{removed_by_places}
use Rattle.edit_shells.proofs.Edits.{placed_rise, checked_saturated, edit_refused, renewed_edit}
use Rattle.edit_remove.proofs.remove.Goals as goal
use Rattle.edit_remove.proofs.remove.Goals.{In_ok-check_places}

-- the places passed
placed :
    (c : In_ok-check_places)
    → (let a = c.args in
    (a.n ≤ 65535) × Rises 0 (removed_by_places a.at.blob a.at.after a.at.section a.at.pair a.at.past a.at.end ++ a.n ∷ length a.lent.now ∷ []))
placed c = let a = c.args in
    placed_rise a.n (removed_by_places a.at.blob a.at.after a.at.section a.at.pair a.at.past a.at.end ++ a.n ∷ length a.lent.now ∷ []) _
    (sym (checked_saturated a.n (length a.lent.now) a.at.section _ (39 ∷ a.at.blob ∷ a.at.after ∷ a.at.section ∷ []) (a.at.pair ∷ a.at.past ∷ a.at.end ∷ []) c.saturating_add-inside.ensures)
    ∙ sym c.check_places.ensures ∙ c.in_ok-check_places.was)

pub returns-in_err-check_places : goal.returns-in_err-check_places
returns-in_err-check_places c = let a = c.args in
    let p = err_from_is_err_and c.from_residual.result c.from_residual.ensures.1 in
    rw (p.1, p.2)
    (edit_refused (removed_at a.lent.now a.count a.at.blob a.at.after a.at.section a.at.pair a.at.past a.at.end) a.n a.lent.now (removed_by_places a.at.blob a.at.after a.at.section a.at.pair a.at.past a.at.end) _
    (sym (checked_saturated a.n (length a.lent.now) a.at.section _ (39 ∷ a.at.blob ∷ a.at.after ∷ a.at.section ∷ []) (a.at.pair ∷ a.at.past ∷ a.at.end ∷ []) c.saturating_add-inside.ensures)
    ∙ sym c.check_places.ensures ∙ c.in_err-check_places.was))

pub returns : goal.returns
returns c = let a = c.args in
    let p = placed (goal.at.returns c).In_ok-check_places in
    renewed_edit (removed_at a.lent.now a.count a.at.blob a.at.after a.at.section a.at.pair a.at.past a.at.end) a.n a.lent.now (removed_by_places a.at.blob a.at.after a.at.section a.at.pair a.at.past a.at.end) _ _ p.0 p.1 c.remove_within.ensures
