-- `edit_add::open` meets its contract: the test of the places is the definition's. Rests on the contract of `open_within`.
use Prim.Native.Nat.{◌≤◌}
use mathlib.Core.Path.{sym, ◌∙◌}
use mathlib.Core.List.{[], ◌∷◌, ◌++◌}
use lib.ListN.{length}
use Rattle.std.proofs.lemmas.Result.{err_from_is_err_and}
use Rattle.edit_shells.specs.Parts.{Rises, true-rises}
use Rattle.edit_shells.specs.Shells.{opened_at, opened_size}
use Rattle.edit_shells.specs.Edits.{added_by_places}
use Rattle.edit_shells.proofs.Edits.{placed_rise, checked_saturated, opened_refused, room_opened}
use Rattle.edit_add.specs.Open.{rises_ordered}
use Rattle.edit_add.proofs.open.Goals as goal
use Rattle.edit_add.proofs.open.Goals.{In_ok-check_places}

-- the places passed
placed :
    (c : In_ok-check_places)
    → (let a = c.args in (a.n ≤ 65535) × Rises 0 (added_by_places a.gaps.section a.gaps.end ++ a.n ∷ length a.lent.now ∷ []))
placed c = let a = c.args in
    placed_rise a.n (added_by_places a.gaps.section a.gaps.end ++ a.n ∷ length a.lent.now ∷ []) _
    (sym (checked_saturated a.n (length a.lent.now) a.gaps.section _ (39 ∷ a.gaps.section ∷ []) (a.gaps.end ∷ []) c.saturating_add-inside.ensures)
    ∙ sym c.check_places.ensures ∙ c.in_ok-check_places.was)

pub returns-in_err-check_places : goal.returns-in_err-check_places
returns-in_err-check_places c = let a = c.args in
    let p = err_from_is_err_and c.from_residual.result c.from_residual.ensures.1 in
    rw (p.1, p.2)
    (opened_refused (opened_size a.gaps.section a.gaps.end a.gaps.blob a.gaps.own) (opened_at a.lent.now a.count a.gaps.section a.gaps.end a.gaps.blob a.gaps.own) a.n a.lent.now (added_by_places a.gaps.section a.gaps.end) _
    (sym (checked_saturated a.n (length a.lent.now) a.gaps.section _ (39 ∷ a.gaps.section ∷ []) (a.gaps.end ∷ []) c.saturating_add-inside.ensures)
    ∙ sym c.check_places.ensures ∙ c.in_err-check_places.was))

pub open_within-requires : goal.open_within-requires
open_within-requires c = let a = c.args in
    let p = placed (goal.at.open_within-requires c).In_ok-check_places in
    rises_ordered a.lent.now a.n a.gaps.section a.gaps.end p.0 (true-rises 0 (added_by_places a.gaps.section a.gaps.end ++ a.n ∷ length a.lent.now ∷ []) p.1)

pub returns : goal.returns
returns c = let a = c.args in
    let p = placed (goal.at.returns c).In_ok-check_places in
    room_opened (opened_size a.gaps.section a.gaps.end a.gaps.blob a.gaps.own) (opened_at a.lent.now a.count a.gaps.section a.gaps.end a.gaps.blob a.gaps.own) a.n a.lent.now (added_by_places a.gaps.section a.gaps.end) _ _ p.0 p.1 c.open_within.ensures
