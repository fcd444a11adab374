-- `armour_import::four_at` meets its contract: in their line, after its end, or two before it and two after it.
use native.Mathlib.Omega.{arith}
use Rattle.armour_import.specs.Fill.{ready_four, four_in_line}
use Rattle.armour_import.specs.FillTwo.{opened_within, opened_is, parted_within, parted_feed, parted_past, parted_is, two_columns}
use Rattle.armour_import.proofs.four_at.Goals as goal

pub bounds-text-at : goal.bounds-text-at
bounds-text-at c = omega (arith, (ready_four _ _ _ c.requires.0 c.if-left-ge4.true).0)

pub overflow_add-result : goal.overflow_add-result
overflow_add-result c = omega (arith, (ready_four _ _ _ c.requires.0 c.if-left-ge4.true).0)

pub bounds-text-at-then-left-ge4 : goal.bounds-text-at-then-left-ge4
bounds-text-at-then-left-ge4 c = omega (arith, (ready_four _ _ _ c.requires.0 c.if-left-ge4.true).0)

pub overflow_add-result-then-left-ge4 : goal.overflow_add-result-then-left-ge4
overflow_add-result-then-left-ge4 c = omega (arith, (ready_four _ _ _ c.requires.0 c.if-left-ge4.true).0)

pub bounds-text-at-then-left-ge4-2 : goal.bounds-text-at-then-left-ge4-2
bounds-text-at-then-left-ge4-2 c = omega (arith, (ready_four _ _ _ c.requires.0 c.if-left-ge4.true).0)

pub overflow_add-result-then-left-ge4-2 : goal.overflow_add-result-then-left-ge4-2
overflow_add-result-then-left-ge4-2 c = omega (arith, (ready_four _ _ _ c.requires.0 c.if-left-ge4.true).0)

pub bounds-text-at-then-left-ge4-3 : goal.bounds-text-at-then-left-ge4-3
bounds-text-at-then-left-ge4-3 c = omega (arith, (ready_four _ _ _ c.requires.0 c.if-left-ge4.true).0)

pub overflow_add-result-then-left-ge4-3 : goal.overflow_add-result-then-left-ge4-3
overflow_add-result-then-left-ge4-3 c = omega (arith, (ready_four _ _ _ c.requires.0 c.if-left-ge4.true).0)

pub returns-then-left-ge4 : goal.returns-then-left-ge4
returns-then-left-ge4 c = four_in_line _ _ _ c.requires.0 c.if-left-ge4.true

pub bounds-text-p : goal.bounds-text-p
bounds-text-p c = omega (arith, opened_within _ _ (rw c.if-left-eq0.true at c.requires.0) _ c.after_end-p.ensures)

pub bounds-text-p-then-left-eq0 : goal.bounds-text-p-then-left-eq0
bounds-text-p-then-left-eq0 c = omega (arith, opened_within _ _ (rw c.if-left-eq0.true at c.requires.0) _ c.after_end-p.ensures)

pub bounds-text-p-then-left-eq0-2 : goal.bounds-text-p-then-left-eq0-2
bounds-text-p-then-left-eq0-2 c = omega (arith, opened_within _ _ (rw c.if-left-eq0.true at c.requires.0) _ c.after_end-p.ensures)

pub bounds-text-p-then-left-eq0-3 : goal.bounds-text-p-then-left-eq0-3
bounds-text-p-then-left-eq0-3 c = omega (arith, opened_within _ _ (rw c.if-left-eq0.true at c.requires.0) _ c.after_end-p.ensures)

pub returns-then-left-eq0 : goal.returns-then-left-eq0
returns-then-left-eq0 c = rw c.if-left-eq0.true (opened_is _ _ (rw c.if-left-eq0.true at c.requires.0) _ c.after_end-p.ensures)

pub overflow_add-at : goal.overflow_add-at
overflow_add-at c = omega (arith, parted_within _ _ (rw (two_columns _ c.if-left-ge4.false c.if-left-eq0.false c.requires.1) at c.requires.0))

pub after_end-p-requires-2 : goal.after_end-p-requires-2
after_end-p-requires-2 c = parted_feed _ _ (rw (two_columns _ c.if-left-ge4.false c.if-left-eq0.false c.requires.1) at c.requires.0)

pub bounds-text-p-2 : goal.bounds-text-p-2
bounds-text-p-2 c = omega (arith, parted_past _ _ (rw (two_columns _ c.if-left-ge4.false c.if-left-eq0.false c.requires.1) at c.requires.0) _ c.after_end-p-2.ensures)

pub bounds-text-p-3 : goal.bounds-text-p-3
bounds-text-p-3 c = omega (arith, parted_past _ _ (rw (two_columns _ c.if-left-ge4.false c.if-left-eq0.false c.requires.1) at c.requires.0) _ c.after_end-p-2.ensures)

pub returns : goal.returns
returns c = rw (two_columns _ c.if-left-ge4.false c.if-left-eq0.false c.requires.1) (parted_is _ _ (rw (two_columns _ c.if-left-ge4.false c.if-left-eq0.false c.requires.1) at c.requires.0) _ c.after_end-p-2.ensures)
