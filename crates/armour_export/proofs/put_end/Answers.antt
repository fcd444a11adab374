-- `armour_export::put_end` meets its contract: with a line feed before it or without, the closing line is put, and it fits.
use Rattle.armour_text.specs.Text.{closing}
use Rattle.armour_export.specs.Stores.{put_sets}
use Rattle.armour_export.specs.Whole.{last_none, last_feed}
use Rattle.armour_export.proofs.put_end.Goals as goal

pub returns-then-p-eq70 : goal.returns-then-p-eq70
unfolding closing
returns-then-p-eq70 c = let a = c.args in
    let e = last_none a.p.left c.if-p-eq70.true in
    let h = rw e at c.requires in
    rw e (put_sets _ _ _ _ _ h c.put.ensures)

pub returns : goal.returns
unfolding closing
returns c = let a = c.args in
    let e = last_feed a.p.left c.if-p-eq70.false in
    let h = rw e at c.requires in
    rw e (put_sets _ _ _ _ _ h c.put-2.ensures)
