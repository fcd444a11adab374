-- `armour_import::import` meets its contract: judged, and then refused or filled in.
use Rattle.armour_import.specs.Reply.{judged_body, refused_text, too_large, no_room, done}
use Rattle.armour_import.proofs.import.Goals as goal

pub returns-then-n-gt65535 : goal.returns-then-n-gt65535
returns-then-n-gt65535 c = let a = c.args in
    rw c.refused-then-n-gt65535.ensures (too_large a.text.now a.out.now _ (judged_body _ _ (rw c.in-Some.is at c.judge.ensures)) c.if-n-gt65535.true)

pub returns-then-out-n : goal.returns-then-out-n
returns-then-out-n c = let a = c.args in
    rw c.refused-then-out-n.ensures (no_room a.text.now a.out.now _ (judged_body _ _ (rw c.in-Some.is at c.judge.ensures)) c.if-n-gt65535.false c.if-out-n.true)

pub fill-requires : goal.fill-requires
fill-requires c = (judged_body _ _ (rw c.in-Some.is at c.judge.ensures), c.if-out-n.false)

pub returns-in_default : goal.returns-in_default
returns-in_default c = let a = c.args in rw c.refused.ensures (refused_text a.text.now a.out.now (rw c.in_default.is at c.judge.ensures))

pub returns : goal.returns
returns c = let a = c.args in
    done a.text.now a.out.now _ (judged_body _ _ (rw c.in-Some.is at c.judge.ensures)) c.if-n-gt65535.false c.if-out-n.false _ c.fill.ensures
