-- `utf8::begin_of` meets its contract: the tests on the way decide `begin_of`.
use borrow.Author.Tests.{le-leb, lt-leb}
use Rattle.utf8.specs.Follow.{begin_of}
use Rattle.utf8.proofs.begin_of.Goals as goal

pub returns-then-text-at-ge192 : goal.returns-then-text-at-ge192
unfolding begin_of
returns-then-text-at-ge192 c = rw (le-leb _ _ c.if-text-at-ge192.true)

pub returns-then-text-at-ge224 : goal.returns-then-text-at-ge224
unfolding begin_of
returns-then-text-at-ge224 c = rw (lt-leb _ _ c.if-text-at-ge192.false, le-leb _ _ c.if-text-at-ge224.true)

pub returns-then-text-at-ge240 : goal.returns-then-text-at-ge240
unfolding begin_of
returns-then-text-at-ge240 c = rw (lt-leb _ _ c.if-text-at-ge192.false, lt-leb _ _ c.if-text-at-ge224.false, le-leb _ _ c.if-text-at-ge240.true)

pub returns : goal.returns
unfolding begin_of
returns c = rw (lt-leb _ _ c.if-text-at-ge192.false, lt-leb _ _ c.if-text-at-ge224.false, lt-leb _ _ c.if-text-at-ge240.false)
