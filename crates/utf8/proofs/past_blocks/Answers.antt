-- `utf8::past_blocks` meets its contract. The loop's invariant: the bytes of the blocks before the index are ASCII. Rests on `block_on`.
use native.Mathlib.Omega.{arith}
use Rattle.utf8.proofs.Ascii.{block_on}
use Rattle.utf8.proofs.past_blocks.Goals as goal

pub loop-i-preserved : goal.loop-i-preserved
loop-i-preserved c = let e = c.as_chunks.ensures in
    block_on _ _ _ c.loop-i.i _ e.front (omega (arith, e.front_len)) c.loop-i.invariant (c.ascii_block.ensures c.if-not-ascii_block.false)
