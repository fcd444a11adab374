-- `utf8::past_last` meets its contract: the run ends with the text, or before. Rests on what the top bits tell: `all_ascii`, `fewer_ascii`.
use native.Mathlib.Omega.{arith}
use Rattle.utf8.proofs.Ascii.{run_ends}
use Rattle.utf8.proofs.Tops.{all_ascii, fewer_ascii}
use Rattle.utf8.proofs.past_last.Goals as goal

pub returns-then-tops-eq0 : goal.returns-then-tops-eq0
returns-then-tops-eq0 c = let a = c.args in
    let s = a.text.now in
    omega (arith, all_ascii s a.from (omega arith) c.top_bits-tops.ensures c.if-tops-eq0.true, run_ends s a.from (omega arith))

pub returns : goal.returns
returns c = let a = c.args in
    omega (arith, fewer_ascii a.text.now a.from (omega arith) c.top_bits-tops.ensures c.if-tops-eq0.false c.before_top.ensures.0)
