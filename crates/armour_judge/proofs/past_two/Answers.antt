-- `armour_judge::past_two` meets its contract: a line end, a line, a line end and a line.
use borrow.Author.Rules.{rules}
use mathlib.Core.Path.{refl}
use Rattle.armour_judge.specs.Two.{line_tested, a_pair}
use Rattle.armour_judge.proofs.past_two.Goals as goal

pub returns : goal.returns
returns c = let s = line_tested c.args.text.now c.in_ok-p.p _ c.all_signs.ensures (search rules) in
    let u = line_tested c.args.text.now c.in_ok-q.q _ c.all_signs-2.ensures (search rules) in
    a_pair _ _ _
    (record {
      first = c.in_ok-p.p;
      second = c.in_ok-q.q;
      opened = rw c.in_ok-p.was at c.past_end.ensures;
      signs = s.1;
      parted = rw c.in_ok-q.was at c.past_end-2.ensures;
      others = u.1;
      end = refl;
      within = u.0;
    })
