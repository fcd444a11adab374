-- `Numbers::pair_length` meets its contract: the name and the six numbers. Rests on `pair_size` and `six_added`.
use mathlib.Core.Path.{sym, ◌∙◌, ap}
use Rattle.writer_parts.specs.Sizes.{capped}
use Rattle.writer_numbers.specs.Parts.{pair_size, six_added}
use Rattle.writer_numbers.proofs.Numbers.pair_length.Goals as goal

pub returns : goal.returns
returns c = let a = c.args in
    let six = a.self.now in
    six_added _ _ _ _ _ _ 35 _ _ _ _ _ _ c.added.ensures c.added-public.ensures c.added-2.ensures c.added-two.ensures c.added-3.ensures c.added-4.ensures
    ∙ ap capped (sym (pair_size six.n.now six.e.now six.d.now six.iqmp.now six.p.now six.q.now))
