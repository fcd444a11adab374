-- `writer_rows::parts_at` meets its contract: the kind picks the parts. Rests on the callees' contracts.
use mathlib.Core.Path.{refl, sym, ◌∙◌}
use Rattle.writer_rows.specs.Taken.{key_curve, key_rsa}
use Rattle.writer_rows.proofs.parts_at.Goals as goal

pub returns-in-Elliptic-clause-algorithm : goal.returns-in-Elliptic-clause-algorithm
returns-in-Elliptic-clause-algorithm c = rw (key_curve c.args.text.now c.args.table.now c.args.j _ (sym c.algorithm_at.ensures ∙ c.in-Elliptic.is)) refl

pub returns-in-Elliptic-clause-public : goal.returns-in-Elliptic-clause-public
returns-in-Elliptic-clause-public c =
    rw (key_curve c.args.text.now c.args.table.now c.args.j _ (sym c.algorithm_at.ensures ∙ c.in-Elliptic.is), c.part_at.ensures.0) refl

pub returns-in-Elliptic-clause-private : goal.returns-in-Elliptic-clause-private
returns-in-Elliptic-clause-private c =
    rw (key_curve c.args.text.now c.args.table.now c.args.j _ (sym c.algorithm_at.ensures ∙ c.in-Elliptic.is), c.part_at-in-Elliptic.ensures.0) refl

pub returns-in-Rsa-clause-algorithm : goal.returns-in-Rsa-clause-algorithm
returns-in-Rsa-clause-algorithm c = rw (key_rsa c.args.text.now c.args.table.now c.args.j (sym c.algorithm_at.ensures ∙ c.in-Rsa.is)) refl

pub returns-in-Rsa-clause-public : goal.returns-in-Rsa-clause-public
returns-in-Rsa-clause-public c =
    rw (key_rsa c.args.text.now c.args.table.now c.args.j (sym c.algorithm_at.ensures ∙ c.in-Rsa.is), c.part_at-in-Rsa.ensures.0, c.part_at-in-Rsa-2.ensures.0) refl

pub returns-in-Rsa-clause-private : goal.returns-in-Rsa-clause-private
returns-in-Rsa-clause-private c =
    rw (
      key_rsa c.args.text.now c.args.table.now c.args.j (sym c.algorithm_at.ensures ∙ c.in-Rsa.is),
      c.part_at-in-Rsa-3.ensures.0,
      c.part_at-in-Rsa-4.ensures.0,
      c.part_at-in-Rsa-5.ensures.0,
      c.part_at-in-Rsa-6.ensures.0,
    ) refl
