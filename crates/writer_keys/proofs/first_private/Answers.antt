-- `writer_keys::first_private` meets its contract: the kind says which part it is. Rests on the callees' contracts.
use mathlib.Core.Path.{sym, ◌∙◌}
use Rattle.writer_rows.specs.Taken.{key_curve, key_rsa}
use Rattle.writer_keys.specs.Named.{first_private}
use Rattle.writer_keys.proofs.first_private.Goals as goal

pub returns-in-Elliptic : goal.returns-in-Elliptic
unfolding first_private
returns-in-Elliptic c = rw (key_curve c.args.text.now c.args.table.now 0 _ (sym c.algorithm_at.ensures ∙ c.in-Elliptic.is)) c.part_at.ensures.0

pub returns-in-Rsa : goal.returns-in-Rsa
unfolding first_private
returns-in-Rsa c = rw (key_rsa c.args.text.now c.args.table.now 0 (sym c.algorithm_at.ensures ∙ c.in-Rsa.is)) c.part_at-in-Rsa.ensures.0
