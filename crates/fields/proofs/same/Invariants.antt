-- `fields::same` meets its contract: what was found so far, and whether the bytes from i on are the same, is `same_bytes` of all.
-- Rests on the laws of `same_bytes`.
use mathlib.Core.Path.{◌≡◌}
use mathlib.Core.Bool.{◌&&◌}
use lib.ListN.{drop}
use Rattle.fields.specs.Bytes.{same_bytes}
use Rattle.fields.proofs.same.Given as goal

abbrev pub invariant-loop-i : goal.invariant-loop-i
invariant-loop-i l = (l.equal && same_bytes (drop l.i l.a) (drop l.i l.b)) ≡ same_bytes l.a l.b
