-- `Keys::check` meets its contract: what the keys that are left answer is what all answer. Rests on the laws of checks.
use Prim.Native.Nat.{◌-◌, ◌*◌}
use mathlib.Core.Path.{◌≡◌}
use Rattle.writer_parts.specs.Checks.{passed}
use Rattle.writer_plain.specs.Plain.{keys_checked}
use Rattle.writer_rows.specs.Taken.{keys_taken}
use Rattle.writer_keys.specs.Passes.{keys_from}
use Rattle.writer_keys.proofs.Keys.check.Given as goal

abbrev pub invariant-loop-i : goal.invariant-loop-i
invariant-loop-i l =
    keys_checked (keys_taken l.filling (keys_from l.self.text.now l.self.table.now (19 * l.i) (l.self.count - l.i))) passed
    ≡ keys_checked (keys_taken l.filling (keys_from l.self.text.now l.self.table.now 0 l.self.count)) passed
