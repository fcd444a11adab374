-- `keys_report::put_keys` meets its contract: whatever puts the lines that are left puts, after these, all of them. Rests on `lines_more`
-- and on the callee's contract.
use Rattle.std.proofs.Common.{ℕ, ◌+◌, ◌-◌, ◌*◌, List}
use Rattle.fields.specs.Bytes.{join}
use Rattle.report_parts.specs.Parts.{IsShort}
use Rattle.keys_report.specs.Lines.{lines_from}
use Rattle.keys_report.proofs.put_keys.Given as goal

abbrev pub invariant-loop-k : goal.invariant-loop-k
invariant-loop-k l =
    let n = l.f.header.count in
    let left = n + 1 - l.k in
    (r : ℕ) (out : List ℕ) → IsShort (96 * left) l.out l.at (join (lines_from l.image l.f l.k left)) r out
    → IsShort (96 * n) l.initial.out 0 (join (lines_from l.image l.f 1 n)) r out
