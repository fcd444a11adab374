-- `writer_curve::put_key` meets its contract: the names and the point, put one after the other, are the blob. Rests on the laws of runs.
use mathlib.Core.List.{[], ◌∷◌}
use Rattle.fields.specs.Bytes.{string}
use Rattle.names.specs.declared.Algorithm.TheVariants.{Elliptic as OnCurve}
use Rattle.names.specs.Algorithms.{algorithm_name}
use Rattle.format.specs.Format.{blob, curve_field}
use Rattle.buffer.specs.Runs.{start, step, runs, finish}
use Rattle.writer_curve.proofs.put_key.Goals as goal

pub returns : goal.returns
unfolding blob
returns c room = let e = c.args.algorithm in
    let names = string (algorithm_name (OnCurve e)) ∷ curve_field e ∷ [] in
    finish (step (runs names (start room) (λ h. c.put_names-a.ensures)) c.put_string.ensures)
