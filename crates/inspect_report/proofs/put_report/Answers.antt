-- `inspect_report::put_report` meets its contract: by what was read, the lines of that summary are put.
-- Rests on that reading with the form finds what the summary is made of.
use mathlib.Core.Path.{◌≡◌, refl}
use mathlib.Core.List.{List}
use Prim.Native.Nat.{ℕ}
use native.Mathlib.Omega.{arith}
use lib.ListN.{length}
use Rattle.reader_image.specs.Container.{on_read, read_at}
use Rattle.reader_image.specs.Form.{form_of, form_read_at}
use Rattle.inspect_report.specs.Report.{Summary, accepted, refused_as, lines, summary_of}
use Rattle.inspect_report.proofs.put_report.Goals as goal
use Rattle.std.specs.Prelude.{Result, Ok, Err, Bool}
use Rattle.fields.specs.declared.Fault.{Fault}
use Rattle.reader_image.specs.declared.Fields.{Fields}

-- the summary of what reading with the form finds
abbrev found : List ℕ → Result (Fields × Bool) Fault → Summary
found s (Err f) = refused_as f
found s (Ok (f, form)) = accepted f.header f.section (length s) form

summary-found : (s : List ℕ) → summary_of s ≡ found s (form_read_at s)
unfolding summary_of form_read_at
summary-found s = go (read_at s)
  where
    go :
        (r : Result Fields Fault)
        → on_read r refused_as (λ f. accepted f.header f.section (length s) (form_of s f))
        ≡ found s (on_read r Err (λ f. Ok (f, form_of s f)))
    go (Err f) = refl
    go (Ok f) = refl

pub returns-in-Err : goal.returns-in-Err
unfolding lines
returns-in-Err c = let put = c.put_refused.ensures in
    rw (summary-found, ← c.read_with_form.ensures.0, c.in-Err.is)
    (omega (arith, put.0), λ room. put.1)

pub returns-in-Ok : goal.returns-in-Ok
returns-in-Ok c = rw (summary-found, ← c.read_with_form.ensures.0, c.in-Ok.is) c.put_accepted.ensures
