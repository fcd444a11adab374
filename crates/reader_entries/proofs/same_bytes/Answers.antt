-- `reader_entries::same_bytes` meets its contract: a part of length 0 has no bytes (`none-view`), others are compared. Rests on the callees' contracts.
use Rattle.std.proofs.Common.{ℕ, ◌+◌, ◌≡◌, refl, Bool, true, false, cond, List, [], leb, length, arith}
use Rattle.std.proofs.Math.Seq.{slice}
use lib.Seq.{slice_empty}
use Rattle.fields.specs.Fields.{view_of}
use Rattle.fields.specs.declared.Part.{Part}
use Rattle.reader_entries.proofs.same_bytes.Goals as goal

-- a part of no bytes, wherever it is
none-view : (s : List ℕ) (p : Part) → p.length ≡ 0 → view_of s p ≡ []
unfolding view_of
none-view s p z =
    let e : p.start + p.length ≡ p.start = omega (arith, z) in
    rw e (go (leb p.start (length s)))
  where
    go : (t : Bool) → cond t (slice p.start p.start s) [] ≡ []
    go true = slice_empty p.start s
    go false = refl

pub returns-then-q-eq0 : goal.returns-then-q-eq0
returns-then-q-eq0 c = let a = c.args in
    rw (none-view a.image.now a.p c.if-p-eq0.true, none-view a.image.now a.q c.if-q-eq0.true)
