-- `key_material::derived_checkint` meets its contract: the checkint so far, mixed with the groups that are left, is that of all the bytes.
-- Rests on fields' laws of a uint32 that is read and of the bytes from a place on.
use Prim.Native.Nat.{ℕ, ◌+◌, ◌<◌}
use native.Mathlib.Omega.{arith}
use mathlib.Core.Path.{◌≡◌, refl, sym, ◌∙◌, ap}
use mathlib.Core.List.{List, [], ◌∷◌}
use borrow.Author.Tests.{leb-true, leb-false}
use lib.Bits.{bit_xor}
use lib.Dec.{leb}
use lib.ListN.{length}
use lib.Seq.{length-slice}
use Rattle.fields.specs.Fields.{number_at, moved, uint32_at}
use Rattle.fields.specs.Place.{clash, by_bool, uint32_place}
use Rattle.fields.specs.Rest.{rest, Good, rest-whole, rest_four}
use Rattle.fields.specs.Room.{room_is}
use Rattle.fields.specs.declared.Cursor.{Cursor}
use Rattle.fields.specs.declared.Fault.{Fault}
use Rattle.key_material.specs.Material.{mixed, derived_checkint}
use Rattle.key_material.proofs.derived_checkint.Goals as goal
use Rattle.std.specs.Prelude.{Ok, Err}

-- a group that is read is mixed in
mixed-group :
    (s : List ℕ) (x : ℕ) (c : Cursor) (n : ℕ) (d : Cursor) → uint32_at s c ≡ Ok (n, d)
    → mixed x (rest s c) ≡ mixed (bit_xor x n) (rest s d)
unfolding mixed
mixed-group s x c n d e =
    let p = uint32_place s c n d e in
    rw (rest_four s c p.room, ← p.number, p.after, p.end)

-- fewer than four bytes are ignored
mixed-few : (x : ℕ) (s : List ℕ) → length s < 4 → mixed x s ≡ x
unfolding mixed
mixed-few x [] h = refl
mixed-few x (a ∷ []) h = refl
mixed-few x (a ∷ b ∷ []) h = refl
mixed-few x (a ∷ b ∷ c ∷ []) h = refl
mixed-few x (a ∷ b ∷ c ∷ d ∷ s) h = absurd (omega arith)

-- where no group is read, fewer than four bytes are left
mixed-rest : (s : List ℕ) (x : ℕ) (c : Cursor) (f : Fault) → Good s c → uint32_at s c ≡ Err f → mixed x (rest s c) ≡ x
unfolding uint32_at
mixed-rest s x c f good e =
    by_bool (leb (c.at + 4) c.end)
    (λ w.
    let g : Ok (number_at s c.at, moved c 4) ≡ Err f = rw (room_is s c 4 (leb-true (c.at + 4) c.end w, good.1)) at e in
    clash cc)
    (λ w. mixed-few x (rest s c) (omega (arith, leb-false (c.at + 4) c.end w, length-slice c.at c.end s good.1)))

pub loop-group-init : goal.loop-group-init
unfolding derived_checkint
loop-group-init c = (omega arith, ap (mixed 0) (rest-whole c.args.private.now))

pub returns : goal.returns
returns c = let l = c.loop-group in
    sym (mixed-rest c.args.private.now l.checkint l.at _ l.invariant.0 (sym c.uint32.ensures ∙ c.in_default.is)) ∙ l.invariant.1

pub loop-group-smaller : goal.loop-group-smaller
loop-group-smaller c = omega (arith, uint32_place c.args.private.now c.loop-group.at _ _ (sym c.uint32.ensures ∙ c.in-Ok.is))

pub loop-group-preserved : goal.loop-group-preserved
loop-group-preserved c = let s = c.args.private.now in
    let read = sym c.uint32.ensures ∙ c.in-Ok.is in
    let p = uint32_place s c.loop-group.at _ _ read in
    (omega arith, sym (mixed-group s c.loop-group.checkint c.loop-group.at _ _ read) ∙ c.loop-group.invariant.1)
