-- `reader_image::begins_before` meets its contract: the length's last byte is compared without a sum that could be too large. Assumes nothing.
use Prim.Native.Nat.{ℕ, ◌+◌, ◌-◌, ◌≤◌}
use native.Mathlib.Omega.{arith}
use mathlib.Core.Path.{◌≡◌, sym, ◌∙◌}
use borrow.Author.Tests.{eqb-true, eqb-false, eq-eqb, ne_eqb, lt-ltb, le-ltb}
use lib.Dec.{eqb}
use lib.ListN.{get_or}
use Rattle.fields.specs.Place.{by_bool}
use Rattle.key_pairs.specs.Pairs.{begins_before}
use Rattle.reader_image.proofs.begins_before.Goals as goal

-- a number that is taken from one side, or added to the other
moved-over : (a b n : ℕ) → n ≤ a → eqb (a - n) b ≡ eqb a (b + n)
moved-over a b n h =
    by_bool (eqb (a - n) b)
    (λ w. w ∙ sym (eq-eqb a (b + n) (omega (arith, eqb-true (a - n) b w))))
    (λ w. w ∙ sym (ne_eqb a (b + n) (λ e. eqb-false (a - n) b w (omega arith))))

pub returns-then-part-zeros : goal.returns-then-part-zeros
unfolding begins_before
returns-then-part-zeros c = rw (le-ltb _ _ c.if-part-zeros.true)

pub returns-then-last-zeros : goal.returns-then-last-zeros
unfolding begins_before
returns-then-last-zeros c = let a = c.args in
    let last = get_or a.image.now (a.part.start - (a.zeros + 1)) 0 in
    rw
    (lt-ltb _ _ c.if-part-zeros.false, ne_eqb last (a.part.length + a.zeros) (λ e. omega (arith, c.if-last-zeros.true, c.byte-last.ensures, e)))

pub returns : goal.returns
unfolding begins_before
returns c = let a = c.args in
    rw (lt-ltb _ _ c.if-part-zeros.false, ← c.byte-last.ensures) (moved-over c.byte-last.result a.part.length a.zeros c.if-last-zeros.false)
