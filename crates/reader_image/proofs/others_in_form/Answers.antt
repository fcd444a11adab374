-- `reader_image::others_in_form` meets its contract: what is left from the next place on is what was left before. Rests on the callees' contracts.
use Rattle.std.proofs.Common.{◌≡◌, ◌+◌, ◌&&◌, ◌<◌, ◌≤◌, add-one, sym, ◌∙◌, arith, false, get_or, length, drop, drop-cons, drop_of_length-le, List, ℕ}
use Rattle.fields.specs.declared.Cursor.{Cursor}
use Rattle.reader_entries.specs.Entries.{on_key_read, key_placed}
use Rattle.reader_section.specs.declared.Kind.TheVariants.{Plain}
use Rattle.reader_image.specs.Form.{scalar_in_form, others_in_form}
use Rattle.reader_image.proofs.others_in_form.Goals as goal

-- the key whose place is the i-th, and those after it
others_from :
    (s : List ℕ) (b : Cursor) (l : List ℕ) (i : ℕ) → i < length l
    → others_in_form s b (drop i l)
    ≡ on_key_read (key_placed s b (get_or l i 0)) false (λ k d. scalar_in_form s Plain k.algorithm k.private.scalar && others_in_form s d (drop (i + 1) l))
unfolding others_in_form
others_from s b l i h = rw (drop-cons l i 0 h, add-one i)

pub returns-in_default : goal.returns-in_default
returns-in_default c =
    let next = others_from c.args.image.now c.loop-at.blob c.args.places.now c.loop-at.at-index c.loop-at-test.true in
    sym (rw (← c.read_key.ensures, c.in_default.is) at next) ∙ c.loop-at.invariant

pub returns-then-not-scalar_in_form : goal.returns-then-not-scalar_in_form
returns-then-not-scalar_in_form c =
    let next = others_from c.args.image.now c.loop-at.blob c.args.places.now c.loop-at.at-index c.loop-at-test.true in
    sym (rw (← c.read_key.ensures, c.in-Some.is, ← c.scalar_in_form.ensures, c.if-not-scalar_in_form.true) at next) ∙ c.loop-at.invariant

pub loop-at-preserved : goal.loop-at-preserved
loop-at-preserved c =
    let next = others_from c.args.image.now c.loop-at.blob c.args.places.now c.loop-at.at-index c.loop-at-test.true in
    sym (rw (← c.read_key.ensures, c.in-Some.is, ← c.scalar_in_form.ensures, c.if-not-scalar_in_form.false) at next) ∙ c.loop-at.invariant

pub returns : goal.returns
unfolding others_in_form
returns c =
    let past : length c.args.places.now ≤ c.loop-at.at-index = omega (arith, c.loop-at-test.false) in
    rw (drop_of_length-le c.args.places.now past) at c.loop-at.invariant
