-- `armour_import::fill_two` meets its contract: seventeen groups, the one that the line end parts, and seventeen groups.
use native.Mathlib.Omega.{arith}
use mathlib.Core.Path.{◌≡◌, ap, ◌∙◌}
use Prim.Native.Nat.{◌+◌}
use lib.ListN.{length}
use lib.Seq.{length-sets}
use Rattle.armour_text.specs.Base64.{bytes_of_bits}
use Rattle.armour_text.proofs.Exactly.{carried_bytes}
use Rattle.armour_text.specs.Import.{carried}
use Rattle.armour_import.specs.FillTwo.{first_feed, first_full, second_feed, second_within, parted_three, second_full, after_two}
use Rattle.armour_import.proofs.fill_two.Goals as goal

pub after_end-p-requires : goal.after_end-p-requires
after_end-p-requires c = first_feed c.args.text.now (carried c.args.text.now) (carried_bytes c.args.text.now) c.args.o c.args.at c.requires.lines c.requires.o_in_bounds.0

pub after_end-q-requires : goal.after_end-q-requires
after_end-q-requires c = second_feed c.args.text.now (carried c.args.text.now) (carried_bytes c.args.text.now) c.args.o c.args.at c.requires.lines c.requires.o_in_bounds.0 _ c.after_end-p.ensures

pub fill_run-requires : goal.fill_run-requires
fill_run-requires c = (first_full c.args.text.now (carried c.args.text.now) (carried_bytes c.args.text.now) c.args.o c.args.at c.requires.lines c.requires.o_in_bounds.0 _ c.after_end-p.ensures, omega (arith, c.requires.o_in_bounds.1))

pub bounds-text-q : goal.bounds-text-q
bounds-text-q c = omega (arith, second_within c.args.text.now (carried c.args.text.now) (carried_bytes c.args.text.now) c.args.o c.args.at c.requires.lines c.requires.o_in_bounds.0 _ c.after_end-p.ensures _ c.after_end-q.ensures)

pub bounds-text-q-2 : goal.bounds-text-q-2
bounds-text-q-2 c = omega (arith, second_within c.args.text.now (carried c.args.text.now) (carried_bytes c.args.text.now) c.args.o c.args.at c.requires.lines c.requires.o_in_bounds.0 _ c.after_end-p.ensures _ c.after_end-q.ensures)

pub fill_run-requires-2 : goal.fill_run-requires-2
fill_run-requires-2 c = let g = c.store_three.ensures in
    let s = ap length g ∙ length-sets c.fill_run.new.out (c.args.o + 51) (bytes_of_bits c.bits_of.result) in
    (second_full c.args.text.now (carried c.args.text.now) (carried_bytes c.args.text.now) c.args.o c.args.at c.requires.lines c.requires.o_in_bounds.0 _ c.after_end-p.ensures _ c.after_end-q.ensures, omega (arith, c.requires.o_in_bounds.1, s, c.fill_run.ensures.1))

pub returns : goal.returns
returns c = let a = c.args in
    let g = c.store_three.ensures in
    let s = rw c.bits_of.ensures at g in
    let m = ap length g ∙ length-sets c.fill_run.new.out (a.o + 51) (bytes_of_bits c.bits_of.result) in
    let u = c.fill_run-2.ensures in
    let v = c.fill_run.ensures in
    let e : a.o + 54 + 51 ≡ a.o + 105 = omega arith in
    let w = rw e at u.0 in
    record {
      lines = after_two c.args.text.now (carried c.args.text.now) (carried_bytes c.args.text.now) c.args.o c.args.at c.requires.lines c.requires.o_in_bounds.0 _ c.after_end-p.ensures _ c.after_end-q.ensures;
      text_after = (w ∙ rw s (parted_three c.args.text.now (carried c.args.text.now) (carried_bytes c.args.text.now) c.args.o c.args.at c.requires.lines c.requires.o_in_bounds.0 _ c.after_end-p.ensures _ c.after_end-q.ensures c.fill_run.new.out ∙ v.0), u.1 ∙ m ∙ v.1);
    }
