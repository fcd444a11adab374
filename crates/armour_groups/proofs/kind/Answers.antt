-- `armour_groups::kind` meets its contract: with two `=`, with one, or with none.
use mathlib.Core.Path.{refl, sym, ap, ◌∙◌}
use mathlib.Core.Bool.{true, false}
use Rattle.armour_signs.specs.Alphabet.{is_sign}
use Rattle.armour_groups.specs.Kinds.{counted}
use Rattle.armour_groups.proofs.Laws.{kind_one, kind_two, kind_three}
use borrow.Author.Rules.{rules}
use Rattle.armour_groups.proofs.kind.Goals as goal

pub returns-then-y-eq61 : goal.returns-then-y-eq61
returns-then-y-eq61 c = c.one.ensures ∙ ap counted (kind_one _ _ _ _ (search rules) (search rules) (search rules) (search rules) c.if-y-eq61.true _ refl)

pub returns-then-z-eq61 : goal.returns-then-z-eq61
returns-then-z-eq61 c = c.two.ensures ∙ ap counted (kind_two _ _ _ _ (search rules) (search rules) (search rules) (search rules) c.if-y-eq61.false c.if-z-eq61.true _ refl)

pub returns-then-is_sign : goal.returns-then-is_sign
unfolding is_sign counted
returns-then-is_sign c = let t = rw (c.is_sign.ensures, c.is_sign-2.ensures, c.is_sign-3.ensures, c.is_sign-4.ensures) at c.if-is_sign.true in
    ap counted (kind_three _ _ _ _ (search rules) (search rules) (search rules) (search rules) c.if-y-eq61.false c.if-z-eq61.false true (sym t))

pub returns : goal.returns
unfolding is_sign counted
returns c = let t = rw (c.is_sign.ensures, c.is_sign-2.ensures, c.is_sign-3.ensures, c.is_sign-4.ensures) at c.if-is_sign.false in
    ap counted (kind_three _ _ _ _ (search rules) (search rules) (search rules) (search rules) c.if-y-eq61.false c.if-z-eq61.false false (sym t))
