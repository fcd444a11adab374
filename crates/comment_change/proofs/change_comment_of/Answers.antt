-- `comment_change::change_comment_of` meets its contract: the change at the places of key k is the image written afresh. Rests on the laws of
-- edit_file, `there` and `change_is`, and on `change_key`.
use Prim.Native.Nat.{ℕ}
use native.Mathlib.Omega.{arith}
use mathlib.Core.Path.{◌≡◌, refl, sym, ◌∙◌}
use mathlib.Core.Bool.{true, false}
use mathlib.Core.List.{List}
use lib.ListN.{take}
use Rattle.std.specs.Prelude.{Ok, Err}
use Rattle.std.proofs.lemmas.Result.{err_from_is_err_and}
use Rattle.fields.specs.Bytes.{AllBytes}
use Rattle.fields.specs.Fields.{fault}
use Rattle.fields.specs.declared.Refusal.TheVariants.{CharacterEncoding}
use Rattle.utf8.specs.Utf8.{utf8}
use Rattle.reader_image.specs.Container.{keys_in}
use Rattle.writer_reply.specs.Reply.{answered, Written}
use Rattle.edit_shells.specs.declared.EditPlaces.{EditPlaces}
use Rattle.edit_shells.specs.Shells.{changed_at}
use Rattle.edit_shells.specs.Edits.{changed_by_places, IsEdit}
use Rattle.edit_shells.proofs.Within.{change_key}
use Rattle.edit_file.specs.Edits.{change_reply, change_left, IsChange}
use Rattle.edit_file.specs.Find.{key_stands}
use Rattle.edit_file.specs.Afresh.{told, text, change_is}
use Rattle.edit_file.specs.Numbered.{stands}
use Rattle.edit_file.proofs.Numbered.{there}
use Rattle.edit_file.proofs.Found.{found, change_unfound}
use Rattle.comment_change.proofs.change_comment_of.Goals as goal

module _ (old : List ℕ) (all : AllBytes old) (n k count : ℕ) (at : EditPlaces) (e : key_stands old n k ≡ Ok (count, at)) (comment : List ℕ) where
  -- a comment that is no UTF-8 is refused at the old one's field
  no_text : utf8 comment ≡ false → IsChange old n k comment (Err (fault CharacterEncoding at.field)) old
  unfolding change_reply change_left
  no_text u =
      let x = found old n k (count, at) e in
      let h = there old all n x.fields x.image k x.key x.numbered in
      rw (x.places, x.image, h.has, u, x.numbered) (refl, refl, refl)

  -- the change at its comment is the edit
  changed :
      (r : Written) (out : List ℕ) → utf8 comment ≡ true
      → IsEdit (changed_by_places at.section at.field at.past at.end) (changed_at old at.section at.field at.past at.end comment) n old r out
      → IsChange old n k comment r out
  changed r out u p =
      let x = found old n k (count, at) e in
      let f = x.fields in
      let i = x.image in
      let t = told old all n f i in
      let h = there old all n f i k x.key x.numbered in
      answered r (change_reply old n k comment) out (change_left old n k comment)
      (change_is old all n f i k comment r out h.has u
      (change_key f.section.checkint (keys_in (take n old) f) old n (stands old all n f i) t.inside t.small k h.some
      (omega (arith, h.inside, (text old all n f i).counted)) _ _ _ _ _ _ _ h.places comment r out (rw x.places at p)))

pub returns-in_err-at : goal.returns-in_err-at
returns-in_err-at c = let a = c.args in
    let p = err_from_is_err_and c.from_residual.result c.from_residual.ensures.1 in
    rw (p.1, p.2) (change_unfound a.lent.now (λ i. (c.slice_known-1.given i).fits) a.n a.k _ (sym c.find_key.ensures ∙ c.in_err-at.was) a.comment.now)

pub returns-then-not-is_utf8 : goal.returns-then-not-is_utf8
returns-then-not-is_utf8 c = let a = c.args in
    rw c.at.ensures
    (no_text a.lent.now (λ i. (c.slice_known-1.given i).fits) a.n a.k _ _ (sym c.find_key.ensures ∙ c.in_ok-at.was) a.comment.now (sym c.is_utf8.ensures ∙ c.if-not-is_utf8.true))

pub returns : goal.returns
returns c = let a = c.args in
    changed a.lent.now (λ i. (c.slice_known-1.given i).fits) a.n a.k _ _ (sym c.find_key.ensures ∙ c.in_ok-at.was) a.comment.now _ _ (sym c.is_utf8.ensures ∙ c.if-not-is_utf8.false) c.change.ensures
