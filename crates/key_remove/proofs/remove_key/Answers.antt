-- `key_remove::remove_key` meets its contract: the removal at the places of key k is the image of the other keys written afresh. Rests on the laws of
-- edit_file, `there` and `remove_is`, and on `remove_key`; of no keys the writer says 1.
use Prim.Native.Nat.{ℕ, ◌-◌, ◌<◌, ◌≤◌}
use native.Mathlib.Omega.{arith}
use mathlib.Core.Path.{◌≡◌, refl, sym, ◌∙◌}
use mathlib.Core.List.{List, [], ◌∷◌, map}
use lib.ListN.{length, take, length-map}
use Rattle.std.specs.Prelude.{Ok}
use Rattle.std.proofs.lemmas.Result.{err_from_is_err_and}
use Rattle.fields.specs.Bytes.{AllBytes}
use Rattle.fields.specs.declared.Refusal.TheVariants.{Length}
use Rattle.format.specs.Format.{Key, filled_key}
use Rattle.reader_image.specs.Container.{keys_in}
use Rattle.writer_reply.specs.Reply.{refused, answered, Written}
use Rattle.writer_plain.specs.Plain.{keys_reply}
use Rattle.edit_shells.specs.declared.EditPlaces.{EditPlaces}
use Rattle.edit_shells.specs.Shells.{removed_at}
use Rattle.edit_shells.specs.Edits.{removed_by_places, IsEdit}
use Rattle.edit_shells.specs.Keys.{remove_at, keys_without, remove_length}
use Rattle.edit_shells.proofs.Within.{remove_key}
use Rattle.edit_file.specs.Edits.{file_keys, remove_reply, remove_left, IsRemove}
use Rattle.edit_file.specs.Find.{key_stands}
use Rattle.edit_file.specs.Afresh.{told, text, remove_is}
use Rattle.edit_file.specs.Numbered.{stands}
use Rattle.edit_file.proofs.Numbered.{there}
use Rattle.edit_file.proofs.Found.{found, remove_unfound}
use Rattle.key_remove.proofs.remove_key.Goals as goal

-- of no keys the writer says 1
none_left : (keys : List Key) (c room : ℕ) → length keys ≡ 0 → keys_reply keys c room ≡ refused Length
unfolding keys_reply
none_left [] c room e = refl
none_left (k ∷ keys) c room e = absurd (omega arith)

module _ (old : List ℕ) (all : AllBytes old) (n k count : ℕ) (at : EditPlaces) (e : key_stands old n k ≡ Ok (count, at)) where
  -- the only key isn't removed
  only : count < 2 → IsRemove old n k (refused Length) old
  unfolding remove_reply remove_left keys_without file_keys
  only one =
      let x = found old n k (count, at) e in
      let f = x.fields in
      let h = there old all n f x.image k x.key x.numbered in
      let keys = keys_in (take n old) f in
      let long = length-map keys filled_key in
      let counted = (text old all n f x.image).counted in
      let shorter : length (remove_at (k - 1) (map filled_key keys)) ≡ length (map filled_key keys) - 1 =
      remove_length (k - 1) (map filled_key keys) (omega (arith, h.some, h.inside, long, counted)) in
      let none : length (remove_at (k - 1) (map filled_key keys)) ≡ 0 = omega (arith, shorter, long, counted, x.counted, one) in
      rw (x.image, h.has, none_left (remove_at (k - 1) (map filled_key keys)) f.section.checkint (length old) none) (refl, refl, refl)

  -- the removal at its places is the edit
  removed :
      2 ≤ count → (r : Written) (out : List ℕ)
      → IsEdit (removed_by_places at.blob at.after at.section at.pair at.past at.end)
      (removed_at old (count - 1) at.blob at.after at.section at.pair at.past at.end) n old r out
      → IsRemove old n k r out
  removed more r out p =
      let x = found old n k (count, at) e in
      let f = x.fields in
      let i = x.image in
      let t = told old all n f i in
      let h = there old all n f i k x.key x.numbered in
      let counted = (text old all n f i).counted in
      answered r (remove_reply old n k) out (remove_left old n k)
      (remove_is old all n f i k r out h.has h.some h.inside (omega (arith, more, x.counted))
      (remove_key f.section.checkint (keys_in (take n old) f) old n (stands old all n f i) t.inside t.small k h.some
      (omega (arith, h.inside, counted)) _ _ _ _ _ _ _ h.places (count - 1) r out (omega (arith, counted, x.counted)) (rw x.places at p)))

pub returns-in_err-count : goal.returns-in_err-count
returns-in_err-count c = let a = c.args in
    let p = err_from_is_err_and c.from_residual.result c.from_residual.ensures.1 in
    rw (p.1, p.2) (remove_unfound a.lent.now (λ i. (c.slice_known-1.given i).fits) a.n a.k _ (sym c.find_key.ensures ∙ c.in_err-count.was))

pub returns-then-count-lt2 : goal.returns-then-count-lt2
returns-then-count-lt2 c = let a = c.args in
    rw c.refused.ensures (only a.lent.now (λ i. (c.slice_known-1.given i).fits) a.n a.k _ _ (sym c.find_key.ensures ∙ c.in_ok-count.was) c.if-count-lt2.true)

pub returns : goal.returns
returns c = let a = c.args in
    removed a.lent.now (λ i. (c.slice_known-1.given i).fits) a.n a.k _ _ (sym c.find_key.ensures ∙ c.in_ok-count.was) c.if-count-lt2.false _ _ c.remove.ensures
