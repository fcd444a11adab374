-- A key that `key_stands` finds is one that `key_numbered` finds in an image that may be edited; where it finds none, neither its comment is changed
-- nor the key removed. Rests on `missing`.
use Rattle.std.specs.Prelude.{ℕ, ◌≡◌, refl, List, take, Result, Option, Ok, Err, Some, None}
use Rattle.fields.specs.Bytes.{AllBytes}
use Rattle.fields.specs.Place.{clash}
use Rattle.fields.specs.Fields.{fault}
use Rattle.fields.specs.declared.Fault.{Fault}
use Rattle.fields.specs.declared.Refusal.TheVariants.{Length}
use Rattle.reader_entries.specs.declared.KeyFields.{KeyFields}
use Rattle.reader_image.specs.declared.Fields.{Fields}
use Rattle.reader_keys.specs.Keys.{key_numbered}
use Rattle.edit_shells.specs.declared.EditPlaces.{EditPlaces}
use Rattle.edit_file.specs.Find.{places_of, key_stands}
use Rattle.edit_file.specs.Edits.{editable_at, change_reply, change_left, remove_reply, remove_left, IsChange, IsRemove}
use Rattle.edit_file.proofs.Numbered.{missing}

-- by what was answered
by_editable : {P : Type 0} (w : Result Fields Fault) → ((h : Fault) → w ≡ Err h → P) → ((f : Fields) → w ≡ Ok f → P) → P
by_editable (Err h) refused image = refused h refl
by_editable (Ok f) refused image = image f refl

by_looked : {P : Type 0} (w : Option KeyFields) → (w ≡ None → P) → ((key : KeyFields) → w ≡ Some key → P) → P
by_looked None nothing looked = nothing refl
by_looked (Some key) nothing looked = looked key refl

-- the record and the key behind what was found
pub record Found (old : List ℕ) (n k : ℕ) (x : ℕ × EditPlaces) : Type 0 where
  pub fields : Fields
  pub key : KeyFields
  pub image : editable_at old n ≡ Ok fields
  pub numbered : key_numbered (take n old) fields k ≡ Some key
  pub counted : x.0 ≡ fields.header.count
  pub places : x.1 ≡ places_of n fields key

pub found : (old : List ℕ) (n k : ℕ) (x : ℕ × EditPlaces) → key_stands old n k ≡ Ok x → Found old n k x
unfolding key_stands
found old n k x e =
    by_editable (editable_at old n)
    (λ h w. let e₁ = rw w at e in clash cc)
    (λ f w.
    let e₁ = rw w at e in
    by_looked (key_numbered (take n old) f k)
    (λ v. let e₂ = rw v at e₁ in clash cc)
    (λ key v.
    let e₂ : Ok (f.header.count, places_of n f key) ≡ Ok x = rw v at e₁ in
    let same : (f.header.count, places_of n f key) ≡ x = cc in
    record { fields = f; key = key; image = w; numbered = v; counted = rw (← same); places = rw (← same) }))

-- what is refused before an edit
module _ (old : List ℕ) (all : AllBytes old) (n k : ℕ) (g : Fault) (e : key_stands old n k ≡ Err g) where
  pub change_unfound : (comment : List ℕ) → IsChange old n k comment (Err g) old
  unfolding key_stands change_reply change_left
  change_unfound comment =
      by_editable (editable_at old n)
      (λ h w. let e₁ = rw w at e in let same : h ≡ g = cc in rw (w, same) (refl, refl, refl))
      (λ f w.
      let e₁ = rw w at e in
      by_looked (key_numbered (take n old) f k)
      (λ v. let e₂ = rw v at e₁ in let same : fault Length 0 ≡ g = cc in rw (w, missing old all n f w k v, ← same) (refl, refl, refl))
      (λ key v. let e₂ = rw v at e₁ in clash cc))

  pub remove_unfound : IsRemove old n k (Err g) old
  unfolding key_stands remove_reply remove_left
  remove_unfound =
      by_editable (editable_at old n)
      (λ h w. let e₁ = rw w at e in let same : h ≡ g = cc in rw (w, same) (refl, refl, refl))
      (λ f w.
      let e₁ = rw w at e in
      by_looked (key_numbered (take n old) f k)
      (λ v. let e₂ = rw v at e₁ in let same : fault Length 0 ≡ g = cc in rw (w, missing old all n f w k v, ← same) (refl, refl, refl))
      (λ key v. let e₂ = rw v at e₁ in clash cc))
