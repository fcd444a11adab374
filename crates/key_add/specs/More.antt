-- docs/RULES.md, 12: an image that a key may be added to has fewer than 16 keys, and room is made for the key at its last key's end. Lengths that
-- were capped make the same room.
use Rattle.std.specs.Prelude.{ℕ, ◌+◌, ◌-◌, ◌≤◌, ◌<◌, ◌^◌, ◌≡◌, refl, Bool, cond, List, [], ◌∷◌, ◌++◌, leb, ltb, length, Result, Ok, Err}
use Rattle.std.proofs.Common.{arith, sym, ◌∙◌, ap, ltb-true, ltb-false}
use Rattle.std.proofs.Math.Bool.{true, false}
use Rattle.std.proofs.lemmas.Bool.{lt-leb}
use Rattle.fields.specs.Place.{clash, by_bool}
use Rattle.fields.specs.declared.Fault.{Fault}
use Rattle.fields.specs.declared.Refusal.TheVariants.{Length, CharacterEncoding, Size}
use Rattle.utf8.specs.Utf8.{utf8}
use Rattle.reader_image.specs.declared.Fields.{Fields}
use Rattle.writer_reply.specs.Reply.{refused, unless, left, sized_by, Written}
use Rattle.writer_parts.specs.Sizes.{capped, capped_small, capped_large}
use Rattle.edit_shells.specs.Parts.{rises}
use Rattle.edit_shells.specs.Shells.{opened_at, opened_size}
use Rattle.edit_shells.specs.Edits.{added_by_places, edit_reply, IsOpened}
use Rattle.edit_shells.proofs.Edits.{fits_of}
use Rattle.edit_add.specs.Open.{size_over}
use Rattle.edit_file.specs.Edits.{on_editable, refused_whole, editable_at}

-- ---- an image that may be edited and has fewer than 16 keys

unfoldable pub more_at : List ℕ → ℕ → Result Fields Fault
more_at old n =
    on_editable (editable_at old n) Err (λ f.
    cond (ltb f.header.count 16) (Ok f) (refused_whole Length))

-- by what was answered
by_editable : {P : Type 0} (w : Result Fields Fault) → ((g : Fault) → w ≡ Err g → P) → ((f : Fields) → w ≡ Ok f → P) → P
by_editable (Err g) refused' image = refused' g refl
by_editable (Ok f) refused' image = image f refl

-- of one that is refused, the image is, or has 16 keys
pub more_not :
    {P : Type 0} (old : List ℕ) (n : ℕ) (g : Fault) → more_at old n ≡ Err g → (editable_at old n ≡ Err g → P)
    → ((f : Fields) → editable_at old n ≡ Ok f → 16 ≤ f.header.count → Err g ≡ refused_whole Length → P) → P
unfolding more_at
more_not old n g e image many =
    by_editable (editable_at old n)
    (λ h w. let same : Err h ≡ Err g = rw w at e in image (w ∙ same))
    (λ f w.
    let e₁ = rw w at e in
    by_bool (ltb f.header.count 16)
    (λ l. let e₂ = rw l at e₁ in clash cc)
    (λ l. let e₂ = rw l at e₁ in many f w (ltb-false f.header.count 16 l) (sym e₂)))

pub more_is : (old : List ℕ) (n : ℕ) (f : Fields) → more_at old n ≡ Ok f → (editable_at old n ≡ Ok f) × (f.header.count < 16)
unfolding more_at
more_is old n f e =
    by_editable (editable_at old n)
    (λ h w. let e₁ = rw w at e in clash cc)
    (λ g w.
    let e₁ = rw w at e in
    by_bool (ltb g.header.count 16)
    (λ l.
    let e₂ : Ok g ≡ Ok f = rw l at e₁ in
    let same : g ≡ f = cc in
    (w ∙ e₂, rw same at (ltb-true g.header.count 16 l)))
    (λ l. let e₂ = rw l at e₁ in clash cc))

-- ---- room for a key whose blob takes `blob` bytes as a string and whose keypair has `pair`

-- where the padding begins in an image of n bytes
abbrev pub end_of : ℕ → Fields → ℕ
end_of n f = n - f.section.padding

-- what keypair and comment take
abbrev pub own_of : ℕ → List ℕ → ℕ
own_of pair comment = pair + (4 + length comment)

unfoldable pub room_reply : List ℕ → ℕ → Fields → ℕ → ℕ → List ℕ → Written
room_reply old n f blob pair comment =
    unless (utf8 comment) CharacterEncoding
    (edit_reply (added_by_places f.header.section (end_of n f)) (opened_size f.header.section (end_of n f) blob (capped (own_of pair comment))) n (length old))

-- the contract: it answers r and leaves out
abbrev pub IsRoom : List ℕ → ℕ → Fields → ℕ → ℕ → List ℕ → Written → List ℕ → Type 0
IsRoom old n f blob pair comment r out =
    (r ≡ room_reply old n f blob pair comment)
    × (out
    ≡ left (room_reply old n f blob pair comment)
    (opened_at old (f.header.count + 1) f.header.section (end_of n f) blob (capped (own_of pair comment))) old)

-- what a room that was made says
module _ (places : List ℕ) (size n room : ℕ) where
  pub reply_fits : (k : ℕ) → Ok k ≡ edit_reply places size n room → (k ≡ size) × (size ≤ 65535) × (size ≤ room)
  unfolding edit_reply
  reply_fits k e = go (leb n 65535) (rises 0 (places ++ n ∷ room ∷ [])) e
    where
      go : (a b : Bool) → Ok k ≡ unless a Size (unless b Length (sized_by size room)) → (k ≡ size) × (size ≤ 65535) × (size ≤ room)
      go true true w = fits_of size room k w
      go true false w = clash cc
      go false b w = clash cc

  -- too large, it is refused whatever its size is
  over : 65535 < size → edit_reply places size n room ≡ unless (leb n 65535) Size (unless (rises 0 (places ++ n ∷ room ∷ [])) Length (refused Size))
  unfolding edit_reply
  over h = rw (lt-leb size 65535 h)

refused_left : (a b : Bool) (image old : List ℕ) → left (unless a Size (unless b Length (refused Size))) image old ≡ old
refused_left true true image old = refl
refused_left true false image old = refl
refused_left false b image old = refl

-- ---- lengths that were capped

module _ (places : List ℕ) (old : List ℕ) (n count section end : ℕ) where
  both_over :
      (b o b' o' : ℕ) (r : Written) (out : List ℕ) → 65535 < b + o → 65535 < b' + o'
      → IsOpened places (opened_size section end b o) (opened_at old count section end b o) n old r out
      → IsOpened places (opened_size section end b' o') (opened_at old count section end b' o') n old r out
  both_over b o b' o' r out h k p =
      let e = over places (opened_size section end b o) n (length old) (omega (arith, h, size_over section end b o)) in
      let e' = over places (opened_size section end b' o') n (length old) (omega (arith, k, size_over section end b' o')) in
      let none = refused_left (leb n 65535) (rises 0 (places ++ n ∷ length old ∷ [])) in (
        p.0 ∙ e ∙ sym e',
        p.1 ∙ ap (λ (w : Written). left w (opened_at old count section end b o) old) e ∙ none (opened_at old count section end b o) old
            ∙ sym (none (opened_at old count section end b' o') old)
            ∙ ap (λ (w : Written). left w (opened_at old count section end b' o') old) (sym e'),
      )

  pub opened_capped :
      (b o b' o' : ℕ) (r : Written) (out : List ℕ) → b ≡ capped b' → o ≡ capped o'
      → IsOpened places (opened_size section end b o) (opened_at old count section end b o) n old r out
      → IsOpened places (opened_size section end b' o') (opened_at old count section end b' o') n old r out
  opened_capped b o b' o' r out eb eo p =
      by_bool (ltb b' (2 ^ 63))
      (λ w.
      by_bool (ltb o' (2 ^ 63))
      (λ v. rw (eb ∙ capped_small b' (ltb-true b' (2 ^ 63) w), eo ∙ capped_small o' (ltb-true o' (2 ^ 63) v)) at p)
      (λ v. let long = ltb-false o' (2 ^ 63) v in both_over b o b' o' r out (omega (arith, eo, capped_large o' long)) (omega (arith, long)) p))
      (λ w. let long = ltb-false b' (2 ^ 63) w in both_over b o b' o' r out (omega (arith, eb, capped_large b' long)) (omega (arith, long)) p)
