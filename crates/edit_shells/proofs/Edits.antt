-- docs/RULES.md, 12: the laws of an edit of the first n bytes of a buffer: what it answers by its places, its size and the room, and what it
-- leaves there.
use Rattle.std.specs.Prelude.{ℕ, ◌+◌, ◌-◌, ◌^◌, ◌≤◌, ◌<◌, ◌≡◌, refl, Bool, true, false, List, [], ◌∷◌, ◌++◌, leb, min, length, take, drop, Ok, Err, ⊤}
use Rattle.std.proofs.Common.{arith, sym, ap, ◌∙◌, append_assoc, append-nil, length-append, length-drop, take_at}
use borrow.Author.Tests.{le-leb, lt-leb, leb-true, leb-false}
use Rattle.fields.specs.Bytes.{join}
use Rattle.fields.specs.Place.{clash, by_bool}
use Rattle.fields.specs.Fields.{fault}
use Rattle.fields.specs.declared.Fault.{Fault}
use Rattle.fields.specs.declared.Refusal.TheVariants.{Length, Size, Room}
use Rattle.format.specs.Format.{padding_bytes}
use Rattle.buffer.specs.Runs.{join-append}
use Rattle.buffer.specs.Puts.{splice, placed, next, zeros, zeros-length, nothing_put, splice_nil, splice-splice}
use Rattle.writer_reply.specs.Reply.{refused, unless, left, sized_by, sized, IsSized, Written}
use Rattle.edit_shells.specs.Parts.{rises, Rises, rises-true, lengths, lengths_more, true-rises, not_rises, put_part}
use Rattle.edit_shells.specs.Edits.{places_checked, edit_reply, renewed, IsEdit, IsRenewed, IsOpened, IsRoomMade, IsEnding}

-- a writer's reply by its image's length
pub sized_by_lem : (image : List ℕ) (room : ℕ) → sized_by (length image) room ≡ sized image room
unfolding sized
sized_by_lem image room = refl

module _ (places : List ℕ) (size n room : ℕ) where
  pub many : 65535 < n → edit_reply places size n room ≡ refused Size
  unfolding edit_reply
  many h = rw (lt-leb _ _ h)

  pub disordered : n ≤ 65535 → rises 0 (places ++ n ∷ room ∷ []) ≡ false → edit_reply places size n room ≡ refused Length
  unfolding edit_reply
  disordered h k = rw (le-leb _ _ h, k)

  pub ordered : n ≤ 65535 → Rises 0 (places ++ n ∷ room ∷ []) → edit_reply places size n room ≡ sized_by size room
  unfolding edit_reply
  ordered h k = rw (le-leb _ _ h, true-rises 0 (places ++ n ∷ room ∷ []) k)

  -- what the test of the places answers
  not_placed : (f : Fault) → places_checked n (places ++ n ∷ room ∷ []) ≡ Err f → edit_reply places size n room ≡ Err f
  not_placed f e =
      by_bool (leb n 65535)
      (λ w.
      let e₁ = rw w at e in
      by_bool (rises 0 (places ++ n ∷ room ∷ []))
      (λ v. let e₂ = rw v at e₁ in clash cc)
      (λ v. let e₂ = rw v at e₁ in let same : fault Length 0 ≡ f = cc in disordered (leb-true n 65535 w) v ∙ ap (λ (g : Fault). Err g) same))
      (λ w. let e₁ = rw w at e in let same : fault Size 0 ≡ f = cc in many (leb-false n 65535 w) ∙ ap (λ (g : Fault). Err g) same)

-- of places that passed, n is within the limit and they rise
pub placed_rise : (n : ℕ) (xs : List ℕ) (x : ⊤) → places_checked n xs ≡ Ok x → (n ≤ 65535) × Rises 0 xs
placed_rise n xs x e =
    by_bool (leb n 65535)
    (λ w.
    let e₁ = rw w at e in
    by_bool (rises 0 xs)
    (λ v. (leb-true n 65535 w, rises-true 0 xs v))
    (λ v. let e₂ = rw v at e₁ in clash cc))
    (λ w. let e₁ = rw w at e in clash cc)

-- a place among others is at or before n
before_end : (a : ℕ) (xs : List ℕ) (x : ℕ) (ys : List ℕ) (n room : ℕ) → Rises a (xs ++ x ∷ ys ++ n ∷ room ∷ []) → x ≤ n
before_end a [] x [] n room r = r.1.0
before_end a [] x (y ∷ ys) n room r = omega (arith, r.1.0, before_end x [] y ys n room r.1)
before_end a (w ∷ xs) x ys n room r = before_end w xs x ys n room r.1

-- a sum that is counted no further than the largest number passes exactly where the true one does
pub checked_saturated :
    (n room section inside : ℕ) (xs ys : List ℕ) → inside ≡ min (section + 4) (2 ^ 64 - 1)
    → places_checked n (xs ++ inside ∷ ys ++ n ∷ room ∷ []) ≡ places_checked n (xs ++ (section + 4) ∷ ys ++ n ∷ room ∷ [])
checked_saturated n room section inside xs ys e =
    by_bool (leb (section + 4) (2 ^ 64 - 1))
    (λ w. let same : inside ≡ section + 4 = omega (arith, leb-true (section + 4) (2 ^ 64 - 1) w) in rw same)
    (λ w.
    let over = leb-false (section + 4) (2 ^ 64 - 1) w in
    by_bool (leb n 65535)
    (λ v.
    let small = leb-true n 65535 v in
    let one : rises 0 (xs ++ inside ∷ ys ++ n ∷ room ∷ []) ≡ false =
    not_rises 0 (xs ++ inside ∷ ys ++ n ∷ room ∷ []) (λ r. omega (arith, before_end 0 xs inside ys n room r)) in
    let two : rises 0 (xs ++ (section + 4) ∷ ys ++ n ∷ room ∷ []) ≡ false =
    not_rises 0 (xs ++ (section + 4) ∷ ys ++ n ∷ room ∷ []) (λ r. omega (arith, before_end 0 xs (section + 4) ys n room r)) in
    rw (v, one, two))
    (λ v. rw v))

-- a length is answered where the image fits
pub fits_of : (size room k : ℕ) → Ok k ≡ sized_by size room → (k ≡ size) × (size ≤ 65535) × (size ≤ room)
fits_of size room k e = small (leb size 65535) (leb size room) refl refl e
  where
    small :
        (s r : Bool) → leb size 65535 ≡ s → leb size room ≡ r → Ok k ≡ unless s Size (unless r Room (Ok size))
        → (k ≡ size) × (size ≤ 65535) × (size ≤ room)
    small true true h g q = (cc, leb-true size 65535 h, leb-true size room g)
    small true false h g q = let z : ◌≡◌ {A = ℕ} 0 1 = cc in absurd (omega arith)
    small false r h g q = let z : ◌≡◌ {A = ℕ} 0 1 = cc in absurd (omega arith)

module _ (image : List ℕ) (n : ℕ) (old : List ℕ) where
  -- refused for its size or the room, an edit changes nothing
  pub refused_size : 65535 < length image → IsRenewed image n old (refused Size) old
  unfolding sized
  refused_size h = rw (lt-leb _ _ h) (refl, refl)

  -- by the test of the size
  pub renewed_refused : (size : ℕ) (f : Fault) → length image ≡ size → sized_by size (length old) ≡ Err f → IsRenewed image n old (Err f) old
  unfolding sized
  renewed_refused size f l e = let e' : sized_by (length image) (length old) ≡ Err f = rw l e in rw e' (refl, refl)

  -- by the places
  pub edit_refused :
      (places : List ℕ) (f : Fault) → places_checked n (places ++ n ∷ length old ∷ []) ≡ Err f → IsEdit places image n old (Err f) old
  edit_refused places f e = rw (not_placed places (length image) n (length old) f e) (refl, refl)

  -- in order, an edit is a renewal, and the other way round
  reply_same :
      (places : List ℕ) → n ≤ 65535 → Rises 0 (places ++ n ∷ length old ∷ [])
      → edit_reply places (length image) n (length old) ≡ sized image (length old)
  reply_same places h k = ordered places (length image) n (length old) h k ∙ sized_by_lem image (length old)

  pub renewed_edit :
      (places : List ℕ) (r : Written) (out : List ℕ) → n ≤ 65535 → Rises 0 (places ++ n ∷ length old ∷ []) → IsRenewed image n old r out
      → IsEdit places image n old r out
  renewed_edit places r out h k p = rw (reply_same places h k) p

  pub edit_renewed :
      (places : List ℕ) (r : Written) (out : List ℕ) → n ≤ 65535 → Rises 0 (places ++ n ∷ length old ∷ []) → IsEdit places image n old r out
      → IsRenewed image n old r out
  edit_renewed places r out h k p = rw (reply_same places h k) at p

-- the same of an edit that only makes room
module _ (size : ℕ) (image old : List ℕ) where
  pub room_size : 65535 < size → IsRoomMade size image old (refused Size) old
  room_size h = rw (lt-leb _ _ h) (refl, refl)

  pub room_refused : (f : Fault) → sized_by size (length old) ≡ Err f → IsRoomMade size image old (Err f) old
  room_refused f e = rw e (refl, refl)

  pub room_made : (out : List ℕ) → size ≤ 65535 → size ≤ length old → out ≡ splice old 0 image → IsRoomMade size image old (Ok size) out
  room_made out h k e = rw (le-leb _ _ h, le-leb _ _ k) (refl, e)

module _ (size : ℕ) (image : List ℕ) (n : ℕ) (old : List ℕ) where
  pub opened_refused :
      (places : List ℕ) (f : Fault) → places_checked n (places ++ n ∷ length old ∷ []) ≡ Err f → IsOpened places size image n old (Err f) old
  opened_refused places f e = rw (not_placed places size n (length old) f e) (refl, refl)

  pub room_opened :
      (places : List ℕ) (r : Written) (out : List ℕ) → n ≤ 65535 → Rises 0 (places ++ n ∷ length old ∷ []) → IsRoomMade size image old r out
      → IsOpened places size image n old r out
  room_opened places r out h k p = rw (ordered places size n (length old) h k) p

  pub opened_room :
      (places : List ℕ) (r : Written) (out : List ℕ) → n ≤ 65535 → Rises 0 (places ++ n ∷ length old ∷ []) → IsOpened places size image n old r out
      → IsRoomMade size image old r out
  opened_room places r out h k p = rw (ordered places size n (length old) h k) at p

-- where the image ends at n or past it, there are no zeros to be put
pub no_zeros : (out : List ℕ) (end n : ℕ) → n ≤ end → out ≡ placed out end (zeros (n - end))
unfolding zeros
no_zeros out end n h =
    let none : n - end ≡ 0 = omega arith in
    (nothing_put out end).1 ∙ rw none

-- ---- an edit that is done, in parts

-- both ends are within the buffer
pub ends_within : (size n room : ℕ) → size ≤ room → n ≤ room → size + (n - size) ≤ room
ends_within size n room h k = omega arith

-- a put at the start of a buffer
pub from_start : (old new : List ℕ) (k : ℕ) → length new ≡ k → splice old 0 new ≡ new ++ drop k old
unfolding splice
from_start old new k e = let past : 0 + length new ≡ k = omega arith in rw past

-- an image's ending over the two parts that it takes
pub ending_parts :
    (before : List (List ℕ)) (x y : List ℕ) (after : List (List ℕ)) (out out' : List ℕ) (at padding n r : ℕ) → out ≡ join (before ++ x ∷ y ∷ after)
    → at ≡ lengths before → length (take padding padding_bytes) ≡ length x → length y ≡ n - (at + length x) → IsEnding out at padding n r out'
    → (r ≡ at + length x) × (out' ≡ join (before ++ take padding padding_bytes ∷ zeros (n - (at + length x)) ∷ after))
ending_parts before x y after out out' at padding n r e p lx ly ends =
    let pad = take padding padding_bytes in
    let padded = before ++ pad ∷ [] in
    let first = put_part before x pad (y ∷ after) out at (next out at pad) (placed out at pad) e p lx (refl, refl) in
    let past : r ≡ at + length x = ends.0 ∙ first.0 ∙ ap (λ (i : ℕ). at + i) lx in
    let whole : placed out at pad ≡ join (padded ++ y ∷ after) = first.1 ∙ ap join (sym (append_assoc before (pad ∷ []) (y ∷ after))) in
    let place : r ≡ lengths padded = omega (arith, lengths_more before pad) in
    let nothing : length (zeros (n - r)) ≡ length y = omega (arith, zeros-length (n - r)) in
    let second = put_part padded y (zeros (n - r)) after (placed out at pad) r (next (placed out at pad) r (zeros (n - r))) out' whole place nothing
    (refl, ends.1) in (
      past,
      second.1 ∙ ap join (append_assoc before (pad ∷ []) (zeros (n - r) ∷ after))
          ∙ ap (λ (i : ℕ). join (before ++ pad ∷ zeros (n - i) ∷ after)) past,
    )

-- an image at the start of a buffer, and zeros from its end to n
pub stands :
    (image : List ℕ) (n : ℕ) (old : List ℕ) (k : ℕ) → k ≡ length image → k ≤ length old → n ≤ length old
    → splice (splice old 0 image) k (zeros (n - k)) ≡ image ++ (zeros (n - k) ++ drop (k + (n - k)) old)
stands image n old k l room inside =
    let lz = zeros-length (n - k) in
    let at : k ≡ 0 + length image = omega arith in
    let both : length (image ++ zeros (n - k)) ≡ k + (n - k) = length-append image (zeros (n - k)) ∙ omega arith in
    ap (λ (i : ℕ). splice (splice old 0 image) i (zeros (n - k))) at ∙ splice-splice old 0 image (zeros (n - k)) (omega arith)
    ∙ from_start old (image ++ zeros (n - k)) (k + (n - k)) both ∙ append_assoc image (zeros (n - k)) (drop (k + (n - k)) old)

-- the parts of an image, the zeros after it, and what was past both ends
pub renewed_parts :
    (parts : List (List ℕ)) (image : List ℕ) (n : ℕ) (old out : List ℕ) (k : ℕ) → image ≡ join parts → k ≡ length image → k ≤ 65535 → k ≤ length old
    → n ≤ length old → out ≡ join (parts ++ zeros (n - k) ∷ drop (k + (n - k)) old ∷ []) → IsRenewed image n old (Ok k) out
unfolding sized
renewed_parts parts image n old out k e l small room inside o =
    rw (← l, le-leb _ _ small, le-leb _ _ room)
    (refl, o ∙ join-append parts (zeros (n - k) ∷ drop (k + (n - k)) old ∷ []) ∙ rw (← e, append-nil) (sym (stands image n old k l room inside)))

-- ---- what an edit leaves

-- an edit that is done leaves its image at the buffer's start, and the buffer as long as it was
pub renewed_begins :
    (image : List ℕ) (n : ℕ) (old : List ℕ) (k : ℕ) (out : List ℕ) → n ≤ length old → IsRenewed image n old (Ok k) out
    → (k ≡ length image) × (k ≤ 65535) × (take k out ≡ image) × (length out ≡ length old)
renewed_begins image n old k out inside p =
    let fit = fits_of (length image) (length old) k (p.0 ∙ sym (sized_by_lem image (length old))) in
    let l : k ≡ length image = fit.0 in
    let rest = zeros (n - k) ++ drop (k + (n - k)) old in
    let o : out ≡ image ++ rest =
    p.1 ∙ ap (λ (w : Written). renewed w image n old) (sym p.0) ∙ stands image n old k l (omega arith) inside in
    let lr : length rest ≡ (n - k) + (length old - (k + (n - k))) =
    length-append (zeros (n - k)) (drop (k + (n - k)) old) ∙ rw (zeros-length (n - k), length-drop (k + (n - k)) old) in
    (l, omega arith, ap (take k) o ∙ take_at image rest k (sym l), ap length o ∙ length-append image rest ∙ omega arith)

none_spliced : (l : List ℕ) (at : ℕ) → splice l at (zeros 0) ≡ l
unfolding zeros
none_spliced l at = splice_nil l at

-- a write that makes the image no shorter is an edit: there is nothing to be zeroed
pub sized-renewed :
    (image : List ℕ) (n : ℕ) (old : List ℕ) (r : Written) (out : List ℕ) → n ≤ length image → IsSized image old r out → IsRenewed image n old r out
sized-renewed image n old (Err f) out h p =
    (p.0, p.1 ∙ ap (λ (w : Written). left w image old) (sym p.0) ∙ ap (λ (w : Written). renewed w image n old) p.0)
sized-renewed image n old (Ok k) out h p =
    let fit = fits_of (length image) (length old) k (p.0 ∙ sym (sized_by_lem image (length old))) in
    let none : n - k ≡ 0 = omega arith in
    let same : splice old 0 image ≡ splice (splice old 0 image) k (zeros (n - k)) = sym (rw none (none_spliced (splice old 0 image) k)) in
    (p.0, p.1 ∙ ap (λ (w : Written). left w image old) (sym p.0) ∙ same ∙ ap (λ (w : Written). renewed w image n old) p.0)
