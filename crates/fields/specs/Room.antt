-- What a room that is found, or not, says of the numbers; where a part's bytes are.
use Rattle.std.specs.Prelude.{ℕ, zero, suc, ◌+◌, ◌≤◌, ◌<◌, ◌≡◌, refl, List, [], ◌∷◌, Bool, true, false, ◌&&◌, leb, length, take, drop}
use Rattle.std.proofs.Common.{zero-add, suc-add}
use borrow.Author.Tests.{leb-true, le-leb, lt-leb}
use Rattle.std.proofs.Math.Seq.{slice, take-nil}
use Rattle.fields.specs.declared.Cursor.{Cursor}
use Rattle.fields.specs.declared.Part.{Part}
use Rattle.fields.specs.Bytes.{both_true}
use Rattle.fields.specs.Fields.{has_room, view_of, view_start}

-- k more bytes remain in the enclosing part, and that is within the image
abbrev pub Room : List ℕ → Cursor → ℕ → Type 0
Room s c k = (c.at + k ≤ c.end) × (c.end ≤ length s)

never_both : (a : Bool) → (a && false) ≡ false
never_both true = refl
never_both false = refl

module _ (s : List ℕ) (c : Cursor) (k : ℕ) where
  pub room_fits : has_room s c k ≡ true → Room s c k
  unfolding has_room
  room_fits e =
      let b = both_true (leb (c.at + k) c.end) (leb c.end (length s)) e in
      (leb-true _ _ b.0, leb-true _ _ b.1)

  pub room_is : Room s c k → has_room s c k ≡ true
  unfolding has_room
  room_is r = simp (le-leb _ _ r.0, le-leb _ _ r.1)

  pub room_short : c.end < c.at + k → has_room s c k ≡ false
  unfolding has_room
  room_short h = simp (lt-leb _ _ h)

  pub room_out : length s < c.end → has_room s c k ≡ false
  unfolding has_room
  room_out h = simp (lt-leb _ _ h, never_both)

-- a part by its start and length is the part between its ends
pub take-drop : (k a : ℕ) (s : List ℕ) → take k (drop a s) ≡ slice a (a + k) s
take-drop k zero s = rw zero-add
take-drop k (suc a) [] = simp take-nil
take-drop k (suc a) (x ∷ xs) = rw suc-add (take-drop k a xs)

module _ (s : List ℕ) (p : Part) where
  pub view_in : p.start + p.length ≤ length s → view_of s p ≡ slice p.start (p.start + p.length) s
  unfolding view_of
  view_in h = simp (le-leb _ _ h)

  pub view_out : length s < p.start + p.length → (view_of s p ≡ []) × (view_start s p ≡ 0)
  unfolding view_of view_start
  view_out h = (simp (lt-leb _ _ h), simp (lt-leb _ _ h))

  pub start_in : p.start + p.length ≤ length s → view_start s p ≡ p.start
  unfolding view_start
  start_in h = simp (le-leb _ _ h)
