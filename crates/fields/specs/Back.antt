-- Reading back: a field that stands at a place is read there, with its bytes, and what stands after it is what is left.
use Rattle.std.specs.Prelude.{ℕ, ◌+◌, ◌≤◌, ◌<◌, ◌^◌, ◌≡◌, refl, length}
use Rattle.std.proofs.Common.{arith, ◌∙◌, ap, Ok}
use Rattle.std.proofs.Math.Path.{sym}
use mathlib.Core.List.{List, [], ◌++◌, append_assoc}
use borrow.Author.Tests.{le-ltb}
use Rattle.std.proofs.Math.Seq.{length-slice}
use Rattle.fields.specs.declared.Cursor.{Cursor}
use Rattle.fields.specs.declared.Part.{Part}
use Rattle.fields.specs.Bytes.{uint32, string}
use Rattle.fields.specs.Fields.{number_at, part, moved, uint32_at, bytes_at, string_at, fixed_at, end_at, view_of, Read}
use Rattle.fields.specs.Room.{Room, room_is}
use Rattle.fields.specs.Rest.{rest, Good, rest_four, room_of, rest_back, digits_number, length-string}

-- the answer w has the bytes b, and t is what is left after it
pub record FieldBack (s : List ℕ) (w : Read Part) (b t : List ℕ) : Type 0 where
  pub place : Part
  pub next : Cursor
  pub read : w ≡ Ok (place, next)
  pub seen : view_of s place ≡ b
  pub size : place.length ≡ length b
  pub inside : place.start + place.length ≤ length s
  pub good : Good s next
  pub more : rest s next ≡ t

-- another reader that answers the same
pub also : {s : List ℕ} {w v : Read Part} {b t : List ℕ} → (a : FieldBack s w b t) → v ≡ Ok (a.place, a.next) → FieldBack s v b t
also a read =
    record {
      place = a.place;
      next = a.next;
      read = read;
      seen = a.seen;
      size = a.size;
      inside = a.inside;
      good = a.good;
      more = a.more;
    }

pub record Uint32Back (s : List ℕ) (w : Read ℕ) (n : ℕ) (t : List ℕ) : Type 0 where
  pub next : Cursor
  pub read : w ≡ Ok (n, next)
  pub good : Good s next
  pub more : rest s next ≡ t

module _ (s : List ℕ) (c : Cursor) (good : Good s c) where
  pub uint32_back : (n : ℕ) (t : List ℕ) → n < 2 ^ 32 → rest s c ≡ uint32 n ++ t → Uint32Back s (uint32_at s c) n t
  unfolding uint32_at uint32
  uint32_back n t h e =
      let room : Room s c 4 = room_of s c good (uint32 n) t e in
      let f = sym (rest_four s c room) ∙ e in
      let v : number_at s c.at ≡ n = cc (digits_number n h) in
      record {
        next = moved c 4;
        read = rw (room_is s c 4 room, v);
        good = omega arith;
        more = (rest_back s c good (uint32 n) t e).1;
      }

  pub bytes_back : (b t : List ℕ) → rest s c ≡ b ++ t → FieldBack s (bytes_at s c (length b)) b t
  unfolding bytes_at
  bytes_back b t e =
      let room = room_of s c good b t e in
      let k = rest_back s c good b t e in
      record {
        place = part c.at (length b);
        next = moved c (length b);
        read = rw (room_is s c (length b) room);
        seen = k.0;
        size = refl;
        inside = omega arith;
        good = omega arith;
        more = k.1;
      }

-- what stands in an image that is not longer than a uint32 says has a length that fits
pub short_of : (s : List ℕ) (c : Cursor) → Good s c → length s < 2 ^ 32 → (b t : List ℕ) → rest s c ≡ string b ++ t → length b < 2 ^ 32
short_of s c good small b t e =
    let r = room_of s c good (string b) t e in
    omega (arith, length-string b)

module _ (s : List ℕ) (c : Cursor) (good : Good s c) (b t : List ℕ) (short : length b < 2 ^ 32) (e : rest s c ≡ string b ++ t) where
  pub string_back : FieldBack s (string_at s c) b t
  unfolding string_at string
  string_back =
      let u = uint32_back s c good (length b) (b ++ t) short (e ∙ append_assoc (uint32 (length b)) b t) in
      let k = bytes_back s u.next u.good b t u.more in
      also k (rw (u.read, k.read))

  pub fixed_back : (k : ℕ) → length b ≡ k → FieldBack s (fixed_at s c k) b t
  unfolding fixed_at
  fixed_back k l =
      let a = string_back in
      also a (rw (a.read, le-ltb a.place.length k (omega arith), le-ltb k a.place.length (omega arith)))

-- where nothing is left, the end is clean
pub end_back : (s : List ℕ) (c : Cursor) → Good s c → rest s c ≡ [] → end_at c ≡ Ok tt
unfolding end_at
end_back s c good e =
    let l = sym (length-slice c.at c.end s good.1) ∙ ap length e in
    rw (le-ltb c.at c.end (omega arith))
