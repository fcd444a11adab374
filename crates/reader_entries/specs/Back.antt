-- What reading back says of keys that stand in a section as the format writes them: that they are read, each with its fields.
use Rattle.std.specs.Prelude.{ℕ, ◌≡◌, true, List, [], ◌∷◌, map, length, Ok}
use Rattle.fields.specs.Fields.{view_of, Read}
use Rattle.fields.specs.Rest.{rest, Good}
use Rattle.fields.specs.declared.Cursor.{Cursor}
use Rattle.fields.specs.declared.Part.{Part}
use Rattle.names.specs.declared.Algorithm.{Algorithm}
use Rattle.utf8.specs.Utf8.{utf8}
use Rattle.format.specs.Format.{PublicBytes, PrivateBytes, Key, PublicFits, PrivateFits, MayStand}
use Rattle.key_pairs.specs.declared.Private.{Private}
use Rattle.key_pairs.specs.Pairs.{private_bytes}
use Rattle.places.specs.Places.{AllWithin, places_of}
use Rattle.reader_entries.specs.Entries.{Listed, Are, Keys, Keys-are, key_read_of}

-- a key that fits the format, a scalar in a form that it may have, and a comment that is UTF-8
pub record KeyFits (a : Algorithm) (zeros : ℕ) (key : PublicBytes) (x : PrivateBytes) (comment : List ℕ) : Type 0 where
  pub public : PublicFits a key
  pub private : PrivateFits a key x
  pub may : MayStand a zeros x
  pub text : utf8 comment ≡ true

pub record EntryBack (s : List ℕ) (c : Cursor) (w : Read (Private × Part)) (k : Key) (t : List ℕ) : Type 0 where
  pub private : Private
  pub place : Part
  pub next : Cursor
  pub read : w ≡ Ok ((private, place), next)
  pub kept : private_bytes s private ≡ k.private
  pub seen : view_of s place ≡ k.comment
  pub size : place.length ≡ length k.comment
  pub there : c.end ≡ length s → key_read_of s c.at ≡ k
  pub good : Good s next
  pub more : rest s next ≡ t
  pub end : next.end ≡ c.end

-- a place by its end
abbrev pub place_at : ℕ → ℕ → Cursor
place_at at end = record { at = at; end = end }

-- keys that fit, each so many zeros before its scalar
abbrev pub AllFit : List ℕ → List Key → Type 0
AllFit [] [] = Unit {0}
AllFit [] (k ∷ keys) = ⊥
AllFit (z ∷ more) [] = ⊥
AllFit (z ∷ more) (k ∷ keys) = KeyFits k.algorithm z k.public k.private k.comment × AllFit more keys

-- keys that were read: where they begin, and that they stand there
pub record MoreBack (s : List ℕ) (w : Listed) (keys : List Key) (t : List ℕ) : Type 0 where
  pub places : List ℕ
  pub next : Cursor
  pub read : w ≡ Are places next
  pub there : map (key_read_of s) places ≡ keys
  pub inside : AllWithin (length s) places
  pub counted : length places ≡ length keys
  pub good : Good s next
  pub more : rest s next ≡ t
  pub end : next.end ≡ length s

-- the first key and the others: the first one's fields, and where each begins
pub record KeysBack (s : List ℕ) (c : Cursor) (w : Keys) (k : Key) (others : List Key) (t : List ℕ) : Type 0 where
  pub private : Private
  pub place : Part
  pub places : List ℕ
  pub next : Cursor
  pub read : w ≡ Keys-are private place (places_of (c.at ∷ places)) next
  pub kept : private_bytes s private ≡ k.private
  pub seen : view_of s place ≡ k.comment
  pub size : place.length ≡ length k.comment
  pub there : map (key_read_of s) places ≡ others
  pub inside : AllWithin (length s) places
  pub counted : length places ≡ length others
  pub good : Good s next
  pub more : rest s next ≡ t
  pub end : next.end ≡ length s
