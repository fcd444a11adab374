-- What inversion says of keys of a section that were read: that they stand there as the format writes them, each scalar in the form that it had.
use Prim.Native.Nat.{ℕ, ◌+◌, ◌≤◌}
use Rattle.std.specs.Prelude.{◌≡◌, Ok}
use mathlib.Core.List.{List, [], ◌∷◌, ◌++◌, map}
use Rattle.std.proofs.Math.ListN.{length}
use Rattle.fields.specs.Bytes.{string, join, AllBytes}
use Rattle.fields.specs.Fields.{view_of}
use Rattle.fields.specs.Rest.{rest, Good}
use Rattle.fields.specs.declared.Cursor.{Cursor}
use Rattle.fields.specs.declared.Part.{Part}
use Rattle.names.specs.declared.Algorithm.{Algorithm}
use Rattle.format.specs.Format.{Key, key_of, key_blob, keypair as pair, entry_fields, standing_entry, standing_entries}
use Rattle.key_public.specs.declared.Public.{Public}
use Rattle.key_public.specs.Keys.{public_bytes}
use Rattle.key_pairs.specs.declared.Private.{Private}
use Rattle.key_pairs.specs.Pairs.{private_bytes}
use Rattle.laws_keys.specs.ReadPair.{IfScalar, Begins}
use Rattle.places.specs.declared.Places.{Places}
use Rattle.places.specs.Places.{AllWithin, places_of}
use Rattle.reader_blobs.specs.Blobs.{blob_field_at, blob_bytes}
use Rattle.reader_blobs.specs.Read.{BlobText}
use Rattle.reader_entries.specs.declared.KeyFields.{KeyFields}
use Rattle.reader_entries.specs.Entries.{entry_at, key_read_of}
use Rattle.reader_entries.specs.Back.{KeyFits, AllFit}

module _ (s : List ℕ) (all : AllBytes s) where
  -- an accepted key: its keypair, which has the blob's public key, and its comment
  pub record EntryRead (c : Cursor) (a : Algorithm) (q : Public) (x : Private) (m : Part) (d : Cursor) : Type 0 where
    pub zeros : ℕ
    pub text : rest s c ≡ pair a zeros (public_bytes s q) (private_bytes s x) ++ (string (view_of s m) ++ rest s d)
    pub fits : KeyFits a zeros (public_bytes s q) (private_bytes s x) (view_of s m)
    pub begins : IfScalar a (Begins s x.scalar zeros)
    pub good : Good s d
    pub end : d.end ≡ c.end
    pub there : c.end ≡ length s → key_read_of s c.at ≡ key_of a (public_bytes s q) (private_bytes s x) (view_of s m)
    pub place : m.start ≡ c.at + length (pair a zeros (public_bytes s q) (private_bytes s x)) + 4
    pub size : length (view_of s m) ≡ m.length
    pub ends : m.start + m.length ≡ d.at

  -- a key that was read at c, with its blob at b: its places, and so many zeros before its scalar
  pub record KeyStands (c b : Cursor) (zeros : ℕ) : Type 0 where
    pub algorithm : Algorithm
    pub blob : Part
    pub public : Public
    pub blob-after : Cursor
    pub private : Private
    pub comment : Part
    pub after : Cursor
    pub blob_read : blob_field_at s b ≡ Ok ((algorithm, blob, public), blob-after)
    pub blob-text : BlobText s all b algorithm blob public blob-after
    pub entry_read : entry_at s c algorithm public ≡ Ok ((private, comment), after)
    pub entry_text : EntryRead c algorithm public private comment after
    pub same_zeros : entry_text.zeros ≡ zeros
    pub key : key_read_of s c.at ≡ key_of algorithm (public_bytes s public) (private_bytes s private) (view_of s comment)

  -- it is found by its two places
  abbrev pub found_key : {c b : Cursor} {zeros : ℕ} → KeyStands c b zeros → KeyFields
  found_key {c} k =
      record {
        algorithm = k.algorithm;
        blob = k.blob;
        public = k.public;
        begins = c.at;
        private = k.private;
        comment = k.comment;
      }

  -- keys one after the other, from c on, their blobs from b on: where each begins, and that it stands there
  abbrev pub AllStand : Cursor → Cursor → List ℕ → List ℕ → Type 0
  AllStand c b [] zs = Unit {0}
  AllStand c b (x ∷ l) [] = ⊥
  AllStand c b (x ∷ l) (z ∷ zs) = (x ≡ c.at) × ((k : KeyStands c b z) × AllStand k.after k.blob-after l zs)

  -- accepted keys, each with the blob of its number
  pub record MoreRead (c b : Cursor) (n : ℕ) (l : List ℕ) (d : Cursor) : Type 0 where
    pub zeros : List ℕ
    pub text : rest s c ≡ join (entry_fields (standing_entries zeros (map (key_read_of s) l))) ++ rest s d
    pub blobs : blob_bytes s b n ≡ map key_blob (map (key_read_of s) l)
    pub fits : AllFit zeros (map (key_read_of s) l)
    pub stand : AllStand c b l zeros
    pub counted : length l ≡ n
    pub inside : AllWithin (length s) l
    pub good : Good s d
    pub end : d.end ≡ length s

  -- the key that was read first, and the others by their places
  abbrev pub first_key : Algorithm → Public → Private → Part → Key
  first_key a q x m = key_of a (public_bytes s q) (private_bytes s x) (view_of s m)

  -- a section's accepted keys
  pub record KeysRead (c : Cursor) (a : Algorithm) (q : Public) (b : Cursor) (more : ℕ) (x : Private) (m : Part) (places : Places) (d : Cursor) : Type 0 where
    pub zeros : ℕ
    pub more_zeros : List ℕ
    pub others : List ℕ
    pub listed : places ≡ places_of (c.at ∷ others)
    pub text :
        rest s c ≡ join (entry_fields (standing_entries (zeros ∷ more_zeros) (first_key a q x m ∷ map (key_read_of s) others))) ++ rest s d
    pub blobs : blob_bytes s b more ≡ map key_blob (map (key_read_of s) others)
    pub fits : AllFit (zeros ∷ more_zeros) (first_key a q x m ∷ map (key_read_of s) others)
    pub begins : IfScalar a (Begins s x.scalar zeros)
    pub place : m.start ≡ c.at + length (standing_entry zeros (first_key a q x m)).pair + 4
    pub size : length (view_of s m) ≡ m.length
    pub comment_within : m.start ≤ length s
    pub second : Cursor
    pub second_starts : second.at ≡ m.start + m.length
    pub second_ends : second.end ≡ length s
    pub stand : AllStand second b others more_zeros
    pub counted : length others ≡ more
    pub inside : AllWithin (length s) others
    pub good : Good s d
    pub end : d.end ≡ length s
