-- docs/RULES.md, 9.4: key k of a record. The first is told by the record's own fields, another by the blob of its number and by the place at which
-- its keypair begins; a number that the record doesn't have, or a place that isn't within the image, gives nothing.
use Rattle.std.specs.Prelude.{ℕ, ◌+◌, ◌-◌, cond, List, eqb, ltb, leb, length, get_or, Option, Some, None}
use Rattle.fields.specs.declared.Part.{Part}
use Rattle.places.specs.Places.{list_of}
use Rattle.reader_blobs.specs.Blobs.{on_blobs, blobs_at}
use Rattle.reader_entries.specs.declared.KeyFields.{KeyFields}
use Rattle.reader_entries.specs.Entries.{on_key_read, key_placed}
use Rattle.reader_image.specs.declared.Fields.{Fields}

abbrev pub on_looked : {R : Type 0} → Option KeyFields → R → (KeyFields → R) → R
on_looked None nothing key = nothing
on_looked (Some k) nothing key = key k

-- where key k begins
abbrev pub place_of : Fields → ℕ → ℕ
place_of f k = get_or (list_of f.section.places) (k - 1) 0

abbrev pub first_fields : Fields → KeyFields
first_fields f =
    record {
      algorithm = f.header.algorithm;
      blob = f.header.blob;
      public = f.header.public;
      begins = place_of f 1;
      private = f.section.private;
      comment = f.section.comment;
    }

-- a key after the first, by the number of blobs between the first one's and its own and by the place at which its keypair begins
unfoldable pub other_key : List ℕ → Part → ℕ → ℕ → Option KeyFields
other_key s first between at =
    cond (leb (first.start + first.length) (length s))
    (on_blobs (blobs_at s (record { at = first.start + first.length; end = length s }) between) (λ g. None) (λ b.
    on_key_read (key_placed s b at) None (λ key d.
    Some key)))
    None

unfoldable pub key_numbered : List ℕ → Fields → ℕ → Option KeyFields
key_numbered s f k =
    cond (eqb k 0) None
    (cond (ltb f.header.count k) None
    (cond (eqb k 1) (Some (first_fields f))
    (other_key s f.header.blob (k - 2) (place_of f k))))
