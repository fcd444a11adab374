-- docs/RULES.md, 12: where key k of an image that may be edited stands, by the record and by the key's own fields.
use Rattle.std.specs.Prelude.{ℕ, ◌+◌, ◌-◌, List, take, Result, Ok, Err}
use Rattle.fields.specs.Fields.{fault}
use Rattle.fields.specs.declared.Fault.{Fault}
use Rattle.fields.specs.declared.Refusal.TheVariants.{Length}
use Rattle.reader_entries.specs.declared.KeyFields.{KeyFields}
use Rattle.reader_image.specs.declared.Fields.{Fields}
use Rattle.reader_keys.specs.Keys.{on_looked, key_numbered}
use Rattle.edit_shells.specs.declared.EditPlaces.{EditPlaces}
use Rattle.edit_file.specs.Edits.{on_editable, editable_at}

-- where a key stands in an image of n bytes
abbrev pub places_of : ℕ → Fields → KeyFields → EditPlaces
places_of n f key =
    record {
      blob = key.blob.start - 4;
      after = key.blob.start + key.blob.length;
      section = f.header.section;
      pair = key.begins;
      field = key.comment.start - 4;
      past = key.comment.start + key.comment.length;
      end = n - f.section.padding;
    }

-- how many keys the image has, and where key k stands; a missing one is 1
unfoldable pub key_stands : List ℕ → ℕ → ℕ → Result (ℕ × EditPlaces) Fault
key_stands old n k =
    on_editable (editable_at old n) Err (λ f.
    on_looked (key_numbered (take n old) f k) (Err (fault Length 0)) (λ key.
    Ok (f.header.count, places_of n f key)))
