-- docs/RULES.md, 12: the places of a key within the image of a file's keys.
use Rattle.std.specs.Prelude.{ℕ, suc, ◌-◌, ◌≡◌, List, map}
use Rattle.format.specs.Format.{Key, key_blob, written_entry}
use Rattle.edit_shells.specs.Keys.{blob_place, section_place, entry_place, end_place, comment_place}

-- where the parts of key k stand in the image of some keys: its blob's string from `blob` to `after`, its entry from `pair` to `past` with the
-- comment's field at `field`; the section's length field at `section`, and the padding at `end`
pub record KeyPlaces (keys : List Key) (k blob after section pair field past end : ℕ) : Type 0 where
  pub blob_is : blob ≡ blob_place (k - 1) (map key_blob keys)
  pub after_is : after ≡ blob_place (suc (k - 1)) (map key_blob keys)
  pub section_is : section ≡ section_place (map key_blob keys)
  pub pair_is : pair ≡ entry_place (map key_blob keys) (k - 1) (map written_entry keys)
  pub field_is : field ≡ comment_place (map key_blob keys) (k - 1) (map written_entry keys)
  pub past_is : past ≡ entry_place (map key_blob keys) (suc (k - 1)) (map written_entry keys)
  pub end_is : end ≡ end_place (map key_blob keys) (map written_entry keys)
