-- The whole table of a record: it has the numbers of 1 to 16 keys, and a write by it is a write of those keys.
use Rattle.std.specs.Prelude.{ℕ, zero, suc, ◌+◌, ◌-◌, ◌≤◌, ◌≡◌, refl, true, take, Option, Some, None}
use native.Mathlib.Omega.{arith}
use mathlib.Core.List.{List, [], ◌∷◌, map}
use Rattle.std.proofs.Math.ListN.{length}
use Rattle.fields.specs.Bytes.{join}
use Rattle.fields.specs.declared.Cursor.{Cursor}
use Rattle.fields.specs.declared.Part.{Part}
use Rattle.places.specs.Places.{after_first}
use Rattle.reader_entries.specs.Back.{place_at}
use Rattle.reader_entries.specs.Entries.{key_placed}
use Rattle.reader_image.specs.declared.Fields.{Fields}
use Rattle.reader_image.specs.Container.{other_places}
use Rattle.reader_keys.specs.Keys.{first_fields}
use Rattle.buffer.specs.Puts.{IsPut, begins}
use Rattle.buffer.specs.Runs.{IsRun, start, step}
use Rattle.writer_keys.specs.Named.{IsNamed}
use Rattle.writer_keys.specs.Passes.{rest_of}
use Rattle.writer_listed.specs.Listed.{kept_part, others_at, after_blob, record_keys, listed_keys, IsListed}
use Rattle.writer_listed.specs.Rows.{row_of, table_of, table-length, table_reply, table_left}
use Rattle.writer_listed.specs.Steps.{places_from, places_others, others_none, others_nothing, others_key}
use Rattle.reader_entries.specs.declared.KeyFields.{KeyFields}
use Rattle.writer_reply.specs.Reply.{Written}

-- no more keys are found than there are places
others_few : (s : List ℕ) (b : Cursor) (l : List ℕ) → length (others_at s b l) ≤ length l
others_few s b [] = rw (others_none s b) (omega arith)
others_few s b (at ∷ more) = go (key_placed s b at) refl (λ d. others_few s d more)
  where
    go :
        (w : Option (KeyFields × Cursor)) → key_placed s b at ≡ w → ((d : Cursor) → length (others_at s d more) ≤ length more)
        → length (others_at s b (at ∷ more)) ≤ suc (length more)
    go None e few = rw (others_nothing s b at more e) (omega arith)
    go (Some (k, d)) e few = rw (others_key s b at more k d e) (omega (arith, few d))

take_few : (n : ℕ) (l : List ℕ) → length (take n l) ≤ length l
take_few zero l = omega arith
take_few (suc n) [] = omega arith
take_few (suc n) (x ∷ l) = omega (arith, take_few n l)

module _ (s : List ℕ) (f : Fields) where
  keys_some : 1 ≤ length (record_keys s f)
  unfolding record_keys
  keys_some = omega arith

  keys_few : length (record_keys s f) ≤ 16
  unfolding record_keys
  keys_few =
      omega (
        arith,
        others_few s (after_blob s f.header.blob) (other_places f),
        take_few (f.header.count - 1) (after_first f.section.places),
      )

  -- room for 16 keys is room for all of them: what stands at its start is the table
  pub table_put :
      (first : Part) → first ≡ kept_part s f.header.blob → (old mid out : List ℕ) (one size : ℕ) → length old ≡ 304
      → IsPut old 0 (row_of s (first_fields f)) one mid
      → IsRun mid one (join (map (row_of s) (others_at s (place_at (first.start + first.length) (length s)) (places_from f.section.places 1 f.header.count)))) size out
      → (size ≡ length (table_of s (record_keys s f))) × (take size out ≡ table_of s (record_keys s f)) × (size ≤ length out)
  unfolding record_keys table_of
  table_put first e old mid out one size room put rest =
      let others = map (row_of s) (others_at s (after_blob s f.header.blob) (other_places f)) in
      let fit : length (table_of s (record_keys s f)) ≤ length old = omega (arith, room, table-length s (record_keys s f), keys_few) in
      let run : IsRun mid one (join others) size out = rw (e, places_others f.section.places f.header.count) at rest in
      let done =
      begins old (table_of s (record_keys s f)) size out fit
      (rest_of (step (start {fields = row_of s (first_fields f) ∷ others} (omega (arith, fit))) put) run) in
      (done.0, done.1, omega (arith, done.0, done.2, fit))

  -- a write by the table answers and leaves what a write of the keys does
  pub table_written :
      (old : List ℕ) (r : Written) (out : List ℕ) → IsNamed true s (table_of s (record_keys s f)) f.section.checkint old r out → IsListed s f old r out
  unfolding listed_keys
  table_written old r out w =
      let keys = record_keys s f in
      rw (← table_reply s keys keys_some keys_few f.section.checkint (length old), ← table_left s keys keys_some keys_few f.section.checkint old) w
