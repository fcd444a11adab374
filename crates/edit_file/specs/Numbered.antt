-- Key k of an image that may be edited, as `key_numbered` finds it: it finds a key exactly where the file has one of that number, and then its places
-- are within the image. Rests on `key_places` and on the order of a key's places.
use Rattle.std.specs.Prelude.{ℕ, ◌+◌, ◌-◌, ◌≤◌, ◌<◌, ◌≡◌, true, List, leb, take, Ok, Some, None}
use Rattle.std.proofs.Common.{arith, sym, ◌∙◌, leb-true, leb-false, eq-eqb, ne_eqb, lt-ltb}
use Rattle.fields.specs.Bytes.{AllBytes, both_true}
use Rattle.fields.specs.Place.{clash, by_bool}
use Rattle.format.specs.Format.{written_image}
use Rattle.reader_entries.specs.declared.KeyFields.{KeyFields}
use Rattle.reader_image.specs.declared.Fields.{Fields}
use Rattle.reader_image.specs.Container.{keys_in}
use Rattle.reader_keys.specs.Keys.{key_numbered}
use Rattle.edit_shells.specs.Within.{KeyPlaces}
use Rattle.edit_file.specs.Edits.{editable_at, has_key}
use Rattle.edit_file.specs.Stand.{image_written}
use Rattle.edit_file.specs.Afresh.{told, text}

-- a number that the file doesn't have finds nothing

none_before : (s : List ℕ) (f : Fields) (k : ℕ) → k < 1 → key_numbered s f k ≡ None
unfolding key_numbered
none_before s f k h = rw (eq-eqb k 0 (omega arith))

none_past : (s : List ℕ) (f : Fields) (k : ℕ) → 1 ≤ k → f.header.count < k → key_numbered s f k ≡ None
unfolding key_numbered
none_past s f k some h = rw (ne_eqb k 0 (λ e. omega arith), lt-ltb f.header.count k h)

pub has_found : (s : List ℕ) (f : Fields) (k : ℕ) (key : KeyFields) → key_numbered s f k ≡ Some key → has_key f k ≡ true
has_found s f k key g =
    by_bool (leb 1 k)
    (λ w.
    by_bool (leb k f.header.count)
    (λ v. rw (w, v))
    (λ v. let z : Some key ≡ None = sym g ∙ none_past s f k (leb-true 1 k w) (leb-false k f.header.count v) in clash cc))
    (λ w. let z : Some key ≡ None = sym g ∙ none_before s f k (leb-false 1 k w) in clash cc)

pub has_numbers : (f : Fields) (k : ℕ) → has_key f k ≡ true → (0 < k) × (k ≤ f.header.count)
has_numbers f k w =
    let h = both_true (leb 1 k) (leb k f.header.count) w in
    (omega (arith, leb-true 1 k h.0), leb-true k f.header.count h.1)

module _ (old : List ℕ) (all : AllBytes old) (n : ℕ) (f : Fields) (e : editable_at old n ≡ Ok f) where
  -- the n bytes are the image that the writer makes of the keys in it
  pub stands : take n old ≡ written_image f.section.checkint (keys_in (take n old) f)
  stands = let t = told old all n f e in image_written (take n old) f (text old all n f e) t.plain t.form

  module _ (k : ℕ) where
    -- a key that was found
    pub record There (key : KeyFields) : Type 0 where
      pub has : has_key f k ≡ true
      pub some : 0 < k
      pub inside : k ≤ f.header.count
      pub places :
          KeyPlaces (keys_in (take n old) f) k (key.blob.start - 4) (key.blob.start + key.blob.length) f.header.section
          key.begins (key.comment.start - 4) (key.comment.start + key.comment.length) (n - f.section.padding)
      pub whole_blob : 4 ≤ key.blob.start
      pub blob_within : key.blob.start + key.blob.length ≤ n
      pub whole_comment : 4 ≤ key.comment.start
      pub comment_within : key.comment.start + key.comment.length ≤ n
      pub padding_within : f.section.padding ≤ n
