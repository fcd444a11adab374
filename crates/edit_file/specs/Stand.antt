-- Where the parts of an image that may be edited stand, by the keys that are in it. Rests on `key_lies`: where key k of an accepted image stands, and
-- on `form_stands`: in the form each scalar stands as the writer writes it.
use Rattle.std.specs.Prelude.{ℕ, suc, ◌+◌, ◌-◌, ◌≤◌, ◌<◌, ◌≡◌, refl, Bool, true, false, cond, leb, take, Ok, Err}
use Rattle.std.proofs.Common.{arith, sym, ◌∙◌, leb-true}
use Rattle.std.proofs.Math.Path.{ap, ap₂}
use mathlib.Core.List.{List, ◌∷◌, map}
use Rattle.std.proofs.Math.ListN.{length}
use Rattle.fields.specs.Bytes.{same_true}
use Rattle.fields.specs.Place.{clash, by_bool}
use Rattle.fields.specs.declared.Refusal.TheVariants.{Form, Encrypted}
use Rattle.format.specs.Format.{Key, Entry, key_blob, written_entry, standing_entries, plain_image, written_image, padding_length, content}
use Rattle.format.proofs.Laws.{section-length}
use Rattle.format.specs.Lengths.{blobs_length, entries_length}
use Rattle.format.proofs.Lengths.{content-length, plain_length, plain_header-length}
use Rattle.format.specs.Scalars.{key_zeros, written_entries}
use Rattle.reader_section.specs.declared.Kind.{Kind}
use Rattle.reader_section.specs.declared.Kind.TheVariants.{Plain, Encrypted as Sealed}
use Rattle.reader_image.specs.declared.Fields.{Fields}
use Rattle.reader_image.specs.Container.{keys_in, read_at}
use Rattle.reader_image.specs.Form.{on_kind, form_of}
use Rattle.reader_image.specs.Read.{KeysText}
use Rattle.reader_image.specs.FormLaws.{by_read, form_stands, fit_private}
use Rattle.reader_keys.specs.Found.{KeyLies, key_lies}
use Rattle.edit_shells.specs.Keys.{section_place, end_place, entry_at}
use Rattle.edit_shells.specs.Within.{KeyPlaces}
use Rattle.edit_file.specs.Edits.{record_editable, editable_at, refused_whole}

-- what is known of an image that may be edited
pub record Edited (old : List ℕ) (n : ℕ) (f : Fields) : Type 0 where
  pub small : n ≤ 65535
  pub inside : n ≤ length old
  pub was_read : read_at (take n old) ≡ Ok f
  pub plain : f.section.kind ≡ Plain
  pub form : form_of (take n old) f ≡ true

by_tests :
    (k : Kind) (form : Bool) (f g : Fields) → on_kind k (cond form (Ok f) (refused_whole Form)) (refused_whole Encrypted) ≡ Ok g
    → (f ≡ g) × (k ≡ Plain) × (form ≡ true)
by_tests Plain true f g e = (cc, refl, refl)
by_tests Plain false f g e = clash cc
by_tests Sealed form f g e = clash cc

record_edited : (s : List ℕ) (f g : Fields) → record_editable s f ≡ Ok g → (f ≡ g) × (f.section.kind ≡ Plain) × (form_of s f ≡ true)
unfolding record_editable
record_edited s f g e = by_tests f.section.kind (form_of s f) f g e

pub edited : (old : List ℕ) (n : ℕ) (f : Fields) → editable_at old n ≡ Ok f → Edited old n f
unfolding editable_at
edited old n f e =
    by_bool (leb n 65535)
    (λ small.
    let e₁ = rw small at e in
    by_bool (leb n (length old))
    (λ inside.
    let e₂ = rw inside at e₁ in
    by_read (read_at (take n old))
    (λ g w. let h : Err g ≡ Ok f = rw w at e₂ in clash cc)
    (λ g w.
    let h = record_edited (take n old) g f (rw w at e₂) in
    let same : g ≡ f = h.0 in
    record {
      small = leb-true n 65535 small;
      inside = leb-true n (length old) inside;
      was_read = w ∙ ap Ok same;
      plain = rw same at h.1;
      form = rw same at h.2;
    }))
    (λ w. let h = rw w at e₁ in clash cc))
    (λ w. let h = rw w at e in clash cc)

-- ---- its places

less_padding : (a b p : ℕ) → 43 + a + (8 + b + p) - p ≡ 39 + a + 12 + b
less_padding a b p = omega arith

module _ (s : List ℕ) (f : Fields) (p : KeysText s f) (plain : f.section.kind ≡ Plain) (form : form_of s f ≡ true) where
  abbrev keys : List Key
  keys = keys_in s f

  -- each scalar stands as the writer writes it
  entries_written : standing_entries (p.zeros ∷ p.more_zeros) keys ≡ map written_entry keys
  entries_written =
      let rule : map key_zeros keys ≡ p.zeros ∷ p.more_zeros =
      same_true _ _ (sym (form_stands s f (p.zeros ∷ p.more_zeros) p.text p.keys_fit plain) ∙ form) in
      ap (λ (zs : List ℕ). standing_entries zs keys) (sym rule) ∙ sym (written_entries keys (fit_private (p.zeros ∷ p.more_zeros) keys p.keys_fit))

  -- the image is the one written afresh from its keys
  pub image_written : s ≡ written_image f.section.checkint keys
  unfolding written_image
  image_written = p.text ∙ ap (plain_image f.section.checkint (map key_blob keys)) entries_written

  pub section_is : f.header.section ≡ section_place (map key_blob keys)
  section_is = p.section_place ∙ plain_header-length (map key_blob keys)

  -- the padding begins where the entries end
  pub end_is : length s - f.section.padding ≡ end_place (map key_blob keys) (map written_entry keys)
  unfolding written_image
  end_is =
      let c = f.section.checkint in
      let entries = map written_entry keys in
      let padded : f.section.padding ≡ padding_length (8 + entries_length entries) =
      p.padded ∙ ap (λ (l : List Entry). padding_length (length (content c l))) entries_written ∙ ap padding_length (content-length c entries) in
      let long : length s ≡ 43 + blobs_length (map key_blob keys) + (8 + entries_length entries + padding_length (8 + entries_length entries)) =
      ap length image_written ∙ plain_length c (map key_blob keys) entries ∙ rw (section-length c entries, content-length c entries) in
      ap₂ (λ (i j : ℕ). i - j) long padded ∙ less_padding (blobs_length (map key_blob keys)) (entries_length entries) (padding_length (8 + entries_length entries))

  module _ (k : ℕ) (some : 0 < k) (there : k ≤ f.header.count) where
    pub found : KeyLies s f p k
    found = key_lies s f p k some there

    pub key_places :
        KeyPlaces keys k (found.fields.blob.start - 4) (found.fields.blob.start + found.fields.blob.length) f.header.section
        found.fields.begins (found.fields.comment.start - 4) (found.fields.comment.start + found.fields.comment.length)
        (length s - f.section.padding)
    key_places =
        let l = found.lies in
        let e = entries_written in
        let keys-entries = standing_entries (p.zeros ∷ p.more_zeros) keys in
        let before : entries_length (take (k - 1) keys-entries) ≡ entries_length (take (k - 1) (map written_entry keys)) =
        ap (λ (m : List Entry). entries_length (take (k - 1) m)) e in
        let with_it : entries_length (take (suc (k - 1)) keys-entries) ≡ entries_length (take (suc (k - 1)) (map written_entry keys)) =
        ap (λ (m : List Entry). entries_length (take (suc (k - 1)) m)) e in
        let pair : length (entry_at (k - 1) keys-entries).pair ≡ length (entry_at (k - 1) (map written_entry keys)).pair =
        ap (λ (m : List Entry). length (entry_at (k - 1) m).pair) e in
        record {
          blob_is = omega (arith, l.blob_is);
          after_is = l.after_is;
          section_is = section_is;
          pair_is = omega (arith, l.begins_is, section_is, before);
          field_is = omega (arith, l.begins_is, l.comment_is, section_is, before, pair);
          past_is = omega (arith, l.past_is, section_is, with_it);
          end_is = end_is;
        }
