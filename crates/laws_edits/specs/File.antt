-- A file of keys that fit: what the writer makes of them is read again with the same keys and checkint, and may be edited.
use Rattle.std.specs.Prelude.{ℕ, suc, ◌≤◌, ◌<◌, ◌^◌, ◌≡◌, true, List, [], ◌∷◌, map, length, take, Ok}
use Rattle.std.proofs.Common.{arith, ◌∙◌, ap, le-leb}
use Rattle.fields.specs.Bytes.{same_bytes, same_self}
use Rattle.format.specs.Format.{Key, filled_key, key_blob, standing_entries, plain_image, written_image}
use Rattle.format.specs.Scalars.{AllPrivate, key_zeros, rule_may, written_entries}
use Rattle.reader_header.specs.Place.{plain_allowed}
use Rattle.reader_entries.specs.Back.{AllFit as Stand}
use Rattle.reader_section.specs.declared.Kind.TheVariants.{Plain}
use Rattle.reader_image.specs.declared.Fields.{Fields}
use Rattle.reader_image.specs.Container.{keys_in, read_at}
use Rattle.reader_image.specs.Form.{form_of}
use Rattle.reader_image.specs.FormLaws.{form_stands}
use Rattle.reader_image.specs.Back.{keys_image_back}
use Rattle.writer_plain.specs.Fits.{AllFit}
use Rattle.edit_file.specs.Edits.{record_editable, editable_at, file_keys}

-- keys as a record has them, their scalars without leading zeros, and a checkint
pub record File (c : ℕ) (keys : List Key) : Type 0 where
  pub fits : AllFit keys
  pub some : 1 ≤ length keys
  pub few : length keys ≤ 16
  pub checkint : c < 2 ^ 32

stand_all : (keys : List Key) → AllFit keys → Stand (map key_zeros keys) keys
stand_all [] fits = tt
stand_all (k ∷ keys) fits =
    (record { public = fits.0; private = fits.1; may = rule_may k.algorithm k.public k.private fits.1; text = fits.2 }, stand_all keys fits.3)

private_all : (keys : List Key) → AllFit keys → AllPrivate keys
private_all [] fits = tt
private_all (k ∷ keys) fits = (fits.1, private_all keys fits.3)

-- as the writer writes them, each scalar after the zeros that the rule asks for
stands_written : (c : ℕ) (keys : List Key) → AllFit keys → written_image c keys ≡ plain_image c (map key_blob keys) (standing_entries (map key_zeros keys) keys)
unfolding written_image
stands_written c keys fits = ap (plain_image c (map key_blob keys)) (written_entries keys (private_all keys fits))

-- the record with which it is read again
pub record Again (t : List ℕ) (c : ℕ) (keys : List Key) : Type 0 where
  pub fields : Fields
  pub read : read_at t ≡ Ok fields
  pub plain : fields.section.kind ≡ Plain
  pub form : form_of t fields ≡ true
  pub same_keys : keys_in t fields ≡ keys
  pub same_count : fields.header.count ≡ length keys
  pub same_checkint : fields.section.checkint ≡ c

pub read_again : (t : List ℕ) (c : ℕ) (keys : List Key) → File c keys → length t ≤ 65535 → t ≡ written_image c keys → Again t c keys
read_again t c [] file small e = absurd (omega (arith, file.some))
read_again t c (k ∷ others) file small e =
    let keys = k ∷ others in
    let zs = map key_zeros keys in
    let fits = stand_all keys file.fits in
    let text = e ∙ stands_written c keys file.fits in
    let b = keys_image_back t c k others (key_zeros k) (map key_zeros others) small file.checkint fits (plain_allowed (suc (length others)) file.some file.few) text in
    record {
      fields = b.fields;
      read = b.read;
      plain = b.plain;
      form =
          form_stands t b.fields zs (rw (b.same_keys, b.same_checkint) text) (rw b.same_keys fits) b.plain
          ∙ ap (λ (l : List Key). same_bytes (map key_zeros l) zs) b.same_keys ∙ same_self zs;
      same_keys = b.same_keys;
      same_count = b.same_count;
      same_checkint = b.same_checkint;
    }

-- it may be edited, and these are its keys
pub editable_again :
    (out : List ℕ) (n c : ℕ) (keys : List Key) (a : Again (take n out) c keys) → n ≤ 65535 → n ≤ length out
    → (editable_at out n ≡ Ok a.fields) × (file_keys (take n out) a.fields ≡ map filled_key keys)
unfolding editable_at record_editable file_keys
editable_again out n c keys a small inside =
    (rw (le-leb n 65535 small, le-leb n (length out) inside, a.read, a.form, a.plain), ap (map filled_key) a.same_keys)
