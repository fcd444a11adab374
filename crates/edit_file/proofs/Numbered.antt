-- `key_numbered` finds a key exactly where the file has one of that number, and then its places are within the image. Rests on `has_found` and
-- `has_numbers`.
use Rattle.std.specs.Prelude.{ℕ, ◌-◌, ◌≡◌, false, List, map, length, take, Ok, Some, None}
use Rattle.std.proofs.Common.{arith, sym, ◌∙◌, length-take-le}
use Rattle.std.proofs.lemmas.List.{length-map}
use Rattle.fields.specs.Bytes.{AllBytes}
use Rattle.fields.specs.Place.{clash, by_bool}
use Rattle.format.specs.Format.{key_blob, written_entry}
use Rattle.reader_entries.specs.declared.KeyFields.{KeyFields}
use Rattle.reader_image.specs.declared.Fields.{Fields}
use Rattle.reader_image.specs.Container.{keys_in}
use Rattle.reader_keys.specs.Keys.{key_numbered}
use Rattle.edit_shells.proofs.Within.{as_long, remove_order}
use Rattle.edit_file.specs.Edits.{editable_at, has_key}
use Rattle.edit_file.specs.Stand.{found, key_places}
use Rattle.edit_file.specs.Afresh.{told, text}
use Rattle.edit_file.specs.Numbered.{has_found, has_numbers, stands, There}

module _ (old : List ℕ) (all : AllBytes old) (n : ℕ) (f : Fields) (e : editable_at old n ≡ Ok f) where
  module _ (k : ℕ) where
    pub missing : key_numbered (take n old) f k ≡ None → has_key f k ≡ false
    missing g =
        let t = told old all n f e in
        by_bool (has_key f k)
        (λ w.
        let h = has_numbers f k w in
        let l = found (take n old) f (text old all n f e) t.plain t.form k h.0 h.1 in
        let z : None ≡ Some l.fields = sym g ∙ l.looked in
        clash cc)
        (λ w. w)

    pub there : (key : KeyFields) → key_numbered (take n old) f k ≡ Some key → There old all n f e k key
    there key g =
        let s = take n old in
        let t = told old all n f e in
        let p = text old all n f e in
        let w = has_found s f k key g in
        let h = has_numbers f k w in
        let l = found s f p t.plain t.form k h.0 h.1 in
        let both : Some l.fields ≡ Some key = sym l.looked ∙ g in
        let same : l.fields ≡ key = cc in
        let q = rw (same, length-take-le n old t.inside) at (key_places s f p t.plain t.form k h.0 h.1) in
        let keys = keys_in s f in
        let order =
        remove_order f.section.checkint (map key_blob keys) (map written_entry keys) n (length old)
        (as_long f.section.checkint keys old n (stands old all n f e) t.inside) t.inside (k - 1)
        (omega (arith, h, p.counted, length-map keys key_blob))
        (omega (arith, h, p.counted, length-map keys written_entry)) in
        record {
          has = w;
          some = h.0;
          inside = h.1;
          places = q;
          whole_blob = omega (arith, q.blob_is);
          blob_within = omega (arith, q.after_is, order);
          whole_comment = omega (arith, q.field_is);
          comment_within = omega (arith, q.past_is, order);
          padding_within = omega (arith, q.end_is);
        }
