-- docs/RULES.md, 6.7 and 6.8: the bits that a record tells of a key are those of its modulus, which of an RSA key in an accepted image has 1,024 to 8,192. They are the
-- number's own: it is below 2 to the power of its bits, and not below half of that.
use Rattle.std.specs.Prelude.{ℕ, ◌+◌, ◌-◌, ◌≤◌, ◌<◌, ◌^◌, ◌≡◌, refl, List, eqb, leb, ltb, length, get_or, Ok, Some, None}
use Rattle.std.proofs.Common.{arith, sym, ◌∙◌, ap, leb-true, leb-false, ltb-true, ltb-false, le-ltb}
use Rattle.std.specs.Int.Count.{count_leading_zeros}
use Rattle.std.proofs.Math.ListN.{get_or-eq_default}
use Rattle.fields.specs.Bytes.{AllBytes, both_true}
use Rattle.fields.specs.Fields.{view_of}
use Rattle.fields.specs.Place.{clash, by_bool}
use Rattle.fields.specs.Rest.{view_byte, view_length}
use Rattle.fields.specs.Room.{view_out}
use Rattle.fields.specs.declared.Cursor.{Cursor}
use Rattle.fields.specs.declared.Part.{Part}
use Rattle.names.specs.declared.Algorithm.{Algorithm}
use Rattle.names.specs.declared.Algorithm.TheVariants.{Elliptic as OnCurve, Rsa}
use Rattle.mpint.specs.Mpint.{value, zeros_before, bits}
use Rattle.mpint.specs.Laws.{mpint_positive, bits-value}
use Rattle.format.specs.Format.{PublicBytes, PublicFits}
use Rattle.key_public.specs.Keys.{point_place, modulus_place, public_bytes}
use Rattle.laws_keys.specs.Read.{public_place}
use Rattle.reader_blobs.specs.Blobs.{blob_field_at, blobs_at}
use Rattle.reader_blobs.specs.Read.{by_blob_field, by_blobs, blob-text}
use Rattle.reader_header.specs.Place.{keys_some}
use Rattle.reader_header.specs.Read.{header-text}
use Rattle.reader_entries.specs.declared.KeyFields.{KeyFields}
use Rattle.reader_entries.specs.Entries.{entry_at, on_key_read, key_placed}
use Rattle.reader_entries.proofs.Read.{by_entry}
use Rattle.reader_image.specs.declared.Fields.{Fields}
use Rattle.reader_image.specs.Container.{read_at}
use Rattle.reader_image.specs.Read.{halves}
use Rattle.reader_keys.specs.Keys.{place_of, first_fields, other_key, key_numbered}

-- a part of bytes is bytes
part_bytes : (s : List ℕ) → AllBytes s → (p : Part) → AllBytes (view_of s p)
part_bytes s all p i =
    by_bool (leb (p.start + p.length) (length s))
    (λ w.
    let inside = leb-true (p.start + p.length) (length s) w in
    by_bool (ltb i p.length)
    (λ v. rw (view_byte s p i inside (ltb-true i p.length v)) (all (p.start + i)))
    (λ v. past (omega (arith, view_length s p inside, ltb-false i p.length v))))
    (λ w. past (rw (view_out s p (leb-false (p.start + p.length) (length s) w)).0 (omega arith)))
  where
    past : length (view_of s p) ≤ i → get_or (view_of s p) i 0 < 256
    past h = rw (get_or-eq_default (view_of s p) 0 h) (omega arith)

-- of the places that a key has
place_bits : (end : ℕ) (a : Algorithm) (key : PublicBytes) → PublicFits a key → (public_place end a key).bits ≡ bits key.modulus
unfolding public_place point_place modulus_place bits zeros_before count_leading_zeros
place_bits end (OnCurve e) key fits = sym (ap (λ (k : PublicBytes). bits k.modulus) fits.2)
place_bits end Rsa key fits = refl

-- what is told of a key that was found: its public bytes fit its kind, and its places are theirs
pub record PublicTold (s : List ℕ) (key : KeyFields) : Type 0 where
  pub fits : PublicFits key.algorithm (public_bytes s key.public)
  pub end : ℕ
  pub lies : key.public ≡ public_place end key.algorithm (public_bytes s key.public)

-- of a key that its blob's place gives
placed_told : (s : List ℕ) → AllBytes s → (b : Cursor) (at : ℕ) (key : KeyFields) → on_key_read (key_placed s b at) None (λ k d. Some k) ≡ Some key → PublicTold s key
unfolding key_placed
placed_told s all b at key e =
    by_blob_field (blob_field_at s b)
    (λ f w. let g = rw w at e in clash cc)
    (λ a p public d w.
    let g = rw w at e in
    by_entry (entry_at s (record { at = at; end = length s }) a public)
    (λ f v. let h = rw v at g in clash cc)
    (λ private comment c v.
    let h : Some (record { algorithm = a; blob = p; public = public; begins = at; private = private; comment = comment }) ≡ Some key = rw v at g in
    let same : record { algorithm = a; blob = p; public = public; begins = at; private = private; comment = comment } ≡ key = cc in
    let t = blob-text s all b a p public d w in
    rw (← same) (record { fits = t.fits; end = d.at; lies = t.lies })))

other_told : (s : List ℕ) → AllBytes s → (first : Part) (between at : ℕ) (key : KeyFields) → other_key s first between at ≡ Some key → PublicTold s key
unfolding other_key
other_told s all first between at key e =
    by_bool (leb (first.start + first.length) (length s))
    (λ w.
    let g = rw w at e in
    by_blobs (blobs_at s (record { at = first.start + first.length; end = length s }) between)
    (λ f v. let h = rw v at g in clash cc)
    (λ b v. placed_told s all b at key (rw v at g)))
    (λ w. let g = rw w at e in clash cc)

module _ (s : List ℕ) (all : AllBytes s) (f : Fields) (e : read_at s ≡ Ok f) where
  first_told : PublicTold s (first_fields f)
  first_told =
      let h = header-text s all f.header (halves s f e).0 in
      record { fits = h.public_fits; end = f.header.blob.start + f.header.blob.length; lies = h.public_lies }

  -- the first key is found, by the record's own fields
  pub first_found : key_numbered s f 1 ≡ Some (first_fields f)
  unfolding key_numbered
  first_found =
      let h = header-text s all f.header (halves s f e).0 in
      rw (le-ltb f.header.count 1 (keys_some f.header.cipher f.header.count h.allowed))

  -- key k of the record
  module _ (k : ℕ) (key : KeyFields) (found : key_numbered s f k ≡ Some key) where
    told : PublicTold s key
    unfolding key_numbered
    told =
        by_bool (eqb k 0)
        (λ w. let g = rw w at found in clash cc)
        (λ w.
        let g = rw w at found in
        by_bool (ltb f.header.count k)
        (λ v. let h = rw v at g in clash cc)
        (λ v.
        let h = rw v at g in
        by_bool (eqb k 1)
        (λ u.
        let i : Some (first_fields f) ≡ Some key = rw u at h in
        let same : first_fields f ≡ key = cc in
        rw (← same) first_told)
        (λ u. other_told s all f.header.blob (k - 2) (place_of f k) key (rw u at h))))

    -- for every kind: those that have no modulus have no bits
    pub bits-told : key.public.bits ≡ bits (public_bytes s key.public).modulus
    bits-told = let t = told in ap (λ p. p.bits) t.lies ∙ place_bits t.end key.algorithm (public_bytes s key.public) t.fits

    -- what an RSA key's bits are in an accepted image
    pub record Counted : Type 0 where
      pub least : 1024 ≤ key.public.bits
      pub most : key.public.bits ≤ 8192
      pub above : 2 ^ (key.public.bits - 1) ≤ value (public_bytes s key.public).modulus
      pub below : value (public_bytes s key.public).modulus < 2 ^ key.public.bits

    pub rsa_counted : key.algorithm ≡ Rsa → Counted
    unfolding public_bytes
    rsa_counted rsa =
        let fits : PublicFits Rsa (public_bytes s key.public) = rw rsa at told.fits in
        let n = (public_bytes s key.public).modulus in
        let bytes : AllBytes n = part_bytes s all key.public.modulus in
        let size = both_true (leb 1024 (bits n)) (leb (bits n) 8192) fits.0.size in
        let number = bits-value n bytes (mpint_positive n bytes fits.0.modulus) in
        record {
          least = rw bits-told (leb-true 1024 (bits n) size.0);
          most = rw bits-told (leb-true (bits n) 8192 size.1);
          above = rw bits-told number.0;
          below = rw bits-told number.1;
        }
