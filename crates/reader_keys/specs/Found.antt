-- Where the parts of key k of an accepted plain image stand, by what stands before them. Rests on `AllStand`: each key that was read stands at its
-- place, with the blob of its number.
use Prim.Native.Nat.{ℕ, zero, suc, ◌+◌, ◌-◌, ◌≤◌, ◌<◌}
use native.Mathlib.Omega.{arith}
use Rattle.std.specs.Prelude.{◌≡◌, refl, take, get_or, Ok, Some}
use Rattle.std.proofs.Math.Path.{sym, ap}
use Rattle.std.proofs.Common.{◌∙◌, length-take, get_or-take}
use mathlib.Core.List.{List, [], ◌∷◌, map}
use borrow.Author.Tests.{ne_eqb, le-leb, le-ltb, lt-ltb}
use Rattle.std.proofs.Math.ListN.{length}
use Rattle.std.proofs.lemmas.List.{length-map}
use Rattle.fields.specs.Bytes.{AllBytes}
use Rattle.fields.specs.Fields.{view_of}
use Rattle.fields.specs.declared.Cursor.{Cursor}
use Rattle.format.specs.Format.{Key, key_of, key_blob, entry, standing_entry, standing_entries}
use Rattle.format.specs.Lengths.{blobs_length, entries_length}
use Rattle.key_public.specs.Keys.{public_bytes}
use Rattle.key_pairs.specs.Pairs.{private_bytes}
use Rattle.reader_blobs.specs.Blobs.{blobs_at}
use Rattle.std.proofs.lemmas.Grind.{get_or_after_one}
use Rattle.places.specs.declared.Places.{Places}
use Rattle.places.specs.Places.{list_of, kept_place, after_first}
use Rattle.reader_entries.specs.declared.KeyFields.{KeyFields}
use Rattle.reader_entries.specs.Entries.{no_key, key_read_of, key_placed}
use Rattle.reader_entries.specs.Read.{KeyStands, AllStand, found_key}
use Rattle.reader_entries.proofs.Read.{stands_found}
use Rattle.reader_header.specs.Header.{second_blob}
use Rattle.reader_image.specs.declared.Fields.{Fields}
use Rattle.reader_image.specs.Container.{first_in, other_places, keys_in}
use Rattle.reader_image.specs.Read.{KeysText}
use Rattle.reader_keys.specs.Keys.{place_of, first_fields, other_key, key_numbered}

-- the key that a key's fields tell
abbrev pub key_told : List ℕ → KeyFields → Key
key_told s k = key_of k.algorithm (public_bytes s k.public) (private_bytes s k.private) (view_of s k.comment)

-- the key that i others stand before, of keys whose blobs begin at `blob` and whose entries at `at`
pub record Lies (s : List ℕ) (keys : List Key) (zs : List ℕ) (blob at i : ℕ) (k : KeyFields) : Type 0 where
  pub blob_is : k.blob.start ≡ blob + blobs_length (take i (map key_blob keys)) + 4
  pub after_is : k.blob.start + k.blob.length ≡ blob + blobs_length (take (suc i) (map key_blob keys))
  pub begins_is : k.begins ≡ at + entries_length (take i (standing_entries zs keys))
  pub comment_is : k.comment.start ≡ k.begins + length (get_or (standing_entries zs keys) i (entry [] [])).pair + 4
  pub past_is : k.comment.start + k.comment.length ≡ at + entries_length (take (suc i) (standing_entries zs keys))
  pub key_is : get_or keys i no_key ≡ key_told s k

-- it stands after one more
lies_next :
    (s : List ℕ) (key : Key) (keys : List Key) (z : ℕ) (zs : List ℕ) (blob at blob' at' i : ℕ) (k : KeyFields) → blob' ≡ blob + (4 + length (key_blob key))
    → at' ≡ at + (length (standing_entry z key).pair + (4 + length key.comment)) → Lies s keys zs blob' at' i k
    → Lies s (key ∷ keys) (z ∷ zs) blob at (suc i) k
lies_next s key keys z zs blob at blob' at' i k b a l =
    record {
      blob_is = omega (arith, l.blob_is, b);
      after_is = omega (arith, l.after_is, b);
      begins_is = omega (arith, l.begins_is, a);
      comment_is = l.comment_is;
      past_is = omega (arith, l.past_is, a);
      key_is = l.key_is;
    }

module _ (s : List ℕ) (all : AllBytes s) where
  -- a key that stands is the first of those from its place on
  first_lies :
      (c b : Cursor) (z : ℕ) (k : KeyStands s all c b z) (keys : List Key) (zs : List ℕ)
      → Lies s (key_read_of s c.at ∷ keys) (z ∷ zs) b.at c.at 0 (found_key s all k)
  first_lies c b z k keys zs =
      let t = k.blob-text in
      let e = k.entry_text in
      let long : k.blob.length ≡ length (key_blob (key_told s (found_key s all k))) = sym t.size ∙ ap length t.content in
      let own : length (standing_entry z (key_told s (found_key s all k))).pair ≡ length (standing_entry e.zeros (key_told s (found_key s all k))).pair =
      ap (λ (i : ℕ). length (standing_entry i (key_told s (found_key s all k))).pair) (sym k.same_zeros) in
      rw k.key
      (record {
        blob_is = omega (arith, t.starts);
        after_is = omega (arith, t.starts, long);
        begins_is = omega arith;
        comment_is = omega (arith, e.place, own);
        past_is = omega (arith, e.place, own, e.size);
        key_is = refl;
      })

  -- the key that i others stand before is found by the blob of its number and by its place
  pub record Nth (c b : Cursor) (l zs : List ℕ) (i : ℕ) : Type 0 where
    pub fields : KeyFields
    pub blob : Cursor
    pub after : Cursor
    pub blob_read : blobs_at s b i ≡ Ok blob
    pub key_read : key_placed s blob (get_or l i 0) ≡ Some (fields, after)
    pub lies : Lies s (map (key_read_of s) l) zs b.at c.at i fields

  nth_first :
      (c b : Cursor) (x : ℕ) (l : List ℕ) (z : ℕ) (zs : List ℕ) → c.end ≡ length s → x ≡ c.at → KeyStands s all c b z → Nth c b (x ∷ l) (z ∷ zs) 0
  unfolding blobs_at
  nth_first c b x l z zs end at k =
      record {
        fields = found_key s all k;
        blob = b;
        after = k.blob-after;
        blob_read = refl;
        key_read = stands_found s all c b z x k at end;
        lies = rw at (first_lies c b z k (map (key_read_of s) l) zs);
      }

  nth_next :
      (c b : Cursor) (x : ℕ) (l : List ℕ) (z : ℕ) (zs : List ℕ) (i : ℕ) → x ≡ c.at → (k : KeyStands s all c b z) → Nth k.after k.blob-after l zs i
      → Nth c b (x ∷ l) (z ∷ zs) (suc i)
  unfolding blobs_at
  nth_next c b x l z zs i at k n =
      let keys = map (key_read_of s) l in
      let f = first_lies c b z k keys zs in
      let key = key_read_of s c.at in
      let past-blob : k.blob-after.at ≡ b.at + (4 + length (key_blob key)) = omega (arith, f.after_is, k.blob-text.ends) in
      let past-entry : k.after.at ≡ c.at + (length (standing_entry z key).pair + (4 + length key.comment)) =
      omega (arith, f.past_is, k.entry_text.ends) in
      record {
        fields = n.fields;
        blob = n.blob;
        after = n.after;
        blob_read = rw k.blob_read n.blob_read;
        key_read = n.key_read;
        lies =
            rw at
            (lies_next s key keys z zs b.at c.at k.blob-after.at k.after.at i n.fields past-blob past-entry n.lies);
      }

  nth : (c b : Cursor) (l zs : List ℕ) (i : ℕ) → c.end ≡ length s → AllStand s all c b l zs → i < length l → Nth c b l zs i
  nth c b [] zs i end stand h = absurd (omega arith)
  nth c b (x ∷ l) [] i end stand h = absurd stand
  nth c b (x ∷ l) (z ∷ zs) zero end stand h = nth_first c b x l z zs end stand.0 stand.1.0
  nth c b (x ∷ l) (z ∷ zs) (suc i) end stand h =
      let k = stand.1.0 in
      nth_next c b x l z zs i stand.0 k (nth k.after k.blob-after l zs i (k.entry_text.end ∙ end) stand.1.1 (omega arith))

-- ---- the keys of an accepted plain image

pub record KeyLies (s : List ℕ) (f : Fields) (p : KeysText s f) (k : ℕ) : Type 0 where
  pub fields : KeyFields
  pub looked : key_numbered s f k ≡ Some fields
  pub lies : Lies s (keys_in s f) (p.zeros ∷ p.more_zeros) 39 (f.header.section + 12) (k - 1) fields

module _ (s : List ℕ) (f : Fields) (p : KeysText s f) where
  -- the first key's place is its own
  first_place : place_of f 1 ≡ f.header.section + 12
  first_place =
      let first : place_of f 1 ≡ kept_place (f.header.section + 12) = ap (λ (q : Places). get_or (list_of q) 0 0) p.listed in
      let small : f.header.section + 12 < 65536 = omega (arith, p.fits, p.comment_place, p.comment_within) in
      first ∙ rw (lt-ltb (f.header.section + 12) 65536 small)

  first_known : Lies s (keys_in s f) (p.zeros ∷ p.more_zeros) 39 (f.header.section + 12) 0 (first_fields f)
  unfolding keys_in
  first_known =
      let long : f.header.blob.length ≡ length (key_blob (first_in s f)) = sym p.blob_size ∙ ap length p.content in
      record {
        blob_is = p.blob_start;
        after_is = omega (arith, p.blob_start, long);
        begins_is = first_place ∙ omega arith;
        comment_is = omega (arith, p.comment_place, first_place);
        past_is = omega (arith, p.comment_place, p.comment_size);
        key_is = refl;
      }

  -- the place of a key after the first
  other_place : (i : ℕ) → i < length (other_places f) → place_of f (suc (suc i)) ≡ get_or (other_places f) i 0
  other_place i h =
      let few : i < f.header.count - 1 = omega (arith, h, length-take (f.header.count - 1) (after_first f.section.places)) in
      let less : suc (suc i) - 1 ≡ 1 + i = omega arith in
      ap (λ (j : ℕ). get_or (list_of f.section.places) j 0) less ∙ sym (get_or_after_one (list_of f.section.places) i 0)
      ∙ sym (get_or-take (f.header.count - 1) (after_first f.section.places) i 0 few)

  other_known : (i : ℕ) → i < length (other_places f) → KeyLies s f p (suc (suc i))
  unfolding key_numbered other_key keys_in
  other_known i h =
      let g = first_known in
      let n = nth s p.bytes p.second (second_blob s f.header) (other_places f) p.more_zeros i p.second_ends p.stand h in
      let counted : suc (length (other_places f)) ≡ f.header.count = ap suc (sym (length-map (other_places f) (key_read_of s))) ∙ sym p.counted in
      let few : suc (suc i) ≤ f.header.count = omega arith in
      let less : suc (suc i) - 2 ≡ i = omega arith in
      let before : suc (suc i) - 1 ≡ suc i = omega arith in
      let past-blob : (second_blob s f.header).at ≡ 39 + (4 + length (key_blob (first_in s f))) = omega (arith, g.after_is) in
      let past-entry :
      p.second.at ≡ f.header.section + 12 + (length (standing_entry p.zeros (first_in s f)).pair + (4 + length (first_in s f).comment)) =
      omega (arith, g.past_is, p.second_starts) in
      record {
        fields = n.fields;
        looked =
            rw (
              ne_eqb (suc (suc i)) 0 (λ e. omega arith),
              le-ltb f.header.count (suc (suc i)) few,
              ne_eqb (suc (suc i)) 1 (λ e. omega arith),
              le-leb (f.header.blob.start + f.header.blob.length) (length s) p.blob_within,
              less,
              n.blob_read,
              other_place i h,
              n.key_read,
            );
        lies =
            rw before
            (lies_next s (first_in s f) (map (key_read_of s) (other_places f)) p.zeros p.more_zeros 39 (f.header.section + 12)
            (second_blob s f.header).at p.second.at i n.fields past-blob past-entry n.lies);
      }

  pub key_lies : (k : ℕ) → 0 < k → k ≤ f.header.count → KeyLies s f p k
  unfolding key_numbered keys_in
  key_lies zero some there = absurd (omega arith)
  key_lies (suc zero) some there =
      let none : suc zero - 1 ≡ 0 = omega arith in
      record {
        fields = first_fields f;
        looked = rw (le-ltb f.header.count 1 there);
        lies = rw none first_known;
      }
  key_lies (suc (suc i)) some there =
      let counted : suc (length (other_places f)) ≡ f.header.count = ap suc (sym (length-map (other_places f) (key_read_of s))) ∙ sym p.counted in
      other_known i (omega arith)
