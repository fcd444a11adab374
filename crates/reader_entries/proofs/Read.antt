-- Inversion: keys of a section that were read stand there as the format writes them, each scalar in the form that it had.
use Prim.Native.Nat.{ℕ, zero, suc, ◌+◌, ◌-◌, ◌≤◌}
use Rattle.std.proofs.Common.{arith, ◌∙◌, ap₂, length-append}
use Rattle.std.specs.Prelude.{◌≡◌, refl, true, Ok, Err, Some}
use Rattle.std.proofs.Math.Path.{sym, ap}
use mathlib.Core.List.{List, [], ◌∷◌, ◌++◌, map}
use Rattle.std.proofs.Math.ListN.{length}
use Rattle.std.proofs.Math.Seq.{length-slice}
use Rattle.fields.specs.Bytes.{string, join, AllBytes, same_bytes, same_true, both_true}
use Rattle.fields.specs.Fields.{string_at, view_of, Read}
use Rattle.fields.specs.Place.{clash, by_read, by_bool, same_pair, same_read}
use Rattle.fields.specs.Rest.{rest, Good, length-string}
use Rattle.fields.specs.Read.{StringRead, string_read}
use Rattle.fields.specs.declared.Cursor.{Cursor}
use Rattle.fields.specs.declared.Fault.{Fault}
use Rattle.fields.specs.declared.Part.{Part}
use Rattle.names.specs.declared.Algorithm.{Algorithm}
use Rattle.names.specs.Algorithms.{same_algorithm, algorithm_same}
use Rattle.utf8.specs.Utf8.{utf8}
use Rattle.format.specs.Format.{key_of, keypair as pair, entry_fields, standing_entry, standing_entries}
use Rattle.format.proofs.Laws.{entry_then}
use Rattle.key_public.specs.declared.Public.{Public}
use Rattle.key_public.specs.Keys.{public_bytes}
use Rattle.key_pairs.specs.declared.Private.{Private}
use Rattle.key_pairs.specs.Pairs.{private_bytes, keypair_at}
use Rattle.laws_keys.specs.ReadPair.{PairRead, keypair_read}
use Rattle.places.specs.declared.Places.{Places}
use Rattle.places.specs.Places.{places_of}
use Rattle.reader_blobs.specs.Blobs.{blob_field_at, blob_bytes}
use Rattle.reader_blobs.specs.Read.{by_blob_field, blob-text}
use Rattle.reader_entries.specs.Entries.{Listed, Are, Not, Keys, Keys-are, Keys-not, same_key, entry_at, next_at, more_at, keys_at, key_read_of, key_placed}
use Rattle.reader_entries.specs.Back.{place_at}
use Rattle.reader_entries.proofs.Back.{whole_place_lem}
use Rattle.reader_entries.specs.Read.{EntryRead, KeyStands, MoreRead, first_key, KeysRead, found_key}

-- by cases, with the equation in hand
pub by_keys :
    {P : Type 0} (w : Keys) → ((f : Fault) → w ≡ Keys-not f → P)
    → ((x : Private) (m : Part) (places : Places) (c : Cursor) → w ≡ Keys-are x m places c → P) → P
by_keys (Keys-not f) refused read = refused f refl
by_keys (Keys-are x m places c) refused read = read x m places c refl

pub by_keypair :
    {P : Type 0} (w : Read (Algorithm × Public × Private)) → ((f : Fault) → w ≡ Err f → P)
    → ((a : Algorithm) (p : Public) (x : Private) (c : Cursor) → w ≡ Ok ((a, p, x), c) → P) → P
by_keypair (Err f) refused pair = refused f refl
by_keypair (Ok ((a, p, x), c)) refused pair = pair a p x c refl

pub by_entry :
    {P : Type 0} (w : Read (Private × Part)) → ((f : Fault) → w ≡ Err f → P) → ((x : Private) (m : Part) (c : Cursor) → w ≡ Ok ((x, m), c) → P) → P
by_entry (Err f) refused key = refused f refl
by_entry (Ok ((x, m), c)) refused key = key x m c refl

pub by_listed : {P : Type 0} (w : Listed) → ((f : Fault) → w ≡ Not f → P) → ((l : List ℕ) (c : Cursor) → w ≡ Are l c → P) → P
by_listed (Not f) refused listed = refused f refl
by_listed (Are l c) refused listed = listed l c refl

module _ (s : List ℕ) (all : AllBytes s) where
  -- where the comment of an accepted key begins
  comment_starts :
      (c b d : Cursor) (before : List ℕ) (m : Part) → b.end ≡ c.end → StringRead s b m d → rest s c ≡ before ++ (string (view_of s m) ++ rest s d)
      → m.start ≡ c.at + length before + 4
  comment_starts c b d before m end comment joined =
      let inside : c.end ≤ length s = omega (arith, comment.place.placed) in
      let left = length-slice d.at d.end s comment.place.placed.image in
      let long : c.end - c.at ≡ length before + (4 + length (view_of s m) + (d.end - d.at)) =
      sym (length-slice c.at c.end s inside) ∙ ap length joined ∙ simp (length-append, length-string, left) in
      omega (arith, long, comment.size, comment.place.placed)

  entry_joined :
      (c : Cursor) (a : Algorithm) (p q : Public) (x : Private) (m : Part) (b d : Cursor) → PairRead s all c a p x b → public_bytes s p ≡ public_bytes s q
      → StringRead s b m d → utf8 (view_of s m) ≡ true
      → (c.end ≡ length s → key_read_of s c.at ≡ key_of a (public_bytes s q) (private_bytes s x) (view_of s m)) → EntryRead s all c a q x m d
  entry_joined c a p q x m b d read public comment text there =
      let before = pair a read.zeros (public_bytes s q) (private_bytes s x) in
      let joined : rest s c ≡ before ++ (string (view_of s m) ++ rest s d) =
      rw public at read.text ∙ ap (λ (l : List ℕ). before ++ l) comment.text in
      record {
        zeros = read.zeros;
        text = joined;
        place = comment_starts c b d before m read.end comment joined;
        fits =
            record {
              public = rw public at read.fits;
              private = rw public at read.private;
              may = read.may;
              text = text;
            };
        begins = read.begins;
        good = omega (arith, comment.place.placed);
        end = comment.place.placed.end ∙ read.end;
        there = there;
        size = comment.size;
        ends = sym comment.place.placed.after;
      }

  -- a key that is the same has the same kind and bytes
  key_same : (j a : Algorithm) (p q : Public) → same_key s j p a q ≡ true → (j ≡ a) × (public_bytes s p ≡ public_bytes s q)
  unfolding same_key public_bytes
  key_same j a p q e =
      let e₃ = both_true _ (same_bytes (view_of s p.exponent) (view_of s q.exponent)) e in
      let e₂ = both_true _ (same_bytes (view_of s p.modulus) (view_of s q.modulus)) e₃.0 in
      let e₁ = both_true (same_algorithm j a) (same_bytes (view_of s p.point) (view_of s q.point)) e₂.0 in
      let point : view_of s p.point ≡ view_of s q.point = same_true _ _ e₁.1 in
      let modulus : view_of s p.modulus ≡ view_of s q.modulus = same_true _ _ e₂.1 in
      let exponent : view_of s p.exponent ≡ view_of s q.exponent = same_true _ _ e₃.1 in
      (algorithm_same j a e₁.0, rw (point, modulus, exponent))

  key_there :
      (c : Cursor) (a : Algorithm) (p q : Public) (x : Private) (m : Part) (b d : Cursor) → keypair_at s c ≡ Ok ((a, p, x), b)
      → public_bytes s p ≡ public_bytes s q → string_at s b ≡ Ok (m, d) → c.end ≡ length s
      → key_read_of s c.at ≡ key_of a (public_bytes s q) (private_bytes s x) (view_of s m)
  unfolding key_read_of
  key_there c a p q x m b d pair_is same comment_is end = rw (whole_place_lem s c end, pair_is, comment_is, same)

  pub entry_read : (c : Cursor) (a : Algorithm) (q : Public) (x : Private) (m : Part) (d : Cursor) → entry_at s c a q ≡ Ok ((x, m), d) → EntryRead s all c a q x m d
  unfolding entry_at
  entry_read c a q x m d e =
      by_keypair (keypair_at s c)
      (λ f w. let g : Err f ≡ Ok ((x, m), d) = rw w at e in clash cc)
      (λ j p y b w.
      let g = rw w at e in
      by_bool (same_key s j p a q)
      (λ v.
      let h = rw v at g in
      by_read (string_at s b)
      (λ f u. let i : Err f ≡ Ok ((x, m), d) = rw u at h in clash cc)
      (λ t z u.
      let i = rw u at h in
      by_bool (utf8 (view_of s t))
      (λ r.
      let k : Ok ((y, t), z) ≡ Ok ((x, m), d) = rw r at i in
      let o₁ : y ≡ x = (same_pair (same_read k).0).0 in
      let o₂ : t ≡ m = (same_pair (same_read k).0).1 in
      let o₃ : z ≡ d = (same_read k).1 in
      let same = key_same j a p q v in
      let pair_is = rw (same.0, o₁) at w in
      let comment_is = rw (o₂, o₃) at u in
      entry_joined c a p q x m b d (keypair_read s all c a p x b pair_is) same.1 (string_read s all b m d comment_is) (rw o₂ at r)
      (key_there c a p q x m b d pair_is same.1 comment_is))
      (λ r. let k = rw r at i in clash cc)))
      (λ v. let h = rw v at g in clash cc))

  pub stands_found :
      (c b : Cursor) (zeros at : ℕ) (k : KeyStands s all c b zeros) → at ≡ c.at → c.end ≡ length s → key_placed s b at ≡ Some (found_key s all k, k.blob-after)
  unfolding key_placed
  stands_found c b z at k same end =
      let place : record { at = at; end = length s } ≡ c = ap (λ (i : ℕ). place_at i (length s)) same ∙ whole_place_lem s c end in
      rw (k.blob_read, place, k.entry_read, same)

  pub more_read : (c b : Cursor) (n : ℕ) (l : List ℕ) (d : Cursor) → Good s c → c.end ≡ length s → more_at s c b n ≡ Are l d → MoreRead s all c b n l d
  unfolding more_at next_at blob_bytes
  more_read c b zero l d good end e =
      let none : [] ≡ l = cc in
      let same : c ≡ d = cc in
      rw (← none, ← same)
      (record { zeros = []; text = refl; blobs = refl; fits = tt; stand = tt; counted = refl; inside = tt; good = good; end = end })
  more_read c b (suc n) l d good end e =
      by_blob_field (blob_field_at s b)
      (λ f w. let g : Not f ≡ Are l d = rw w at e in clash cc)
      (λ a p q x w.
      let g = rw w at e in
      by_entry (entry_at s c a q)
      (λ f v. let h : Not f ≡ Are l d = rw v at g in clash cc)
      (λ y m z v.
      let h = rw v at g in
      by_listed (more_at s z x n)
      (λ f u. let i : Not f ≡ Are l d = rw u at h in clash cc)
      (λ k o u.
      let i : Are (c.at ∷ k) o ≡ Are l d = rw u at h in
      let list : c.at ∷ k ≡ l = cc in
      let last : o ≡ d = cc in
      let r = entry_read c a q y m z v in
      let t = more_read z x n k d r.good (r.end ∙ end) (u ∙ ap (Are k) last) in
      let key = key_of a (public_bytes s q) (private_bytes s y) (view_of s m) in
      let there : key_read_of s c.at ≡ key = r.there end in
      let keys = map (key_read_of s) k in
      let blob = blob-text s all b a p q x w in
      let stands : KeyStands s all c b r.zeros =
      record {
        algorithm = a;
        blob = p;
        public = q;
        blob-after = x;
        private = y;
        comment = m;
        after = z;
        blob_read = w;
        blob-text = blob;
        entry_read = v;
        entry_text = r;
        same_zeros = refl;
        key = there;
      } in
      let text : rest s c ≡ join (entry_fields (standing_entry r.zeros key ∷ standing_entries t.zeros keys)) ++ rest s d =
      r.text
      ∙ ap (λ (j : List ℕ). (standing_entry r.zeros key).pair ++ (string (view_of s m) ++ j)) t.text
      ∙ sym (entry_then (standing_entry r.zeros key) (standing_entries t.zeros keys) (rest s d)) in
      rw (← list)
      (record {
        zeros = r.zeros ∷ t.zeros;
        text = rw there text;
        blobs = rw (w, there) (ap₂ (λ (j : List ℕ) (js : List (List ℕ)). j ∷ js) blob.content t.blobs);
        fits = rw there (r.fits, t.fits);
        stand = (refl, (stands, t.stand));
        counted = ap suc t.counted;
        inside = (omega (arith, good), t.inside);
        good = t.good;
        end = t.end;
      }))))

  pub keys_read :
      (c : Cursor) (a : Algorithm) (q : Public) (b : Cursor) (more : ℕ) (x : Private) (m : Part) (places : Places) (d : Cursor) → c.end ≡ length s
      → keys_at s c a q b more ≡ Keys-are x m places d → KeysRead s all c a q b more x m places d
  unfolding keys_at
  keys_read c a q b more x m places d end e =
      by_entry (entry_at s c a q)
      (λ f w. let g : Keys-not f ≡ Keys-are x m places d = rw w at e in clash cc)
      (λ y n z w.
      let g = rw w at e in
      by_listed (more_at s z b more)
      (λ f v. let h : Keys-not f ≡ Keys-are x m places d = rw v at g in clash cc)
      (λ l o v.
      let h : Keys-are y n (places_of (c.at ∷ l)) o ≡ Keys-are x m places d = rw v at g in
      let o₁ : y ≡ x = cc in
      let o₂ : n ≡ m = cc in
      let o₃ : places_of (c.at ∷ l) ≡ places = cc in
      let o₄ : o ≡ d = cc in
      let r = entry_read c a q x m z (rw (o₁, o₂) at w) in
      let t = more_read z b more l d r.good (r.end ∙ end) (v ∙ ap (Are l) o₄) in
      let key = first_key s all a q x m in
      let keys = map (key_read_of s) l in
      record {
        zeros = r.zeros;
        more_zeros = t.zeros;
        others = l;
        listed = sym o₃;
        text =
            r.text
            ∙ ap (λ (j : List ℕ). (standing_entry r.zeros key).pair ++ (string (view_of s m) ++ j)) t.text
            ∙ sym (entry_then (standing_entry r.zeros key) (standing_entries t.zeros keys) (rest s d));
        blobs = t.blobs;
        fits = (r.fits, t.fits);
        begins = r.begins;
        place = r.place;
        size = r.size;
        comment_within = omega (arith, r.ends, r.good);
        second = z;
        second_starts = sym r.ends;
        second_ends = r.end ∙ end;
        stand = t.stand;
        counted = t.counted;
        inside = t.inside;
        good = t.good;
        end = t.end;
      }))
