-- Reading back: keys that stand in a section as the format writes them are read, each with its fields.
use Rattle.std.specs.Prelude.{ℕ, suc, ◌≤◌, ◌<◌, ◌^◌, ◌≡◌, refl, true, List, [], ◌∷◌, ◌++◌, map, length, Ok}
use Rattle.std.proofs.Common.{arith, sym, ◌∙◌, ap, ap₂}
use Rattle.fields.specs.Bytes.{string, join, same_self}
use Rattle.fields.specs.Fields.{view_of}
use Rattle.fields.specs.Place.{string_place}
use Rattle.fields.specs.Rest.{rest, Good}
use Rattle.fields.specs.Back.{short_of, string_back}
use Rattle.fields.specs.declared.Cursor.{Cursor}
use Rattle.fields.specs.declared.Part.{Part}
use Rattle.names.specs.declared.Algorithm.{Algorithm}
use Rattle.names.specs.Algorithms.{algorithm_self}
use Rattle.format.specs.Format.{PublicBytes, Key, key_blob, blob_fields, entry_fields, standing_entry, standing_entries}
use Rattle.format.proofs.Laws.{entry_then, blob_field_then}
use Rattle.key_public.specs.declared.Public.{Public}
use Rattle.key_public.specs.Keys.{public_bytes}
use Rattle.key_pairs.specs.declared.Private.{Private}
use Rattle.laws_keys.specs.Back.{keypair_back}
use Rattle.laws_fields.specs.Fields.{After}
use Rattle.laws_fields.specs.Pairs.{keypair_lies}
use Rattle.reader_blobs.specs.Blobs.{blob_field_at}
use Rattle.reader_blobs.specs.Back.{blob_field_back}
use Rattle.reader_entries.specs.Entries.{Next-key, same_key, entry_at, next_at, more_at, keys_at, key_read_of}
use Rattle.reader_entries.specs.Back.{KeyFits, EntryBack, place_at, AllFit, MoreBack, KeysBack}

-- places with the same bytes are the same key
key_self : (s : List ℕ) (a : Algorithm) (p q : Public) → public_bytes s p ≡ public_bytes s q → same_key s a p a q ≡ true
unfolding same_key public_bytes
key_self s a p q e =
    let point : view_of s p.point ≡ view_of s q.point = ap (λ (k : PublicBytes). k.point) e in
    let modulus : view_of s p.modulus ≡ view_of s q.modulus = ap (λ (k : PublicBytes). k.modulus) e in
    let exponent : view_of s p.exponent ≡ view_of s q.exponent = ap (λ (k : PublicBytes). k.exponent) e in
    rw (
      algorithm_self a,
      point,
      modulus,
      exponent,
      same_self (view_of s q.point),
      same_self (view_of s q.modulus),
      same_self (view_of s q.exponent),
    )

pub whole_place_lem : (s : List ℕ) (c : Cursor) → c.end ≡ length s → record { at = c.at; end = length s } ≡ c
whole_place_lem s c e = ap (λ (i : ℕ). place_at c.at i) (sym e)

pub entry_back :
    (s : List ℕ) (c : Cursor) → Good s c → length s < 2 ^ 32 → (q : Public) (zeros : ℕ) (k : Key) (t : List ℕ) → public_bytes s q ≡ k.public
    → KeyFits k.algorithm zeros k.public k.private k.comment
    → rest s c ≡ (standing_entry zeros k).pair ++ (string k.comment ++ t)
    → EntryBack s c (entry_at s c k.algorithm q) k t
unfolding entry_at key_read_of
entry_back s c good small q zeros k t public fits e =
    let a = k.algorithm in
    let comment = k.comment in
    let p = keypair_back s c good small a zeros k.public k.private (string comment ++ t) fits.public fits.private fits.may e in
    let after : After c p.next = rw p.read at (keypair_lies s c good) in
    let m = string_back s p.next p.good comment t (short_of s p.next p.good small comment t p.more) p.more in
    record {
      private = p.private;
      place = m.place;
      next = m.next;
      read = rw (p.read, key_self s a p.place q (p.seen ∙ sym public), m.read, m.seen, fits.text);
      kept = p.kept;
      seen = m.seen;
      size = m.size;
      there = λ end. rw (whole_place_lem s c end, p.read, m.read, p.seen, p.kept, m.seen);
      good = m.good;
      more = m.more;
      end = (string_place s p.next m.place m.next m.read).placed.end ∙ after.2;
    }

-- a key and its blob that were read
next_is :
    (s : List ℕ) (c b : Cursor) (a : Algorithm) (p : Part) (q : Public) (e : Cursor) (x : Private) (m : Part) (d : Cursor)
    → blob_field_at s b ≡ Ok ((a, p, q), e) → entry_at s c a q ≡ Ok ((x, m), d) → next_at s c b ≡ Next-key d e
unfolding next_at
next_is s c b a p q e x m d w v = rw (w, v)

pub more_back :
    (s : List ℕ) (c b : Cursor) → Good s c → c.end ≡ length s → Good s b → b.end ≡ length s → length s ≤ 65535 → (keys : List Key) (zeros t u : List ℕ)
    → AllFit zeros keys → rest s c ≡ join (entry_fields (standing_entries zeros keys)) ++ t → rest s b ≡ join (blob_fields (map key_blob keys)) ++ u
    → MoreBack s (more_at s c b (length keys)) keys t
unfolding more_at
more_back s c b good end goodb endb small [] (z ∷ zs) t u fits e eb = elim fits [ ]
more_back s c b good end goodb endb small (k ∷ keys) [] t u fits e eb = elim fits [ ]
more_back s c b good end goodb endb small [] [] t u fits e eb =
    record { places = []; next = c; read = refl; there = refl; inside = tt; counted = refl; good = good; more = e; end = end }
more_back s c b good end goodb endb small (k ∷ keys) (z ∷ zs) t u fits e eb =
    let after = join (entry_fields (standing_entries zs keys)) ++ t in
    let blobs = join (blob_fields (map key_blob keys)) ++ u in
    let f = blob_field_back s b goodb endb small k.algorithm k.public blobs fits.0.public (eb ∙ blob_field_then (key_blob k) (map key_blob keys) u) in
    let m =
    entry_back s c good (omega arith) f.public z k after f.seen fits.0 (e ∙ entry_then (standing_entry z k) (standing_entries zs keys) t) in
    let r = more_back s m.next f.next m.good (m.end ∙ end) f.good f.end small keys zs t u fits.1 m.more f.more in
    record {
      places = c.at ∷ r.places;
      next = r.next;
      read = rw (next_is s c b k.algorithm f.place f.public f.next m.private m.place m.next f.read m.read, r.read);
      there = ap₂ (λ (x : Key) (l : List Key). x ∷ l) (m.there end) r.there;
      inside = (omega (arith, good), r.inside);
      counted = ap suc r.counted;
      good = r.good;
      more = r.more;
      end = r.end;
    }

pub keys_back :
    (s : List ℕ) (c b : Cursor) → Good s c → c.end ≡ length s → Good s b → b.end ≡ length s → length s ≤ 65535 → (q : Public) (k : Key) (others : List Key)
    (zeros : ℕ) (zs t u : List ℕ) → public_bytes s q ≡ k.public → AllFit (zeros ∷ zs) (k ∷ others)
    → rest s c ≡ join (entry_fields (standing_entries (zeros ∷ zs) (k ∷ others))) ++ t → rest s b ≡ join (blob_fields (map key_blob others)) ++ u
    → KeysBack s c (keys_at s c k.algorithm q b (length others)) k others t
unfolding keys_at
keys_back s c b good end goodb endb small q k others zeros zs t u public fits e eb =
    let after = join (entry_fields (standing_entries zs others)) ++ t in
    let m =
    entry_back s c good (omega arith) q zeros k after public fits.0 (e ∙ entry_then (standing_entry zeros k) (standing_entries zs others) t) in
    let r = more_back s m.next b m.good (m.end ∙ end) goodb endb small others zs t u fits.1 m.more eb in
    record {
      private = m.private;
      place = m.place;
      places = r.places;
      next = r.next;
      read = rw (m.read, r.read);
      kept = m.kept;
      seen = m.seen;
      size = m.size;
      there = r.there;
      inside = r.inside;
      counted = r.counted;
      good = r.good;
      more = r.more;
      end = r.end;
    }
