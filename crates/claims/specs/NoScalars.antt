-- docs/RULES.md, 6.5: every plain image of 1 to 16 keys in which a string that isn't a scalar's stands as that of an ECDSA key, after keys that are
-- read, is refused for it, at the scalar's field or at the first byte too many, whatever point, checkint and comment there are, and whatever the
-- keys after it have beside their blobs; on every curve by one proof. `other_scalars` (Marked) has such images.
use Rattle.std.specs.Prelude.{ℕ, suc, ◌+◌, ◌*◌, ◌-◌, ◌%◌, ◌≤◌, ◌<◌, ◌^◌, ◌≡◌, take, get_or, Err}
use native.Mathlib.Omega.{arith}
use Rattle.std.proofs.Math.Path.{refl, sym, ap}
use Rattle.std.proofs.Common.{◌∙◌, eq-eqb, length-append}
use mathlib.Core.List.{List, [], ◌∷◌, ◌++◌, map, append_assoc, append-nil}
use Rattle.std.proofs.Math.ListN.{length}
use Rattle.std.proofs.Math.Seq.{length-slice}
use Rattle.fields.specs.Bytes.{string, join}
use Rattle.fields.specs.Fields.{fault, within}
use Rattle.fields.specs.Place.{string_place}
use Rattle.fields.specs.Rest.{rest, Good, rest-within, length-string}
use Rattle.fields.specs.Back.{short_of, string_back}
use Rattle.fields.specs.declared.Cursor.{Cursor}
use Rattle.fields.specs.declared.Fault.{Fault}
use Rattle.fields.specs.declared.Refusal.{Refusal}
use Rattle.names.specs.declared.Algorithm.{Algorithm}
use Rattle.names.specs.declared.Algorithm.TheVariants.{Elliptic as OnCurve}
use Rattle.names.specs.declared.Cipher.TheVariants as cipher
use Rattle.names.specs.declared.Curve.{Curve}
use Rattle.names.specs.declared.Elliptic.TheVariants.{Ecdsa}
use Rattle.names.specs.declared.Kdf.TheVariants as kdf
use Rattle.names.specs.Algorithms.{algorithm_name, size_of, algorithm_back}
use Rattle.format.specs.Format.{PublicFits, of_point, of_scalar, keypair, pair_fields, Key, key_of, key_blob, Entry, standing_entry, blob_fields, entry_fields, content, section, header, plain_image, padding_length, padding_bytes}
use Rattle.format.proofs.Laws.{keypair_then, content_then, entry_then, blob_field_then, section-length, padding_length_lem}
use Rattle.format.specs.Lengths.{point_blob_length, blobs_length, entries_length}
use Rattle.format.proofs.Lengths.{blob-length, entries_length_lem, content-length, plain_length}
use Rattle.writer_curve.specs.Parts.{keypair_joined}
use Rattle.key_public.specs.declared.Public.{Public}
use Rattle.key_public.specs.Keys.{public_bytes}
use Rattle.laws_keys.specs.Back.{ecdsa_public_back}
use Rattle.key_pairs.specs.Pairs.{scalar_at, ecdsa_pair_at, elliptic_pair_at, keypair_at}
use Rattle.reader_blobs.specs.Back.{blob_field_back, AllPublic}
use Rattle.reader_header.specs.Header.{second_blob}
use Rattle.reader_header.specs.Place.{plain_allowed}
use Rattle.reader_header.specs.Back.{header_back}
use Rattle.reader_entries.specs.Entries.{Not, Keys-not, entry_at, next_at, more_at, keys_at}
use Rattle.reader_entries.proofs.Back.{entry_back}
use Rattle.reader_section.specs.Section.{closed_at, content_at, ended_at, plain_at}
use Rattle.reader_section.specs.Back.{checkints_back}
use Rattle.reader_image.specs.Container.{section_at, read_at}
use Rattle.laws_fields.specs.Fields.{After}
use Rattle.laws_fields.specs.Keys.{ecdsa_public_lies}
use Rattle.laws_places.specs.Section.{checkints_lies}
use Rattle.claims.specs.Reading.{trimmed_key}
use Rattle.claims.specs.Scalars.{stored_image, AllStored, key_string_zeros, entry-stored, key_stored, NoScalar, scalar_refused}

-- where the scalar's field begins, of the key after these: after the header, the section's length, two checkints and the entries before it, and
-- after its name, curve and point
abbrev pub scalar_field : List Key → List Key → Curve → ℕ
scalar_field keys before k = 51 + blobs_length (map key_blob keys) + entries_length (map (standing_entry 0) before) + point_blob_length (Ecdsa k)

-- reading reaches the scalar's string, and is refused as that is
record Reached (s : List ℕ) (k : Curve) (stored t : List ℕ) (P : Fault → Type 0) : Type 0 where
  pub at : Cursor
  pub good : Good s at
  pub end : at.end ≡ length s
  pub more : rest s at ≡ string stored ++ t
  pub refused : (g : Fault) → scalar_at s at (size_of k) ≡ Err g → P g

entries_split : (before more : List Key) → entries_length (map (standing_entry 0) (before ++ more)) ≡ entries_length (map (standing_entry 0) before) + entries_length (map (standing_entry 0) more)
entries_split [] more = omega arith
entries_split (x ∷ before) more = omega (arith, entries_split before more)

all_public : (before more : List Key) → AllStored before → AllPublic more → AllPublic (before ++ more)
all_public [] more fits public = public
all_public (x ∷ before) more fits public = (fits.0.0, all_public before more fits.1 public)

module _
    (k : Curve) (point stored comment : List ℕ) (long : length point ≡ 1 + 2 * size_of k) (tag : get_or point 0 0 ≡ 4) (after : List Key) where
  abbrev a : Algorithm
  a = OnCurve (Ecdsa k)

  -- the key with that string
  abbrev other : Key
  other = key_of a (of_point point) (of_scalar stored) comment

  public_fits : PublicFits a (of_point point)
  public_fits = (long, eq-eqb (get_or point 0 0) 4 tag, refl)

  pair_reached :
      (s : List ℕ) (c : Cursor) (t : List ℕ) → Good s c → c.end ≡ length s → rest s c ≡ keypair a 0 (of_point point) (of_scalar stored) ++ t
      → Reached s k stored t (λ g. keypair_at s c ≡ Err g)
  unfolding keypair_at elliptic_pair_at ecdsa_pair_at
  pair_reached s c t good end e =
      let n = string_back s c good (algorithm_name a) (join (pair_fields a 0 (of_point point) (of_scalar stored)) ++ t) (algorithm_back a).1 (e ∙ keypair_then a 0 (of_point point) (of_scalar stored) t) in
      let p = ecdsa_public_back s n.next n.good k point (string stored ++ t) long tag (n.more ∙ simp append_assoc) in
      let past : After n.next p.next = rw p.read at (ecdsa_public_lies s n.next n.good) in
      record {
        at = p.next;
        good = p.good;
        end = past.2 ∙ (string_place s c n.place n.next n.read).placed.end ∙ end;
        more = p.more;
        refused = λ g w. rw (n.read, n.seen, (algorithm_back a).0, p.read, w);
      }

  -- whatever it is compared with
  entry_reached :
      (s : List ℕ) (c : Cursor) (t : List ℕ) → Good s c → c.end ≡ length s → rest s c ≡ (standing_entry 0 other).pair ++ t → (b : Algorithm) (q : Public)
      → Reached s k stored t (λ g. entry_at s c b q ≡ Err g)
  unfolding entry_at
  entry_reached s c t good end e b q =
      let p = pair_reached s c t good end e in
      record { at = p.at; good = p.good; end = p.end; more = p.more; refused = λ g w. rw (p.refused g w) }

  -- what follows the string
  abbrev follows : List ℕ → List ℕ
  follows t = string comment ++ (join (entry_fields (map (standing_entry 0) after)) ++ t)

  -- after keys that are read, each with its blob
  more_reached :
      (s : List ℕ) (c b : Cursor) → Good s c → c.end ≡ length s → Good s b → b.end ≡ length s → length s ≤ 65535 → (before : List Key) (t u : List ℕ)
      → AllStored before → rest s c ≡ join (entry_fields (map (standing_entry 0) (before ++ other ∷ after))) ++ t
      → rest s b ≡ join (blob_fields (map key_blob (before ++ other ∷ after))) ++ u
      → Reached s k stored (follows t) (λ g. more_at s c b (length (before ++ other ∷ after)) ≡ Not g)
  unfolding more_at next_at
  more_reached s c b good end goodb endb small [] t u fits e eb =
      let f = blob_field_back s b goodb endb small a (of_point point) (join (blob_fields (map key_blob after)) ++ u) public_fits (eb ∙ blob_field_then (key_blob other) (map key_blob after) u) in
      let p = entry_reached s c (follows t) good end (e ∙ entry_then (standing_entry 0 other) (map (standing_entry 0) after) t) a f.public in
      record { at = p.at; good = p.good; end = p.end; more = p.more; refused = λ g w. rw (f.read, p.refused g w) }
  more_reached s c b good end goodb endb small (x ∷ before) t u fits e eb =
      let keys = before ++ other ∷ after in
      let rest-entries = join (entry_fields (map (standing_entry 0) keys)) ++ t in
      let f = blob_field_back s b goodb endb small x.algorithm x.public (join (blob_fields (map key_blob keys)) ++ u) fits.0.0 (eb ∙ blob_field_then (key_blob x) (map key_blob keys) u) in
      let m = entry_back s c good (omega arith) f.public (key_string_zeros x) (trimmed_key x) rest-entries f.seen (key_stored x fits.0)
      (e ∙ entry_then (standing_entry 0 x) (map (standing_entry 0) keys) t ∙ ap (λ (y : Entry). y.pair ++ (string x.comment ++ rest-entries)) (entry-stored x)) in
      let r = more_reached s m.next f.next m.good (m.end ∙ end) f.good f.end small before t u fits.1 m.more f.more in
      record { at = r.at; good = r.good; end = r.end; more = r.more; refused = λ g w. rw (f.read, m.read, r.refused g w) }

  -- so of a section's keys, the first of them held to the blob that the header told
  abbrev KeysReached : Key → List Key → Type 0
  KeysReached first others =
      (s : List ℕ) (c b : Cursor) → Good s c → c.end ≡ length s → Good s b → b.end ≡ length s → length s ≤ 65535 → (q : Public) (t u : List ℕ)
      → public_bytes s q ≡ first.public → rest s c ≡ join (entry_fields (map (standing_entry 0) (first ∷ others))) ++ t
      → rest s b ≡ join (blob_fields (map key_blob others)) ++ u
      → Reached s k stored (follows t) (λ g. keys_at s c first.algorithm q b (length others) ≡ Keys-not g)

  first_reached : KeysReached other after
  unfolding keys_at
  first_reached s c b good end goodb endb small q t u public e eb =
      let p = entry_reached s c (follows t) good end (e ∙ entry_then (standing_entry 0 other) (map (standing_entry 0) after) t) a q in
      record { at = p.at; good = p.good; end = p.end; more = p.more; refused = λ g w. rw (p.refused g w) }

  later_reached : (x : Key) (before : List Key) → AllStored (x ∷ before) → KeysReached x (before ++ other ∷ after)
  unfolding keys_at
  later_reached x before fits s c b good end goodb endb small q t u public e eb =
      let keys = before ++ other ∷ after in
      let rest-entries = join (entry_fields (map (standing_entry 0) keys)) ++ t in
      let m = entry_back s c good (omega arith) q (key_string_zeros x) (trimmed_key x) rest-entries public (key_stored x fits.0)
      (e ∙ entry_then (standing_entry 0 x) (map (standing_entry 0) keys) t ∙ ap (λ (y : Entry). y.pair ++ (string x.comment ++ rest-entries)) (entry-stored x)) in
      let r = more_reached s m.next b m.good (m.end ∙ end) goodb endb small before t u fits.1 m.more eb in
      record { at = r.at; good = r.good; end = r.end; more = r.more; refused = λ g w. rw (m.read, r.refused g w) }

  module _
      (n : ℕ) (fit : n < 2 ^ 32) (first : Key) (others : List Key) (reach : KeysReached first others) (public : AllPublic (first ∷ others))
      (few : length others ≤ 15) where
    abbrev entries : List Entry
    entries = map (standing_entry 0) (first ∷ others)

    abbrev padding : List ℕ
    padding = take (padding_length (length (content n entries))) padding_bytes

    content_reached :
        (s : List ℕ) (c b : Cursor) → Good s c → c.end ≡ length s → Good s b → b.end ≡ length s → length s ≤ 65535 → (q : Public) (u : List ℕ)
        → public_bytes s q ≡ first.public → rest s c ≡ section n entries → rest s b ≡ join (blob_fields (map key_blob others)) ++ u
        → Reached s k stored (follows padding) (λ g. content_at s c first.algorithm q b (length others) ≡ Err g)
    unfolding content_at closed_at section
    content_reached s c b good end goodb endb small q u same e eb =
        let size = length (content n entries) in
        let whole : c.end - c.at ≡ size + padding_length size = sym (length-slice c.at c.end s good.1) ∙ ap length e ∙ section-length n entries in
        let eight : (c.end - c.at) % 8 ≡ 0 = omega arith in
        let m = checkints_back s c good n (join (entry_fields entries) ++ padding) fit (e ∙ content_then n entries padding) in
        let past : After c m.next = rw m.read at (checkints_lies s c good) in
        let p = reach s m.next b m.good (past.2 ∙ end) goodb endb small q padding u same m.more eb in
        record {
          at = p.at;
          good = p.good;
          end = p.end;
          more = p.more;
          refused = λ g w. rw (eq-eqb ((c.end - c.at) % 8) 0 eight, m.read, p.refused g w);
        }

    section_reached :
        (s : List ℕ) (c b : Cursor) → Good s c → c.end ≡ length s → Good s b → b.end ≡ length s → length s ≤ 65535 → (q : Public) (u : List ℕ)
        → public_bytes s q ≡ first.public → rest s c ≡ string (section n entries) → rest s b ≡ join (blob_fields (map key_blob others)) ++ u
        → Reached s k stored (follows padding) (λ g. plain_at s c first.algorithm q b (length others) ≡ Err g)
    unfolding plain_at ended_at
    section_reached s c b good end goodb endb small q u same e eb =
        let body = section n entries in
        let e' : rest s c ≡ string body ++ [] = e ∙ sym (append-nil (string body)) in
        let m = string_back s c good body [] (short_of s c good (omega arith) body [] e') e' in
        let place = (string_place s c m.place m.next m.read).placed in
        let left : m.next.end - m.next.at ≡ 0 = sym (length-slice m.next.at m.next.end s m.good.1) ∙ ap length m.more in
        let last : m.place.start + m.place.length ≡ length s = omega (arith, place, left, m.good, end) in
        let p = content_reached s (within m.place) b (omega (arith, m.inside)) last goodb endb small q u same (rest-within s m.place m.inside ∙ m.seen) eb in
        record { at = p.at; good = p.good; end = p.end; more = p.more; refused = λ g w. rw (m.read, p.refused g w) }

    abbrev s : List ℕ
    s = stored_image n (first ∷ others)

    image_reached : length s ≤ 65535 → Reached s k stored (follows padding) (λ g. read_at s ≡ Err g)
    unfolding read_at section_at plain_image
    image_reached small =
        let body = section n entries in
        let h =
        header_back s cipher.None kdf.None [] 0 first others (string body) small (refl, refl) public (plain_allowed (suc (length others)) (omega arith) (omega arith))
        (ap (λ (l : List ℕ). header cipher.None kdf.None [] 0 (map key_blob (first ∷ others)) ++ l) (append-nil (string body))) in
        let f = h.fields in
        let less : f.count - 1 ≡ length others = omega (arith, h.same_count) in
        let p =
        section_reached s (record { at = f.section; end = length s }) (second_blob s f) (h.good, omega arith) refl (h.second_good, omega arith) refl small
        f.public (string body) h.same_public h.more h.second in
        record {
          at = p.at;
          good = p.good;
          end = p.end;
          more = p.more;
          refused = λ g w. rw (h.read, h.same_cipher, h.same_kdf, h.same_algorithm, less, p.refused g w);
        }

    pair_length_lem : length (standing_entry 0 other).pair ≡ point_blob_length (Ecdsa k) + (4 + length stored)
    pair_length_lem =
        ap length (sym (keypair_joined (Ecdsa k) 0 (of_point point) (of_scalar stored)))
        ∙ simp (length-append, length-string, blob-length (of_point point) (of_scalar []) a (long, omega arith)) (omega arith)

    -- the keys are those before it, it and those after it
    reached_refused :
        (before : List Key) → first ∷ others ≡ before ++ other ∷ after → length s ≤ 65535 → (why : Refusal) (off : ℕ) → NoScalar (size_of k) stored why off
        → read_at s ≡ Err (fault why (scalar_field (first ∷ others) before k + off))
    reached_refused before same small why off no' =
        let r = image_reached small in
        let t = follows padding in
        let size = length (content n entries) in
        let m = string_back s r.at r.good stored t (short_of s r.at r.good (omega arith) stored t r.more) r.more in
        let refused = scalar_refused s r.at (size_of k) m.place m.next m.read why off (rw m.seen no') in
        let left : r.at.end - r.at.at ≡ 4 + length stored + (4 + length comment + (entries_length (map (standing_entry 0) after) + padding_length size)) =
        sym (length-slice r.at.at r.at.end s r.good.1) ∙ ap length r.more ∙ simp (length-append, length-string, entries_length_lem, padding_length_lem size) in
        let image : length s ≡ 43 + blobs_length (map key_blob (first ∷ others)) + (size + padding_length size) =
        plain_length n (map key_blob (first ∷ others)) entries ∙ rw (section-length n entries) refl in
        let split : entries_length entries ≡ entries_length (map (standing_entry 0) before) + entries_length (map (standing_entry 0) (other ∷ after)) =
        ap (λ (l : List Key). entries_length (map (standing_entry 0) l)) same ∙ entries_split before (other ∷ after) in
        let place : r.at.at ≡ scalar_field (first ∷ others) before k =
        omega (arith, left, image, split, content-length n entries, pair_length_lem, r.end, r.good) in
        r.refused (fault why (r.at.at + off)) refused ∙ ap (λ (i : ℕ). Err (fault why (i + off))) place

  -- the claim
  pub refuses_stored :
      (n : ℕ) → n < 2 ^ 32 → (before : List Key) → AllStored before → AllPublic after → length (before ++ other ∷ after) ≤ 16
      → length (stored_image n (before ++ other ∷ after)) ≤ 65535 → (why : Refusal) (off : ℕ) → NoScalar (size_of k) stored why off
      → read_at (stored_image n (before ++ other ∷ after)) ≡ Err (fault why (scalar_field (before ++ other ∷ after) before k + off))
  refuses_stored n fit [] fits public few small why off no' =
      reached_refused n fit other after first_reached (public_fits, public) (omega arith) [] refl small why off no'
  refuses_stored n fit (x ∷ before) fits public few small why off no' =
      reached_refused n fit x (before ++ other ∷ after) (later_reached x before fits) (all_public (x ∷ before) (other ∷ after) fits (public_fits, public))
      (omega arith) (x ∷ before) refl small why off no'
