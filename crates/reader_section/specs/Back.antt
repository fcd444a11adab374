-- Reading back: a section that ends an image as the format writes it is read, with its fields.
use Rattle.std.specs.Prelude.{ℕ, ◌+◌, ◌-◌, ◌%◌, ◌≤◌, ◌<◌, ◌^◌, ◌≡◌, refl, eqb, Result, Ok, Err}
use native.Mathlib.Omega.{arith}
use Rattle.std.proofs.Math.Path.{sym, ap}
use Rattle.std.proofs.Common.{◌∙◌, eq-eqb, eqb-true, lt-ltb}
use mathlib.Core.List.{List, [], ◌∷◌, ◌++◌, map, append-nil}
use Rattle.std.proofs.Math.ListN.{length, take}
use Rattle.std.proofs.Math.Seq.{slice, length-slice}
use Rattle.fields.specs.Bytes.{uint32, string, join, same_self, length-zero}
use Rattle.fields.specs.Fields.{part, within, uint32_at, view_of}
use Rattle.fields.specs.Room.{view_in}
use Rattle.fields.specs.Place.{clash, by_bool, by_read, uint32_place, string_place, same_read}
use Rattle.fields.specs.Rest.{rest, Good, rest-within, view_absent}
use Rattle.fields.specs.Back.{Uint32Back, short_of, bytes_back, string_back, uint32_back, end_back}
use Rattle.fields.specs.declared.Cursor.{Cursor}
use Rattle.fields.specs.declared.Part.{Part}
use Rattle.names.specs.declared.Cipher.{Cipher}
use Rattle.names.specs.Ciphers.{block_size, tag_length}
use Rattle.format.specs.Format.{Key, Entry, key_blob, blob_fields, entry_fields, standing_entries, content, section, padding_length, padding_bytes}
use Rattle.key_public.specs.declared.Public.{Public}
use Rattle.key_public.specs.Keys.{public_bytes}
use Rattle.key_pairs.specs.Pairs.{private_bytes}
use Rattle.format.proofs.Laws.{content_then, section-length, padding_length_lem}
use Rattle.places.specs.Places.{AllWithin, places_of}
use Rattle.reader_entries.specs.Entries.{key_read_of}
use Rattle.reader_entries.specs.Back.{AllFit}
use Rattle.reader_entries.proofs.Back.{keys_back}
use Rattle.reader_section.specs.declared.Kind.TheVariants.{Plain, Encrypted}
use Rattle.reader_section.specs.declared.Section.{Section}
use Rattle.reader_section.specs.Section.{checkints_at, padding_at, plain_of, closed_at, content_at, ended_at, plain_at, encrypted_of, present_of, encrypted_at}
use Rattle.fields.specs.declared.Fault.{Fault}

pub checkints_back : (s : List ℕ) (c : Cursor) → Good s c → (n : ℕ) (t : List ℕ) → n < 2 ^ 32 → rest s c ≡ uint32 n ++ (uint32 n ++ t) → Uint32Back s (checkints_at s c) n t
unfolding checkints_at
checkints_back s c good n t fits e =
    let a = uint32_back s c good n (uint32 n ++ t) fits e in
    let b = uint32_back s a.next a.good n t fits a.more in
    record {
      next = b.next;
      read = rw (a.read, b.read, eq-eqb n n refl);
      good = b.good;
      more = b.more;
    }

checkints_end : (s : List ℕ) (c : Cursor) (n : ℕ) (d : Cursor) → checkints_at s c ≡ Ok (n, d) → d.end ≡ c.end
unfolding checkints_at
checkints_end s c n d e =
    by_read (uint32_at s c)
    (λ f w. let g : Err f ≡ Ok (n, d) = rw w at e in clash cc)
    (λ a b w.
    let g = rw w at e in
    by_read (uint32_at s b)
    (λ f v. let h : Err f ≡ Ok (n, d) = rw v at g in clash cc)
    (λ m x v.
    let h = rw v at g in
    by_bool (eqb m a)
    (λ u.
    let i : Ok (a, x) ≡ Ok (n, d) = rw u at h in
    let last : x ≡ d = (same_read i).1 in
    ap (λ (y : Cursor). y.end) (sym last) ∙ (uint32_place s b m x v).end ∙ (uint32_place s c a b w).end)
    (λ u. let i = rw u at h in clash cc)))

-- what is left, as the padding's part
pub rest_padding : (s : List ℕ) (c : Cursor) → Good s c → view_of s (part c.at (c.end - c.at)) ≡ rest s c
rest_padding s c good =
    let ends : c.at + (c.end - c.at) ≡ c.end = omega arith in
    view_in s (part c.at (c.end - c.at)) (omega arith) ∙ ap (λ (e : ℕ). slice c.at e s) ends

padding_back :
    (s : List ℕ) (c : Cursor) → Good s c → (n : ℕ) → rest s c ≡ take (padding_length n) padding_bytes → (padding_at s c ≡ Ok tt) × (c.end - c.at ≡ padding_length n)
unfolding padding_at
padding_back s c good n e =
    let left : c.end - c.at ≡ padding_length n = sym (length-slice c.at c.end s good.1) ∙ ap length e ∙ padding_length_lem n in
    let seen : view_of s (part c.at (c.end - c.at)) ≡ take (padding_length n) padding_bytes = rest_padding s c good ∙ e in
    (rw (seen, left, lt-ltb (padding_length n) 8 (omega arith), same_self (take (padding_length n) padding_bytes)), left)

-- what a plain section gives back: the first key's fields, and where the others begin
pub record PlainBack (s : List ℕ) (w : Result Section Fault) (n : ℕ) (k : Key) (others : List Key) (padding : ℕ) : Type 0 where
  pub fields : Section
  pub first : ℕ
  pub places : List ℕ
  pub read : w ≡ Ok fields
  pub plain : fields.kind ≡ Plain
  pub same_checkint : fields.checkint ≡ n
  pub same_private : private_bytes s fields.private ≡ k.private
  pub same_comment : view_of s fields.comment ≡ k.comment
  pub comment_size : fields.comment.length ≡ length k.comment
  pub same_padding : fields.padding ≡ padding
  pub listed : fields.places ≡ places_of (first ∷ places)
  pub there : map (key_read_of s) places ≡ others
  pub inside : AllWithin (length s) places
  pub counted : length places ≡ length others

module _
    (s : List ℕ) (small : length s ≤ 65535) (q : Public) (k : Key) (others : List Key) (zeros : ℕ) (zs : List ℕ) (n : ℕ) (public : public_bytes s q ≡ k.public)
    (fit : n < 2 ^ 32) (fits : AllFit (zeros ∷ zs) (k ∷ others)) (b : Cursor) (goodb : Good s b) (endb : b.end ≡ length s) (u : List ℕ)
    (eb : rest s b ≡ join (blob_fields (map key_blob others)) ++ u) where
  abbrev entries : List Entry
  entries = standing_entries (zeros ∷ zs) (k ∷ others)

  content_back :
      (c : Cursor) → Good s c → c.end ≡ length s → rest s c ≡ section n entries
      → PlainBack s (content_at s c k.algorithm q b (length others)) n k others (padding_length (length (content n entries)))
  unfolding content_at closed_at section
  content_back c good end e =
      let size = length (content n entries) in
      let padding = take (padding_length size) padding_bytes in
      let long : c.end - c.at ≡ size + padding_length size =
      sym (length-slice c.at c.end s good.1) ∙ ap length e ∙ section-length n entries in
      let m = checkints_back s c good n (join (entry_fields entries) ++ padding) fit (e ∙ content_then n entries padding) in
      let after : m.next.end ≡ length s = checkints_end s c n m.next m.read ∙ end in
      let r = keys_back s m.next b m.good after goodb endb small q k others zeros zs padding u public fits m.more eb in
      let p = padding_back s r.next r.good size r.more in
      let whole : (c.end - c.at) % 8 ≡ 0 = omega arith in
      record {
        fields = plain_of n (r.next.end - r.next.at) r.private r.place (places_of (m.next.at ∷ r.places));
        first = m.next.at;
        places = r.places;
        read = rw (eq-eqb ((c.end - c.at) % 8) 0 whole, m.read, r.read, p.0);
        plain = refl;
        same_checkint = refl;
        same_private = r.kept;
        same_comment = r.seen;
        comment_size = r.size;
        same_padding = p.1;
        listed = refl;
        there = r.there;
        inside = r.inside;
        counted = r.counted;
      }

  pub plain_back :
      (c : Cursor) → Good s c → c.end ≡ length s → rest s c ≡ string (section n entries)
      → PlainBack s (plain_at s c k.algorithm q b (length others)) n k others (padding_length (length (content n entries)))
  unfolding plain_at ended_at
  plain_back c good end e =
      let body = section n entries in
      let e' = e ∙ sym (append-nil (string body)) in
      let p = string_back s c good body [] (short_of s c good (omega arith) body [] e') e' in
      let place = (string_place s c p.place p.next p.read).placed in
      let left : p.next.end - p.next.at ≡ 0 = sym (length-slice p.next.at p.next.end s p.good.1) ∙ ap length p.more in
      let last : p.place.start + p.place.length ≡ length s = omega (arith, place, left, p.good, end) in
      let m = content_back (within p.place) (omega (arith, p.inside)) last (rest-within s p.place p.inside ∙ p.seen) in
      record {
        fields = m.fields;
        first = m.first;
        places = m.places;
        read = rw (p.read, m.read, end_back s p.next p.good p.more);
        plain = m.plain;
        same_checkint = m.same_checkint;
        same_private = m.same_private;
        same_comment = m.same_comment;
        comment_size = m.comment_size;
        same_padding = m.same_padding;
        listed = m.listed;
        there = m.there;
        inside = m.inside;
        counted = m.counted;
      }

-- an absent tag has the bytes that a tag of none has
pub present_seen : (s : List ℕ) (p : Part) (b : List ℕ) → view_of s p ≡ b → p.length ≡ length b → view_of s (present_of p) ≡ b
unfolding present_of
present_seen s p b e l =
    by_bool (eqb p.length 0)
    (λ v. rw v (view_absent s ∙ sym (length-zero b (sym l ∙ eqb-true p.length 0 v))))
    (λ v. rw v e)

present_size : (p : Part) (n : ℕ) → p.length ≡ n → (present_of p).length ≡ n
unfolding present_of
present_size p n l =
    by_bool (eqb p.length 0)
    (λ v. rw v (sym (eqb-true p.length 0 v) ∙ l))
    (λ v. rw v l)

-- what an encrypted section gives back
pub record EncryptedBack (s : List ℕ) (w : Result Section Fault) (ciphertext tag : List ℕ) : Type 0 where
  pub fields : Section
  pub read : w ≡ Ok fields
  pub encrypted : fields.kind ≡ Encrypted
  pub same_ciphertext : view_of s fields.ciphertext ≡ ciphertext
  pub same_tag : view_of s fields.tag ≡ tag
  pub ciphertext_size : fields.ciphertext.length ≡ length ciphertext
  pub tag_size : fields.tag.length ≡ length tag

pub encrypted_back :
    (s : List ℕ) (c : Cursor) → Good s c → length s < 2 ^ 32 → (cipher : Cipher) (ciphertext tag : List ℕ) → length ciphertext % block_size cipher ≡ 0
    → length tag ≡ tag_length cipher → rest s c ≡ string ciphertext ++ tag → EncryptedBack s (encrypted_at s c cipher) ciphertext tag
unfolding encrypted_at
encrypted_back s c good small cipher ciphertext tag blocks long e =
    let p = string_back s c good ciphertext tag (short_of s c good small ciphertext tag e) e in
    let t = bytes_back s p.next p.good tag [] (p.more ∙ sym (append-nil tag)) in
    let divides : p.place.length % block_size cipher ≡ 0 = ap (λ (n : ℕ). n % block_size cipher) p.size ∙ blocks in
    record {
      fields = encrypted_of p.place (present_of t.place);
      read = rw (p.read, eq-eqb (p.place.length % block_size cipher) 0 divides, ← long, t.read, end_back s t.next t.good t.more);
      encrypted = refl;
      same_ciphertext = p.seen;
      same_tag = present_seen s t.place tag t.seen t.size;
      ciphertext_size = p.size;
      tag_size = present_size t.place (length tag) t.size;
    }
