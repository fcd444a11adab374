-- Inversion: a plain section that was read ends the image as the format writes it, each scalar in the form that it had. Rests on `padding_read`.
use Rattle.std.specs.Prelude.{ℕ, ◌+◌, ◌-◌, ◌%◌, ◌≤◌, ◌≡◌, refl, eqb, Ok, Err}
use Rattle.std.proofs.Common.{arith, ◌∙◌, length-take-le}
use Rattle.std.proofs.Math.Path.{sym, ap}
use mathlib.Core.List.{List, ◌∷◌, ◌++◌, map, append-nil}
use borrow.Author.Tests.{eqb-true}
use Rattle.std.proofs.Math.ListN.{length, take, length-append}
use Rattle.std.proofs.Math.Seq.{length-slice}
use Rattle.fields.specs.Bytes.{uint32, string, join, AllBytes}
use Rattle.fields.specs.Fields.{within, string_at, end_at, view_of}
use Rattle.fields.specs.Place.{clash, by_read, by_tested, by_bool}
use Rattle.fields.specs.Rest.{rest, Good, rest-within}
use Rattle.fields.specs.Read.{string_read, end_read}
use Rattle.fields.specs.declared.Cursor.{Cursor}
use Rattle.names.specs.declared.Algorithm.{Algorithm}
use Rattle.format.specs.Format.{Entry, entry_fields, standing_entries, content, section, padding_length, padding_bytes}
use Rattle.key_public.specs.declared.Public.{Public}
use Rattle.format.proofs.Laws.{content_then}
use Rattle.places.specs.Places.{places_of}
use Rattle.reader_entries.specs.Entries.{keys_at, key_read_of}
use Rattle.reader_entries.specs.Read.{first_key}
use Rattle.reader_entries.proofs.Read.{by_keys, keys_read}
use Rattle.reader_section.specs.declared.Section.{Section}
use Rattle.reader_section.specs.Section.{checkints_at, padding_at, plain_of, closed_at, content_at, ended_at, plain_at}
use Rattle.reader_section.specs.Read.{by_section, padding_read, checkints_read, padding_is, section_keys, KeysFound, PlainRead}

module _ (s : List ℕ) (all : AllBytes s) where
  -- the fields one after the other, and the padding that they leave
  content_joined :
      (c : Cursor) (n : ℕ) (d : Cursor) (entries : List Entry) (b : Cursor) → c.end ≤ length s → (c.end - c.at) % 8 ≡ 0 → checkints_at s c ≡ Ok (n, d)
      → rest s d ≡ join (entry_fields entries) ++ rest s b → Good s b → padding_at s b ≡ Ok tt
      → (rest s c ≡ section n entries) × (b.end - b.at ≡ padding_length (length (content n entries)))
  unfolding section
  content_joined c n d entries b inside whole w stand good u =
      let body = content n entries in
      let k = checkints_read s all c n d w in
      let p = padding_read s b good u in
      let left = b.end - b.at in
      let text : rest s c ≡ body ++ take left padding_bytes =
      k.0 ∙ ap (λ (l : List ℕ). uint32 n ++ (uint32 n ++ l)) stand
      ∙ sym (content_then n entries (rest s b))
      ∙ ap (λ (l : List ℕ). body ++ l) p.0 in
      let long : c.end - c.at ≡ length body + left =
      sym (length-slice c.at c.end s inside) ∙ ap length text ∙ length-append body (take left padding_bytes)
      ∙ ap (λ (i : ℕ). length body + i) (length-take-le left padding_bytes (omega (arith, p.1))) in
      let fills : left ≡ padding_length (length body) = padding_is s all (length body) left (rw long at whole) p.1 in
      (text ∙ ap (λ (i : ℕ). body ++ take i padding_bytes) fills, fills)

  content_read :
      (c : Cursor) (a : Algorithm) (q : Public) (b : Cursor) (more : ℕ) (x : Section) → c.end ≡ length s
      → content_at s c a q b more ≡ Ok x → KeysFound s all c a q b more x
  unfolding content_at closed_at
  content_read c a q b more x end e =
      by_bool (eqb ((c.end - c.at) % 8) 0)
      (λ w.
      let g = rw w at e in
      by_read (checkints_at s c)
      (λ f v. let h : Err f ≡ Ok x = rw v at g in clash cc)
      (λ n d v.
      let h = rw v at g in
      by_keys (keys_at s d a q b more)
      (λ f u. let i : Err f ≡ Ok x = rw u at h in clash cc)
      (λ y m places o u.
      let i = rw u at h in
      by_tested (padding_at s o)
      (λ f t. let k : Err f ≡ Ok x = rw t at i in clash cc)
      (λ t.
      let k : Ok (plain_of n (o.end - o.at) y m places) ≡ Ok x = rw t at i in
      let same : plain_of n (o.end - o.at) y m places ≡ x = cc in
      let first = checkints_read s all c n d v in
      let r = keys_read s all d a q b more y m places o (first.3 ∙ end) u in
      let starts : d.at ≡ c.at + 8 = first.2 in
      let joined =
      content_joined c n d (standing_entries (r.zeros ∷ r.more_zeros) (first_key s all a q y m ∷ map (key_read_of s) r.others)) o
      (omega (arith, end)) (eqb-true _ _ w) v r.text r.good t in
      rw (← same)
      (record {
        zeros = r.zeros;
        more_zeros = r.more_zeros;
        others = r.others;
        plain = refl;
        text = joined.0;
        padded = joined.1;
        listed = r.listed ∙ ap (λ (j : ℕ). places_of (j ∷ r.others)) starts;
        blobs = r.blobs;
        fits = r.fits;
        checkint = first.1;
        begins = r.begins;
        place = r.place ∙ omega (arith, starts);
        size = r.size;
        comment_within = r.comment_within;
        second = r.second;
        second_starts = r.second_starts;
        second_ends = r.second_ends;
        stand = r.stand;
        counted = r.counted;
        inside = r.inside;
      })))))
      (λ w. let g = rw w at e in clash cc)

  pub plain_read :
      (c : Cursor) (a : Algorithm) (q : Public) (b : Cursor) (more : ℕ) (x : Section) → c.end ≡ length s → plain_at s c a q b more ≡ Ok x
      → PlainRead s all c a q b more x
  unfolding plain_at ended_at
  plain_read c a q b more x end e =
      by_read (string_at s c)
      (λ f w. let g : Err f ≡ Ok x = rw w at e in clash cc)
      (λ p d w.
      let g = rw w at e in
      by_section (content_at s (within p) a q b more)
      (λ f v. let h : Err f ≡ Ok x = rw v at g in clash cc)
      (λ y v.
      let h = rw v at g in
      by_tested (end_at d)
      (λ f u. let i : Err f ≡ Ok x = rw u at h in clash cc)
      (λ u.
      let i : Ok y ≡ Ok x = rw u at h in
      let o : y ≡ x = cc in
      let r = string_read s all c p d w in
      let z = end_read s d u in
      let last : p.start + p.length ≡ length s = omega (arith, r.place.placed, z.1, end) in
      let k = content_read (within p) a q b more x last (v ∙ ap Ok o) in
      let body : view_of s p ≡ section x.checkint (standing_entries (k.zeros ∷ k.more_zeros) (section_keys s all a q x k.others)) =
      sym (rest-within s p (omega (arith, last))) ∙ k.text in
      record {
        inside = within p;
        starts = r.place.placed.start;
        found = k;
        text = r.text ∙ ap (λ (l : List ℕ). string (view_of s p) ++ l) z.0 ∙ append-nil (string (view_of s p)) ∙ ap string body;
      })))
