-- Inversion: a plain section that was read ends the image as the format writes it, each scalar in the form that it had.
use Rattle.std.specs.Prelude.{ℕ, ◌+◌, ◌-◌, ◌%◌, ◌≤◌, ◌<◌, ◌^◌, ◌≡◌, refl, eqb, ltb, Result, Ok, Err}
use Rattle.std.proofs.Common.{arith, ◌∙◌, length-take-le}
use Rattle.std.proofs.Math.Path.{sym, ap}
use mathlib.Core.List.{List, ◌∷◌, ◌++◌, map, append-nil}
use borrow.Author.Tests.{eqb-true, ltb-true}
use Rattle.std.proofs.Math.ListN.{length, take, length-append}
use Rattle.std.proofs.Math.Seq.{length-slice}
use Rattle.fields.specs.Bytes.{uint32, string, join, AllBytes, same_bytes, same_true}
use Rattle.fields.specs.Fields.{part, within, uint32_at, string_at, end_at, view_of}
use Rattle.fields.specs.Place.{clash, by_read, by_tested, by_bool, uint32_place, same_read}
use Rattle.fields.specs.Rest.{rest, Good, rest-within}
use Rattle.fields.specs.Read.{uint32_read, string_read, end_read}
use Rattle.fields.specs.declared.Cursor.{Cursor}
use Rattle.fields.specs.declared.Fault.{Fault}
use Rattle.names.specs.declared.Algorithm.{Algorithm}
use Rattle.format.specs.Format.{Key, Entry, key_blob, keypair as pair, entry_fields, standing_entries, content, section, padding_length, padding_bytes}
use Rattle.key_public.specs.declared.Public.{Public}
use Rattle.key_public.specs.Keys.{public_bytes}
use Rattle.format.proofs.Laws.{content_then}
use Rattle.key_pairs.specs.Pairs.{private_bytes}
use Rattle.laws_keys.specs.ReadPair.{IfScalar, Begins}
use Rattle.places.specs.Places.{AllWithin, places_of}
use Rattle.reader_blobs.specs.Blobs.{blob_bytes}
use Rattle.reader_entries.specs.Entries.{keys_at, key_read_of}
use Rattle.reader_entries.specs.Back.{AllFit}
use Rattle.reader_entries.specs.Read.{first_key, AllStand}
use Rattle.reader_entries.proofs.Read.{by_keys, keys_read}
use Rattle.reader_section.specs.declared.Kind.TheVariants.{Plain}
use Rattle.reader_section.specs.declared.Section.{Section}
use Rattle.reader_section.specs.Section.{checkints_at, padding_at, plain_of, closed_at, content_at, ended_at, plain_at}
use Rattle.reader_section.specs.Back.{rest_padding}

-- by cases, with the equation in hand
pub by_section : {P : Type 0} (w : Result Section Fault) → ((f : Fault) → w ≡ Err f → P) → ((x : Section) → w ≡ Ok x → P) → P
by_section (Err f) refused read = refused f refl
by_section (Ok x) refused read = read x refl

-- how many bytes stand before the comment's string in a section
abbrev pub before_comment : List ℕ → ℕ
before_comment pair = 8 + length pair

-- a padding that was read
pub padding_read : (s : List ℕ) (c : Cursor) → Good s c → padding_at s c ≡ Ok tt → (rest s c ≡ take (c.end - c.at) padding_bytes) × (c.end - c.at < 8)
unfolding padding_at
padding_read s c good e =
    by_bool (ltb (c.end - c.at) 8)
    (λ w.
    let g = rw w at e in
    by_bool (same_bytes (view_of s (part c.at (c.end - c.at))) (take (c.end - c.at) padding_bytes))
    (λ v. (sym (rest_padding s c good) ∙ same_true _ _ v, ltb-true (c.end - c.at) 8 w))
    (λ v. let h = rw v at g in clash cc))
    (λ w. let g = rw w at e in clash cc)

module _ (s : List ℕ) (all : AllBytes s) where
  pub checkints_read :
      (c : Cursor) (n : ℕ) (d : Cursor) → checkints_at s c ≡ Ok (n, d) → (rest s c ≡ uint32 n ++ (uint32 n ++ rest s d)) × (n < 2 ^ 32)
      × (d.at ≡ c.at + 8) × (d.end ≡ c.end)
  unfolding checkints_at
  checkints_read c n d e =
      by_read (uint32_at s c)
      (λ f w. let g : Err f ≡ Ok (n, d) = rw w at e in clash cc)
      (λ a b w.
      let g = rw w at e in
      by_read (uint32_at s b)
      (λ f v. let h : Err f ≡ Ok (n, d) = rw v at g in clash cc)
      (λ m x v.
      let h = rw v at g in
      by_bool (eqb m a)
      (λ u.
      let i : Ok (a, x) ≡ Ok (n, d) = rw u at h in
      let same : m ≡ a = eqb-true m a u in
      let o : a ≡ n = (same_read i).0 in
      let j : x ≡ d = (same_read i).1 in
      let p₁ = uint32_place s c a b w in
      let p₂ = uint32_place s b m x v in
      let r₁ = uint32_read s all c n b (rw o at w) in
      let r₂ = uint32_read s all b n d (rw (same, o, j) at v) in
      (r₁.0 ∙ ap (λ (y : List ℕ). uint32 n ++ y) r₂.0, r₁.1, omega (arith, p₁.after, p₂.after, ap (λ (y : Cursor). y.at) j), ap (λ (y : Cursor). y.end) (sym j) ∙ p₂.end ∙ p₁.end))
      (λ u. let i = rw u at h in clash cc)))

  -- how long the padding is follows from the multiple of 8
  pub padding_is : (n p : ℕ) → (n + p) % 8 ≡ 0 → p < 8 → p ≡ padding_length n
  padding_is n p e h = omega arith

  -- a section's keys: the first by its fields, the others by their places
  abbrev pub section_keys : Algorithm → Public → Section → List ℕ → List Key
  section_keys a q x others = first_key s all a q x.private x.comment ∷ map (key_read_of s) others

  -- what reading a section found, whose content begins at c
  pub record KeysFound (c : Cursor) (a : Algorithm) (q : Public) (b : Cursor) (more : ℕ) (x : Section) : Type 0 where
    pub zeros : ℕ
    pub more_zeros : List ℕ
    pub others : List ℕ
    pub plain : x.kind ≡ Plain
    pub text : rest s c ≡ section x.checkint (standing_entries (zeros ∷ more_zeros) (section_keys a q x others))
    pub padded : x.padding ≡ padding_length (length (content x.checkint (standing_entries (zeros ∷ more_zeros) (section_keys a q x others))))
    pub listed : x.places ≡ places_of ((c.at + 8) ∷ others)
    pub blobs : blob_bytes s b more ≡ map key_blob (map (key_read_of s) others)
    pub fits : AllFit (zeros ∷ more_zeros) (section_keys a q x others)
    pub checkint : x.checkint < 2 ^ 32
    pub begins : IfScalar a (Begins s x.private.scalar zeros)
    pub place : x.comment.start ≡ c.at + before_comment (pair a zeros (public_bytes s q) (private_bytes s x.private)) + 4
    pub size : length (view_of s x.comment) ≡ x.comment.length
    pub comment_within : x.comment.start ≤ length s
    pub second : Cursor
    pub second_starts : second.at ≡ x.comment.start + x.comment.length
    pub second_ends : second.end ≡ length s
    pub stand : AllStand s all second b others more_zeros
    pub counted : length others ≡ more
    pub inside : AllWithin (length s) others

  -- an accepted plain section, whose length is at c
  pub record PlainRead (c : Cursor) (a : Algorithm) (q : Public) (b : Cursor) (more : ℕ) (x : Section) : Type 0 where
    pub inside : Cursor
    pub starts : inside.at ≡ c.at + 4
    pub found : KeysFound inside a q b more x
    pub text :
        rest s c ≡ string (section x.checkint (standing_entries (found.zeros ∷ found.more_zeros) (section_keys a q x found.others)))
