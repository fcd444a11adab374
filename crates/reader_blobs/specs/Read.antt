-- Inversion: blobs that were read stand there as the format writes them.
use Prim.Native.Nat.{ℕ, zero, suc, ◌+◌, ◌≤◌}
use Rattle.std.proofs.Common.{arith, ◌∙◌, ap₂, length-append}
use Rattle.std.specs.Prelude.{◌≡◌, refl, length, Result, Ok, Err}
use Rattle.std.proofs.Math.Path.{sym, ap}
use mathlib.Core.List.{List, [], ◌∷◌, ◌++◌, map}
use Rattle.fields.specs.Bytes.{string, join, AllBytes}
use Rattle.fields.specs.Fields.{within, string_at, view_of, Read}
use Rattle.fields.specs.Place.{clash, by_read, same_read, same_triple}
use Rattle.fields.specs.Rest.{rest, rest-within, length-string}
use Rattle.fields.specs.Read.{string_read}
use Rattle.fields.specs.declared.Cursor.{Cursor}
use Rattle.fields.specs.declared.Fault.{Fault}
use Rattle.fields.specs.declared.Part.{Part}
use Rattle.names.specs.declared.Algorithm.{Algorithm}
use Rattle.format.specs.Format.{Key, key_of, key_blob, of_scalar, PublicFits, blob, blob_fields}
use Rattle.format.proofs.Laws.{blob_field_then}
use Rattle.key_public.specs.declared.Public.{Public}
use Rattle.key_public.specs.Keys.{public_bytes, blob_at}
use Rattle.laws_keys.specs.Read.{public_place, blob_read}
use Rattle.reader_blobs.specs.Blobs.{blob_field_at, blobs_at, blob_bytes}
use Rattle.reader_blobs.specs.Back.{AllPublic}

-- by cases, with the equation in hand
pub by_blob : {P : Type 0} (w : Result (Algorithm × Public) Fault) → ((f : Fault) → w ≡ Err f → P) → ((a : Algorithm) (p : Public) → w ≡ Ok (a, p) → P) → P
by_blob (Err f) refused read = refused f refl
by_blob (Ok (a, p)) refused read = read a p refl

pub by_blob_field :
    {P : Type 0} (w : Read (Algorithm × Part × Public)) → ((f : Fault) → w ≡ Err f → P)
    → ((a : Algorithm) (b : Part) (p : Public) (c : Cursor) → w ≡ Ok ((a, b, p), c) → P) → P
by_blob_field (Err f) refused read = refused f refl
by_blob_field (Ok ((a, b, p), c)) refused read = read a b p c refl

pub by_blobs : {P : Type 0} (w : Result Cursor Fault) → ((f : Fault) → w ≡ Err f → P) → ((c : Cursor) → w ≡ Ok c → P) → P
by_blobs (Err f) refused read = refused f refl
by_blobs (Ok c) refused read = read c refl

-- an accepted public blob
pub blob_place_lem :
    (s : List ℕ) (c : Cursor) (a : Algorithm) (b : Part) (public : Public) (d : Cursor) → blob_field_at s c ≡ Ok ((a, b, public), d)
    → (string_at s c ≡ Ok (b, d)) × (blob_at s (within b) ≡ Ok (a, public))
unfolding blob_field_at
blob_place_lem s c a b public d e =
    by_read (string_at s c)
    (λ f w. let g : Err f ≡ Ok ((a, b, public), d) = rw w at e in clash cc)
    (λ p x w.
    let g = rw w at e in
    by_blob (blob_at s (within p))
    (λ f v. let h : Err f ≡ Ok ((a, b, public), d) = rw v at g in clash cc)
    (λ j q v.
    let h : Ok ((j, p, q), x) ≡ Ok ((a, b, public), d) = rw v at g in
    let i : j ≡ a = (same_triple (same_read h).0).0 in
    let o : p ≡ b = (same_triple (same_read h).0).1 in
    let l : q ≡ public = (same_triple (same_read h).0).2 in
    let m : x ≡ d = (same_read h).1 in
    (rw (o, m) at w, rw (o, i, l) at v)))

module _ (s : List ℕ) (all : AllBytes s) where
  -- an accepted public blob
  pub record BlobText (c : Cursor) (a : Algorithm) (b : Part) (public : Public) (d : Cursor) : Type 0 where
    pub text : rest s c ≡ string (blob a (public_bytes s public)) ++ rest s d
    pub content : view_of s b ≡ blob a (public_bytes s public)
    pub fits : PublicFits a (public_bytes s public)
    pub good : d.at ≤ length s
    pub end : d.end ≡ c.end
    pub size : length (view_of s b) ≡ b.length
    pub starts : b.start ≡ c.at + 4
    pub ends : b.start + b.length ≡ d.at
    pub lies : public ≡ public_place d.at a (public_bytes s public)

  pub blob-text : (c : Cursor) (a : Algorithm) (b : Part) (public : Public) (d : Cursor) → blob_field_at s c ≡ Ok ((a, b, public), d) → BlobText c a b public d
  blob-text c a b public d e =
      let p = blob_place_lem s c a b public d e in
      let r = string_read s all c b d p.0 in
      let k = blob_read s all (within b) a public p.1 in
      let content : view_of s b ≡ blob a (public_bytes s public) = sym (rest-within s b (omega (arith, r.place.placed))) ∙ k.text in
      record {
        text = rw content at r.text;
        content = content;
        fits = k.fits;
        good = omega (arith, r.place.placed);
        end = r.place.placed.end;
        size = r.size;
        starts = r.place.placed.start;
        ends = sym r.place.placed.after;
        lies = k.lies ∙ ap (λ (i : ℕ). public_place i a (public_bytes s public)) (sym r.place.placed.after);
      }

  -- accepted blobs, and what they hold
  pub record BlobsText (c : Cursor) (n : ℕ) (d : Cursor) : Type 0 where
    pub text : rest s c ≡ join (blob_fields (blob_bytes s c n)) ++ rest s d
    pub counted : length (blob_bytes s c n) ≡ n
    pub keys : List Key
    pub held : blob_bytes s c n ≡ map key_blob keys
    pub keys_counted : length keys ≡ n
    pub keys_fit : AllPublic keys
    pub long : d.at ≡ c.at + length (join (blob_fields (blob_bytes s c n)))
    pub good : d.at ≤ length s
    pub end : d.end ≡ c.end

  pub blobs_text : (c : Cursor) (n : ℕ) (d : Cursor) → c.at ≤ length s → blobs_at s c n ≡ Ok d → BlobsText c n d
  unfolding blobs_at blob_bytes
  blobs_text c zero d good e =
      let same : c ≡ d = cc in
      record { text = ap (rest s) same; counted = refl; keys = []; held = refl; keys_counted = refl; keys_fit = tt; long = omega (arith, ap (λ (x : Cursor). x.at) same); good = rw (← same) good; end = ap (λ (x : Cursor). x.end) (sym same) }
  blobs_text c (suc n) d good e =
      by_blob_field (blob_field_at s c)
      (λ f w. let g : Err f ≡ Ok d = rw w at e in clash cc)
      (λ a b public x w.
      let t = blob-text c a b public x w in
      let r = blobs_text x n d t.good (rw w at e) in
      record {
        text =
            rw w
            (t.text ∙ ap (λ (l : List ℕ). string l ++ rest s x) (sym t.content)
            ∙ ap (λ (l : List ℕ). string (view_of s b) ++ l) r.text
            ∙ sym (blob_field_then (view_of s b) (blob_bytes s x n) (rest s d)));
        counted = rw w (ap suc r.counted);
        keys = key_of a (public_bytes s public) (of_scalar []) [] ∷ r.keys;
        held = rw w (ap₂ (λ (l : List ℕ) (m : List (List ℕ)). l ∷ m) t.content r.held);
        keys_counted = ap suc r.keys_counted;
        keys_fit = (t.fits, r.keys_fit);
        long =
            rw w
            (simp (length-append, length-string) (omega (arith, r.long, t.starts, t.ends, t.size)));
        good = r.good;
        end = r.end ∙ t.end;
      })
