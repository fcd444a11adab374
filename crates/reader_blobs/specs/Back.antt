-- Reading back: blobs as the format writes them are read, with their keys.
use Rattle.std.specs.Prelude.{ℕ, ◌+◌, ◌≤◌, ◌≡◌, refl, List, [], ◌∷◌, ◌++◌, map, length, Result, Ok}
use Rattle.std.proofs.Common.{arith, ◌∙◌, ap₂}
use Rattle.fields.specs.Bytes.{string, join}
use Rattle.fields.specs.Fields.{within, view_of, Read}
use Rattle.fields.specs.Place.{string_place}
use Rattle.fields.specs.Rest.{rest, Good, rest-within}
use Rattle.fields.specs.Back.{short_of, string_back}
use Rattle.fields.specs.declared.Cursor.{Cursor}
use Rattle.fields.specs.declared.Part.{Part}
use Rattle.names.specs.declared.Algorithm.{Algorithm}
use Rattle.mpint.specs.Mpint.{bits}
use Rattle.format.specs.Format.{PublicBytes, Key, PublicFits, blob, blob_fields, key_blob}
use Rattle.format.proofs.Laws.{blob_field_then}
use Rattle.key_public.specs.declared.Public.{Public}
use Rattle.key_public.specs.Keys.{public_bytes}
use Rattle.laws_keys.specs.Back.{blob_back}
use Rattle.reader_blobs.specs.Blobs.{blob_field_at, blobs_at, blob_bytes}
use Rattle.fields.specs.declared.Fault.{Fault}

pub record BlobFieldBack (s : List ℕ) (w : Read (Algorithm × Part × Public)) (a : Algorithm) (key : PublicBytes) (t : List ℕ) : Type 0 where
  pub place : Part
  pub public : Public
  pub next : Cursor
  pub read : w ≡ Ok ((a, place, public), next)
  pub content : view_of s place ≡ blob a key
  pub seen : public_bytes s public ≡ key
  pub counted : public.bits ≡ bits key.modulus
  pub good : Good s next
  pub more : rest s next ≡ t
  pub end : next.end ≡ length s
  pub ends : next.at ≡ place.start + place.length

pub blob_field_back :
    (s : List ℕ) (c : Cursor) → Good s c → c.end ≡ length s → length s ≤ 65535 → (a : Algorithm) (key : PublicBytes) (t : List ℕ) → PublicFits a key
    → rest s c ≡ string (blob a key) ++ t → BlobFieldBack s (blob_field_at s c) a key t
unfolding blob_field_at
blob_field_back s c good end small a key t fits e =
    let p = string_back s c good (blob a key) t (short_of s c good (omega arith) (blob a key) t e) e in
    let b = blob_back s (within p.place) (omega (arith, p.inside)) (omega arith) a key fits (rest-within s p.place p.inside ∙ p.seen) in
    record {
      place = p.place;
      public = b.place;
      next = p.next;
      read = rw (p.read, b.read);
      content = p.seen;
      seen = b.seen;
      counted = b.counted;
      good = p.good;
      more = p.more;
      end = (string_place s c p.place p.next p.read).placed.end ∙ end;
      ends = (string_place s c p.place p.next p.read).placed.after;
    }

-- public keys that fit
abbrev pub AllPublic : List Key → Type 0
AllPublic [] = Unit {0}
AllPublic (k ∷ keys) = PublicFits k.algorithm k.public × AllPublic keys

-- blobs, and what is left after them
pub record BlobsBack (s : List ℕ) (c : Cursor) (w : Result Cursor Fault) (keys : List Key) (t : List ℕ) : Type 0 where
  pub next : Cursor
  pub held : blob_bytes s c (length keys) ≡ map key_blob keys
  pub read : w ≡ Ok next
  pub good : Good s next
  pub more : rest s next ≡ t
  pub end : next.end ≡ length s

pub blobs_back :
    (s : List ℕ) (c : Cursor) → Good s c → c.end ≡ length s → length s ≤ 65535 → (keys : List Key) (t : List ℕ) → AllPublic keys
    → rest s c ≡ join (blob_fields (map key_blob keys)) ++ t → BlobsBack s c (blobs_at s c (length keys)) keys t
unfolding blobs_at blob_bytes
blobs_back s c good end small [] t fits e = record { next = c; held = refl; read = refl; good = good; more = e; end = end }
blobs_back s c good end small (k ∷ keys) t fits e =
    let b =
    blob_field_back s c good end small k.algorithm k.public (join (blob_fields (map key_blob keys)) ++ t) fits.0
    (e ∙ blob_field_then (key_blob k) (map key_blob keys) t) in
    let r = blobs_back s b.next b.good b.end small keys t fits.1 b.more in
    record {
      next = r.next;
      held = rw b.read (ap₂ (λ (x : List ℕ) (l : List (List ℕ)). x ∷ l) b.content r.held);
      read = rw b.read r.read;
      good = r.good;
      more = r.more;
      end = r.end;
    }
