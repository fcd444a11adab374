-- docs/RULES.md, 16.2, the second demand, of plain images of 1 to 16 keys of all five kinds: read after write gives the record; what the definition of the format admits
-- within the limits is not refused.
use Rattle.std.specs.Prelude.{ℕ, suc, ◌+◌, ◌≤◌, ◌<◌, ◌^◌, ◌≡◌, refl, List, [], ◌∷◌, map, leb, take, Ok}
use Rattle.std.proofs.Common.{arith, sym, ◌∙◌, ap, ap₂}
use borrow.Author.Tests.{le-leb, leb-true}
use Rattle.std.proofs.Math.ListN.{length}
use Rattle.std.proofs.lemmas.List.{length-map}
use Rattle.fields.specs.Bytes.{both_true}
use Rattle.names.specs.declared.Algorithm.{Algorithm}
use Rattle.format.specs.Format.{PublicBytes, PrivateBytes, Key, key_of, key_blob, trimmed, filled_key, padding_length, Entry, written_entry, standing_entries, content, plain_image, written_image, alone}
use Rattle.format.specs.Scalars.{key_zeros, rule_may}
use Rattle.reader_header.specs.Place.{plain_allowed}
use Rattle.reader_entries.specs.Back.{KeyFits, AllFit}
use Rattle.reader_image.specs.Back.{KeysImageBack, keys_image_back}
use Rattle.buffer.specs.Puts.{take-splice}
use Rattle.writer_reply.specs.Reply.{sized, Answers, Written}
use Rattle.writer_plain.specs.Plain.{keys_checked, keys_reply, keys_left, IsPlain, plain_alone, left_alone}
pub use Rattle.writer_plain.specs.Held.{held, Own, elliptic_held, key_held}

-- ---- an accepted write meets every condition

-- size and room
pub sized_held : (image : List ℕ) (room k : ℕ) → sized image room ≡ Ok k → (length image ≤ 65535) × (length image ≤ room) × (k ≡ length image)
unfolding sized
sized_held image room k e =
    let h₁ = held (leb (length image) 65535) _ _ k e in
    let h₂ = held (leb (length image) room) _ _ k h₁.1 in
    let o : length image ≡ k = let q : Ok (length image) ≡ Ok k = h₂.1 in cc in
    (leb-true _ _ h₁.0, leb-true _ _ h₂.0, sym o)

pub sized-fits : (image : List ℕ) (room : ℕ) → length image ≤ 65535 → length image ≤ room → sized image room ≡ Ok (length image)
unfolding sized
sized-fits image room h k = rw (le-leb _ _ h, le-leb _ _ k)

-- the contract of a plain write of keys: it answers r and leaves out
abbrev pub Writes : List Key → ℕ → List ℕ → Written → List ℕ → Type 0
Writes keys n old r out = Answers (keys_reply keys n (length old)) (keys_left keys n old) r out

-- that of one key is the list of one's
pub plain_writes :
    (a : Algorithm) (key : PublicBytes) (x : PrivateBytes) (n : ℕ) (comment old : List ℕ) (r : Written) (out : List ℕ)
    → IsPlain a key x n comment old r out → Writes (alone (key_of a key x comment)) n old r out
plain_writes a key x n comment old r out p = rw (← plain_alone a key x n comment (length old), ← left_alone a key x n comment old) p

-- bytes that a kind lacks are none, of every key
abbrev pub AllOwn : List Key → Type 0
AllOwn [] = Unit {0}
AllOwn (k ∷ keys) = Own k.algorithm k.public k.private × AllOwn keys

-- a key as a record tells it: its scalar without leading zeros
abbrev pub trimmed_key : Key → Key
trimmed_key k = key_of k.algorithm k.public (trimmed k.algorithm k.private) k.comment

-- keys that passed their tests fit once their scalars are trimmed, and are filled again to what they were
keys_held :
    (keys : List Key) (next : Written) (k : ℕ) → keys_checked keys next ≡ Ok k
    → (AllOwn keys → AllFit (map key_zeros (map trimmed_key keys)) (map trimmed_key keys) × (map filled_key (map trimmed_key keys) ≡ keys))
    × (next ≡ Ok k)
unfolding keys_checked
keys_held [] next k e = (λ own. (tt, refl), e)
keys_held (x ∷ keys) next k e =
    let a = x.algorithm in
    let h₁ = key_held a x.public x.private _ k e in
    let h₂ = held _ _ _ k h₁.1 in
    let more = keys_held keys next k h₂.1 in (
      λ own.
          let fit = h₁.0 own.0 in
          let rest = more.0 own.1 in
          let one : KeyFits a (key_zeros (trimmed_key x)) x.public (trimmed a x.private) x.comment =
          record { public = fit.0; private = fit.1; may = rule_may a x.public (trimmed a x.private) fit.1; text = h₂.0 } in
          let back : filled_key (trimmed_key x) ≡ x = ap (λ (y : PrivateBytes). key_of a x.public y x.comment) fit.2 in
          ((one, rest.0), ap₂ (λ (y : Key) (l : List Key). y ∷ l) back rest.1),
      more.1,
    )

-- what is written stands as the record tells it, with the zeros that the rule asks for
entries_trimmed : (keys : List Key) → map written_entry keys ≡ standing_entries (map key_zeros (map trimmed_key keys)) (map trimmed_key keys)
entries_trimmed [] = refl
entries_trimmed (k ∷ keys) = ap (λ (l : List Entry). written_entry k ∷ l) (entries_trimmed keys)

pub blobs_trimmed : (keys : List Key) → map key_blob keys ≡ map key_blob (map trimmed_key keys)
blobs_trimmed [] = refl
blobs_trimmed (k ∷ keys) = ap (λ (l : List (List ℕ)). key_blob k ∷ l) (blobs_trimmed keys)

-- the image of keys, so many zeros before the scalar of each
abbrev pub image_of : ℕ → List ℕ → List Key → List ℕ
image_of n zs keys = plain_image n (map key_blob keys) (standing_entries zs keys)

pub written_stands : (n : ℕ) (keys : List Key) → written_image n keys ≡ image_of n (map key_zeros (map trimmed_key keys)) (map trimmed_key keys)
unfolding written_image
written_stands n keys = ap₂ (plain_image n) (blobs_trimmed keys) (entries_trimmed keys)

module _ (keys : List Key) (n : ℕ) where
  -- what an accepted plain write was given
  pub record PlainAccepted (room k : ℕ) : Type 0 where
    pub some : 1 ≤ length keys
    pub few : length keys ≤ 16
    pub fits : AllOwn keys → AllFit (map key_zeros (map trimmed_key keys)) (map trimmed_key keys)
    pub material : AllOwn keys → map filled_key (map trimmed_key keys) ≡ keys
    pub small : length (written_image n keys) ≤ 65535
    pub room_enough : length (written_image n keys) ≤ room
    pub size : k ≡ length (written_image n keys)

  pub plain_accepted : (room k : ℕ) → keys_reply keys n room ≡ Ok k → PlainAccepted room k
  unfolding keys_reply
  plain_accepted room k e =
      let h₁ = held _ _ _ k e in
      let both = both_true (leb 1 (length keys)) (leb (length keys) 16) h₁.0 in
      let h₂ = keys_held keys _ k h₁.1 in
      let h₃ = sized_held _ room k h₂.1 in
      record {
        some = leb-true 1 (length keys) both.0;
        few = leb-true (length keys) 16 both.1;
        fits = λ own. (h₂.0 own).0;
        material = λ own. (h₂.0 own).1;
        small = h₃.0;
        room_enough = h₃.1;
        size = h₃.2;
      }

  -- the first bytes of the buffer are then the image
  pub plain_written : (old : List ℕ) (k : ℕ) → keys_reply keys n (length old) ≡ Ok k → take k (keys_left keys n old) ≡ written_image n keys
  unfolding keys_left
  plain_written old k e =
      let h = plain_accepted (length old) k e in
      let image = written_image n keys in
      let fit : 0 + length image ≤ length old = omega (arith, h.room_enough) in
      let end : k ≡ 0 + length image = omega (arith, h.size) in
      rw (e, end) (take-splice old 0 image fit)

-- what the definition of the format admits within the limits: 1 to 16 keys that fit, each scalar after any zeros that may stand before it
pub record Within (n : ℕ) (zs : List ℕ) (keys : List Key) : Type 0 where
  pub checkint_fits : n < 2 ^ 32
  pub keys_fit : AllFit zs keys
  pub some : 1 ≤ length keys
  pub few : length keys ≤ 16
  pub limit : length (image_of n zs keys) ≤ 65535

-- it is not refused
pub plain_admitted :
    (n zeros : ℕ) (zs : List ℕ) (k : Key) (others : List Key) → Within n (zeros ∷ zs) (k ∷ others)
    → KeysImageBack (image_of n (zeros ∷ zs) (k ∷ others)) n k others (padding_length (length (content n (standing_entries (zeros ∷ zs) (k ∷ others)))))
plain_admitted n zeros zs k others w =
    keys_image_back (image_of n (zeros ∷ zs) (k ∷ others)) n k others zeros zs w.limit w.checkint_fits w.keys_fit
    (plain_allowed (suc (length others)) w.some w.few) refl

-- what an accepted write of keys writes is within the limits
pub written_within : (keys : List Key) (n room k : ℕ) → n < 2 ^ 32 → AllOwn keys → PlainAccepted keys n room k → Within n (map key_zeros (map trimmed_key keys)) (map trimmed_key keys)
written_within keys n room k small own h =
    let as_many : length (map trimmed_key keys) ≡ length keys = length-map keys trimmed_key in
    record {
      checkint_fits = small;
      keys_fit = h.fits own;
      some = omega (arith, as_many, h.some);
      few = omega (arith, as_many, h.few);
      limit = omega (arith, h.small, ap length (written_stands n keys));
    }

-- read after write gives the record, whose scalars have no leading zeros; filled to SIZE again, they are what was written (`material`)
pub read_after_write :
    (x : Key) (others : List Key) (n : ℕ) (old : List ℕ) (k : ℕ) → n < 2 ^ 32 → AllOwn (x ∷ others) → keys_reply (x ∷ others) n (length old) ≡ Ok k
    → KeysImageBack (take k (keys_left (x ∷ others) n old)) n (trimmed_key x) (map trimmed_key others)
    (padding_length (length (content n (map written_entry (x ∷ others)))))
read_after_write x others n old k small own e =
    let keys = x ∷ others in
    let h = plain_accepted keys n (length old) k e in
    let text = plain_written keys n old k e ∙ written_stands n keys in
    let padded : length (content n (map written_entry keys)) ≡ length (content n (standing_entries (map key_zeros (map trimmed_key keys)) (map trimmed_key keys))) =
    ap (λ (l : List Entry). length (content n l)) (entries_trimmed keys) in
    rw (text, padded)
    (plain_admitted n (key_zeros (trimmed_key x)) (map key_zeros (map trimmed_key others)) (trimmed_key x) (map trimmed_key others)
    (written_within keys n (length old) k small own h))
