-- What the contracts shut out: no program that meets its contract refuses everything, replies the same always, stores nothing, gives
-- one count for every refusal with number 6, or changes the first comment and only says so for later ones. A program here is any function of
-- what it is given, which is bytes, however many, a checkint of 32 bits and a length of 64; of anything else nothing is asked.
use Rattle.std.specs.Prelude.{ℕ, zero, suc, ◌≤◌, ◌<◌, ◌^◌, refl, Bool, true, ◌&&◌, ltb, length, replicate, Result, Ok, Err}
use native.Mathlib.Omega.{arith}
use Rattle.std.proofs.Math.Path.{◌≡◌, sym, ap}
use Rattle.std.proofs.Common.{◌∙◌, ltb-true}
use mathlib.Core.List.{List, [], ◌∷◌, map}
use Rattle.std.proofs.Math.ListN.{take, get_or}
use Rattle.std.proofs.lemmas.List.{length-map}
use Rattle.std.proofs.Math.Seq.{take-length}
use Rattle.fields.specs.Bytes.{uint32, string, AllBytes, both_true, same_self}
use Rattle.fields.specs.Place.{clash}
use Rattle.fields.specs.Refusals.{number_of, count_of}
use Rattle.fields.specs.declared.Fault.{Fault}
use Rattle.names.specs.declared.Algorithm.{Algorithm}
use Rattle.names.specs.declared.Algorithm.TheVariants.{Elliptic as OnCurve}
use Rattle.names.specs.declared.Elliptic.TheVariants.{Ed25519}
use Rattle.utf8.specs.Utf8.{utf8}
use Rattle.format.specs.Format.{PublicBytes, PrivateBytes, Key, key_of, filled_key, of_point, of_scalar, magic, blob, keypair, header, padding_length, standing_entries, content, section, plain_image, written_image, alone}
use Rattle.format.specs.Scalars.{key_zeros}
use Rattle.reader_image.specs.Container.{AnswersRead}
use Rattle.reader_image.specs.Back.{KeysImageBack}
use Rattle.reader_image.specs.Form.{form_of}
use Rattle.writer_plain.specs.Plain.{plain_reply, plain_left, IsPlain, plain_alone, left_alone}
use Rattle.edit_shells.specs.Keys.{keys_changed}
use Rattle.edit_file.specs.Edits.{file_keys, change_reply, change_left, IsChange}
use Rattle.claims.specs.Reading.{AllOwn, trimmed_key, PlainAccepted, plain_accepted, plain_written, written_stands, plain_admitted, written_within}
use Rattle.claims.specs.Form.{keys_form}
use Rattle.claims.specs.Demand.{Asked, demand_three}
use Rattle.claims.specs.Sizes.{Key as KeyParts, Ascii, ed25519_takes}
use Rattle.claims.specs.Marked.{p256_image, other_scalars, marked}
use Rattle.reader_image.specs.declared.Fields.{Fields}
use Rattle.writer_reply.specs.Reply.{Written}

-- ---- plain writers

-- what a writer is given: algorithm, public bytes, private bytes, checkint, comment, and the buffer
pub record Writer : Type 0 where
  pub reply : Algorithm → PublicBytes → PrivateBytes → ℕ → List ℕ → List ℕ → Written
  pub leaves : Algorithm → PublicBytes → PrivateBytes → ℕ → List ℕ → List ℕ → List ℕ

-- what it can be given
pub record Given (key : PublicBytes) (x : PrivateBytes) (n : ℕ) (comment old : List ℕ) : Type 0 where
  pub public_bytes : AllBytes key.point × AllBytes key.modulus × AllBytes key.exponent
  pub private_bytes : AllBytes x.scalar × AllBytes x.d × AllBytes x.iqmp × AllBytes x.p × AllBytes x.q
  pub checkint_fits : n < 2 ^ 32
  pub comment_bytes : AllBytes comment
  pub buffer_bytes : AllBytes old

-- that it meets the contract of a plain write, whatever it is given
abbrev pub MeetsPlain : Writer → Type 0
MeetsPlain w =
    (a : Algorithm) (key : PublicBytes) (x : PrivateBytes) (n : ℕ) (comment old : List ℕ) → Given key x n comment old
    → IsPlain a key x n comment old (w.reply a key x n comment old) (w.leaves a key x n comment old)

-- an Ed25519 key, as good as any
abbrev bytes32 : List ℕ
bytes32 = replicate 32 0

abbrev ed25519 : Algorithm
ed25519 = OnCurve Ed25519

abbrev public32 : PublicBytes
public32 = of_point bytes32

abbrev private32 : PrivateBytes
private32 = of_scalar bytes32

parts : KeyParts Ed25519 bytes32 bytes32
parts = record { long = refl; tag = refl; private = refl; some = refl }

-- comments of c letters
letters : (c : ℕ) → Ascii (replicate c 97)
letters zero k h = omega arith
letters (suc c) zero h = omega arith
letters (suc c) (suc k) h = letters c k (omega arith)

-- without a comment it takes 234 bytes (M5), with one of 6 bytes 242 (M7)
takes_234 : plain_reply ed25519 public32 private32 7 [] 300 ≡ Ok 234
takes_234 = (marked.m5 bytes32 bytes32 7 [] parts (letters 0) refl).answer 300 (omega arith)

takes_242 : plain_reply ed25519 public32 private32 7 (replicate 6 97) 300 ≡ Ok 242
takes_242 = (marked.m7 bytes32 bytes32 7 (replicate 6 97) parts (letters 6) refl).answer 300 (omega arith)

-- a buffer with room for both
abbrev buffer : List ℕ
buffer = replicate 300 0

-- bytes, by a test of each
unfoldable pub below : List ℕ → Bool
below [] = true
below (x ∷ xs) = ltb x 256 && below xs

pub all_below : (s : List ℕ) → below s ≡ true → AllBytes s
unfolding below
all_below [] e i = omega arith
all_below (x ∷ xs) e zero = ltb-true x 256 (both_true (ltb x 256) (below xs) e).0
all_below (x ∷ xs) e (suc i) = all_below xs (both_true (ltb x 256) (below xs) e).1 i

given : (comment : List ℕ) → below comment ≡ true → Given public32 private32 7 comment buffer
unfolding below
given comment bytes =
    record {
      public_bytes = (all_below bytes32 refl, all_below [] refl, all_below [] refl);
      private_bytes = (all_below bytes32 refl, all_below [] refl, all_below [] refl, all_below [] refl, all_below [] refl);
      checkint_fits = omega arith;
      comment_bytes = all_below comment bytes;
      buffer_bytes = all_below buffer refl;
    }

given_none : Given public32 private32 7 [] buffer
unfolding below
given_none = given [] refl

given_six : Given public32 private32 7 (replicate 6 97) buffer
unfolding below
given_six = given (replicate 6 97) refl

module _ (w : Writer) (meets : MeetsPlain w) where
  -- no writer that meets the contract refuses everything: an Ed25519 key is written
  pub refuses_all :
      ((a : Algorithm) (key : PublicBytes) (x : PrivateBytes) (n : ℕ) (comment old : List ℕ) → Given key x n comment old
      → (g : Fault) × (w.reply a key x n comment old ≡ Err g))
      → ⊥
  refuses_all refuses =
      let r = refuses ed25519 public32 private32 7 [] buffer given_none in
      let e : ◌≡◌ {A = Written} (Err r.0) (Ok 234) = sym r.1 ∙ (meets ed25519 public32 private32 7 [] buffer given_none).0 ∙ takes_234 in
      clash cc

  -- none replies the same always: M5 and M7 have different lengths
  pub replies_same :
      (r : Written)
      → ((a : Algorithm) (key : PublicBytes) (x : PrivateBytes) (n : ℕ) (comment old : List ℕ) → Given key x n comment old → w.reply a key x n comment old ≡ r)
      → ⊥
  replies_same r same =
      let e₁ : r ≡ Ok 234 = sym (same ed25519 public32 private32 7 [] buffer given_none) ∙ (meets ed25519 public32 private32 7 [] buffer given_none).0 ∙ takes_234 in
      let e₂ : r ≡ Ok 242 =
      sym (same ed25519 public32 private32 7 (replicate 6 97) buffer given_six) ∙ (meets ed25519 public32 private32 7 (replicate 6 97) buffer given_six).0 ∙ takes_242 in
      let e : ◌≡◌ {A = ℕ} 234 242 = cc in
      omega arith

  -- none stores nothing: where an image was written, the buffer begins with the magic
  pub stores_nothing :
      ((a : Algorithm) (key : PublicBytes) (x : PrivateBytes) (n : ℕ) (comment old : List ℕ) → Given key x n comment old → w.leaves a key x n comment old ≡ old)
      → ⊥
  unfolding written_image plain_image header magic
  stores_nothing same =
      let kept : plain_left ed25519 public32 private32 7 [] buffer ≡ buffer = sym (meets ed25519 public32 private32 7 [] buffer given_none).1 ∙ same ed25519 public32 private32 7 [] buffer given_none in
      let image : take 234 buffer ≡ written_image 7 (alone (key_of ed25519 public32 private32 [])) =
      ap (take 234) (sym kept ∙ left_alone ed25519 public32 private32 7 [] buffer)
      ∙ plain_written (alone (key_of ed25519 public32 private32 [])) 7 buffer 234 (sym (plain_alone ed25519 public32 private32 7 [] 300) ∙ takes_234) in
      let e : ◌≡◌ {A = ℕ} 0 111 = ap (λ (l : List ℕ). get_or l 0 0) image in
      omega arith

-- ---- readers

-- no reader that meets the contract makes up the count, one for all refusals with number 6: a scalar field of 34 bytes has 2 too
-- many (M13), one of 35 bytes 3
pub made_up_count :
    (reader : List ℕ → Result Fields Fault) → ((s : List ℕ) → AllBytes s → AnswersRead s (reader s))
    → (count : ℕ) → ((s : List ℕ) (g : Fault) → AllBytes s → reader s ≡ Err g → number_of g.why ≡ 6 → count_of g.why ≡ count) → ⊥
unfolding below p256_image plain_image header section content blob keypair string uint32 magic
made_up_count reader meets count same =
    let two = other_scalars.1 in
    let three = other_scalars.2 in
    let bytes-two = all_below (p256_image (replicate 34 9)) refl in
    let bytes-three = all_below (p256_image (replicate 35 9)) refl in
    let e₁ = same _ _ bytes-two ((meets _ bytes-two).0 ∙ two.read) two.number_is in
    let e₂ = same _ _ bytes-three ((meets _ bytes-three).0 ∙ three.read) three.number_is in
    let c₁ = two.count_is in
    let c₂ = three.count_is in
    omega arith

-- ---- comment changes

-- what a comment change is given: the buffer, the image's length, the key's number, the comment
pub record Changer : Type 0 where
  pub reply : List ℕ → ℕ → ℕ → List ℕ → Written
  pub leaves : List ℕ → ℕ → ℕ → List ℕ → List ℕ

-- that it meets the contract of a change, whatever it is given
abbrev pub MeetsChange : Changer → Type 0
MeetsChange w =
    (old : List ℕ) (n k : ℕ) (comment : List ℕ) → AllBytes old → n < 2 ^ 64 → k < 2 ^ 64 → AllBytes comment
    → IsChange old n k comment (w.reply old n k comment) (w.leaves old n k comment)

-- a written image of any keys in a buffer of its length, the comment of key j changed to one that takes the same length, becomes the image with that comment
module _ (n : ℕ) (fit : n < 2 ^ 32) (x : Key) (others : List Key) (own : AllOwn (x ∷ others)) (k : ℕ) (was : PlainAccepted (x ∷ others) n k k)
    (j : ℕ) (some : 1 ≤ j) (there : j ≤ suc (length others)) (comment : List ℕ) (text : utf8 comment ≡ true)
    (will : PlainAccepted (keys_changed j comment (x ∷ others)) n k k) where
  abbrev keys : List Key
  keys = x ∷ others

  abbrev s : List ℕ
  s = written_image n keys

  abbrev rule : List ℕ
  rule = map key_zeros (map trimmed_key keys)

  back : KeysImageBack s n (trimmed_key x) (map trimmed_key others) (padding_length (length (content n (standing_entries rule (map trimmed_key keys)))))
  back =
      rw (written_stands n keys)
      (plain_admitted n (key_zeros (trimmed_key x)) (map key_zeros (map trimmed_key others)) (trimmed_key x) (map trimmed_key others)
      (written_within keys n k k fit own was))

  all : take k s ≡ s
  all = ap (λ (i : ℕ). take i s) was.size ∙ take-length s

  in_form : form_of s back.fields ≡ true
  in_form =
      keys_form s back.fields n rule (map trimmed_key keys) back.plain back.same_checkint back.same_keys (was.fits own) (written_stands n keys)
      ∙ same_self rule

  -- the record's keys, filled, are those that the image was written of
  keys_are : file_keys s back.fields ≡ keys
  unfolding file_keys
  keys_are = ap (map filled_key) back.same_keys ∙ was.material own

  -- written afresh, it is the image with that comment
  abbrev afresh : List ℕ
  afresh = written_image back.fields.section.checkint (keys_changed j comment (file_keys (take k s) back.fields))

  afresh_is : afresh ≡ written_image n (keys_changed j comment keys)
  afresh_is = rw (all, keys_are, back.same_checkint)

  -- what demand 3 begins with
  asked : AllBytes s → Asked s k back.fields j comment
  asked bytes =
      let counted : length (map trimmed_key others) ≡ length others = length-map others trimmed_key in
      record {
        bytes = bytes;
        inside = omega (arith, was.size);
        image = rw all (record { was_read = back.read; plain = back.plain; form = in_form });
        some = some;
        there = omega (arith, there, counted, back.same_count);
        text = text;
        small = rw afresh_is will.small;
        fits = rw afresh_is (omega (arith, will.room_enough, was.size));
      }

  changes_to : AllBytes s → (change_reply s k j comment ≡ Ok k) × (change_left s k j comment ≡ written_image n (keys_changed j comment keys))
  changes_to bytes =
      let d = demand_three s k back.fields j comment (asked bytes) (change_reply s k j comment) (change_left s k j comment) (refl, refl, refl) in
      let size : length afresh ≡ k = ap length afresh_is ∙ sym will.size in
      let long : length (change_left s k j comment) ≡ k = d.same_length ∙ sym was.size in (
        d.answered ∙ ap Ok size,
        sym (take-length (change_left s k j comment)) ∙ ap (λ (i : ℕ). take i (change_left s k j comment)) (long ∙ sym size) ∙ d.image ∙ afresh_is,
      )

-- the key with a comment of one letter, and its image
abbrev letter_key : ℕ → Key
letter_key letter = key_of ed25519 public32 private32 (letter ∷ [])

abbrev lettered : ℕ → List ℕ
lettered letter = written_image 7 (alone (letter_key letter))

takes_letter : (letter : ℕ) → letter < 0x80 → PlainAccepted (alone (letter_key letter)) 7 234 234
takes_letter letter h =
    plain_accepted (alone (letter_key letter)) 7 234 234
    (sym (plain_alone ed25519 public32 private32 7 (letter ∷ []) 234)
    ∙ (ed25519_takes 1 234 4 refl (omega arith) refl bytes32 bytes32 7 (letter ∷ []) parts text refl).answer 234 (omega arith))
  where
    text : Ascii (letter ∷ [])
    text zero l = h
    text (suc k) l = omega arith

-- one letter changed to another
relettered :
    (x y : ℕ) → x < 0x80 → y < 0x80 → AllBytes (lettered x)
    → (change_reply (lettered x) 234 1 (y ∷ []) ≡ Ok 234) × (change_left (lettered x) 234 1 (y ∷ []) ≡ lettered y)
unfolding keys_changed
relettered x y hx hy bytes =
    let own : AllOwn (alone (letter_key y)) = ((refl, refl), tt) in
    let will = takes_letter y hy in
    changes_to 7 (omega arith) (letter_key x) [] own 234 (takes_letter x hx) 1 (omega arith) (omega arith) (y ∷ []) (will.fits own).0.text will bytes

-- the letter stands in the image
letter_at : (letter : ℕ) → get_or (lettered letter) 229 0 ≡ letter
unfolding written_image plain_image header magic blob keypair section content string uint32
letter_at letter = refl

-- two of them, made of bytes
lettered_bytes : AllBytes (lettered 97) × AllBytes (lettered 98)
unfolding below written_image plain_image header magic blob keypair section content string uint32
lettered_bytes = (all_below (lettered 97) refl, all_below (lettered 98) refl)

letter_bytes : AllBytes (98 ∷ []) × AllBytes (99 ∷ [])
unfolding below
letter_bytes = (all_below (98 ∷ []) refl, all_below (99 ∷ []) refl)

-- no comment change that meets the contract changes the first comment and only says so for later ones, leaving the buffer as the
-- first change left it wherever it accepts the next; not even of key 1 alone
pub first_only :
    (w : Changer) → MeetsChange w
    → ((old : List ℕ) (n : ℕ) (first second : List ℕ) (k m : ℕ) → AllBytes old → n < 2 ^ 64 → AllBytes first → AllBytes second
    → w.reply old n 1 first ≡ Ok k → w.reply (w.leaves old n 1 first) k 1 second ≡ Ok m
    → w.leaves (w.leaves old n 1 first) k 1 second ≡ w.leaves old n 1 first)
    → ⊥
first_only w meets stays =
    let to-b = relettered 97 98 (omega arith) (omega arith) lettered_bytes.0 in
    let to-c = relettered 98 99 (omega arith) (omega arith) lettered_bytes.1 in
    let small : 234 < 2 ^ 64 = omega arith in
    let first = meets (lettered 97) 234 1 (98 ∷ []) lettered_bytes.0 small (omega arith) letter_bytes.0 in
    let second = meets (lettered 98) 234 1 (99 ∷ []) lettered_bytes.1 small (omega arith) letter_bytes.1 in
    let b : w.leaves (lettered 97) 234 1 (98 ∷ []) ≡ lettered 98 = first.1 ∙ to-b.1 in
    let c : w.leaves (lettered 98) 234 1 (99 ∷ []) ≡ lettered 99 = second.1 ∙ to-c.1 in
    let same : w.leaves (lettered 98) 234 1 (99 ∷ []) ≡ lettered 98 =
    rw b at
    (stays (lettered 97) 234 (98 ∷ []) (99 ∷ []) 234 234 lettered_bytes.0 small letter_bytes.0 letter_bytes.1 (first.0 ∙ to-b.0)
    (rw b (second.0 ∙ to-c.0))) in
    let e : ◌≡◌ {A = ℕ} 99 98 = sym (letter_at 99) ∙ ap (λ (l : List ℕ). get_or l 229 0) (sym c ∙ same) ∙ letter_at 98 in
    omega arith
