-- An accepted image's record passes every test of its writer, each key of a plain one, so that writing it again is refused for size and room only. In the form what
-- is written is the image.
use Rattle.std.specs.Prelude.{ℕ, ◌+◌, ◌≤◌, ◌<◌, ◌^◌, ◌≡◌, refl, true, List, [], ◌∷◌, map, leb, Ok}
use native.Mathlib.Omega.{arith}
use Rattle.std.proofs.Math.Path.{sym, ap}
use Rattle.std.proofs.Common.{◌∙◌}
use borrow.Author.Tests.{eq-eqb, le-leb, leb-true, leb-false}
use Rattle.std.proofs.Math.ListN.{length, length-map}
use Rattle.fields.specs.Bytes.{AllBytes, same_true}
use Rattle.fields.specs.Fields.{whole, view_of}
use Rattle.fields.specs.Place.{by_bool}
use Rattle.fields.specs.Rest.{rest-whole, view_length}
use Rattle.fields.specs.Room.{view_out}
use Rattle.fields.specs.declared.Part.{Part}
use Rattle.names.specs.declared.Kdf.{Kdf}
use Rattle.names.specs.declared.Kdf.TheVariants as kdf
use Rattle.format.specs.Format.{OptionsFit, Key, written_image, encrypted_image, filled_key}
use Rattle.laws_keys.specs.Back.{blob_back}
use Rattle.reader_header.specs.Place.{keys_some, keys_most}
use Rattle.reader_entries.specs.Back.{AllFit}
use Rattle.reader_image.specs.declared.Fields.{Fields}
use Rattle.reader_image.specs.Container.{public_in, keys_in, read_at}
use Rattle.reader_image.specs.Form.{rewritten, form_of}
use Rattle.reader_image.specs.FormLaws.{rewritten_plain, rewritten_encrypted}
use Rattle.reader_image.specs.Read.{KeysText, EncryptedText, ImageText, plain_text, encrypted_text, image_text}
use Rattle.writer_reply.specs.Reply.{left, sized, IsSized, answered, Written}
use Rattle.writer_plain.specs.Plain.{keys_reply, keys_left}
use Rattle.writer_plain.specs.Fits.{AllFit as AllPass, keys_pass}
use Rattle.writer_encrypted.specs.Encrypted.{options_fit, encrypted_reply, encrypted_left}
use Rattle.writer_again.specs.Rewrite.{plain_again, plain_again_left, record_reply, record_left, IsRewrite, reply_plain, left_plain}

-- a part is no longer than its image
part_within_lem : (s : List ℕ) (p : Part) → length (view_of s p) ≤ length s
part_within_lem s p =
    by_bool (leb (p.start + p.length) (length s))
    (λ w.
    let inside = leb-true (p.start + p.length) (length s) w in
    omega (arith, view_length s p inside, inside))
    (λ w. rw (view_out s p (leb-false (p.start + p.length) (length s) w)).0 (omega arith))

options_told : (k : Kdf) (salt : List ℕ) (rounds : ℕ) → OptionsFit k salt rounds → options_fit k salt rounds ≡ true
options_told kdf.None salt rounds h = rw (h.0, h.1)
options_told kdf.Bcrypt salt rounds h = refl

-- keys that fit, whatever zeros stand before their scalars
all_pass : (zs : List ℕ) (keys : List Key) → AllFit zs keys → AllPass keys
all_pass [] (k ∷ keys) fits = elim fits [ ]
all_pass (z ∷ zs) [] fits = elim fits [ ]
all_pass [] [] fits = tt
all_pass (z ∷ zs) (k ∷ keys) fits = (fits.0.public, fits.0.private, fits.0.text, all_pass zs keys fits.1)

module _ (s : List ℕ) (all : AllBytes s) (f : Fields) (e : read_at s ≡ Ok f) where
  plain_again_lem : KeysText s f → (room : ℕ) → plain_again s f room ≡ sized (written_image f.section.checkint (map filled_key (keys_in s f))) room
  unfolding plain_again keys_reply
  plain_again_lem p room =
      let keys = keys_in s f in
      let many : length (map filled_key keys) ≡ f.header.count = length-map keys filled_key ∙ sym p.counted in
      let some = keys_some f.header.cipher f.header.count p.allowed in
      let few = keys_most f.header.cipher f.header.count p.allowed in
      rw (many, le-leb 1 f.header.count some, le-leb f.header.count 16 few)
      (keys_pass keys _ (all_pass (p.zeros ∷ p.more_zeros) keys p.keys_fit))

  left_again : KeysText s f → (old : List ℕ)
      → plain_again_left s f old
      ≡ left (sized (written_image f.section.checkint (map filled_key (keys_in s f))) (length old)) (written_image f.section.checkint (map filled_key (keys_in s f))) old
  unfolding plain_again_left plain_again keys_left
  left_again p old = ap (λ (w : Written). left w (written_image f.section.checkint (map filled_key (keys_in s f))) old) (plain_again_lem p (length old))

  encrypted_again : EncryptedText s f → (room : ℕ) → encrypted_reply f.header.cipher f.header.kdf (view_of s f.header.salt) f.header.rounds
      (view_of s f.header.blob) (view_of s f.section.ciphertext) (view_of s f.section.tag) room
      ≡ sized (encrypted_image f.header.cipher f.header.kdf (view_of s f.header.salt) f.header.rounds (view_of s f.header.blob)
      (view_of s f.section.ciphertext) (view_of s f.section.tag)) room
  unfolding encrypted_reply
  encrypted_again p room =
      let key = view_of s f.header.blob in
      let fits = p.seal_fits in
      let whole-good : (0 ≤ length key) × (length key ≤ length key) = (omega arith, omega arith) in
      let short : length key < 2 ^ 32 = omega (arith, p.fits, part_within_lem s f.header.blob) in
      let b = blob_back key (whole key) whole-good short f.header.algorithm (public_in s f) fits.public (rest-whole key ∙ p.content) in
      rw (fits.encrypts, options_told f.header.kdf (view_of s f.header.salt) f.header.rounds fits.fit_options, b.read, eq-eqb _ _ fits.blocks, eq-eqb _ _ fits.tag_long)

  pub record_sized : (room : ℕ) → record_reply s f room ≡ sized (rewritten s f) room
  unfolding record_reply
  record_sized room = go (image_text s all f e)
    where
      go : ImageText s all f e → record_reply s f room ≡ sized (rewritten s f) room
      go (plain_text kind p) = rw (rewritten_plain s f kind) (reply_plain s f kind room ∙ plain_again_lem p room)
      go (encrypted_text kind p) = rw (rewritten_encrypted s f kind) (rw kind (encrypted_again p room))

  pub record_left_lem : (old : List ℕ) → record_left s f old ≡ left (sized (rewritten s f) (length old)) (rewritten s f) old
  unfolding record_left encrypted_left
  record_left_lem old = go (image_text s all f e)
    where
      go : ImageText s all f e → record_left s f old ≡ left (sized (rewritten s f) (length old)) (rewritten s f) old
      go (plain_text kind p) = rw (rewritten_plain s f kind) (left_plain s f kind old ∙ left_again p old)
      go (encrypted_text kind p) = rw (rewritten_encrypted s f kind) (rw (kind, encrypted_again p (length old)))

  pub image_small : length s ≤ 65535
  image_small = go (image_text s all f e)
    where
      go : ImageText s all f e → length s ≤ 65535
      go (plain_text kind p) = p.fits
      go (encrypted_text kind p) = p.fits

  -- in the form the record is the image, as far as size and room go
  pub in_form_again : form_of s f ≡ true → (old : List ℕ) (r : Written) (out : List ℕ) → IsSized s old r out → IsRewrite s f old r out
  unfolding form_of
  in_form_again form old r out w =
      let same : rewritten s f ≡ s = same_true (rewritten s f) s form in
      answered r (record_reply s f (length old)) out (record_left s f old)
      (rw (record_sized (length old), record_left_lem old, same) w)
