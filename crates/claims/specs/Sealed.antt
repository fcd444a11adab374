-- docs/RULES.md, 16.2, the second demand, of encrypted images: read after write gives the record; what the format admits within the limits is not refused.
use Rattle.std.specs.Prelude.{ℕ, ◌+◌, ◌%◌, ◌≤◌, ◌<◌, ◌^◌, ◌≡◌, true, false, not, List, eqb, take, Result, Ok, Err}
use Rattle.std.proofs.Common.{arith, sym, ◌∙◌, ap, eqb-true}
use Rattle.std.proofs.Math.Path.{refl}
use Rattle.std.proofs.lemmas.Bool.{not-true}
use Rattle.std.proofs.Math.ListN.{length}
use Rattle.fields.specs.Bytes.{AllBytes, both_true, length-zero}
use Rattle.fields.specs.Fields.{whole}
use Rattle.fields.specs.Place.{clash}
use Rattle.fields.specs.Rest.{rest-whole}
use Rattle.fields.specs.declared.Refusal.TheVariants.{Length, Crypto}
use Rattle.names.specs.declared.Algorithm.{Algorithm}
use Rattle.names.specs.declared.Cipher.{Cipher}
use Rattle.names.specs.declared.Kdf.{Kdf}
use Rattle.names.specs.declared.Kdf.TheVariants as kdf
use Rattle.names.specs.Ciphers.{is_none, block_size, tag_length}
use Rattle.format.specs.Format.{PublicBytes, OptionsFit, blob, encrypted_image}
use Rattle.key_public.specs.declared.Public.{Public}
use Rattle.key_public.specs.Keys.{public_bytes, on_blob, blob_at}
use Rattle.laws_keys.specs.Read.{blob_read}
use Rattle.reader_image.specs.Back.{SealFits, EncryptedImageBack, encrypted_image_back}
use Rattle.buffer.specs.Puts.{take-splice}
use Rattle.writer_reply.specs.Reply.{refused, unless, sized, Written}
use Rattle.writer_encrypted.specs.Encrypted.{options_fit, encrypted_reply, encrypted_left}
use Rattle.claims.specs.Reading.{held, sized_held}
use Rattle.fields.specs.declared.Fault.{Fault}

-- a blob of an accepted write is read
data BlobHeld (key : List ℕ) (P : Algorithm → Public → Written) (k : ℕ) : Type 0 where
  blob_held : (a : Algorithm) (p : Public) → blob_at key (whole key) ≡ Ok (a, p) → P a p ≡ Ok k → BlobHeld key P k

by_blob :
    (key : List ℕ) (w : Result (Algorithm × Public) Fault) (P : Algorithm → Public → Written) (k : ℕ) → blob_at key (whole key) ≡ w
    → on_blob w (λ f. refused f.why) P ≡ Ok k → BlobHeld key P k
by_blob key (Err f) P k w e = clash cc
by_blob key (Ok (a, p)) P k w e = blob_held a p w e

options_hold : (k : Kdf) (salt : List ℕ) (rounds : ℕ) → rounds < 2 ^ 32 → options_fit k salt rounds ≡ true → OptionsFit k salt rounds
options_hold kdf.None salt rounds small e =
    let b = both_true (eqb (length salt) 0) (eqb rounds 0) e in
    (length-zero salt (eqb-true _ _ b.0), eqb-true _ _ b.1)
options_hold kdf.Bcrypt salt rounds small e = small

module _ (c : Cipher) (k : Kdf) (salt : List ℕ) (rounds : ℕ) (key ciphertext tag : List ℕ) where
  -- what an accepted encrypted write was given: its blob is a public key's
  pub record EncryptedAccepted (room m : ℕ) : Type 0 where
    pub algorithm : Algorithm
    pub parts : PublicBytes
    pub public : key ≡ blob algorithm parts
    pub fits : SealFits c k salt rounds algorithm parts ciphertext tag
    pub small : length (encrypted_image c k salt rounds key ciphertext tag) ≤ 65535
    pub room_enough : length (encrypted_image c k salt rounds key ciphertext tag) ≤ room
    pub size : m ≡ length (encrypted_image c k salt rounds key ciphertext tag)

  -- the tests that come after the blob
  abbrev last_tests : ℕ → Written
  last_tests room =
      unless (eqb (length ciphertext % block_size c) 0) Crypto
      (unless (eqb (length tag) (tag_length c)) Length
      (sized (encrypted_image c k salt rounds key ciphertext tag) room))

  sealed_held : (room m : ℕ) → AllBytes key → is_none c ≡ false → OptionsFit k salt rounds → BlobHeld key (λ a p. last_tests room) m → EncryptedAccepted room m
  sealed_held room m all none options (blob_held a p w e) =
      let h₁ = held (eqb (length ciphertext % block_size c) 0) _ _ m e in
      let h₂ = held (eqb (length tag) (tag_length c)) _ _ m h₁.1 in
      let h₃ = sized_held _ room m h₂.1 in
      let r = blob_read key all (whole key) a p w in
      record {
        algorithm = a;
        parts = public_bytes key p;
        public = sym (rest-whole key) ∙ r.text;
        fits =
            record {
              encrypts = none;
              fit_options = options;
              public = r.fits;
              blocks = eqb-true _ _ h₁.0;
              tag_long = eqb-true _ _ h₂.0;
            };
        small = h₃.0;
        room_enough = h₃.1;
        size = h₃.2;
      }

  pub encrypted_accepted :
      (room m : ℕ) → AllBytes key → rounds < 2 ^ 32 → encrypted_reply c k salt rounds key ciphertext tag room ≡ Ok m → EncryptedAccepted room m
  unfolding encrypted_reply
  encrypted_accepted room m all small e =
      let h₁ = held (not (is_none c)) _ _ m e in
      let h₂ = held (options_fit k salt rounds) _ _ m h₁.1 in
      sealed_held room m all (not-true (is_none c) h₁.0) (options_hold k salt rounds small h₂.0)
      (by_blob key (blob_at key (whole key)) (λ a p. last_tests room) m refl h₂.1)

  -- the first bytes of the buffer are then the image
  pub encrypted_written :
      (old : List ℕ) (m : ℕ) → AllBytes key → rounds < 2 ^ 32 → encrypted_reply c k salt rounds key ciphertext tag (length old) ≡ Ok m
      → take m (encrypted_left c k salt rounds key ciphertext tag old) ≡ encrypted_image c k salt rounds key ciphertext tag
  unfolding encrypted_left
  encrypted_written old m all small e =
      let h = encrypted_accepted (length old) m all small e in
      let image = encrypted_image c k salt rounds key ciphertext tag in
      let fit : 0 + length image ≤ length old = omega (arith, h.room_enough) in
      let end : m ≡ 0 + length image = omega (arith, h.size) in
      rw (e, end) (take-splice old 0 image fit)

  -- read after write gives the record, with the blob as it was given
  pub record ReadAfterWrite (old : List ℕ) (m : ℕ) : Type 0 where
    pub algorithm : Algorithm
    pub parts : PublicBytes
    pub public : key ≡ blob algorithm parts
    pub back : EncryptedImageBack (take m (encrypted_left c k salt rounds key ciphertext tag old)) c k salt rounds algorithm parts ciphertext tag

  pub read_after_encrypted_write :
      (old : List ℕ) (m : ℕ) → AllBytes key → rounds < 2 ^ 32 → encrypted_reply c k salt rounds key ciphertext tag (length old) ≡ Ok m
      → ReadAfterWrite old m
  read_after_encrypted_write old m all small e =
      let h = encrypted_accepted (length old) m all small e in
      let w = encrypted_written old m all small e in
      record {
        algorithm = h.algorithm;
        parts = h.parts;
        public = h.public;
        back =
            encrypted_image_back (take m (encrypted_left c k salt rounds key ciphertext tag old)) c k salt rounds h.algorithm h.parts ciphertext tag
            (omega (arith, ap length w, h.small)) h.fits
            (w ∙ ap (λ (b : List ℕ). encrypted_image c k salt rounds b ciphertext tag) h.public);
      }

-- what the definition of the format admits within the limits is not refused
pub encrypted_admitted :
    (c : Cipher) (k : Kdf) (salt : List ℕ) (rounds : ℕ) (a : Algorithm) (key : PublicBytes) (ciphertext tag : List ℕ) → SealFits c k salt rounds a key ciphertext tag
    → length (encrypted_image c k salt rounds (blob a key) ciphertext tag) ≤ 65535
    → EncryptedImageBack (encrypted_image c k salt rounds (blob a key) ciphertext tag) c k salt rounds a key ciphertext tag
encrypted_admitted c k salt rounds a key ciphertext tag fits limit =
    encrypted_image_back (encrypted_image c k salt rounds (blob a key) ciphertext tag) c k salt rounds a key ciphertext tag limit fits refl
