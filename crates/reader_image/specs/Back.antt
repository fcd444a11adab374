-- Reading back what the format writes gives its fields, for plain and for encrypted images.
use Rattle.std.specs.Prelude.{ℕ, suc, ◌+◌, ◌-◌, ◌%◌, ◌≤◌, ◌<◌, ◌^◌, ◌≡◌, refl, true, false, List, [], ◌∷◌, ◌++◌, map, length, take, Ok}
use Rattle.std.proofs.Common.{arith, ◌∙◌, ap, ap₂, append-nil}
use Rattle.fields.specs.Bytes.{string}
use Rattle.fields.specs.Fields.{view_of}
use Rattle.names.specs.declared.Algorithm.{Algorithm}
use Rattle.names.specs.declared.Cipher.{Cipher}
use Rattle.names.specs.declared.Cipher.TheVariants as cipher
use Rattle.names.specs.declared.Kdf.{Kdf}
use Rattle.names.specs.declared.Kdf.TheVariants as kdf
use Rattle.names.specs.Ciphers.{is_none, block_size, tag_length}
use Rattle.mpint.specs.Mpint.{bits}
use Rattle.format.specs.Format.{PublicBytes, PrivateBytes, Key, of_scalar, OptionsFit, PublicFits, padding_length, blob, keypair, key_of, key_blob, entry, alone, standing_entries, content, section, header, plain_image, encrypted_image}
use Rattle.places.specs.declared.Places.{Places}
use Rattle.places.specs.Places.{AllWithin, places_of, after_first, listed_after, within_more}
use Rattle.reader_blobs.specs.Back.{AllPublic}
use Rattle.reader_header.specs.Header.{keys_allowed, second_blob}
use Rattle.reader_header.specs.Place.{one_allowed, keys_most}
use Rattle.reader_header.specs.Back.{HeaderBack, header_back}
use Rattle.reader_entries.specs.Entries.{key_read_of}
use Rattle.reader_entries.specs.Back.{KeyFits, AllFit}
use Rattle.reader_section.specs.declared.Kind.TheVariants.{Plain, Encrypted}
use Rattle.reader_section.specs.Back.{PlainBack, plain_back, encrypted_back}
use Rattle.reader_image.specs.declared.Fields.{Fields}
use Rattle.reader_image.specs.Container.{public_in, private_in, first_in, other_places, keys_in, section_at, read_at}

-- what a plain image gives back
pub record KeysImageBack (s : List ℕ) (n : ℕ) (k : Key) (others : List Key) (padding : ℕ) : Type 0 where
  pub fields : Fields
  pub read : read_at s ≡ Ok fields
  pub plain : fields.section.kind ≡ Plain
  pub no_cipher : fields.header.cipher ≡ cipher.None
  pub no_kdf : fields.header.kdf ≡ kdf.None
  pub no_salt : view_of s fields.header.salt ≡ []
  pub no_rounds : fields.header.rounds ≡ 0
  pub same_count : fields.header.count ≡ suc (length others)
  pub same_blob : view_of s fields.header.blob ≡ key_blob k
  pub same_bits : fields.header.public.bits ≡ bits k.public.modulus
  pub same_checkint : fields.section.checkint ≡ n
  pub same_first : first_in s fields ≡ k
  pub same_keys : keys_in s fields ≡ k ∷ others
  pub comment_size : fields.section.comment.length ≡ length k.comment
  pub same_padding : fields.section.padding ≡ padding

-- the places that are told of others are theirs
pub others_told :
    (cipher : Cipher) (count : ℕ) (places : Places) (first : ℕ) (l : List ℕ) (n : ℕ) → count ≡ suc n → length l ≡ n → keys_allowed cipher count ≡ true
    → places ≡ places_of (first ∷ l) → AllWithin 65535 l → take (count - 1) (after_first places) ≡ l
others_told cipher count places first l n counted long allowed told inside =
    let few : length l ≤ 15 = omega (arith, counted, long, keys_most cipher count allowed) in
    let more : count - 1 ≡ length l = omega (arith, counted, long) in
    ap₂ (λ (i : ℕ) (p : Places). take i (after_first p)) more told ∙ listed_after first l few inside

-- the section after a header that was read back
keys_after :
    (s : List ℕ) (n : ℕ) (k : Key) (others : List Key) (zeros : ℕ) (zs : List ℕ) → length s ≤ 65535 → n < 2 ^ 32 → AllFit (zeros ∷ zs) (k ∷ others)
    → keys_allowed cipher.None (suc (length others)) ≡ true
    → HeaderBack s cipher.None kdf.None [] 0 k others (string (section n (standing_entries (zeros ∷ zs) (k ∷ others))))
    → KeysImageBack s n k others (padding_length (length (content n (standing_entries (zeros ∷ zs) (k ∷ others)))))
unfolding read_at section_at keys_in
keys_after s n k others zeros zs small fit fits allowed h =
    let f = h.fields in
    let entries = standing_entries (zeros ∷ zs) (k ∷ others) in
    let less : f.count - 1 ≡ length others = omega (arith, h.same_count) in
    let x : PlainBack s _ n k others (padding_length (length (content n entries))) =
    plain_back s small f.public k others zeros zs n h.same_public fit fits (second_blob s f) (h.second_good, omega arith) refl (string (section n entries)) h.second
    (record { at = f.section; end = length s }) (h.good, omega arith) refl h.more in
    let fields : Fields = record { header = f; section = x.fields } in
    let places : other_places fields ≡ x.places =
    others_told cipher.None f.count x.fields.places x.first x.places (length others) h.same_count x.counted (rw h.same_count allowed) x.listed (within_more (length s) 65535 x.places small x.inside) in
    let first : first_in s fields ≡ k = rw (h.same_algorithm, h.same_public, x.same_private, x.same_comment) in
    record {
      fields = fields;
      read = rw (h.read, h.same_cipher, h.same_kdf, h.same_algorithm, less, x.read);
      plain = x.plain;
      no_cipher = h.same_cipher;
      no_kdf = h.same_kdf;
      no_salt = h.same_salt;
      no_rounds = h.same_rounds;
      same_count = h.same_count;
      same_blob = h.same_blob;
      same_bits = h.same_bits;
      same_checkint = x.same_checkint;
      same_first = first;
      same_keys = ap₂ (λ (y : Key) (l : List Key). y ∷ l) first (ap (map (key_read_of s)) places ∙ x.there);
      comment_size = x.comment_size;
      same_padding = x.same_padding;
    }

all_public : (zs : List ℕ) (keys : List Key) → AllFit zs keys → AllPublic keys
all_public [] (k ∷ keys) fits = elim fits [ ]
all_public (z ∷ zs) [] fits = elim fits [ ]
all_public [] [] fits = tt
all_public (z ∷ zs) (k ∷ keys) fits = (fits.0.public, all_public zs keys fits.1)

pub keys_image_back :
    (s : List ℕ) (n : ℕ) (k : Key) (others : List Key) (zeros : ℕ) (zs : List ℕ) → length s ≤ 65535 → n < 2 ^ 32 → AllFit (zeros ∷ zs) (k ∷ others)
    → keys_allowed cipher.None (suc (length others)) ≡ true → s ≡ plain_image n (map key_blob (k ∷ others)) (standing_entries (zeros ∷ zs) (k ∷ others))
    → KeysImageBack s n k others (padding_length (length (content n (standing_entries (zeros ∷ zs) (k ∷ others)))))
unfolding plain_image
keys_image_back s n k others zeros zs small fit fits allowed e =
    let keys = map key_blob (k ∷ others) in
    let body = section n (standing_entries (zeros ∷ zs) (k ∷ others)) in
    let h = header_back s cipher.None kdf.None [] 0 k others (string body) small (refl, refl) (all_public (zeros ∷ zs) (k ∷ others) fits) allowed
    (e ∙ ap (λ (l : List ℕ). header cipher.None kdf.None [] 0 keys ++ l) (append-nil (string body))) in
    keys_after s n k others zeros zs small fit fits allowed h

-- of one key
pub record PlainImageBack (s : List ℕ) (n : ℕ) (a : Algorithm) (key : PublicBytes) (x : PrivateBytes) (comment : List ℕ) (padding : ℕ) : Type 0 where
  pub fields : Fields
  pub read : read_at s ≡ Ok fields
  pub plain : fields.section.kind ≡ Plain
  pub no_cipher : fields.header.cipher ≡ cipher.None
  pub no_kdf : fields.header.kdf ≡ kdf.None
  pub no_salt : view_of s fields.header.salt ≡ []
  pub no_rounds : fields.header.rounds ≡ 0
  pub one_key : fields.header.count ≡ 1
  pub same_algorithm : fields.header.algorithm ≡ a
  pub same_blob : view_of s fields.header.blob ≡ blob a key
  pub same_public : public_in s fields ≡ key
  pub same_bits : fields.header.public.bits ≡ bits key.modulus
  pub same_checkint : fields.section.checkint ≡ n
  pub same_private : private_in s fields ≡ x
  pub same_comment : view_of s fields.section.comment ≡ comment
  pub comment_size : fields.section.comment.length ≡ length comment
  pub same_padding : fields.section.padding ≡ padding

pub plain_image_back :
    (s : List ℕ) (n : ℕ) (a : Algorithm) (zeros : ℕ) (key : PublicBytes) (x : PrivateBytes) (comment : List ℕ) → length s ≤ 65535 → n < 2 ^ 32 → KeyFits a zeros key x comment
    → s ≡ plain_image n (alone (blob a key)) (alone (entry (keypair a zeros key x) comment))
    → PlainImageBack s n a key x comment (padding_length (length (content n (alone (entry (keypair a zeros key x) comment)))))
plain_image_back s n a zeros key x comment small fit fits e =
    let b = keys_image_back s n (key_of a key x comment) [] zeros [] small fit (fits, tt) refl e in
    record {
      fields = b.fields;
      read = b.read;
      plain = b.plain;
      no_cipher = b.no_cipher;
      no_kdf = b.no_kdf;
      no_salt = b.no_salt;
      no_rounds = b.no_rounds;
      one_key = b.same_count;
      same_algorithm = ap (λ (y : Key). y.algorithm) b.same_first;
      same_blob = b.same_blob;
      same_public = ap (λ (y : Key). y.public) b.same_first;
      same_bits = b.same_bits;
      same_checkint = b.same_checkint;
      same_private = ap (λ (y : Key). y.private) b.same_first;
      same_comment = ap (λ (y : Key). y.comment) b.same_first;
      comment_size = b.comment_size;
      same_padding = b.same_padding;
    }

-- what an encrypted image gives back
pub record EncryptedImageBack
    (s : List ℕ) (cipher : Cipher) (k : Kdf) (salt : List ℕ) (rounds : ℕ) (a : Algorithm) (key : PublicBytes) (ciphertext tag : List ℕ) : Type 0 where
  pub fields : Fields
  pub read : read_at s ≡ Ok fields
  pub encrypted : fields.section.kind ≡ Encrypted
  pub same_cipher : fields.header.cipher ≡ cipher
  pub same_kdf : fields.header.kdf ≡ k
  pub same_salt : view_of s fields.header.salt ≡ salt
  pub same_rounds : fields.header.rounds ≡ rounds
  pub same_algorithm : fields.header.algorithm ≡ a
  pub same_blob : view_of s fields.header.blob ≡ blob a key
  pub same_public : public_in s fields ≡ key
  pub same_bits : fields.header.public.bits ≡ bits key.modulus
  pub same_ciphertext : view_of s fields.section.ciphertext ≡ ciphertext
  pub same_tag : view_of s fields.section.tag ≡ tag
  pub ciphertext_size : fields.section.ciphertext.length ≡ length ciphertext
  pub tag_size : fields.section.tag.length ≡ length tag

-- fields that fit an encrypted image
pub record SealFits (cipher : Cipher) (k : Kdf) (salt : List ℕ) (rounds : ℕ) (a : Algorithm) (key : PublicBytes) (ciphertext tag : List ℕ) : Type 0 where
  pub encrypts : is_none cipher ≡ false
  pub fit_options : OptionsFit k salt rounds
  pub public : PublicFits a key
  pub blocks : length ciphertext % block_size cipher ≡ 0
  pub tag_long : length tag ≡ tag_length cipher

pub encrypted_image_back :
    (s : List ℕ) (cipher : Cipher) (k : Kdf) (salt : List ℕ) (rounds : ℕ) (a : Algorithm) (key : PublicBytes) (ciphertext tag : List ℕ) → length s ≤ 65535
    → SealFits cipher k salt rounds a key ciphertext tag → s ≡ encrypted_image cipher k salt rounds (blob a key) ciphertext tag
    → EncryptedImageBack s cipher k salt rounds a key ciphertext tag
unfolding encrypted_image read_at section_at
encrypted_image_back s cipher k salt rounds a key ciphertext tag small fits e =
    let after = string ciphertext ++ tag in
    let h = header_back s cipher k salt rounds (key_of a key (of_scalar []) []) [] after small fits.fit_options (fits.public, tt) (one_allowed cipher)
    (e ∙ ap (λ (l : List ℕ). header cipher k salt rounds (alone (blob a key)) ++ (string ciphertext ++ l)) (append-nil tag)) in
    let f = h.fields in
    let x = encrypted_back s (record { at = f.section; end = length s }) (omega (arith, h.good)) (omega arith) cipher ciphertext tag fits.blocks
    fits.tag_long h.more in
    record {
      fields = record { header = f; section = x.fields };
      read = rw (h.read, h.same_cipher, fits.encrypts, x.read);
      encrypted = x.encrypted;
      same_cipher = h.same_cipher;
      same_kdf = h.same_kdf;
      same_salt = h.same_salt;
      same_rounds = h.same_rounds;
      same_algorithm = h.same_algorithm;
      same_blob = h.same_blob;
      same_public = h.same_public;
      same_bits = h.same_bits;
      same_ciphertext = x.same_ciphertext;
      same_tag = x.same_tag;
      ciphertext_size = x.ciphertext_size;
      tag_size = x.tag_size;
    }
