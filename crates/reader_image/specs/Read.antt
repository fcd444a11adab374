-- Inversion: an accepted image is the join of its fields, its scalar in the form that it had, for plain and for encrypted images.
use Prim.Native.Nat.{ℕ, suc, ◌+◌, ◌-◌, ◌≤◌, ◌<◌, ◌^◌}
use Rattle.std.proofs.Common.{arith, ◌∙◌, length-append}
use Rattle.std.specs.Prelude.{◌≡◌, true, false, Ok, Err}
use Rattle.std.proofs.Math.Path.{refl, sym, ap, ap₂}
use mathlib.Core.List.{List, [], ◌∷◌, ◌++◌, map, append-nil}
use Rattle.std.proofs.Math.ListN.{length}
use Rattle.std.proofs.lemmas.List.{length-map}
use Rattle.std.proofs.Math.Seq.{slice, length-slice}
use Rattle.fields.specs.Bytes.{string, join, AllBytes}
use Rattle.fields.specs.Fields.{fault, view_of}
use Rattle.fields.specs.Place.{clash, by_bool}
use Rattle.fields.specs.Rest.{rest}
use Rattle.fields.specs.declared.Cursor.{Cursor}
use Rattle.fields.specs.declared.Part.{Part}
use Rattle.fields.specs.declared.Refusal.TheVariants.{Crypto}
use Rattle.names.specs.declared.Cipher.{Cipher}
use Rattle.names.specs.declared.Cipher.TheVariants as cipher
use Rattle.names.specs.declared.Kdf.{Kdf}
use Rattle.names.specs.declared.Kdf.TheVariants as kdf
use Rattle.names.specs.Ciphers.{is_none, none_only}
use Rattle.format.specs.Format.{key_blob, alone, blob, keypair, blob_fields, standing_entries, padding_length, content as content_of, section, header, plain_image, encrypted_image}
use Rattle.format.proofs.Lengths.{blobs_length_lem, plain_header-length}
use Rattle.laws_keys.specs.ReadPair.{IfScalar, Begins}
use Rattle.reader_header.specs.declared.Header.{Header}
use Rattle.reader_blobs.specs.Blobs.{blob_bytes}
use Rattle.reader_header.specs.Header.{on_kdf, keys_allowed, header_at, second_blob}
use Rattle.reader_header.specs.Place.{keys_sealed, keys_some, header_second}
use Rattle.reader_header.specs.Read.{HeaderText, header-text}
use Rattle.handed_header.specs.Halves.{by_header}
use Rattle.reader_section.specs.declared.Kind.TheVariants.{Plain, Encrypted}
use Rattle.reader_section.specs.declared.Section.{Section}
use Rattle.reader_section.specs.Section.{plain_at, encrypted_at}
use Rattle.places.specs.Places.{places_of, within_more}
use Rattle.reader_entries.specs.Entries.{key_read_of}
use Rattle.reader_entries.specs.Back.{AllFit}
use Rattle.reader_entries.specs.Read.{AllStand}
use Rattle.reader_section.specs.Read.{by_section, before_comment, PlainRead}
use Rattle.reader_section.proofs.Read.{plain_read}
use Rattle.reader_section.specs.ReadEncrypted.{EncryptedRead, encrypted_read}
use Rattle.reader_image.specs.declared.Fields.{Fields}
use Rattle.reader_image.specs.Container.{public_in, private_in, first_in, other_places, keys_in, kdf_name_place, section_at, read_at}
use Rattle.reader_image.specs.Back.{SealFits, others_told}

-- the two reads of an accepted image
pub halves : (s : List ℕ) (f : Fields) → read_at s ≡ Ok f → (header_at s ≡ Ok f.header) × (section_at s f.header ≡ Ok f.section)
unfolding read_at
halves s f e =
    by_header (header_at s)
    (λ g w. let i : Err g ≡ Ok f = rw w at e in clash cc)
    (λ h w.
    let i = rw w at e in
    by_section (section_at s h)
    (λ g v. let j : Err g ≡ Ok f = rw v at i in clash cc)
    (λ x v.
    let j : Ok (record { header = h; section = x }) ≡ Ok f = rw v at i in
    let o : record { header = h; section = x } ≡ f = cc in
    let oh : h ≡ f.header = ap (λ (y : Fields). y.header) o in
    let ox : x ≡ f.section = ap (λ (y : Fields). y.section) o in
    (w ∙ ap Ok oh, rw (oh, ox) at v)))

-- its first blob lies within it
pub first_within : (s : List ℕ) (f : Fields) → read_at s ≡ Ok f → f.header.blob.start + f.header.blob.length ≤ length s
first_within s f e = (header_second s f.header (halves s f e).0).0

-- an accepted section is plain where there is no cipher and no KDF, and encrypted where there is a cipher
data Sections (s : List ℕ) (h : Header) (x : Section) : Type 0 where
  plain : cipher.None ≡ h.cipher → kdf.None ≡ h.kdf → plain_at s (record { at = h.section; end = length s }) h.algorithm h.public (second_blob s h) (h.count - 1) ≡ Ok x → Sections s h x
  encrypted : is_none h.cipher ≡ false → encrypted_at s (record { at = h.section; end = length s }) h.cipher ≡ Ok x → Sections s h x

sections : (s : List ℕ) (h : Header) (x : Section) → section_at s h ≡ Ok x → Sections s h x
unfolding section_at
sections s h x e =
    by_bool (is_none h.cipher)
    (λ w. let g = rw w at e in by_kdf h.kdf refl w g)
    (λ w. encrypted w (rw w at e))
  where
    c : Cursor
    c = record { at = h.section; end = length s }

    by_kdf :
        (k : Kdf) → k ≡ h.kdf → is_none h.cipher ≡ true
        → on_kdf k (plain_at s c h.algorithm h.public (second_blob s h) (h.count - 1)) (Err (fault Crypto kdf_name_place)) ≡ Ok x → Sections s h x
    by_kdf kdf.None q w g = plain (none_only h.cipher w) q g
    by_kdf kdf.Bcrypt q w g = clash cc

-- an accepted plain image
pub record KeysText (s : List ℕ) (f : Fields) : Type 0 where
  pub zeros : ℕ
  pub more_zeros : List ℕ
  pub fits : length s ≤ 65535
  pub text :
      s ≡ plain_image f.section.checkint (map key_blob (keys_in s f)) (standing_entries (zeros ∷ more_zeros) (keys_in s f))
  pub keys_fit : AllFit (zeros ∷ more_zeros) (keys_in s f)
  pub padded : f.section.padding ≡ padding_length (length (content_of f.section.checkint (standing_entries (zeros ∷ more_zeros) (keys_in s f))))
  pub checkint_fits : f.section.checkint < 2 ^ 32
  pub begins : IfScalar f.header.algorithm (Begins s f.section.private.scalar zeros)
  pub content : view_of s f.header.blob ≡ blob f.header.algorithm (public_in s f)
  pub allowed : keys_allowed f.header.cipher f.header.count ≡ true
  pub section_place : f.header.section ≡ length (header cipher.None kdf.None [] 0 (map key_blob (keys_in s f)))
  pub comment_place :
      f.section.comment.start
      ≡ f.header.section + 4 + before_comment (keypair f.header.algorithm zeros (public_in s f) (private_in s f)) + 4
  pub comment_size : length (view_of s f.section.comment) ≡ f.section.comment.length
  pub comment_within : f.section.comment.start ≤ length s
  pub blob_within : f.header.blob.start + f.header.blob.length ≤ length s
  pub blob_start : f.header.blob.start ≡ 43
  pub blob_size : length (view_of s f.header.blob) ≡ f.header.blob.length
  -- the keys begin at their places, and stand there
  pub counted : f.header.count ≡ length (keys_in s f)
  pub listed : f.section.places ≡ places_of ((f.header.section + 12) ∷ other_places f)
  pub bytes : AllBytes s
  pub second : Cursor
  pub second_starts : second.at ≡ f.section.comment.start + f.section.comment.length
  pub second_ends : second.end ≡ length s
  pub stand : AllStand s bytes second (second_blob s f.header) (other_places f) more_zeros

-- an accepted encrypted image
pub record EncryptedText (s : List ℕ) (f : Fields) : Type 0 where
  pub fits : length s ≤ 65535
  pub text :
      s ≡ encrypted_image f.header.cipher f.header.kdf (view_of s f.header.salt) f.header.rounds (view_of s f.header.blob)
      (view_of s f.section.ciphertext) (view_of s f.section.tag)
  pub seal_fits :
      SealFits f.header.cipher f.header.kdf (view_of s f.header.salt) f.header.rounds f.header.algorithm (public_in s f)
      (view_of s f.section.ciphertext) (view_of s f.section.tag)
  pub content : view_of s f.header.blob ≡ blob f.header.algorithm (public_in s f)
  pub one_key : f.header.count ≡ 1

-- a header with neither cipher nor KDF has no options
header_plain :
    (c : Cipher) (k : Kdf) (salt : List ℕ) (rounds : ℕ) (keys : List (List ℕ)) → cipher.None ≡ c → kdf.None ≡ k
    → header c k salt rounds keys ≡ header cipher.None kdf.None [] 0 keys
unfolding header
header_plain c k salt rounds keys nc nk = rw (← nc, ← nk)

-- a section begins where the header ends
section_starts :
    (s : List ℕ) (at : ℕ) (front : List ℕ) → at ≤ length s → s ≡ front ++ rest s (record { at = at; end = length s }) → at ≡ length front
section_starts s at front h e =
    let long : length s ≡ length front + (length s - at) =
    ap length e ∙ length-append front (slice at (length s) s) ∙ ap (λ (n : ℕ). length front + n) (length-slice at (length s) s (omega arith)) in
    omega arith

-- the first blob begins after the key count and its own length
first_starts :
    (b : Part) (first : List ℕ) (others : List (List ℕ)) (section : ℕ) → length first ≡ b.length
    → b.start + b.length + length (join (blob_fields others)) ≡ section → section ≡ length (header cipher.None kdf.None [] 0 (first ∷ others))
    → b.start ≡ 43
first_starts b first others section size ends placed =
    omega (arith, size, ends, placed, plain_header-length (first ∷ others), blobs_length_lem others)

module _ (s : List ℕ) (all : AllBytes s) (f : Fields) (e : read_at s ≡ Ok f) where
  head : HeaderText s all f.header
  head = header-text s all f.header (halves s f e).0

  plain_joined :
      cipher.None ≡ f.header.cipher → kdf.None ≡ f.header.kdf
      → PlainRead s all (record { at = f.header.section; end = length s }) f.header.algorithm f.header.public (second_blob s f.header)
      (f.header.count - 1) f.section → KeysText s f
  unfolding plain_image keys_in
  plain_joined nc nk x =
      let h = head in
      let g = x.found in
      let a = f.header.algorithm in
      let some = keys_some f.header.cipher f.header.count h.allowed in
      let counted : f.header.count ≡ suc (length g.others) = omega (arith, some, g.counted) in
      let places : other_places f ≡ g.others =
      others_told f.header.cipher f.header.count f.section.places (x.inside.at + 8) g.others (length g.others) counted refl h.allowed g.listed
      (within_more (length s) 65535 g.others h.fits g.inside) in
      let starts : x.inside.at + 8 ≡ f.header.section + 12 = omega (arith, x.starts) in
      let others = map (key_read_of s) g.others in
      let keys = first_in s f ∷ others in
      let blobs = map key_blob keys in
      let body = section f.section.checkint (standing_entries (g.zeros ∷ g.more_zeros) keys) in
      let tail = rest s (record { at = f.header.section; end = length s }) in
      let front : s ≡ header cipher.None kdf.None [] 0 blobs ++ tail =
      h.text
      ∙ ap (λ (o : List ℕ). o ++ tail)
      (ap (λ (l : List (List ℕ)). header f.header.cipher f.header.kdf (view_of s f.header.salt) f.header.rounds (blob a (public_in s f) ∷ l)) g.blobs
      ∙ header_plain f.header.cipher f.header.kdf (view_of s f.header.salt) f.header.rounds blobs nc nk) in
      let placed : f.header.section ≡ length (header cipher.None kdf.None [] 0 blobs) =
      section_starts s f.header.section (header cipher.None kdf.None [] 0 blobs) h.good front in
      let first : f.header.blob.start ≡ 43 =
      first_starts f.header.blob (blob a (public_in s f)) (map key_blob others) f.header.section (sym (ap length h.content) ∙ h.blob_size)
      (rw g.blobs at h.blob_ends) placed in
      let text : s ≡ plain_image f.section.checkint blobs (standing_entries (g.zeros ∷ g.more_zeros) keys) =
      front ∙ ap (λ (t : List ℕ). header cipher.None kdf.None [] 0 blobs ++ t) (x.text ∙ sym (append-nil (string body))) in
      record {
        zeros = g.zeros;
        more_zeros = g.more_zeros;
        fits = h.fits;
        text = rw places text;
        keys_fit = rw places g.fits;
        padded = rw places g.padded;
        section_place = rw places placed;
        comment_place = g.place ∙ omega (arith, x.starts);
        checkint_fits = g.checkint;
        begins = g.begins;
        content = h.content;
        allowed = h.allowed;
        comment_size = g.size;
        comment_within = g.comment_within;
        blob_within = h.blob_within;
        blob_start = first;
        blob_size = h.blob_size;
        counted = rw places (counted ∙ ap suc (sym (length-map g.others (key_read_of s))));
        listed = g.listed ∙ ap₂ (λ (i : ℕ) (l : List ℕ). places_of (i ∷ l)) starts (sym places);
        bytes = all;
        second = g.second;
        second_starts = g.second_starts;
        second_ends = g.second_ends;
        stand = rw places g.stand;
      }

  encrypted_joined :
      is_none f.header.cipher ≡ false → EncryptedRead s all (record { at = f.header.section; end = length s }) f.header.cipher f.section
      → EncryptedText s f
  unfolding encrypted_image blob_bytes
  encrypted_joined w x =
      let h = head in
      let counted : f.header.count ≡ 1 = keys_sealed f.header.cipher f.header.count w h.allowed in
      let one : f.header.count - 1 ≡ 0 = omega (arith, counted) in
      let front = header f.header.cipher f.header.kdf (view_of s f.header.salt) f.header.rounds (alone (view_of s f.header.blob)) in
      let text : s ≡ front ++ rest s (record { at = f.header.section; end = length s }) = rw (one, ← h.content) at h.text in
      let ciphertext = view_of s f.section.ciphertext in
      let tag = view_of s f.section.tag in
      record {
        fits = h.fits;
        text = text ∙ ap (λ (t : List ℕ). front ++ t) (x.text ∙ ap (λ (t : List ℕ). string ciphertext ++ t) (sym (append-nil tag)));
        seal_fits =
            record {
              encrypts = w;
              fit_options = h.fit_options;
              public = h.public_fits;
              blocks = x.blocks;
              tag_long = x.long;
            };
        content = h.content;
        one_key = counted;
      }

  -- an accepted image is of one kind or the other, and the join of its fields either way
  pub data ImageText : Type 0 where
    plain_text : f.section.kind ≡ Plain → KeysText s f → ImageText
    encrypted_text : f.section.kind ≡ Encrypted → EncryptedText s f → ImageText

  pub image_text : ImageText
  image_text = go (sections s f.header f.section (halves s f e).1)
    where
      c : Cursor
      c = record { at = f.header.section; end = length s }

      go : Sections s f.header f.section → ImageText
      go (plain nc nk g) =
          let x = plain_read s all c f.header.algorithm f.header.public (second_blob s f.header) (f.header.count - 1) f.section refl g in
          plain_text x.found.plain (plain_joined nc nk x)
      go (encrypted w g) = let x = encrypted_read s all c f.header.cipher f.section g in encrypted_text x.encrypted (encrypted_joined w x)
