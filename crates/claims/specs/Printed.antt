-- docs/RULES.md, 13: the program prints no private byte. What it prints of every image: of an accepted one its
-- kind, its names, its lengths and its form, of a refused one number, count and place. Accepted images that are alike in these have the same
-- report, whatever their private bytes. (The lengths of a plain ECDSA image tell how many bytes its scalar's string has; in the form the
-- scalar has as many, or one fewer and then a first byte of 0x80 or more.) Of a refused image no more is said than `report_refused`: its
-- count and place are what length fields say, and in a damaged image such a field may lie where a private byte was. 13.4: the lines of the keys hold
-- of each key its number, its kind, the bits of its modulus and its comment's length.
use Rattle.std.specs.Prelude.{ℕ, zero, suc, ◌+◌, ◌*◌, ◌-◌, ◌≤◌, ◌<◌, ◌^◌, ◌≡◌, refl, true, length, take, get_or, Ok, Err, Some}
use Rattle.std.proofs.Common.{arith, sym, ◌∙◌, ap₂, length-append}
use Rattle.std.proofs.Math.Path.{ap}
use mathlib.Core.List.{List, [], ◌∷◌, map, append-nil}
use Rattle.std.specs.Int.Count.{count_leading_zeros}
use Rattle.std.proofs.lemmas.List.{length-replicate}
use Rattle.fields.specs.Bytes.{ascii, join, AllBytes, same_bytes}
use Rattle.fields.specs.Fields.{view_of}
use Rattle.fields.specs.Place.{clash}
use Rattle.fields.specs.Refusals.{number_of, count_of}
use Rattle.fields.specs.Rest.{length-string}
use Rattle.fields.specs.declared.Fault.{Fault}
use Rattle.names.specs.declared.Elliptic.{Elliptic}
use Rattle.names.specs.declared.Elliptic.TheVariants.{Ed25519, Ecdsa}
use Rattle.names.specs.declared.Curve.TheVariants.{Nistp256, Nistp384, Nistp521}
use Rattle.names.specs.declared.Algorithm.{Algorithm}
use Rattle.names.specs.declared.Algorithm.TheVariants.{Elliptic as OnCurve, Rsa}
use Rattle.names.specs.declared.Cipher.{Cipher}
use Rattle.names.specs.declared.Cipher.TheVariants as cipher
use Rattle.names.specs.declared.Kdf.{Kdf}
use Rattle.names.specs.declared.Kdf.TheVariants as kdf
use Rattle.names.specs.Algorithms.{size_of}
use Rattle.utf8.specs.Utf8.{UTF8-char, utf8, utf8_from}
use Rattle.mpint.specs.Mpint.{zeros_before, bits}
use Rattle.format.specs.Format.{PublicBytes, PrivateBytes, Key, key_of, entry, key_blob, of_point, of_scalar, scalar_zero, blob, keypair, padding_length, content, standing_entries, written_image, encrypted_image, alone}
use Rattle.format.proofs.Laws.{section-length}
use Rattle.format.specs.Lengths.{LengthsFit, blob_length, keypair_length, blobs_length, entries_length}
use Rattle.format.proofs.Lengths.{blob-length, content-length, plain_length}
use Rattle.format.specs.Scalars.{key_zeros, fits_allowed}
use Rattle.reader_header.specs.Place.{keys_some, keys_most}
use Rattle.reader_entries.specs.Entries.{no_key}
use Rattle.reader_entries.specs.Back.{KeyFits, AllFit}
use Rattle.reader_section.specs.declared.Kind.TheVariants as kind
use Rattle.reader_image.specs.declared.Fields.{Fields}
use Rattle.reader_image.specs.Container.{public_in, keys_in, read_at}
use Rattle.reader_image.specs.Back.{SealFits, encrypted_image_back}
use Rattle.reader_image.specs.Read.{ImageText, plain_text, encrypted_text, image_text}
use Rattle.reader_image.specs.FormLaws.{keys_of}
use Rattle.inspect_report.specs.Report.{Summary, Plain, Encrypted, Refused, accepted, summary_of, lines, report_of}
use Rattle.inspect_report.specs.Examples.{oven7}
use Rattle.report_parts.specs.Parts.{printed, refused_line}
use Rattle.reader_entries.specs.declared.KeyFields.{KeyFields}
use Rattle.reader_keys.specs.Keys.{first_fields, key_numbered}
use Rattle.reader_keys.specs.Found.{Lies, key_lies}
use Rattle.keys_report.specs.Lines.{last_word, key_line, line_of, lines_from, keys_report}
use Rattle.claims.specs.Reading.{image_of, Within, plain_admitted}
use Rattle.claims.specs.Form.{Stands, keys_form, stands_fit, stands_some}
use Rattle.claims.specs.Rsa.{first_found, bits-told}

-- ---- plain images

-- the keypair's length, by the kind, a scalar's length and how many zeros stand before it, and RSA's numbers' lengths
abbrev pub pair_length : Algorithm → ℕ → PublicBytes → PrivateBytes → ℕ
pair_length (OnCurve Ed25519) z key x = 119
pair_length (OnCurve (Ecdsa k)) z key x = 40 + 2 * size_of k + (4 + z + length x.scalar)
pair_length Rsa z key x = keypair_length Rsa key x

pair_length_lem :
    (a : Algorithm) (zeros : ℕ) (key : PublicBytes) (x : PrivateBytes) (comment : List ℕ) → KeyFits a zeros key x comment
    → length (keypair a zeros key x) ≡ pair_length a zeros key x
unfolding keypair
pair_length_lem (OnCurve Ed25519) z key x comment fits =
    simp (length-append, length-string, length-replicate) (omega (arith, fits.public.0, fits.private.0, fits.may))
pair_length_lem (OnCurve (Ecdsa Nistp256)) z key x comment fits =
    simp (length-append, length-string, length-replicate) (omega (arith, fits.public.0))
pair_length_lem (OnCurve (Ecdsa Nistp384)) z key x comment fits =
    simp (length-append, length-string, length-replicate) (omega (arith, fits.public.0))
pair_length_lem (OnCurve (Ecdsa Nistp521)) z key x comment fits =
    simp (length-append, length-string, length-replicate) (omega (arith, fits.public.0))
pair_length_lem Rsa z key x comment fits = simp (length-append, length-string) (omega arith)

-- of several keys their entries, with each comment, and their blobs
abbrev pub entries_size : List ℕ → List Key → ℕ
entries_size [] keys = 0
entries_size (z ∷ more) [] = 0
entries_size (z ∷ more) (k ∷ keys) = pair_length k.algorithm z k.public k.private + (4 + length k.comment) + entries_size more keys

abbrev pub blobs_size : List Key → ℕ
blobs_size [] = 0
blobs_size (k ∷ keys) = 4 + blob_length k.algorithm k.public + blobs_size keys

-- the section's but for its padding
abbrev pub section_size : List ℕ → List Key → ℕ
section_size zs keys = 8 + entries_size zs keys

-- what is printed: the first key's kind, the bits of its modulus and its comment's length; by the lengths of all keys the padding and the image; and whether
-- each scalar stands by the writer's rule
abbrev pub shown : List ℕ → List Key → Summary
shown zs keys =
    Plain (get_or keys 0 no_key).algorithm (bits (get_or keys 0 no_key).public.modulus) cipher.None kdf.None (length (get_or keys 0 no_key).comment)
    (padding_length (section_size zs keys)) (43 + blobs_size keys + (section_size zs keys + padding_length (section_size zs keys)))
    (same_bytes (map key_zeros keys) zs)

lengths_fit : (a : Algorithm) (zeros : ℕ) (key : PublicBytes) (x : PrivateBytes) (comment : List ℕ) → KeyFits a zeros key x comment → LengthsFit a key x
lengths_fit (OnCurve e) z key x comment fits = (fits.public.0, fits_allowed e x.scalar fits.private.0)
lengths_fit Rsa z key x comment fits = tt

entries_size_lem : (zs : List ℕ) (keys : List Key) → AllFit zs keys → entries_length (standing_entries zs keys) ≡ entries_size zs keys
entries_size_lem [] (k ∷ keys) fits = elim fits [ ]
entries_size_lem (z ∷ zs) [] fits = elim fits [ ]
entries_size_lem [] [] fits = refl
entries_size_lem (z ∷ zs) (k ∷ keys) fits =
    rw (pair_length_lem k.algorithm z k.public k.private k.comment fits.0, entries_size_lem zs keys fits.1)

blobs_size_lem : (zs : List ℕ) (keys : List Key) → AllFit zs keys → blobs_length (map key_blob keys) ≡ blobs_size keys
blobs_size_lem [] (k ∷ keys) fits = elim fits [ ]
blobs_size_lem (z ∷ zs) [] fits = elim fits [ ]
blobs_size_lem [] [] fits = refl
blobs_size_lem (z ∷ zs) (k ∷ keys) fits =
    rw (
      blob-length k.public k.private k.algorithm (lengths_fit k.algorithm z k.public k.private k.comment fits.0),
      blobs_size_lem zs keys fits.1,
    )

-- the lengths that are printed
size_is : (n : ℕ) (zs : List ℕ) (keys : List Key) → AllFit zs keys → length (content n (standing_entries zs keys)) ≡ section_size zs keys
size_is n zs keys fits = content-length n (standing_entries zs keys) ∙ ap (λ (i : ℕ). 8 + i) (entries_size_lem zs keys fits)

length_is :
    (n : ℕ) (zs : List ℕ) (keys : List Key) → AllFit zs keys
    → length (image_of n zs keys) ≡ 43 + blobs_size keys + (section_size zs keys + padding_length (section_size zs keys))
length_is n zs keys fits =
    plain_length n (map key_blob keys) (standing_entries zs keys)
    ∙ rw (section-length n (standing_entries zs keys), size_is n zs keys fits, blobs_size_lem zs keys fits)

-- what is printed of a plain image
pub report_plain : (n : ℕ) (zs : List ℕ) (keys : List Key) → Within n zs keys → report_of (image_of n zs keys) ≡ lines (shown zs keys)
unfolding report_of summary_of accepted
report_plain n zs [] w = absurd (omega (arith, w.some))
report_plain n [] (k ∷ others) w = absurd w.keys_fit
report_plain n (z ∷ zs) (k ∷ others) w =
    let image = image_of n (z ∷ zs) (k ∷ others) in
    let fits = w.keys_fit in
    let b = plain_admitted n z zs k others w in
    let form = keys_form image b.fields n (z ∷ zs) (k ∷ others) b.plain b.same_checkint b.same_keys fits refl in
    let kind : b.fields.header.algorithm ≡ k.algorithm = ap (λ (y : Key). y.algorithm) b.same_first in
    rw (
      b.read,
      b.plain,
      form,
      kind,
      b.same_bits,
      b.no_cipher,
      b.no_kdf,
      b.comment_size,
      b.same_padding,
      size_is n (z ∷ zs) (k ∷ others) fits,
      length_is n (z ∷ zs) (k ∷ others) fits,
    )

-- no private byte of an accepted image: two files whose first keys' kinds, bits of a modulus and comments' lengths, and whose lengths and forms are the same have
-- the same report, whatever their private bytes are, and whatever their points, numbers, checkints and comments
pub no_private_byte :
    (n m : ℕ) (zs ws : List ℕ) (keys others : List Key) → Within n zs keys → Within m ws others → shown zs keys ≡ shown ws others
    → report_of (image_of n zs keys) ≡ report_of (image_of m ws others)
no_private_byte n m zs ws keys others w v alike = report_plain n zs keys w ∙ ap lines alike ∙ sym (report_plain m ws others v)

-- of keys over a curve that is of each its kind, its comment's length, and its scalar's length, how it stands and its first byte against 0x80; of an RSA key the
-- numbers' lengths and the modulus's bits
pub record Alike (e : Elliptic) (k l : Key) : Type 0 where
  pub kind : k.algorithm ≡ OnCurve e
  pub also_kind : l.algorithm ≡ OnCurve e
  pub own : k.public ≡ of_point k.public.point
  pub also_own : l.public ≡ of_point l.public.point
  pub rule : scalar_zero e k.private.scalar ≡ scalar_zero e l.private.scalar
  pub long : length k.private.scalar ≡ length l.private.scalar
  pub comment : length k.comment ≡ length l.comment

abbrev pub AllAlike : List Key → List Key → Type 0
AllAlike [] [] = Unit {0}
AllAlike [] (l ∷ others) = ⊥
AllAlike (k ∷ keys) [] = ⊥
AllAlike (k ∷ keys) (l ∷ others) = ((e : Elliptic) × Alike e k l) × AllAlike keys others

-- each takes as many bytes, and its scalar as many zeros
alike_pair :
    (e : Elliptic) (zeros : ℕ) (key : PublicBytes) (x : PrivateBytes) (key' : PublicBytes) (x' : PrivateBytes) → length x.scalar ≡ length x'.scalar
    → pair_length (OnCurve e) zeros key x ≡ pair_length (OnCurve e) zeros key' x'
alike_pair Ed25519 z key x key' x' long = refl
alike_pair (Ecdsa k) z key x key' x' long = rw long

alike_entries : (zs : List ℕ) (keys others : List Key) → AllAlike keys others → entries_size zs keys ≡ entries_size zs others
alike_entries (z ∷ zs) [] (l ∷ others) same = elim same [ ]
alike_entries (z ∷ zs) (k ∷ keys) [] same = elim same [ ]
alike_entries [] keys others same = refl
alike_entries (z ∷ zs) [] [] same = refl
alike_entries (z ∷ zs) (k ∷ keys) (l ∷ others) same =
    let a = same.0.1 in
    rw (
      a.kind,
      a.also_kind,
      alike_pair same.0.0 z k.public k.private l.public l.private a.long,
      a.comment,
      alike_entries zs keys others same.1,
    )

alike_blobs : (keys others : List Key) → AllAlike keys others → blobs_size keys ≡ blobs_size others
alike_blobs [] (l ∷ others) same = elim same [ ]
alike_blobs (k ∷ keys) [] same = elim same [ ]
alike_blobs [] [] same = refl
alike_blobs (k ∷ keys) (l ∷ others) same = let a = same.0.1 in rw (a.kind, a.also_kind, alike_blobs keys others same.1)

alike_zeros : (keys others : List Key) → AllAlike keys others → map key_zeros keys ≡ map key_zeros others
alike_zeros [] (l ∷ others) same = elim same [ ]
alike_zeros (k ∷ keys) [] same = elim same [ ]
alike_zeros [] [] same = refl
alike_zeros (k ∷ keys) (l ∷ others) same = let a = same.0.1 in rw (a.kind, a.also_kind, a.rule, alike_zeros keys others same.1)

alike_first :
    (keys others : List Key) → AllAlike keys others
    → ((get_or keys 0 no_key).algorithm ≡ (get_or others 0 no_key).algorithm)
    × (bits (get_or keys 0 no_key).public.modulus ≡ bits (get_or others 0 no_key).public.modulus)
    × (length (get_or keys 0 no_key).comment ≡ length (get_or others 0 no_key).comment)
alike_first [] (l ∷ others) same = elim same [ ]
alike_first (k ∷ keys) [] same = elim same [ ]
alike_first [] [] same = (refl, refl, refl)
alike_first (k ∷ keys) (l ∷ others) same =
    let a = same.0.1 in
    (a.kind ∙ sym a.also_kind, ap (λ (y : PublicBytes). bits y.modulus) a.own ∙ sym (ap (λ (y : PublicBytes). bits y.modulus) a.also_own), a.comment)

pub elliptic_alike : (zs : List ℕ) (keys others : List Key) → AllAlike keys others → shown zs keys ≡ shown zs others
elliptic_alike zs keys others same =
    let first = alike_first keys others same in
    rw (first.0, first.1, first.2, alike_entries zs keys others same, alike_blobs keys others same, alike_zeros keys others same)

oven7_text : utf8 (ascii "oven7") ≡ true
unfolding utf8 utf8_from UTF8-char
oven7_text = refl

-- the rules' example: an Ed25519 image with comment `oven7`, whatever the key and the checkint
pub oven7_report :
    (n : ℕ) (point seed : List ℕ) → n < 2 ^ 32 → length point ≡ 32 → length seed ≡ 32
    → report_of (written_image n (alone (key_of (OnCurve Ed25519) (of_point point) (of_scalar seed) (ascii "oven7"))))
    ≡ printed
    ("kind plain" ∷ "algorithm ssh-ed25519" ∷ "cipher none" ∷ "kdf none" ∷ "comment 5" ∷ "padding 0" ∷ "image 234" ∷ "form yes" ∷ [])
unfolding written_image bits zeros_before count_leading_zeros
oven7_report n point seed small long private =
    let key = key_of (OnCurve Ed25519) (of_point point) (of_scalar seed) (ascii "oven7") in
    let fits : AllFit (alone 0) (alone key) =
    (record { public = (long, refl, refl); private = (private, refl); may = refl; text = oven7_text }, tt) in
    report_plain n (alone 0) (alone key)
    (record {
      checkint_fits = small;
      keys_fit = fits;
      some = omega arith;
      few = omega arith;
      limit = omega (arith, length_is n (alone 0) (alone key) fits);
    })
    ∙ oven7

-- ---- encrypted images

pub report_encrypted :
    (c : Cipher) (k : Kdf) (salt : List ℕ) (rounds : ℕ) (a : Algorithm) (key : PublicBytes) (ciphertext tag : List ℕ) → SealFits c k salt rounds a key ciphertext tag
    → length (encrypted_image c k salt rounds (blob a key) ciphertext tag) ≤ 65535
    → report_of (encrypted_image c k salt rounds (blob a key) ciphertext tag)
    ≡ lines (Encrypted a (bits key.modulus) c k (length ciphertext) (length tag) (length (encrypted_image c k salt rounds (blob a key) ciphertext tag)))
unfolding report_of summary_of accepted
report_encrypted c k salt rounds a key ciphertext tag fits limit =
    let b = encrypted_image_back (encrypted_image c k salt rounds (blob a key) ciphertext tag) c k salt rounds a key ciphertext tag limit fits refl in
    rw (b.read, b.encrypted, b.same_algorithm, b.same_bits, b.same_cipher, b.same_kdf, b.ciphertext_size, b.tag_size)

-- ---- every image

-- accepted, plain: the lengths of its keys' fields, and how many zeros stand before each scalar in the image, decide
pub report_accepted :
    (s : List ℕ) (all : AllBytes s) (f : Fields) → read_at s ≡ Ok f → f.section.kind ≡ kind.Plain
    → (zs : List ℕ) × Stands s f zs × (report_of s ≡ lines (shown zs (keys_in s f)))
report_accepted s all f e plain =
    let p = keys_of s all f e plain in
    let z = stands_some s all f e plain in
    let n = f.section.checkint in
    let keys = keys_in s f in
    let text : s ≡ image_of n z.0 keys = z.1.0 in (
      z.0,
      z.1,
      ap report_of text
          ∙ report_plain n z.0 keys
          (record {
            checkint_fits = p.checkint_fits;
            keys_fit = stands_fit s all f e plain z.0 z.1;
            some = omega (arith, p.counted, keys_some f.header.cipher f.header.count p.allowed);
            few = omega (arith, p.counted, keys_most f.header.cipher f.header.count p.allowed);
            limit = omega (arith, ap length text, p.fits);
          }),
    )

-- accepted, encrypted
pub report_accepted_encrypted :
    (s : List ℕ) (all : AllBytes s) (f : Fields) → read_at s ≡ Ok f → f.section.kind ≡ kind.Encrypted
    → report_of s
    ≡ lines
    (Encrypted f.header.algorithm (bits (public_in s f).modulus) f.header.cipher f.header.kdf (length (view_of s f.section.ciphertext))
    (length (view_of s f.section.tag)) (length s))
report_accepted_encrypted s all f e sealed = go (image_text s all f e)
  where
    image_with : List ℕ → List ℕ
    image_with key =
        encrypted_image f.header.cipher f.header.kdf (view_of s f.header.salt) f.header.rounds key (view_of s f.section.ciphertext)
        (view_of s f.section.tag)

    printed_as : ℕ → List ℕ
    printed_as n =
        lines
        (Encrypted f.header.algorithm (bits (public_in s f).modulus) f.header.cipher f.header.kdf (length (view_of s f.section.ciphertext))
        (length (view_of s f.section.tag)) n)

    go : ImageText s all f e → report_of s ≡ printed_as (length s)
    go (plain_text plain p) = clash (let o : kind.Plain ≡ kind.Encrypted = sym plain ∙ sealed in cc)
    go (encrypted_text encrypted p) =
        let joined : s ≡ image_with (blob f.header.algorithm (public_in s f)) = p.text ∙ ap image_with p.content in
        let limit : length (image_with (blob f.header.algorithm (public_in s f))) ≤ 65535 = omega (arith, ap length joined, p.fits) in
        ap report_of joined
        ∙ report_encrypted f.header.cipher f.header.kdf (view_of s f.header.salt) f.header.rounds f.header.algorithm (public_in s f)
        (view_of s f.section.ciphertext) (view_of s f.section.tag) p.seal_fits limit
        ∙ ap printed_as (sym (ap length joined))

-- refused
pub report_refused : (s : List ℕ) (g : Fault) → read_at s ≡ Err g → report_of s ≡ lines (Refused (number_of g.why) (count_of g.why) g.at)
unfolding report_of summary_of
report_refused s g e = rw e

-- ---- the lines of the keys

-- what is printed of a plain image's key, by its number
abbrev pub key_shown : ℕ → Key → List ℕ
key_shown k x = key_line k x.algorithm (bits x.public.modulus) kind.Plain (length x.comment)

-- of keys, from number k on
abbrev pub keys_shown : ℕ → List Key → List (List ℕ)
keys_shown k [] = []
keys_shown k (x ∷ keys) = key_shown k x ∷ keys_shown (k + 1) keys

lines_are :
    (s : List ℕ) (f : Fields) (k : ℕ) (keys : List Key) → ((i : ℕ) → i < length keys → line_of s f (k + i) ≡ key_shown (k + i) (get_or keys i no_key))
    → lines_from s f k (length keys) ≡ keys_shown k keys
lines_are s f k [] each = refl
lines_are s f k (x ∷ keys) each =
    let here : k + 0 ≡ k = omega arith in
    let first : line_of s f k ≡ key_shown k x = rw here at (each 0 (omega arith)) in
    let others : (i : ℕ) → i < length keys → line_of s f (k + 1 + i) ≡ key_shown (k + 1 + i) (get_or keys i no_key) =
    λ i h. let past : k + suc i ≡ k + 1 + i = omega arith in rw past at (each (suc i) (omega arith)) in
    ap₂ (λ (l : List ℕ) (more : List (List ℕ)). l ∷ more) first (lines_are s f (k + 1) keys others)

-- how far the entries go with one more
next_entry :
    (zs : List ℕ) (keys : List Key) (i : ℕ) → AllFit zs keys → i < length keys
    → entries_length (take (suc i) (standing_entries zs keys))
    ≡ entries_length (take i (standing_entries zs keys)) + (length (get_or (standing_entries zs keys) i (entry [] [])).pair + (4 + length (get_or keys i no_key).comment))
next_entry [] (k ∷ keys) i fits h = elim fits [ ]
next_entry (z ∷ zs) [] i fits h = elim fits [ ]
next_entry [] [] i fits h = absurd (omega arith)
next_entry (z ∷ zs) (k ∷ keys) zero fits h = omega arith
next_entry (z ∷ zs) (k ∷ keys) (suc i) fits h = omega (arith, next_entry zs keys i fits.1 (omega arith))

-- the line of a key that was looked up
line_of_lem :
    (s : List ℕ) (f : Fields) (k : ℕ) (key : KeyFields) (x : Key) → key_numbered s f k ≡ Some key → f.section.kind ≡ kind.Plain → key.algorithm ≡ x.algorithm
    → key.public.bits ≡ bits x.public.modulus → key.comment.length ≡ length x.comment → line_of s f k ≡ key_shown k x
unfolding line_of
line_of_lem s f k key x found plain algorithm size long = rw (found, plain, algorithm, size, long)

line_sealed :
    (s : List ℕ) (f : Fields) (size : ℕ) → key_numbered s f 1 ≡ Some (first_fields f) → f.section.kind ≡ kind.Encrypted → f.header.public.bits ≡ size
    → line_of s f 1 ≡ key_line 1 f.header.algorithm size kind.Encrypted 0
unfolding line_of key_line last_word
line_sealed s f size found sealed same = rw (found, sealed, same)

module _ (s : List ℕ) (all : AllBytes s) (f : Fields) (e : read_at s ≡ Ok f) where
  -- the line of the key that i others stand before
  line_is : (plain : f.section.kind ≡ kind.Plain) (i : ℕ) → i < length (keys_in s f) → line_of s f (1 + i) ≡ key_shown (1 + i) (get_or (keys_in s f) i no_key)
  line_is plain i h =
      let p = keys_of s all f e plain in
      let found = key_lies s f p (1 + i) (omega arith) (omega (arith, p.counted)) in
      let k = found.fields in
      let less : 1 + i - 1 ≡ i = omega arith in
      let l : Lies s (keys_in s f) (p.zeros ∷ p.more_zeros) 39 (f.header.section + 12) i k = rw less at found.lies in
      let long : k.comment.length ≡ length (get_or (keys_in s f) i no_key).comment =
      omega (arith, l.begins_is, l.comment_is, l.past_is, next_entry (p.zeros ∷ p.more_zeros) (keys_in s f) i p.keys_fit h) in
      line_of_lem s f (1 + i) k (get_or (keys_in s f) i no_key) found.looked plain (ap (λ (x : Key). x.algorithm) (sym l.key_is))
      (bits-told s all f e (1 + i) k found.looked ∙ ap (λ (x : Key). bits x.public.modulus) (sym l.key_is)) long

  -- accepted, plain: of each key, in the file's order, its number, its kind, the bits of its modulus and the length of its comment
  pub keys_printed : f.section.kind ≡ kind.Plain → keys_report s ≡ join (keys_shown 1 (keys_in s f))
  unfolding keys_report
  keys_printed plain =
      let p = keys_of s all f e plain in
      rw e (ap (λ (n : ℕ). join (lines_from s f 1 n)) p.counted ∙ ap join (lines_are s f 1 (keys_in s f) (line_is plain)))

  one_key : f.section.kind ≡ kind.Encrypted → f.header.count ≡ 1
  one_key sealed = go (image_text s all f e)
    where
      go : ImageText s all f e → f.header.count ≡ 1
      go (plain_text plain p) = clash (let o : kind.Plain ≡ kind.Encrypted = sym plain ∙ sealed in cc)
      go (encrypted_text encrypted p) = p.one_key

  -- accepted, encrypted: the one key's kind and the bits of its modulus
  pub keys_printed_encrypted : f.section.kind ≡ kind.Encrypted → keys_report s ≡ key_line 1 f.header.algorithm (bits (public_in s f).modulus) kind.Encrypted 0
  unfolding keys_report
  keys_printed_encrypted sealed =
      let found = first_found s all f e in
      let line = line_sealed s f (bits (public_in s f).modulus) found sealed (bits-told s all f e 1 (first_fields f) found) in
      rw e (ap (λ (n : ℕ). join (lines_from s f 1 n)) (one_key sealed) ∙ append-nil (line_of s f 1) ∙ line)

-- refused
pub keys_refused : (s : List ℕ) (g : Fault) → read_at s ≡ Err g → keys_report s ≡ refused_line (number_of g.why) (count_of g.why) g.at
unfolding keys_report
keys_refused s g e = rw e

-- keys that are alike in what is printed of them
abbrev pub SameShown : List Key → List Key → Type 0
SameShown [] [] = Unit {0}
SameShown [] (l ∷ others) = ⊥
SameShown (k ∷ keys) [] = ⊥
SameShown (k ∷ keys) (l ∷ others) =
    (k.algorithm ≡ l.algorithm) × (bits k.public.modulus ≡ bits l.public.modulus) × (length k.comment ≡ length l.comment) × SameShown keys others

same_shown : (k : ℕ) (keys others : List Key) → SameShown keys others → keys_shown k keys ≡ keys_shown k others
same_shown k [] (y ∷ others) same = elim same [ ]
same_shown k (x ∷ keys) [] same = elim same [ ]
same_shown k [] [] same = refl
same_shown k (x ∷ keys) (y ∷ others) same = rw (same.0, same.1, same.2, same_shown (k + 1) keys others same.3)

-- no byte of the file: two plain files whose keys are of the same kinds, bits and comments' lengths have the same lines, whatever their bytes are
pub keys_no_byte :
    (s : List ℕ) (all : AllBytes s) (f : Fields) (e : read_at s ≡ Ok f) → f.section.kind ≡ kind.Plain
    → (t : List ℕ) (all' : AllBytes t) (g : Fields) (e' : read_at t ≡ Ok g) → g.section.kind ≡ kind.Plain
    → SameShown (keys_in s f) (keys_in t g) → keys_report s ≡ keys_report t
keys_no_byte s all f e plain t all' g e' plain' same =
    keys_printed s all f e plain ∙ ap join (same_shown 1 (keys_in s f) (keys_in t g) same) ∙ sym (keys_printed t all' g e' plain')
