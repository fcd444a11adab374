-- docs/RULES.md, 6.5 and 10.2: short scalars, on every curve by one proof for any SIZE, of every key of a file of 1 to 16. Which bytes may be a
-- scalar's string, what is read of them and which are in the form; what the writer makes of scalars; that keys as the old writer wrote them, with
-- leading zeros kept, are read.
use Rattle.std.specs.Prelude.{ℕ, zero, suc, ◌+◌, ◌-◌, ◌≤◌, ◌<◌, ◌^◌, ◌≡◌, refl, Bool, true, false, ◌&&◌, List, [], ◌∷◌, map, eqb, ltb, leb, length, get_or, Ok, Err}
use Rattle.std.proofs.Common.{arith, sym, ◌∙◌, ap, ap₂, eq-eqb, ne_eqb, eqb-true, lt-ltb, le-ltb, le-leb, leb-true, ltb-true, ltb-false, get_or-drop}
use Rattle.std.proofs.lemmas.Bool.{eqb-false, lt-leb}
use Rattle.std.proofs.lemmas.List.{length-map}
use Rattle.fields.specs.Bytes.{AllBytes}
use Rattle.fields.specs.Fields.{fault, string_at, view_of}
use Rattle.fields.specs.Place.{clash, by_bool, string_place}
use Rattle.fields.specs.Rest.{view_length}
use Rattle.fields.specs.declared.Cursor.{Cursor}
use Rattle.fields.specs.declared.Part.{Part}
use Rattle.fields.specs.declared.Refusal.{Refusal}
use Rattle.fields.specs.declared.Refusal.TheVariants.{Length, FormatEncoding, TrailingData, CharacterEncoding}
use Rattle.names.specs.declared.Elliptic.TheVariants.{Ed25519, Ecdsa}
use Rattle.names.specs.declared.Algorithm.{Algorithm}
use Rattle.names.specs.declared.Algorithm.TheVariants.{Elliptic as OnCurve, Rsa}
use Rattle.names.specs.declared.Curve.{Curve}
use Rattle.names.specs.Algorithms.{size_of}
use Rattle.utf8.specs.Utf8.{utf8}
use Rattle.mpint.specs.Mpint.{value, is_mpint, zeros_before, significant}
use Rattle.mpint.specs.Laws.{mpint_same}
use Rattle.format.specs.Format.{PublicBytes, PrivateBytes, of_scalar, standing, minimal, leading_zero, zero_length, not_zero, trimmed, PublicFits, PrivateFits, MayStand, keypair, written_pair, Key, key_of, key_blob, Entry, entry, standing_entry, standing_entries, written_entry, plain_image, written_image}
use Rattle.format.specs.Scalars.{standing_again, significant-length, significant_first, value-standing, minimal_mpint, minimal-value}
use Rattle.key_pairs.specs.Pairs.{is_scalar, scalar_at}
use Rattle.key_pairs.specs.Scalar.{scalar_some, scalar_short, scalar_stands_lem}
use Rattle.reader_entries.specs.Entries.{no_key}
use Rattle.reader_entries.specs.Back.{KeyFits, AllFit}
use Rattle.reader_section.specs.declared.Kind.TheVariants.{Plain}
use Rattle.reader_image.specs.declared.Fields.{Fields}
use Rattle.reader_image.specs.Container.{keys_in, read_at}
use Rattle.reader_image.specs.Form.{form_of}
use Rattle.writer_reply.specs.Reply.{sized, Written}
use Rattle.writer_plain.specs.Plain.{key_checked, keys_checked, keys_reply}
use Rattle.claims.specs.Reading.{held, elliptic_held, key_held, trimmed_key, blobs_trimmed, image_of, Within, plain_admitted}
use Rattle.claims.specs.Form.{key_in, scalar_in, Stands, is_minimal, all_minimal, fit_at, ecdsa_there, ecdsa_fits, ecdsa_may, keys_minimal, keys_form, stands_fit, stands_some}

-- ---- what is read

-- an image of keys in which each scalar's string stands as it is handed in, zeros and all
abbrev pub stored_image : ℕ → List Key → List ℕ
stored_image n keys = plain_image n (map key_blob keys) (map (standing_entry 0) keys)

-- that of an ECDSA key may be any that a scalar's may be; the private bytes of the other kinds fit
abbrev pub StoredFits : Algorithm → PublicBytes → PrivateBytes → Type 0
StoredFits (OnCurve Ed25519) key x = PrivateFits (OnCurve Ed25519) key x
StoredFits (OnCurve (Ecdsa k)) key x = (is_scalar (size_of k) x.scalar ≡ true) × (length x.scalar ≤ size_of k + 1) × (x ≡ of_scalar x.scalar)
StoredFits Rsa key x = PrivateFits Rsa key x

abbrev pub AllStored : List Key → Type 0
AllStored [] = Unit {0}
AllStored (k ∷ keys) =
    (PublicFits k.algorithm k.public × StoredFits k.algorithm k.public k.private × (utf8 k.comment ≡ true)) × AllStored keys

-- whether every ECDSA key's string is RFC 4251's mpint
abbrev pub stored_minimal : List Key → Bool
stored_minimal [] = true
stored_minimal (k ∷ keys) = is_minimal k.algorithm 0 k.private && stored_minimal keys

-- such an image is read, each scalar without its leading zeros, and is in the form or not
pub record ReadAs (s : List ℕ) (n : ℕ) (keys : List Key) (form : Bool) : Type 0 where
  pub fields : Fields
  pub read : read_at s ≡ Ok fields
  pub plain : fields.section.kind ≡ Plain
  pub checkint : fields.section.checkint ≡ n
  pub same_keys : keys_in s fields ≡ map trimmed_key keys
  pub form_is : form_of s fields ≡ form

-- the zeros before a scalar in its string
abbrev string_zeros : Algorithm → PrivateBytes → ℕ
string_zeros (OnCurve Ed25519) x = 0
string_zeros (OnCurve (Ecdsa k)) x = zeros_before x.scalar
string_zeros Rsa x = 0

abbrev pub key_string_zeros : Key → ℕ
key_string_zeros k = string_zeros k.algorithm k.private

pair_stored : (a : Algorithm) (key : PublicBytes) (x : PrivateBytes) → keypair a 0 key x ≡ keypair a (string_zeros a x) key (trimmed a x)
unfolding keypair
pair_stored (OnCurve Ed25519) key x = refl
pair_stored (OnCurve (Ecdsa k)) key x = rw (standing_again x.scalar)
pair_stored Rsa key x = refl

-- so its entry is that of the key as a record tells it, after so many zeros
pub entry-stored : (k : Key) → standing_entry 0 k ≡ standing_entry (key_string_zeros k) (trimmed_key k)
entry-stored k = ap (λ (pair : List ℕ). entry pair k.comment) (pair_stored k.algorithm k.public k.private)

entries_stored : (keys : List Key) → map (standing_entry 0) keys ≡ standing_entries (map key_string_zeros keys) (map trimmed_key keys)
entries_stored [] = refl
entries_stored (k ∷ keys) = ap₂ (λ (e : Entry) (l : List Entry). e ∷ l) (entry-stored k) (entries_stored keys)

private_stored :
    (a : Algorithm) (key : PublicBytes) (x : PrivateBytes) → StoredFits a key x → PrivateFits a key (trimmed a x) × MayStand a (string_zeros a x) (trimmed a x)
private_stored (OnCurve Ed25519) key x fits = ((fits.0, refl), refl)
private_stored (OnCurve (Ecdsa k)) key x fits =
    let stored = x.scalar in
    let some = scalar_some (size_of k) stored fits.0 in
    let first = significant_first stored some in
    let left = significant-length stored in
    let short : length (significant stored) ≤ size_of k = omega (arith, left, scalar_short (size_of k) stored fits.0 fits.1) in
    let may : zeros_before stored + length (significant stored) ≤ size_of k + 1 = omega (arith, left, some, fits.1) in
    (((short, first), refl), may)
private_stored Rsa key x fits = (fits, refl)

-- and fits
pub key_stored :
    (k : Key) → PublicFits k.algorithm k.public × StoredFits k.algorithm k.public k.private × (utf8 k.comment ≡ true)
    → KeyFits k.algorithm (key_string_zeros k) k.public (trimmed_key k).private k.comment
key_stored k fits =
    let p = private_stored k.algorithm k.public k.private fits.1 in
    record { public = fits.0; private = p.0; may = p.1; text = fits.2 }

keys_stored : (keys : List Key) → AllStored keys → AllFit (map key_string_zeros keys) (map trimmed_key keys)
keys_stored [] fits = tt
keys_stored (k ∷ keys) fits = (key_stored k fits.0, keys_stored keys fits.1)

-- as many zeros as the rule asks for stand exactly where the string is an mpint
minimal-stored : (a : Algorithm) (x : PrivateBytes) → is_minimal a (string_zeros a x) (trimmed a x) ≡ is_minimal a 0 x
minimal-stored (OnCurve Ed25519) x = refl
minimal-stored (OnCurve (Ecdsa k)) x = ap is_mpint (standing_again x.scalar)
minimal-stored Rsa x = refl

all_minimal_lem : (keys : List Key) → all_minimal (map key_string_zeros keys) (map trimmed_key keys) ≡ stored_minimal keys
all_minimal_lem [] = refl
all_minimal_lem (k ∷ keys) = ap₂ ◌&&◌ (minimal-stored k.algorithm k.private) (all_minimal_lem keys)

-- every string that may be a scalar's is read, of any key of a file, and the file is in the form exactly if each is RFC 4251's mpint
pub reads_stored :
    (n : ℕ) (k : Key) (others : List Key) → n < 2 ^ 32 → AllStored (k ∷ others) → length others ≤ 15 → length (stored_image n (k ∷ others)) ≤ 65535
    → ReadAs (stored_image n (k ∷ others)) n (k ∷ others) (stored_minimal (k ∷ others))
reads_stored n k others fit fits few small =
    let keys = k ∷ others in
    let zs = map key_string_zeros keys in
    let told = map trimmed_key keys in
    let s = stored_image n keys in
    let stands : s ≡ image_of n zs told = ap₂ (plain_image n) (blobs_trimmed keys) (entries_stored keys) in
    let many : length (map trimmed_key others) ≡ length others = length-map others trimmed_key in
    let within : Within n zs told =
    record {
      checkint_fits = fit;
      keys_fit = keys_stored keys fits;
      some = omega arith;
      few = omega (arith, many);
      limit = omega (arith, ap length stands);
    } in
    let b = plain_admitted n (key_string_zeros k) (map key_string_zeros others) (trimmed_key k) (map trimmed_key others) within in
    rw stands
    (record {
      fields = b.fields;
      read = b.read;
      plain = b.plain;
      checkint = b.same_checkint;
      same_keys = b.same_keys;
      form_is =
          keys_form (image_of n zs told) b.fields n zs told b.plain b.same_checkint b.same_keys (keys_stored keys fits) refl
          ∙ keys_minimal zs told (keys_stored keys fits) ∙ all_minimal_lem keys;
    })

-- and no other: of every ECDSA key in an accepted plain image, of the one that i others stand before, the string in the image, zeros and scalar, is one that may
-- be a scalar's; the scalar has 1 to SIZE bytes and no leading zero, and stands for the string's number
pub record ScalarTold (s : List ℕ) (f : Fields) (i : ℕ) (k : Curve) : Type 0 where
  pub zeros : List ℕ
  pub stands : Stands s f zeros
  pub short : length (scalar_in s f i) ≤ size_of k
  pub first : 0 < get_or (scalar_in s f i) 0 0
  pub stored : is_scalar (size_of k) (standing (get_or zeros i 0) (scalar_in s f i)) ≡ true
  pub number : value (standing (get_or zeros i 0) (scalar_in s f i)) ≡ value (scalar_in s f i)

pub scalar_told :
    (s : List ℕ) (all : AllBytes s) (f : Fields) → read_at s ≡ Ok f → f.section.kind ≡ Plain → (i : ℕ) (k : Curve)
    → (key_in s f i).algorithm ≡ OnCurve (Ecdsa k) → ScalarTold s f i k
scalar_told s all f e plain i k q =
    let z = stands_some s all f e plain in
    let key = key_in s f i in
    let there = ecdsa_there (keys_in s f) i k q in
    let fits = fit_at z.0 (keys_in s f) (stands_fit s all f e plain z.0 z.1) i there in
    let zeros = get_or z.0 i 0 in
    let scalar = ecdsa_fits key.algorithm key.public key.private k q fits.private in
    let may = ecdsa_may key.algorithm key.private k q zeros fits.may in
    record {
      zeros = z.0;
      stands = z.1;
      short = scalar.0;
      first = scalar.1;
      stored = scalar_stands_lem (size_of k) zeros (scalar_in s f i) scalar.1 scalar.0 may;
      number = value-standing zeros (scalar_in s f i);
    }

-- why a string isn't a scalar's, at any size, and how far from its field's beginning that is: empty 1; above size + 1 bytes 6, with the
-- bytes above size, at the first of them; any other that isn't one, as zeros alone, 2
pub data NoScalar (size : ℕ) (stored : List ℕ) : Refusal → ℕ → Type 0 where
  no_bytes : length stored ≡ 0 → NoScalar size stored Length 0
  too_long : size + 1 < length stored → NoScalar size stored (TrailingData (length stored - size)) (4 + size)
  unlike : 0 < length stored → length stored ≤ size + 1 → is_scalar size stored ≡ false → NoScalar size stored FormatEncoding 0

-- every string is a scalar's or has one of these
pub scalar_or_not :
    (size : ℕ) (stored : List ℕ) {P : Type 0} → (is_scalar size stored ≡ true → length stored ≤ size + 1 → P)
    → ((why : Refusal) (off : ℕ) → NoScalar size stored why off → P) → P
scalar_or_not size stored yes' no' =
    by_bool (eqb (length stored) 0)
    (λ u. no' Length 0 (no_bytes (eqb-true (length stored) 0 u)))
    (λ u.
    by_bool (ltb (size + 1) (length stored))
    (λ v. no' (TrailingData (length stored - size)) (4 + size) (too_long (ltb-true (size + 1) (length stored) v)))
    (λ v.
    let some = eqb-false (length stored) 0 u in
    let short = ltb-false (size + 1) (length stored) v in
    by_bool (is_scalar size stored)
    (λ w. yes' w short)
    (λ w. no' FormatEncoding 0 (unlike (omega (arith, some)) short w))))

-- a field with such a string is refused so
pub scalar_refused :
    (s : List ℕ) (c : Cursor) (size : ℕ) (p : Part) (d : Cursor) → string_at s c ≡ Ok (p, d) → (why : Refusal) (off : ℕ)
    → NoScalar size (view_of s p) why off → scalar_at s c size ≡ Err (fault why (c.at + off))
unfolding scalar_at
scalar_refused s c size p d e why off no' =
    let place = string_place s c p d e in
    let size_is : length (view_of s p) ≡ p.length = view_length s p (omega (arith, place.placed)) in
    by_why why off no' size_is
  where
    by_why :
        (because : Refusal) (by : ℕ) → NoScalar size (view_of s p) because by → length (view_of s p) ≡ p.length
        → scalar_at s c size ≡ Err (fault because (c.at + by))
    by_why _ _ (no_bytes none) is =
        rw (e, eq-eqb p.length 0 (sym is ∙ none)) (ap (λ (i : ℕ). Err (fault Length i)) (omega arith))
    by_why _ _ (too_long more) is =
        let at-is : c.at + 4 + size ≡ c.at + (4 + size) = omega arith in
        rw (e, ne_eqb p.length 0 (λ z. omega (arith, is, more, z)), lt-ltb (size + 1) p.length (omega (arith, is, more)), is, at-is)
    by_why _ _ (unlike some short not_one) is =
        rw (e, ne_eqb p.length 0 (λ z. omega (arith, is, some, z)), le-ltb (size + 1) p.length (omega (arith, is, short)), not_one)
        (ap (λ (i : ℕ). Err (fault FormatEncoding i)) (omega arith))

-- zeros alone aren't a scalar's
pub zeros_alone : (size : ℕ) (stored : List ℕ) → zeros_before stored ≡ length stored → is_scalar size stored ≡ false
unfolding is_scalar
zeros_alone size stored zeros = rw (le-ltb (zeros_before stored) (length stored) (omega arith))

-- nor are size + 1 bytes that don't begin with a zero
pub no_zero-first : (size : ℕ) (stored : List ℕ) → length stored ≡ size + 1 → 0 < get_or stored 0 0 → is_scalar size stored ≡ false
unfolding is_scalar
no_zero-first size stored long first =
    rw (lt-leb (length stored) size (omega arith), ne_eqb (get_or stored 0 0) 0 (λ z. omega arith))
    (by_bool (ltb (zeros_before stored) (length stored)) (λ w. rw w) (λ w. rw w))

-- ---- what is written

all_standing : (zeros : ℕ) (x : List ℕ) → AllBytes x → AllBytes (standing zeros x)
all_standing zero x all i = all i
all_standing (suc n) x all zero = omega arith
all_standing (suc n) x all (suc i) = all_standing n x all i

all_significant : (x : List ℕ) → AllBytes x → AllBytes (significant x)
unfolding significant
all_significant x all i = rw (get_or-drop (zeros_before x) x i 0) (all (zeros_before x + i))

-- the key whose ECDSA scalar is the minimal mpint
abbrev minimal_private : Algorithm → PrivateBytes → PrivateBytes
minimal_private (OnCurve Ed25519) x = x
minimal_private (OnCurve (Ecdsa k)) x = of_scalar (minimal x.scalar)
minimal_private Rsa x = x

abbrev pub minimal_key : Key → Key
minimal_key k = key_of k.algorithm k.public (minimal_private k.algorithm k.private) k.comment

pair_minimal : (a : Algorithm) (key : PublicBytes) (x : PrivateBytes) → written_pair a key x ≡ keypair a 0 key (minimal_private a x)
unfolding keypair
pair_minimal (OnCurve Ed25519) key x = refl
pair_minimal (OnCurve (Ecdsa k)) key x = refl
pair_minimal Rsa key x = refl

entries_minimal : (keys : List Key) → map written_entry keys ≡ map (standing_entry 0) (map minimal_key keys)
entries_minimal [] = refl
entries_minimal (k ∷ keys) =
    ap₂ (λ (pair : List ℕ) (l : List Entry). entry pair k.comment ∷ l) (pair_minimal k.algorithm k.public k.private) (entries_minimal keys)

blobs_minimal : (keys : List Key) → map key_blob keys ≡ map key_blob (map minimal_key keys)
blobs_minimal [] = refl
blobs_minimal (k ∷ keys) = ap (λ (l : List (List ℕ)). key_blob k ∷ l) (blobs_minimal keys)

-- it is RFC 4251's mpint of the scalar's number, and there is no other
pub record MinimalOf (x : List ℕ) : Type 0 where
  pub mpint : is_mpint (minimal x) ≡ true
  pub number : value (minimal x) ≡ value x
  pub only : (b : List ℕ) → AllBytes b → is_mpint b ≡ true → value b ≡ value x → b ≡ minimal x

minimal_of : (x : List ℕ) → AllBytes x → zeros_before x < length x → MinimalOf x
minimal_of x all some =
    let mpint = minimal_mpint x some in
    let bytes = all_standing (zero_length (leading_zero (significant x))) (significant x) (all_significant x all) in
    record {
      mpint = mpint;
      number = minimal-value x;
      only = λ b bytes-b m v. mpint_same b (minimal x) bytes-b bytes m mpint (v ∙ sym (minimal-value x));
    }

-- in what is written of keys, so stands the scalar of every ECDSA key
pub record Minimal (n : ℕ) (keys : List Key) : Type 0 where
  pub image : written_image n keys ≡ stored_image n (map minimal_key keys)
  pub each : (i : ℕ) (k : Curve) → (get_or keys i no_key).algorithm ≡ OnCurve (Ecdsa k) → MinimalOf (get_or keys i no_key).private.scalar

-- each key's scalar is bytes
abbrev pub AllScalars : List Key → Type 0
AllScalars [] = Unit {0}
AllScalars (k ∷ keys) = AllBytes k.private.scalar × AllScalars keys

key_minimal :
    (a : Algorithm) (key : PublicBytes) (x : PrivateBytes) (next : Written) (size : ℕ) (k : Curve) → a ≡ OnCurve (Ecdsa k) → AllBytes x.scalar
    → key_checked a key x next ≡ Ok size → MinimalOf x.scalar
key_minimal a key x next size k q all e =
    let w : key_checked (OnCurve (Ecdsa k)) key x next ≡ Ok size = rw q at e in
    minimal_of x.scalar all (ltb-true (zeros_before x.scalar) (length x.scalar) (elliptic_held (Ecdsa k) key x next size w).some)

each_minimal :
    (keys : List Key) (next : Written) (size : ℕ) → AllScalars keys → keys_checked keys next ≡ Ok size → (i : ℕ) (k : Curve)
    → (get_or keys i no_key).algorithm ≡ OnCurve (Ecdsa k) → MinimalOf (get_or keys i no_key).private.scalar
unfolding keys_checked
each_minimal [] next size all e i k q = clash (let o : OnCurve Ed25519 ≡ OnCurve (Ecdsa k) = q in cc)
each_minimal (x ∷ keys) next size all e zero k q = key_minimal x.algorithm x.public x.private _ size k q all.0 e
each_minimal (x ∷ keys) next size all e (suc i) k q =
    let h₁ = key_held x.algorithm x.public x.private _ size e in
    let h₂ = held (utf8 x.comment) CharacterEncoding (keys_checked keys next) size h₁.1 in
    each_minimal keys next size all.1 h₂.1 i k q

pub written_minimal :
    (keys : List Key) (n room size : ℕ) → AllScalars keys → keys_reply keys n room ≡ Ok size → Minimal n keys
unfolding keys_reply written_image
written_minimal keys n room size all e =
    let few = leb 1 (length keys) && leb (length keys) 16 in
    let passed = held few Length (keys_checked keys (sized (written_image n keys) room)) size e in
    record {
      image = ap₂ (plain_image n) (blobs_minimal keys) (entries_minimal keys);
      each = each_minimal keys (sized (written_image n keys) room) size all passed.1;
    }

-- ---- the old writer's files

-- it wrote all SIZE bytes of a scalar, after a zero where the first is 0x80 or more
abbrev pub old_scalar : List ℕ → List ℕ
old_scalar x = standing (zero_length (leading_zero x)) x

abbrev old_private : Algorithm → PrivateBytes → PrivateBytes
old_private (OnCurve Ed25519) x = x
old_private (OnCurve (Ecdsa k)) x = of_scalar (old_scalar x.scalar)
old_private Rsa x = x

abbrev pub old_key : Key → Key
old_key k = key_of k.algorithm k.public (old_private k.algorithm k.private) k.comment

-- a key as it took it
abbrev pub OldFits : Algorithm → PublicBytes → PrivateBytes → Type 0
OldFits (OnCurve Ed25519) key x = PrivateFits (OnCurve Ed25519) key x
OldFits (OnCurve (Ecdsa k)) key x = (length x.scalar ≡ size_of k) × (not_zero (Ecdsa k) x.scalar ≡ true)
OldFits Rsa key x = PrivateFits Rsa key x

abbrev pub AllOld : List Key → Type 0
AllOld [] = Unit {0}
AllOld (k ∷ keys) =
    (PublicFits k.algorithm k.public × OldFits k.algorithm k.public k.private × (utf8 k.comment ≡ true)) × AllOld keys

old_scalar_lem : (k : Curve) (x : List ℕ) → length x ≡ size_of k → not_zero (Ecdsa k) x ≡ true → (is_scalar (size_of k) (old_scalar x) ≡ true) × (length (old_scalar x) ≤ size_of k + 1)
unfolding is_scalar
old_scalar_lem k x long some =
    by_bool (leading_zero x)
    (λ w.
    let first : 0 < get_or x 0 0 = omega (arith, leb-true 0x80 (get_or x 0 0) w) in
    rw w (scalar_stands_lem (size_of k) 1 x first (omega arith) (omega arith), omega arith))
    (λ w. rw w (rw (some, le-leb (length x) (size_of k) (omega arith)), omega arith))

old_fits : (a : Algorithm) (key : PublicBytes) (x : PrivateBytes) → OldFits a key x → StoredFits a key (old_private a x)
old_fits (OnCurve Ed25519) key x fits = fits
old_fits (OnCurve (Ecdsa k)) key x fits = let is = old_scalar_lem k x.scalar fits.0 fits.1 in (is.0, is.1, refl)
old_fits Rsa key x fits = fits

all_old : (keys : List Key) → AllOld keys → AllStored (map old_key keys)
all_old [] fits = tt
all_old (k ∷ keys) fits =
    ((fits.0.0, old_fits k.algorithm k.public k.private fits.0.1, fits.0.2), all_old keys fits.1)

-- keys that stand as it wrote them are read, in files of one, which it wrote, and of several; such a file is in the form exactly if what it has
-- is mpints
pub old_read :
    (n : ℕ) (k : Key) (others : List Key) → n < 2 ^ 32 → AllOld (k ∷ others) → length others ≤ 15
    → length (stored_image n (map old_key (k ∷ others))) ≤ 65535
    → ReadAs (stored_image n (map old_key (k ∷ others))) n (map old_key (k ∷ others)) (stored_minimal (map old_key (k ∷ others)))
old_read n k others fit fits few small =
    reads_stored n (old_key k) (map old_key others) fit (all_old (k ∷ others) fits) (omega (arith, length-map others old_key)) small
