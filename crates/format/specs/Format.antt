-- docs/RULES.md, 4 to 6, and OpenSSH's PROTOCOL.key: the container as a list of fields joined. How many zeros stand before a scalar is a
-- parameter, so that each of its readable forms is written here; what the writer puts there is 10.2, and how it fills the section 10.3.
use Rattle.std.specs.Prelude.{ℕ, ◌+◌, ◌-◌, ◌*◌, ◌%◌, ◌≤◌, ◌<◌, ◌^◌, ◌≡◌, Bool, true, false, List, [], ◌∷◌, ◌++◌, map, leb, ltb, eqb, length, take, get_or, replicate}
use Rattle.fields.specs.Bytes.{ascii, uint32, string, join}
use Rattle.names.specs.declared.Cipher.{Cipher}
use Rattle.names.specs.declared.Cipher.TheVariants as cipher
use Rattle.names.specs.declared.Kdf.{Kdf}
use Rattle.names.specs.declared.Kdf.TheVariants as kdf
use Rattle.names.specs.declared.Elliptic.{Elliptic}
use Rattle.names.specs.declared.Elliptic.TheVariants.{Ed25519, Ecdsa}
use Rattle.names.specs.declared.Algorithm.{Algorithm}
use Rattle.names.specs.declared.Algorithm.TheVariants.{Elliptic as OnCurve, Rsa}
use Rattle.names.specs.Ciphers.{cipher_name, kdf_name}
use Rattle.names.specs.Algorithms.{algorithm_name, curve_name, size_of}
use Rattle.mpint.specs.Mpint.{is_mpint, zeros_before, significant, modulus_fits, at_most}

-- AUTH_MAGIC: 15 bytes, the last of them zero
unfoldable pub magic : List ℕ
magic = ascii "openssh-key-v1" ++ 0 ∷ []

-- the KDF's options: none has none, bcrypt a salt and the rounds
abbrev pub options : Kdf → List ℕ → ℕ → List ℕ
options kdf.None salt rounds = []
options kdf.Bcrypt salt rounds = string salt ++ uint32 rounds

-- `none` has no salt and no rounds; bcrypt's rounds are a uint32
abbrev pub OptionsFit : Kdf → List ℕ → ℕ → Type 0
OptionsFit kdf.None salt rounds = (salt ≡ []) × (rounds ≡ 0)
OptionsFit kdf.Bcrypt salt rounds = rounds < 2 ^ 32

-- the bytes of a public key: a point, or Ed25519's public string; or RSA's modulus n and exponent e. It lacks what its kind hasn't.
pub record PublicBytes : Type 0 where
  pub point : List ℕ
  pub modulus : List ℕ
  pub exponent : List ℕ

-- the private bytes: a scalar, a record's without leading zeros, a writer's of SIZE bytes; or Ed25519's seed; or RSA's d, iqmp, p and q
pub record PrivateBytes : Type 0 where
  pub scalar : List ℕ
  pub d : List ℕ
  pub iqmp : List ℕ
  pub p : List ℕ
  pub q : List ℕ

abbrev pub of_point : List ℕ → PublicBytes
of_point point = record { point = point; modulus = []; exponent = [] }

abbrev pub of_scalar : List ℕ → PrivateBytes
of_scalar scalar = record { scalar = scalar; d = []; iqmp = []; p = []; q = [] }

abbrev pub of_modulus : List ℕ → List ℕ → PublicBytes
of_modulus n e = record { point = []; modulus = n; exponent = e }

abbrev pub of_numbers : List ℕ → List ℕ → List ℕ → List ℕ → PrivateBytes
of_numbers d iqmp p q = record { scalar = []; d = d; iqmp = iqmp; p = p; q = q }

-- only ECDSA keys name their curve
abbrev pub curve_field : Elliptic → List ℕ
curve_field Ed25519 = []
curve_field (Ecdsa curve) = string (curve_name curve)

-- the lengths of a public string or point, and of a seed or a scalar as a writer takes it
abbrev pub public_length : Elliptic → ℕ
public_length Ed25519 = 32
public_length (Ecdsa curve) = 1 + 2 * size_of curve

abbrev pub private_length : Elliptic → ℕ
private_length Ed25519 = 32
private_length (Ecdsa curve) = size_of curve

-- an uncompressed point begins with 4
abbrev pub point_tag : Elliptic → List ℕ → Bool
point_tag Ed25519 point = true
point_tag (Ecdsa curve) point = eqb (get_or point 0 0) 4

-- the private bytes: Ed25519's seed and then its public string again, in one string; the scalar as it stands
abbrev pub private_field : Elliptic → List ℕ → List ℕ → List ℕ
private_field Ed25519 point stored = string (stored ++ point)
private_field (Ecdsa curve) point stored = string stored

-- a scalar as it may stand in an image: after so many zeros
abbrev pub standing : ℕ → List ℕ → List ℕ
standing zeros scalar = replicate zeros 0 ++ scalar

-- a public key: the algorithm's name, then Ed25519's public string, or curve and point, or RSA's mpints e and n
abbrev pub public_fields : Algorithm → PublicBytes → List (List ℕ)
public_fields (OnCurve e) key = curve_field e ∷ string key.point ∷ []
public_fields Rsa key = string key.exponent ∷ string key.modulus ∷ []

unfoldable pub blob : Algorithm → PublicBytes → List ℕ
blob a key = join (string (algorithm_name a) ∷ public_fields a key)

-- a keypair: the same with the private bytes after it, or RSA's mpints n, e, d, iqmp, p, q
abbrev pub pair_fields : Algorithm → ℕ → PublicBytes → PrivateBytes → List (List ℕ)
pair_fields (OnCurve e) z key x = curve_field e ∷ string key.point ∷ private_field e key.point (standing z x.scalar) ∷ []
pair_fields Rsa z key x =
    string key.modulus ∷ string key.exponent ∷ string x.d ∷ string x.iqmp ∷ string x.p ∷ string x.q ∷ []

unfoldable pub keypair : Algorithm → ℕ → PublicBytes → PrivateBytes → List ℕ
keypair a zeros key x = join (string (algorithm_name a) ∷ pair_fields a zeros key x)

-- only a scalar may stand after zeros, and takes SIZE + 1 bytes with them at the most
abbrev pub MayStand : Algorithm → ℕ → PrivateBytes → Type 0
MayStand (OnCurve Ed25519) zeros x = zeros ≡ 0
MayStand (OnCurve (Ecdsa curve)) zeros x = zeros + length x.scalar ≤ size_of curve + 1
MayStand Rsa zeros x = zeros ≡ 0

-- ---- a scalar as the writer takes it, of SIZE bytes, and as it is written, the minimal mpint

-- a scalar without its leading zeros, a seed as it is
abbrev pub scalar_bytes : Elliptic → List ℕ → List ℕ
scalar_bytes Ed25519 seed = seed
scalar_bytes (Ecdsa curve) scalar = significant scalar

-- zeros filled in front to SIZE bytes
abbrev pub filled_to : ℕ → List ℕ → List ℕ
filled_to size scalar = standing (size - length scalar) scalar

abbrev pub scalar_filled : Elliptic → List ℕ → List ℕ
scalar_filled Ed25519 seed = seed
scalar_filled (Ecdsa curve) scalar = filled_to (size_of curve) scalar

-- the same of a key of any kind: what of its private bytes is written, and the private bytes for a writer
abbrev pub trimmed : Algorithm → PrivateBytes → PrivateBytes
trimmed (OnCurve e) x = of_scalar (scalar_bytes e x.scalar)
trimmed Rsa x = x

abbrev pub filled : Algorithm → PrivateBytes → PrivateBytes
filled (OnCurve e) x = of_scalar (scalar_filled e x.scalar)
filled Rsa x = x

-- private bytes that can be filled to their kind's length: a seed has it, a scalar at most SIZE
abbrev pub LengthAllowed : Elliptic → List ℕ → Type 0
LengthAllowed Ed25519 seed = length seed ≡ 32
LengthAllowed (Ecdsa curve) scalar = length scalar ≤ size_of curve

-- a scalar that isn't zero; a seed may be
abbrev pub not_zero : Elliptic → List ℕ → Bool
not_zero Ed25519 seed = true
not_zero (Ecdsa curve) scalar = ltb (zeros_before scalar) (length scalar)

-- the writer's rule, for a scalar without its leading zeros: a zero before it exactly if its first byte is 0x80 or more
abbrev pub leading_zero : List ℕ → Bool
leading_zero scalar = leb 0x80 (get_or scalar 0 0)

-- a seed has none
abbrev pub scalar_zero : Elliptic → List ℕ → Bool
scalar_zero Ed25519 seed = false
scalar_zero (Ecdsa curve) scalar = leading_zero scalar

-- nor has RSA
abbrev pub needs_leading_zero : Algorithm → PrivateBytes → Bool
needs_leading_zero (OnCurve e) x = scalar_zero e x.scalar
needs_leading_zero Rsa x = false

-- a zero takes one byte
abbrev pub zero_length : Bool → ℕ
zero_length true = 1
zero_length false = 0

abbrev pub zeros_asked : Algorithm → PrivateBytes → ℕ
zeros_asked a x = zero_length (needs_leading_zero a x)

-- the minimal mpint of a scalar
abbrev pub minimal : List ℕ → List ℕ
minimal scalar = standing (zero_length (leading_zero (significant scalar))) (significant scalar)

-- it is what is written; a seed is written as it is
abbrev pub written_scalar : Elliptic → List ℕ → List ℕ
written_scalar e scalar = standing (zero_length (scalar_zero e (scalar_bytes e scalar))) (scalar_bytes e scalar)

-- a keypair as the writer writes it
abbrev pub written_pair : Algorithm → PublicBytes → PrivateBytes → List ℕ
written_pair a key x = keypair a (zeros_asked a (trimmed a x)) key (trimmed a x)

-- RSA's sizes: the modulus has 1,024 to 8,192 bits, every other number at most as many as that modulus
pub record ModulusFits (n e : List ℕ) : Type 0 where
  pub modulus : is_mpint n ≡ true
  pub exponent : is_mpint e ≡ true
  pub size : modulus_fits n ≡ true
  pub exponent_size : at_most e n ≡ true

pub record NumbersFit (n d iqmp p q : List ℕ) : Type 0 where
  pub mpint_d : is_mpint d ≡ true
  pub mpint_iqmp : is_mpint iqmp ≡ true
  pub mpint_p : is_mpint p ≡ true
  pub mpint_q : is_mpint q ≡ true
  pub size_d : at_most d n ≡ true
  pub size_iqmp : at_most iqmp n ≡ true
  pub size_p : at_most p n ≡ true
  pub size_q : at_most q n ≡ true

-- bytes that fit their kind, and no others
abbrev pub PublicFits : Algorithm → PublicBytes → Type 0
PublicFits (OnCurve e) key =
    (length key.point ≡ public_length e) × (point_tag e key.point ≡ true) × (key ≡ of_point key.point)
PublicFits Rsa key = ModulusFits key.modulus key.exponent × (key ≡ of_modulus key.modulus key.exponent)

-- a seed of its length; a scalar of 1 to SIZE bytes, the first of them not zero
abbrev pub ScalarFits : Elliptic → List ℕ → Type 0
ScalarFits Ed25519 seed = length seed ≡ 32
ScalarFits (Ecdsa curve) scalar = (length scalar ≤ size_of curve) × (0 < get_or scalar 0 0)

abbrev pub PrivateFits : Algorithm → PublicBytes → PrivateBytes → Type 0
PrivateFits (OnCurve e) key x = ScalarFits e x.scalar × (x ≡ of_scalar x.scalar)
PrivateFits Rsa key x = NumbersFit key.modulus x.d x.iqmp x.p x.q × (x ≡ of_numbers x.d x.iqmp x.p x.q)

-- PADDING_BYTES: 1, 2, 3 and so on; a padding has fewer than 8 bytes
abbrev pub padding_bytes : List ℕ
padding_bytes = 1 ∷ 2 ∷ 3 ∷ 4 ∷ 5 ∷ 6 ∷ 7 ∷ []

-- the fewest bytes that take n to a multiple of 8
abbrev pub padding_length : ℕ → ℕ
padding_length n = (8 - n % 8) % 8

-- ---- an image of several keys

-- what stands in a section of one key: its keypair and its comment
pub record Entry : Type 0 where
  pub pair : List ℕ
  pub comment : List ℕ

abbrev pub entry : List ℕ → List ℕ → Entry
entry pair comment = record { pair = pair; comment = comment }

-- the public blobs, one string each
abbrev pub blob_fields : List (List ℕ) → List (List ℕ)
blob_fields [] = []
blob_fields (key ∷ more) = string key ∷ blob_fields more

-- the entries of a section, in the same order
abbrev pub entry_fields : List Entry → List (List ℕ)
entry_fields [] = []
entry_fields (e ∷ more) = e.pair ∷ string e.comment ∷ entry_fields more

-- a plain section: the checkint twice, keypair and comment of each key, one padding
unfoldable pub content : ℕ → List Entry → List ℕ
content checkint entries = join (uint32 checkint ∷ uint32 checkint ∷ entry_fields entries)

unfoldable pub section : ℕ → List Entry → List ℕ
section checkint entries = content checkint entries ++ take (padding_length (length (content checkint entries))) padding_bytes

-- the header, up to and with the last public blob
unfoldable pub header : Cipher → Kdf → List ℕ → ℕ → List (List ℕ) → List ℕ
header cipher kdf salt rounds keys =
    join
    (magic
    ∷ string (cipher_name cipher)
    ∷ string (kdf_name kdf)
    ∷ string (options kdf salt rounds)
    ∷ uint32 (length keys)
    ∷ blob_fields keys)

-- an image with a plain section, of the public blobs `keys`, and of an entry for each
unfoldable pub plain_image : ℕ → List (List ℕ) → List Entry → List ℕ
plain_image checkint keys entries =
    join (header cipher.None kdf.None [] 0 keys ∷ string (section checkint entries) ∷ [])

-- a key with its comment, as a writer takes them and a record gives them
pub record Key : Type 0 where
  pub algorithm : Algorithm
  pub public : PublicBytes
  pub private : PrivateBytes
  pub comment : List ℕ

abbrev pub key_blob : Key → List ℕ
key_blob k = blob k.algorithm k.public

-- a key's entry, so many zeros before its scalar; and as the writer writes it
abbrev pub standing_entry : ℕ → Key → Entry
standing_entry zeros k = entry (keypair k.algorithm zeros k.public k.private) k.comment

abbrev pub written_entry : Key → Entry
written_entry k = entry (written_pair k.algorithm k.public k.private) k.comment

-- keys' entries, so many zeros before the scalar of each
abbrev pub standing_entries : List ℕ → List Key → List Entry
standing_entries [] keys = []
standing_entries (z ∷ more) [] = []
standing_entries (z ∷ more) (k ∷ keys) = standing_entry z k ∷ standing_entries more keys

-- the image that the writer makes: each scalar stands as the minimal mpint
unfoldable pub written_image : ℕ → List Key → List ℕ
written_image checkint keys = plain_image checkint (map key_blob keys) (map written_entry keys)

-- one key is the list of one
abbrev pub key_of : Algorithm → PublicBytes → PrivateBytes → List ℕ → Key
key_of a key x comment = record { algorithm = a; public = key; private = x; comment = comment }

-- a key as a writer takes it, its scalar filled with zeros
abbrev pub filled_key : Key → Key
filled_key k = key_of k.algorithm k.public (filled k.algorithm k.private) k.comment

abbrev pub alone : {A : Type 0} → A → List A
alone x = x ∷ []

-- an encrypted image has one key; the tag stands outside the ciphertext's string
unfoldable pub encrypted_image : Cipher → Kdf → List ℕ → ℕ → List ℕ → List ℕ → List ℕ → List ℕ
encrypted_image cipher kdf salt rounds key ciphertext tag =
    join (header cipher kdf salt rounds (alone key) ∷ string ciphertext ∷ tag ∷ [])
