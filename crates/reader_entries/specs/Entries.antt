-- docs/RULES.md, 5.3 to 5.5, and of the places 7.3: what reading the keys of a plain section finds, in order. RSA keys are compared by n and e.
use Rattle.std.specs.Prelude.{ℕ, zero, suc, List, [], ◌∷◌, Bool, cond, ◌&&◌, length, Ok, Err, Option, Some, None}
use Rattle.fields.specs.Bytes.{same_bytes}
use Rattle.fields.specs.Fields.{fault, on_read, string_at, view_of, Read}
use Rattle.fields.specs.declared.Cursor.{Cursor}
use Rattle.fields.specs.declared.Fault.{Fault}
use Rattle.fields.specs.declared.Part.{Part}
use Rattle.fields.specs.declared.Refusal.TheVariants.{PublicKey, CharacterEncoding}
use Rattle.names.specs.declared.Algorithm.{Algorithm}
use Rattle.names.specs.declared.Algorithm.TheVariants.{Elliptic as OnCurve}
use Rattle.names.specs.declared.Elliptic.TheVariants.{Ed25519}
use Rattle.names.specs.Algorithms.{same_algorithm}
use Rattle.utf8.specs.Utf8.{utf8}
use Rattle.format.specs.Format.{Key, key_of, of_point, of_scalar}
use Rattle.key_public.specs.declared.Public.{Public}
use Rattle.key_public.specs.Keys.{public_bytes}
use Rattle.key_pairs.specs.declared.Private.{Private}
use Rattle.key_pairs.specs.Pairs.{on_keypair, private_bytes, keypair_at}
use Rattle.places.specs.declared.Places.{Places}
use Rattle.places.specs.Places.{places_of}
use Rattle.reader_blobs.specs.Blobs.{on_blob_field, blob_field_at}
use Rattle.reader_entries.specs.declared.KeyFields.{KeyFields}

-- by what was read
abbrev pub on_entry : {R : Type 0} → Read (Private × Part) → (Fault → R) → (Private → Part → Cursor → R) → R
on_entry (Err f) refused key = refused f
on_entry (Ok ((private, comment), c)) refused key = key private comment c

-- the same public key, kind included: what a kind lacks has no bytes
unfoldable pub same_key : List ℕ → Algorithm → Public → Algorithm → Public → Bool
same_key s a p b q =
    same_algorithm a b
    && same_bytes (view_of s p.point) (view_of s q.point)
    && same_bytes (view_of s p.modulus) (view_of s q.modulus)
    && same_bytes (view_of s p.exponent) (view_of s q.exponent)

-- keypair; public key unlike the header's: 5, at the keypair's name; comment string; not UTF-8: 7
unfoldable pub entry_at : List ℕ → Cursor → Algorithm → Public → Read (Private × Part)
entry_at s c algorithm public =
    on_keypair (keypair_at s c) Err (λ a p private d.
    cond (same_key s a p algorithm public)
    (on_read (string_at s d) Err (λ comment e.
    cond (utf8 (view_of s comment)) (Ok ((private, comment), e)) (Err (fault CharacterEncoding d.at))))
    (Err (fault PublicKey c.at)))

-- a key, compared with the blob of its number: the places after both
pub data Next : Type 0 where
  Next-key : Cursor → Cursor → Next
  Next-not : Fault → Next

abbrev pub on_next : {R : Type 0} → Next → (Fault → R) → (Cursor → Cursor → R) → R
on_next (Next-not f) refused key = refused f
on_next (Next-key d e) refused key = key d e

unfoldable pub next_at : List ℕ → Cursor → Cursor → Next
next_at s c b =
    on_blob_field (blob_field_at s b) Next-not (λ algorithm p public e.
    on_entry (entry_at s c algorithm public) Next-not (λ private comment d.
    Next-key d e))

-- where each of so many keys begins, and the place after the last; or the first refusal
pub data Listed : Type 0 where
  Are : List ℕ → Cursor → Listed
  Not : Fault → Listed

abbrev pub on_listed : {R : Type 0} → Listed → (Fault → R) → (List ℕ → Cursor → R) → R
on_listed (Not f) refused listed = refused f
on_listed (Are l c) refused listed = listed l c

unfoldable pub more_at : List ℕ → Cursor → Cursor → ℕ → Listed
more_at s c b zero = Are [] c
more_at s c b (suc n) =
    on_next (next_at s c b) Not (λ d e.
    on_listed (more_at s d e n) Not (λ l g.
    Are (c.at ∷ l) g))

-- a section's keys: the first, compared with its own blob, and so many more, their blobs from b on
pub data Keys : Type 0 where
  Keys-are : Private → Part → Places → Cursor → Keys
  Keys-not : Fault → Keys

abbrev pub on_keys : {R : Type 0} → Keys → (Fault → R) → (Private → Part → Places → Cursor → R) → R
on_keys (Keys-not f) refused read = refused f
on_keys (Keys-are private comment places c) refused read = read private comment places c

unfoldable pub keys_at : List ℕ → Cursor → Algorithm → Public → Cursor → ℕ → Keys
keys_at s c algorithm public b more =
    on_entry (entry_at s c algorithm public) Keys-not (λ private comment d.
    on_listed (more_at s d b more) Keys-not (λ l e.
    Keys-are private comment (places_of (c.at ∷ l)) e))

-- ---- the key at a place

-- a place without one gives a key without bytes
abbrev pub no_key : Key
no_key = key_of (OnCurve Ed25519) (of_point []) (of_scalar []) []

-- a keypair and a comment, up to the image's end
unfoldable pub key_read_of : List ℕ → ℕ → Key
key_read_of s at =
    on_keypair (keypair_at s (record { at = at; end = length s })) (λ f. no_key) (λ a public private d.
    on_read (string_at s d) (λ f. no_key) (λ comment e.
    key_of a (public_bytes s public) (private_bytes s private) (view_of s comment)))

-- ---- a key by two places: its blob's string begins at b, its keypair at a place, and reading goes up to the image's end

abbrev pub on_key_read : {R : Type 0} → Option (KeyFields × Cursor) → R → (KeyFields → Cursor → R) → R
on_key_read None nothing key = nothing
on_key_read (Some (k, d)) nothing key = key k d

-- with the place after its blob
unfoldable pub key_placed : List ℕ → Cursor → ℕ → Option (KeyFields × Cursor)
key_placed s b at =
    on_blob_field (blob_field_at s b) (λ f. None) (λ a p public d.
    on_entry (entry_at s (record { at = at; end = length s }) a public) (λ f. None) (λ private comment e.
    Some (record { algorithm = a; blob = p; public = public; begins = at; private = private; comment = comment }, d)))

-- ---- as the code reads a key

-- a keypair; public key unlike the blob's: 5, at the keypair's name
abbrev pub on_paired : {R : Type 0} → Read Private → (Fault → R) → (Private → Cursor → R) → R
on_paired (Err f) refused key = refused f
on_paired (Ok (private, d)) refused key = key private d

unfoldable pub pair_at : List ℕ → Cursor → Algorithm → Public → Read Private
pair_at s c algorithm public =
    on_keypair (keypair_at s c) Err (λ a p private d.
    cond (same_key s a p algorithm public) (Ok (private, d)) (Err (fault PublicKey c.at)))

-- a comment string; not UTF-8: 7
unfoldable pub comment_at : List ℕ → Cursor → Read Part
comment_at s c =
    on_read (string_at s c) Err (λ comment d.
    cond (utf8 (view_of s comment)) (Ok (comment, d)) (Err (fault CharacterEncoding c.at)))
