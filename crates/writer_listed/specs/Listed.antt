-- docs/RULES.md, 9.4 and 10.9: the keys of a record by their places in the image, as they are found when it is written again. The first
-- are the record's own; each other is read where it begins, with the blob of its number.
use Rattle.std.specs.Prelude.{ℕ, ◌+◌, cond, List, [], ◌∷◌, map, leb, length}
use Rattle.fields.specs.Fields.{absent}
use Rattle.fields.specs.declared.Cursor.{Cursor}
use Rattle.fields.specs.declared.Part.{Part}
use Rattle.names.specs.declared.Algorithm.{Algorithm}
use Rattle.names.specs.declared.Algorithm.TheVariants.{Elliptic as OnCurve, Rsa}
use Rattle.format.specs.Format.{PublicBytes, PrivateBytes, Key, key_of, of_point, of_scalar, of_modulus, of_numbers, filled_key}
use Rattle.reader_entries.specs.Back.{place_at}
use Rattle.reader_entries.specs.declared.KeyFields.{KeyFields}
use Rattle.reader_entries.specs.Entries.{on_key_read, key_placed}
use Rattle.reader_image.specs.declared.Fields.{Fields}
use Rattle.reader_image.specs.Container.{other_places}
use Rattle.reader_keys.specs.Keys.{first_fields}
use Rattle.reader_keys.specs.Found.{key_told}
use Rattle.writer_reply.specs.Reply.{Answers, Written}
use Rattle.writer_plain.specs.Plain.{keys_reply, keys_left}

-- a part within the image; any other has no bytes, and is absent
unfoldable pub kept_part : List ℕ → Part → Part
kept_part s p = cond (leb (p.start + p.length) (length s)) p absent

-- ---- where they are

-- keys at places, their blobs from b on, up to the first that isn't there
unfoldable pub others_at : List ℕ → Cursor → List ℕ → List KeyFields
others_at s b [] = []
others_at s b (at ∷ more) = on_key_read (key_placed s b at) [] (λ k d. k ∷ others_at s d more)

-- where the second blob begins, if the first is within the image
abbrev pub after_blob : List ℕ → Part → Cursor
after_blob s p = place_at ((kept_part s p).start + (kept_part s p).length) (length s)

unfoldable pub record_keys : List ℕ → Fields → List KeyFields
record_keys s f = first_fields f ∷ others_at s (after_blob s f.header.blob) (other_places f)

-- ---- what they are

-- what a key's kind has, and nothing else
abbrev pub own_public : Algorithm → PublicBytes → PublicBytes
own_public (OnCurve e) key = of_point key.point
own_public Rsa key = of_modulus key.modulus key.exponent

abbrev pub own_private : Algorithm → PrivateBytes → PrivateBytes
own_private (OnCurve e) x = of_scalar x.scalar
own_private Rsa x = of_numbers x.d x.iqmp x.p x.q

abbrev pub own_key : Key → Key
own_key k = key_of k.algorithm (own_public k.algorithm k.public) (own_private k.algorithm k.private) k.comment

unfoldable pub key_in : List ℕ → KeyFields → Key
key_in s k = own_key (key_told s k)

-- with their scalars filled
unfoldable pub listed_keys : List ℕ → Fields → List Key
listed_keys s f = map filled_key (map (key_in s) (record_keys s f))

-- the contract of the write: it answers r and leaves out
abbrev pub IsListed : List ℕ → Fields → List ℕ → Written → List ℕ → Type 0
IsListed s f old r out =
    Answers (keys_reply (listed_keys s f) f.section.checkint (length old)) (keys_left (listed_keys s f) f.section.checkint old) r out
