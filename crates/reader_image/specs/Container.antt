-- docs/RULES.md, 4.7, 4.8, 7.2, 8.2 and 8.3: the section that goes on from a header. The full read is the header read followed by the
-- section's, and a section read of its own is handed a half (9.3). 9.4: the keys that a record has. 10.9: a scalar is filled with zeros.
use Rattle.std.specs.Prelude.{ℕ, ◌+◌, ◌-◌, ◌≡◌, List, [], ◌∷◌, map, cond, length, take, Result, Ok, Err}
use Rattle.fields.specs.Fields.{fault, absent, view_of}
use Rattle.fields.specs.Refusals.{number_of, count_of}
use Rattle.fields.specs.declared.Refusal.TheVariants.{Length, Crypto}
use Rattle.fields.specs.declared.Fault.{Fault}
use Rattle.fields.specs.Bytes.{string}
use Rattle.reader_header.specs.declared.Header.{Header}
use Rattle.names.specs.declared.Cipher.TheVariants as cipher
use Rattle.names.specs.Ciphers.{is_none, cipher_name}
use Rattle.reader_header.specs.Header.{on_kdf, on_header_read, header_at, second_blob, no_header}
use Rattle.handed_header.specs.Halves.{is_header}
use Rattle.format.specs.Format.{PublicBytes, PrivateBytes, Key, key_of, filled, magic}
use Rattle.key_public.specs.Keys.{public_bytes}
use Rattle.key_pairs.specs.Pairs.{scalar_place, private_bytes}
use Rattle.places.specs.Places.{places_of, after_first}
use Rattle.reader_entries.specs.Entries.{key_read_of}
use Rattle.reader_section.specs.declared.Kind.TheVariants.{Plain}
use Rattle.reader_section.specs.Section.{on_section_read, plain_at, encrypted_at}
use Rattle.reader_image.specs.declared.Fields.{Fields}
use Rattle.reader_section.specs.declared.Section.{Section}

abbrev pub on_read : {R : Type 0} → Result Fields Fault → (Fault → R) → (Fields → R) → R
on_read (Err f) refused accepted = refused f
on_read (Ok x) refused accepted = accepted x

-- the KDF name begins after the magic and the cipher name `none`
abbrev pub kdf_name_place : ℕ
kdf_name_place = length magic + length (string (cipher_name cipher.None))

-- the section begins where the header says; cipher `none` with a KDF not `none`: 3, at the KDF name
unfoldable pub section_at : List ℕ → Header → Result Section Fault
section_at s h =
    cond (is_none h.cipher)
    (on_kdf h.kdf
    (plain_at s (record { at = h.section; end = length s }) h.algorithm h.public (second_blob s h) (h.count - 1))
    (Err (fault Crypto kdf_name_place)))
    (encrypted_at s (record { at = h.section; end = length s }) h.cipher)

-- the record of a header and the section after it
abbrev pub go_on_at : List ℕ → Header → Result Fields Fault
go_on_at s h = on_section_read (section_at s h) Err (λ x. Ok (record { header = h; section = x }))

-- the full read: the one followed by the other
unfoldable pub read_at : List ℕ → Result Fields Fault
read_at s = on_header_read (header_at s) Err (λ h. go_on_at s h)

-- the section read: a half that isn't what an accepted header read of the image gives is 1, at 0, before all else
unfoldable pub section_read_at : List ℕ → Header → Result Fields Fault
section_read_at s half = cond (is_header s half) (go_on_at s half) (Err (fault Length 0))

-- the bytes of a record's first key
abbrev pub public_in : List ℕ → Fields → PublicBytes
public_in s f = public_bytes s f.header.public

abbrev pub private_in : List ℕ → Fields → PrivateBytes
private_in s f = private_bytes s f.section.private

-- its private bytes as a writer takes them: a scalar is filled with zeros in front to SIZE
abbrev pub material_in : List ℕ → Fields → PrivateBytes
material_in s f = filled f.header.algorithm (private_in s f)

-- ---- a record's keys

-- the first, by its own fields; the others, by the places at which they begin
abbrev pub first_in : List ℕ → Fields → Key
first_in s f = key_of f.header.algorithm (public_in s f) (private_in s f) (view_of s f.section.comment)

abbrev pub other_places : Fields → List ℕ
other_places f = take (f.header.count - 1) (after_first f.section.places)

unfoldable pub keys_in : List ℕ → Fields → List Key
keys_in s f = first_in s f ∷ map (key_read_of s) (other_places f)

-- ---- the rules' reply to a read

-- the record of a refused image: no place, no number; kind and names are the first of theirs
abbrev pub no_fields : Fields
no_fields =
    record {
      header = no_header;
      section =
          record {
            kind = Plain;
            checkint = 0;
            padding = 0;
            private = scalar_place absent;
            comment = absent;
            places = places_of [];
            ciphertext = absent;
            tag = absent;
          };
    }

-- number, count, the place at which the failing field began, and the record
pub record ToldRead : Type 0 where
  pub number : ℕ
  pub count : ℕ
  pub at : ℕ
  pub fields : Fields

-- of each case of a read's answer
unfoldable pub told_read : Result Fields Fault → ToldRead
told_read r =
    on_read r
    (λ f. record { number = number_of f.why; count = count_of f.why; at = f.at; fields = no_fields })
    (λ x. record { number = 0; count = 0; at = 0; fields = x })

-- the promise of a read: it answers this, which is this in the rules' numbers
abbrev AnswersThis : Result Fields Fault → Result Fields Fault → Type 0
AnswersThis w r = (r ≡ w) × (told_read r ≡ told_read w)

abbrev pub AnswersRead : List ℕ → Result Fields Fault → Type 0
AnswersRead s r = AnswersThis (read_at s) r

abbrev pub AnswersSection : List ℕ → Header → Result Fields Fault → Type 0
AnswersSection s half r = AnswersThis (section_read_at s half) r
