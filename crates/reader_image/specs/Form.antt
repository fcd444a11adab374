-- docs/RULES.md, 11.1: an image is in the writer's form if writing its record with its own checkint gives it back. The writer gives the
-- minimal mpint (10.2), and the form follows from that.
use Rattle.std.specs.Prelude.{ℕ, ◌+◌, ◌-◌, ◌≡◌, Bool, true, false, ◌&&◌, List, [], ◌∷◌, map, length, take, Result, Ok, Err}
use Rattle.fields.specs.Bytes.{same_bytes}
use Rattle.fields.specs.Fields.{view_of}
use Rattle.fields.specs.declared.Cursor.{Cursor}
use Rattle.fields.specs.declared.Fault.{Fault}
use Rattle.format.specs.Format.{leading_zero, zero_length, written_image, encrypted_image, filled_key}
use Rattle.fields.specs.declared.Part.{Part}
use Rattle.names.specs.declared.Algorithm.{Algorithm}
use Rattle.names.specs.declared.Elliptic.{Elliptic}
use Rattle.key_public.specs.Keys.{on_algorithm, on_elliptic}
use Rattle.key_pairs.specs.Pairs.{begins_before}
use Rattle.places.specs.declared.Places.{Places}
use Rattle.places.specs.Places.{after_first}
use Rattle.reader_entries.specs.Entries.{on_key_read, key_placed}
use Rattle.reader_header.specs.declared.Header.{Header}
use Rattle.reader_section.specs.declared.Kind.{Kind}
use Rattle.reader_section.specs.declared.Kind.TheVariants.{Plain, Encrypted}
use Rattle.reader_image.specs.declared.Fields.{Fields}
use Rattle.reader_image.specs.Container.{keys_in, on_read, read_at, section_read_at, ToldRead, told_read}

abbrev pub on_kind : {R : Type 0} → Kind → R → R → R
on_kind Plain plain encrypted = plain
on_kind Encrypted plain encrypted = encrypted

-- writing a record, with its own checkint where it is plain
unfoldable pub rewritten : List ℕ → Fields → List ℕ
rewritten s f =
    on_kind f.section.kind
    (written_image f.section.checkint (map filled_key (keys_in s f)))
    (encrypted_image f.header.cipher f.header.kdf (view_of s f.header.salt) f.header.rounds (view_of s f.header.blob)
    (view_of s f.section.ciphertext) (view_of s f.section.tag))

-- it gives the image back
unfoldable pub form_of : List ℕ → Fields → Bool
form_of s f = same_bytes (rewritten s f) s

-- what a read of the image answered, with the form
abbrev pub with_form : List ℕ → Result Fields Fault → Result (Fields × Bool) Fault
with_form s r = on_read r Err (λ f. Ok (f, form_of s f))

unfoldable pub form_read_at : List ℕ → Result (Fields × Bool) Fault
form_read_at s = with_form s (read_at s)

unfoldable pub section_form_at : List ℕ → Header → Result (Fields × Bool) Fault
section_form_at s half = with_form s (section_read_at s half)

-- the rules' reply, and whether the image is in the form
abbrev pub on_form : {R : Type 0} → Result (Fields × Bool) Fault → (Fault → R) → (Fields → Bool → R) → R
on_form (Err f) refused accepted = refused f
on_form (Ok (x, form)) refused accepted = accepted x form

unfoldable pub told_form : Result (Fields × Bool) Fault → ToldRead × Bool
told_form r = on_form r (λ f. (told_read (Err f), false)) (λ x form. (told_read (Ok x), form))

-- the promise of a read with the form
abbrev AnswersThis : Result (Fields × Bool) Fault → Result (Fields × Bool) Fault → Type 0
AnswersThis w r = (r ≡ w) × (told_form r ≡ told_form w)

abbrev pub AnswersForm : List ℕ → Result (Fields × Bool) Fault → Type 0
AnswersForm s r = AnswersThis (form_read_at s) r

abbrev pub AnswersSectionForm : List ℕ → Header → Result (Fields × Bool) Fault → Type 0
AnswersSectionForm s half r = AnswersThis (section_form_at s half) r

-- ---- the form by the scalars alone, which is what the code looks at; `form_scalar` says that it is the same

-- before the scalar stands one zero if its first byte is 0x80 or more, and else none; a seed always stands right
unfoldable pub scalar_stands : List ℕ → Elliptic → Part → Bool
scalar_stands s e scalar = on_elliptic e true (λ k. begins_before s scalar (zero_length (leading_zero (view_of s scalar))))

-- RSA has none, and of an encrypted image none is known
unfoldable pub scalar_in_form : List ℕ → Kind → Algorithm → Part → Bool
scalar_in_form s kind a scalar = on_kind kind (on_algorithm a (λ e. scalar_stands s e scalar) true) true

-- those of the keys at some places, whose blobs are from b on
unfoldable pub others_in_form : List ℕ → Cursor → List ℕ → Bool
others_in_form s b [] = true
others_in_form s b (at ∷ more) =
    on_key_read (key_placed s b at) false (λ k d.
    scalar_in_form s Plain k.algorithm k.private.scalar && others_in_form s d more)

-- the first key's, and those of the others, whose blobs are from `second` on
unfoldable pub scalars_in_form : List ℕ → Kind → Algorithm → Part → ℕ → ℕ → Places → Bool
scalars_in_form s kind a scalar second count places =
    scalar_in_form s kind a scalar && others_in_form s (record { at = second; end = length s }) (take (count - 1) (after_first places))

-- of a record's own
abbrev pub record_in_form : List ℕ → Fields → Bool
record_in_form s f =
    scalars_in_form s f.section.kind f.header.algorithm f.section.private.scalar (f.header.blob.start + f.header.blob.length)
    f.header.count f.section.places
