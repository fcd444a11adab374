-- docs/RULES.md, 8.2, 8.3 and 9.3. The full read is the header read followed by the section read, with the same replies, for every input: as
-- fields or refusal, with the form, and in C's numbers. A half that isn't what an accepted header read of its image gives is 1, at 0. The 3 of a
-- KDF without a cipher is the section's.
use Rattle.std.specs.Prelude.{ℕ, ◌≡◌, List, Result, Ok, Err, Some, None}
use Rattle.std.proofs.Common.{arith, sym, ◌∙◌, ap, Bool}
use Rattle.fields.specs.Bytes.{uint32, string}
use Rattle.fields.specs.Fields.{fault}
use Rattle.fields.specs.Place.{clash}
use Rattle.fields.specs.declared.Fault.{Fault}
use Rattle.fields.specs.declared.Refusal.TheVariants.{Crypto}
use Rattle.names.specs.declared.Cipher.TheVariants as cipher
use Rattle.names.specs.declared.Kdf.TheVariants as kdf
use Rattle.names_codes.specs.Codes.{algorithm_coded, cipher_coded, kdf_coded, algorithm_coded_lem, cipher_coded_lem, kdf_coded_lem}
use Rattle.format.specs.Format.{magic}
use Rattle.reader_header.specs.declared.Header.{Header}
use Rattle.reader_header.specs.Header.{on_header_read, header_at, AnswersHeader}
use Rattle.handed_header.specs.Halves.{is_header, by_header, header_passes}
use Rattle.handed_header.proofs.Halves.{passes_header}
use Rattle.reader_section.specs.declared.Kind.{Kind}
use Rattle.reader_section.specs.declared.Kind.TheVariants.{Plain, Encrypted}
use Rattle.handed_record.specs.Judge.{kind_code}
use Rattle.reader_image.specs.Container.{no_fields, section_at, read_at, section_read_at, told_read, AnswersRead, AnswersSection}
use Rattle.reader_image.specs.Form.{with_form, form_read_at, section_form_at}
use Rattle.reader_image.specs.Halves.{section_own}
use Rattle.c_numbers.specs.declared.Image.{Image}
use Rattle.c_numbers.specs.Numbers.{half_image, image_of, header_of}
use Rattle.c_handed.specs.Handed.{same_image}
use Rattle.c_handed.specs.Laws.{image_same, image_self}
use Rattle.c_section.specs.Sections.{forged_half, section_c}
use Rattle.claims.specs.Handed.{fails}
use Rattle.reader_image.specs.declared.Fields.{Fields}

-- ---- the full read is the one followed by the other

pub refused_whole_lem : (s : List ℕ) (f : Fault) → header_at s ≡ Err f → read_at s ≡ Err f
unfolding read_at
refused_whole_lem s f e = rw e

pub two_halves : (s : List ℕ) → read_at s ≡ on_header_read (header_at s) Err (λ h. section_read_at s h)
two_halves s = by_header (header_at s) (λ f e. refused_whole_lem s f e ∙ rw e) (λ h e. sym (section_own s h e) ∙ rw e)

-- whatever answers meet the promises of the two entries and of the full read
pub two_halves_promised :
    (s : List ℕ) (h : Result Header Fault) (r : Result Fields Fault) → AnswersHeader s h → AnswersRead s r
    → ((f : Fault) → h ≡ Err f → r ≡ Err f)
    × ((half : Header) → h ≡ Ok half → (x : Result Fields Fault) → AnswersSection s half x → r ≡ x)
two_halves_promised s h r p q = (
  λ f e. q.0 ∙ refused_whole_lem s f (sym p.0 ∙ e),
  λ half e x a. q.0 ∙ sym (section_own s half (sym p.0 ∙ e)) ∙ sym a.0,
)

-- with the form, and in C's numbers
pub two_halves_form : (s : List ℕ) → form_read_at s ≡ on_header_read (header_at s) Err (λ h. section_form_at s h)
unfolding form_read_at section_form_at
two_halves_form s =
    ap (with_form s) (two_halves s)
    ∙ by_header (header_at s) (λ f e. rw e) (λ h e. rw e)

-- a header that is refused is the whole reply; else it is handed on as it was answered
pub two_halves_c : (s : List ℕ) → image_of (form_read_at s) ≡ on_header_read (header_at s) (λ f. header_of (header_at s)) (λ h. section_c s (header_of (header_at s)))
unfolding section_c image_of header_of
two_halves_c s =
    ap image_of (two_halves_form s)
    ∙ by_header (header_at s) (λ f e. rw e) (λ h e. rw (e, image_self (half_image h)))

-- ---- forged halves

pub half_forged :
    (s : List ℕ) (half : Header) → (header_at s ≡ Ok half → ⊥)
    → told_read (section_read_at s half) ≡ record { number = 1; count = 0; at = 0; fields = no_fields }
unfolding section_read_at told_read
half_forged s half forged = rw (fails (is_header s half) (λ passed. forged (passes_header s half passed)))

-- over C: numbers that aren't all an accepted header's
pub half_forged_c : (s : List ℕ) (x : Image) → ((h : Header) → header_at s ≡ Ok h → x ≡ half_image h → ⊥) → section_c s x ≡ forged_half
unfolding section_c
half_forged_c s x forged =
    by_header (header_at s)
    (λ f e. rw e)
    (λ h e. rw (e, fails (same_image x (half_image h)) (λ same. forged h e (image_same x (half_image h) same))))

-- so any whose kind isn't 3, as a full read's answer never is
pub other_kind : (s : List ℕ) (x : Image) → (x.kind ≡ 3 → ⊥) → section_c s x ≡ forged_half
other_kind s x unlike = half_forged_c s x (λ h e same. unlike (ap (λ (y : Image). y.kind) same))

never_three : (r : Result (Fields × Bool) Fault) → (image_of r).kind ≡ 3 → ⊥
unfolding image_of
never_three (Err f) e = clash (let z : ◌≡◌ {A = ℕ} 0 3 = e in omega arith)
never_three (Ok (f, form)) e = accepted f.section.kind e
  where
    accepted : (k : Kind) → kind_code k ≡ 3 → ⊥
    accepted Plain z = clash (let y : ◌≡◌ {A = ℕ} 1 3 = z in omega arith)
    accepted Encrypted z = clash (let y : ◌≡◌ {A = ℕ} 2 3 = z in omega arith)

pub full_forged : (s t : List ℕ) → section_c s (image_of (form_read_at t)) ≡ forged_half
full_forged s t = other_kind s (image_of (form_read_at t)) (never_three (form_read_at t))

-- and any with a code that names nothing: a half's own codes name what it has
no_name :
    {A N : Type 0} (coded : ℕ → N) (known : A → N) (unknown : N) (code : Image → ℕ) (has : Header → A) → ((a : A) → unknown ≡ known a → ⊥)
    → ((h : Header) → coded (code (half_image h)) ≡ known (has h)) → (s : List ℕ) (x : Image) → coded (code x) ≡ unknown → section_c s x ≡ forged_half
no_name coded known unknown code has differ names s x nothing =
    half_forged_c s x (λ h e same. differ (has h) (sym nothing ∙ ap (λ (y : Image). coded (code y)) same ∙ names h))

pub no_cipher : (s : List ℕ) (x : Image) → cipher_coded x.cipher ≡ None → section_c s x ≡ forged_half
no_cipher =
    no_name cipher_coded Some None (λ x. x.cipher) (λ h. h.cipher) (λ c e. clash cc) (λ h. cipher_coded_lem h.cipher)

pub no_kdf : (s : List ℕ) (x : Image) → kdf_coded x.kdf ≡ None → section_c s x ≡ forged_half
no_kdf = no_name kdf_coded Some None (λ x. x.kdf) (λ h. h.kdf) (λ k e. clash cc) (λ h. kdf_coded_lem h.kdf)

pub no_algorithm : (s : List ℕ) (x : Image) → algorithm_coded x.algorithm ≡ None → section_c s x ≡ forged_half
no_algorithm =
    no_name algorithm_coded Some None (λ x. x.algorithm) (λ h. h.algorithm) (λ a e. clash cc)
    (λ h. algorithm_coded_lem h.algorithm)

-- ---- cipher `none` with a KDF: the header is accepted, and the section read gives 3, at the KDF name

pub kdf_without_cipher :
    (s : List ℕ) (h : Header) → header_at s ≡ Ok h → h.cipher ≡ cipher.None → h.kdf ≡ kdf.Bcrypt
    → section_read_at s h ≡ Err (fault Crypto 23)
unfolding section_read_at section_at magic string uint32
kdf_without_cipher s h e none bcrypt = rw (header_passes s h e, none, bcrypt)
