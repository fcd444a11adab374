-- docs/RULES.md, 7.3 and 7.5: where a read refuses. About the whole image: its first byte; else after the magic, and no further than the image's
-- end. The comment's field of an image that is read begins no further on either.
use Rattle.std.specs.Prelude.{ℕ, ◌+◌, ◌-◌, ◌≤◌, ◌≡◌, List, Result, Ok, Err}
use Rattle.std.proofs.Common.{arith, sym}
use Rattle.std.proofs.Math.Path.{ap}
use Rattle.std.proofs.Math.Bool.{true}
use Rattle.std.proofs.Math.ListN.{length}
use Rattle.fields.specs.Bytes.{uint32, string}
use Rattle.fields.specs.Fields.{fault}
use Rattle.fields.specs.Place.{by_bool}
use Rattle.fields.specs.Rest.{Good}
use Rattle.fields.specs.declared.Cursor.{Cursor}
use Rattle.fields.specs.declared.Refusal.TheVariants.{Crypto}
use Rattle.names.specs.declared.Cipher.{Cipher}
use Rattle.names.specs.declared.Kdf.{Kdf}
use Rattle.names.specs.declared.Kdf.TheVariants as kdf
use Rattle.names.specs.Ciphers.{is_none, cipher_name, none_only}
use Rattle.format.specs.Format.{magic}
use Rattle.reader_header.specs.declared.Header.{Header}
use Rattle.reader_header.specs.Header.{on_kdf, header_at, second_blob}
use Rattle.handed_header.specs.Halves.{by_header}
use Rattle.reader_section.specs.Section.{plain_at, encrypted_at}
use Rattle.reader_section.specs.Read.{by_section}
use Rattle.reader_image.specs.Container.{kdf_name_place, section_at, read_at}
use Rattle.laws_places.specs.Header.{about_whole, after_magic, PlaceSaid, said_field, header_said}
use Rattle.laws_fields.specs.Fields.{Lies}
use Rattle.laws_places.specs.Section.{SectionLies, SectionBetween, plain_lies, encrypted_lies}
use Rattle.fields.specs.declared.Fault.{Fault}
use Rattle.reader_section.specs.declared.Section.{Section}
use Rattle.reader_image.specs.declared.Fields.{Fields}

-- of a section's answer and of a read's: refused, where the refusal is; read, where the comment's field is
abbrev SectionSaid : List ℕ → Result Section Fault → Type 0
SectionSaid s (Err f) = Lies (after_magic s) f
SectionSaid s (Ok x) = x.comment.start - 4 ≤ length s

abbrev pub ReadSaid : List ℕ → Result Fields Fault → Type 0
ReadSaid s (Err f) = PlaceSaid s (about_whole s) f
ReadSaid s (Ok f) = f.section.comment.start - 4 ≤ length s

module _
    (s : List ℕ) (h : Header) (named : 19 + length (cipher_name h.cipher) ≤ h.section) (inside : h.section ≤ length s)
    (after : 15 ≤ h.blob.start + h.blob.length) (within' : h.blob.start + h.blob.length ≤ length s) where
  abbrev place : Cursor
  place = record { at = h.section; end = length s }

  good : Good s place
  good = (inside, omega arith)

  from_place : (r : Result Section Fault) → SectionLies place r → SectionSaid s r
  from_place (Err f) l = omega (arith, l, named)
  from_place (Ok x) l = l

  from_between : (r : Result Section Fault) → SectionBetween 15 (length s) r → SectionSaid s r
  from_between (Err f) l = l
  from_between (Ok x) l = l

  -- the KDF's name, after the cipher's name `none`
  kdf_name_lies : is_none h.cipher ≡ true → Lies (after_magic s) (fault Crypto kdf_name_place)
  unfolding magic string uint32
  kdf_name_lies none =
      let four : length (cipher_name h.cipher) ≡ 4 = ap (λ (c : Cipher). length (cipher_name c)) (sym (none_only h.cipher none)) in
      omega (arith, four, named, inside)

  section_said : SectionSaid s (section_at s h)
  unfolding section_at
  section_said =
      by_bool (is_none h.cipher)
      (λ w. rw w (by_kdf h.kdf w))
      (λ w. rw w (from_place (encrypted_at s place h.cipher) (encrypted_lies s place h.cipher good)))
    where
      by_kdf :
          (k : Kdf) → is_none h.cipher ≡ true
          → SectionSaid s (on_kdf k (plain_at s place h.algorithm h.public (second_blob s h) (h.count - 1)) (Err (fault Crypto kdf_name_place)))
      by_kdf kdf.None w =
          from_between (plain_at s place h.algorithm h.public (second_blob s h) (h.count - 1))
          (plain_lies s 15 (length s) place h.algorithm h.public (second_blob s h) (h.count - 1) good (within', omega arith) (omega (arith, named), omega arith)
          (after, omega arith))
      by_kdf kdf.Bcrypt w = kdf_name_lies w

pub read_said : (s : List ℕ) → ReadSaid s (read_at s)
unfolding read_at
read_said s =
    by_header (header_at s)
    (λ f w. rw w (rw w at (header_said s)))
    (λ h w.
    let m = rw w at (header_said s) in
    let next = section_said s h m.1 m.2 m.3 m.4 in
    rw w
    (by_section (section_at s h)
    (λ f v. rw v (said_field s f m.0 (rw v at next)))
    (λ x v. rw v (rw v at next))))
