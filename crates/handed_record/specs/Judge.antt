-- docs/RULES.md, 9.3: any entry that is handed a record that isn't what an accepted read of its image gives replies 1 before all
-- else. So every field is compared: kind, checkint, rounds, padding, key count and every place included.
use Rattle.std.specs.Prelude.{ℕ, ◌≡◌, refl, Bool, true, false, ◌&&◌, List, eqb, Ok}
use Rattle.std.proofs.Common.{sym, ◌∙◌, ap, eqb-true, arith}
use Rattle.fields.specs.Bytes.{both_true}
use Rattle.fields.specs.Place.{clash}
use Rattle.reader_section.specs.declared.Kind.{Kind}
use Rattle.reader_section.specs.declared.Kind.TheVariants.{Plain, Encrypted}
use Rattle.reader_section.specs.declared.Section.{Section}
use Rattle.key_pairs.specs.declared.Private.{Private}
use Rattle.places.specs.Places.{same_places, places_same, places_self}
use Rattle.handed_header.specs.Halves.{same_part, same_header, part_same, header_same, header_self, eqb_self}
use Rattle.reader_image.specs.declared.Fields.{Fields}
use Rattle.reader_image.specs.Container.{on_read, read_at}
use Rattle.reader_image.specs.FormLaws.{by_read}

abbrev pub kind_code : Kind → ℕ
kind_code Plain = 1
kind_code Encrypted = 2

unfoldable pub same_private : Private → Private → Bool
same_private a b =
    same_part a.scalar b.scalar
    && same_part a.d b.d
    && same_part a.iqmp b.iqmp
    && same_part a.p b.p
    && same_part a.q b.q

unfoldable pub same_section : Section → Section → Bool
same_section a b =
    eqb (kind_code a.kind) (kind_code b.kind)
    && eqb a.checkint b.checkint
    && eqb a.padding b.padding
    && same_private a.private b.private
    && same_part a.comment b.comment
    && same_places a.places b.places
    && same_part a.ciphertext b.ciphertext
    && same_part a.tag b.tag

unfoldable pub is_read : List ℕ → Fields → Bool
is_read s f = on_read (read_at s) (λ x. false) (λ g. same_header f.header g.header && same_section f.section g.section)

-- ---- laws: the comparisons say that all is equal, and no less

kind_same : (k l : Kind) → kind_code k ≡ kind_code l → k ≡ l
kind_same Plain Plain e = refl
kind_same Plain Encrypted e = clash (let z : ◌≡◌ {A = ℕ} 1 2 = e in omega arith)
kind_same Encrypted Plain e = clash (let z : ◌≡◌ {A = ℕ} 2 1 = e in omega arith)
kind_same Encrypted Encrypted e = refl

private_same : (a b : Private) → same_private a b ≡ true → a ≡ b
unfolding same_private
private_same a b e =
    let e₄ = both_true _ (same_part a.q b.q) e in
    let e₃ = both_true _ (same_part a.p b.p) e₄.0 in
    let e₂ = both_true _ (same_part a.iqmp b.iqmp) e₃.0 in
    let e₁ = both_true _ (same_part a.d b.d) e₂.0 in
    let scalar : a.scalar ≡ b.scalar = part_same _ _ e₁.0 in
    let d : a.d ≡ b.d = part_same _ _ e₁.1 in
    let iqmp : a.iqmp ≡ b.iqmp = part_same _ _ e₂.1 in
    let p : a.p ≡ b.p = part_same _ _ e₃.1 in
    let q : a.q ≡ b.q = part_same _ _ e₄.1 in
    let whole : ◌≡◌ {A = Private} (record { scalar = a.scalar; d = a.d; iqmp = a.iqmp; p = a.p; q = a.q }) (record { scalar = b.scalar; d = b.d; iqmp = b.iqmp; p = b.p; q = b.q }) = cc in
    whole

pub section_same : (a b : Section) → same_section a b ≡ true → a ≡ b
unfolding same_section
section_same a b e =
    let e₇ = both_true _ (same_part a.tag b.tag) e in
    let e₆ = both_true _ (same_part a.ciphertext b.ciphertext) e₇.0 in
    let e₅ = both_true _ (same_places a.places b.places) e₆.0 in
    let e₄ = both_true _ (same_part a.comment b.comment) e₅.0 in
    let e₃ = both_true _ (same_private a.private b.private) e₄.0 in
    let e₂ = both_true _ (eqb a.padding b.padding) e₃.0 in
    let e₁ = both_true _ (eqb a.checkint b.checkint) e₂.0 in
    let kind : a.kind ≡ b.kind = kind_same _ _ (eqb-true _ _ e₁.0) in
    let checkint : a.checkint ≡ b.checkint = eqb-true _ _ e₁.1 in
    let padding : a.padding ≡ b.padding = eqb-true _ _ e₂.1 in
    let private : a.private ≡ b.private = private_same _ _ e₃.1 in
    let comment : a.comment ≡ b.comment = part_same _ _ e₄.1 in
    let places : a.places ≡ b.places = places_same _ _ e₅.1 in
    let ciphertext : a.ciphertext ≡ b.ciphertext = part_same _ _ e₆.1 in
    let tag : a.tag ≡ b.tag = part_same _ _ e₇.1 in
    let whole : ◌≡◌ {A = Section} (record { kind = a.kind; checkint = a.checkint; padding = a.padding; private = a.private; comment = a.comment; places = a.places; ciphertext = a.ciphertext; tag = a.tag }) (record { kind = b.kind; checkint = b.checkint; padding = b.padding; private = b.private; comment = b.comment; places = b.places; ciphertext = b.ciphertext; tag = b.tag }) = cc in
    whole

section_self : (a : Section) → same_section a a ≡ true
unfolding same_section same_private
section_self a = simp (eqb_self, places_self a.places)

-- a record passes exactly if it is what an accepted read gives
pub read_passes : (s : List ℕ) (f : Fields) → read_at s ≡ Ok f → is_read s f ≡ true
unfolding is_read
read_passes s f e = rw (e, header_self f.header, section_self f.section)

pub passes_read : (s : List ℕ) (f : Fields) → is_read s f ≡ true → read_at s ≡ Ok f
unfolding is_read
passes_read s f e =
    by_read (read_at s)
    (λ x w. let z : false ≡ true = rw w at e in clash cc)
    (λ g w.
    let ok : (same_header f.header g.header && same_section f.section g.section) ≡ true = rw w at e in
    let parts = both_true (same_header f.header g.header) (same_section f.section g.section) ok in
    let header : f.header ≡ g.header = header_same f.header g.header parts.0 in
    let section : f.section ≡ g.section = section_same f.section g.section parts.1 in
    let whole : ◌≡◌ {A = Fields} (record { header = f.header; section = f.section }) (record { header = g.header; section = g.section }) = cc in
    w ∙ ap Ok (sym whole))
