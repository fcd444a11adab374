-- The section read for C by the half that the numbers are: to find the half and hand it on is the comparison with the image's own.
use Rattle.std.specs.Prelude.{ℕ, ◌<◌, ◌^◌, ◌≡◌, List, Ok, Some, None}
use Rattle.std.proofs.Common.{arith, ◌∙◌}
use Rattle.std.proofs.Math.Path.{sym, ap}
use Rattle.std.proofs.Math.Bool.{true, false}
use Rattle.fields.specs.Bytes.{AllBytes}
use Rattle.fields.specs.Fields.{view_of}
use Rattle.fields.specs.Place.{clash, by_bool}
use Rattle.names.specs.declared.Kdf.{Kdf}
use Rattle.names.specs.declared.Kdf.TheVariants as kdf
use Rattle.format.specs.Format.{OptionsFit}
use Rattle.reader_header.specs.declared.Header.{Header}
use Rattle.reader_header.specs.Header.{header_at}
use Rattle.reader_header.specs.Read.{header-text}
use Rattle.handed_header.specs.Halves.{is_header, by_header}
use Rattle.handed_header.proofs.Halves.{passes_header}
use Rattle.reader_image.specs.Container.{section_read_at}
use Rattle.reader_image.specs.Form.{section_form_at}
use Rattle.c_numbers.specs.declared.Image.{Image}
use Rattle.c_numbers.specs.Numbers.{half_image, image_of}
use Rattle.c_handed.specs.Handed.{same_image, half_of}
use Rattle.c_handed.specs.Laws.{image_same, image_self, half_own}
use Rattle.c_handed.proofs.Laws.{half_numbers}
use Rattle.c_section.specs.Sections.{forged_half, section_c}

options_rounds : (k : Kdf) (salt : List ℕ) (rounds : ℕ) → OptionsFit k salt rounds → rounds < 2 ^ 32
options_rounds kdf.None salt rounds fit = omega (arith, fit.1)
options_rounds kdf.Bcrypt salt rounds fit = fit

-- the section read of another half
other_half : (s : List ℕ) (g : Header) → is_header s g ≡ false → image_of (section_form_at s g) ≡ forged_half
unfolding section_form_at section_read_at image_of
other_half s g e = rw e

module _ (s : List ℕ) (all : AllBytes s) where
  own_numbers : (x : Image) (h : Header) → header_at s ≡ Ok h → same_image x (half_image h) ≡ true → half_of x ≡ Some h
  own_numbers x h read same =
      let text = header-text s all h read in
      let fits = options_rounds h.kdf (view_of s h.salt) h.rounds text.fit_options in
      ap half_of (image_same x (half_image h) same) ∙ half_own h fits

  pub section_forged : (x : Image) → half_of x ≡ None → section_c s x ≡ forged_half
  unfolding section_c
  section_forged x e =
      by_header (header_at s)
      (λ f w. rw w)
      (λ h w.
      by_bool (same_image x (half_image h))
      (λ v. let own : None ≡ Some h = sym e ∙ own_numbers x h w v in clash cc)
      (λ v. rw (w, v)))

  pub section_half : (x : Image) (g : Header) → half_of x ≡ Some g → section_c s x ≡ image_of (section_form_at s g)
  unfolding section_c is_header
  section_half x g e =
      by_header (header_at s)
      (λ f w.
      let none : is_header s g ≡ false = rw w in
      rw w (sym (other_half s g none)))
      (λ h w.
      by_bool (same_image x (half_image h))
      (λ v.
      let own : Some g ≡ Some h = sym e ∙ own_numbers x h w v in
      let same : h ≡ g = cc in
      rw (w, v) (ap (λ (j : Header). image_of (section_form_at s j)) same))
      (λ v.
      by_bool (is_header s g)
      (λ u.
      let own : Ok g ≡ Ok h = sym (passes_header s g u) ∙ w in
      let same : g ≡ h = cc in
      let numbers : x ≡ half_image h = half_numbers x g e ∙ ap half_image same in
      let equal : same_image x (half_image h) ≡ true = rw numbers (image_self (half_image h)) in
      clash (let z : true ≡ false = sym equal ∙ v in cc))
      (λ u. rw (w, v) (sym (other_half s g u)))))
