-- Numbers handed in that are a header's are all the numbers of it. Rests on `image_same`.
use Rattle.std.specs.Prelude.{◌≡◌, Some}
use Rattle.std.proofs.Common.{◌∙◌, ap}
use Rattle.fields.specs.Place.{clash, by_bool}
use Rattle.names.specs.declared.Algorithm.{Algorithm}
use Rattle.names.specs.declared.Cipher.{Cipher}
use Rattle.names.specs.declared.Kdf.{Kdf}
use Rattle.names_codes.specs.Codes.{algorithm_coded, cipher_coded, kdf_coded}
use Rattle.laws_keys.specs.Read.{by_algorithm}
use Rattle.reader_header.specs.declared.Header.{Header}
use Rattle.reader_header.specs.Place.{by_cipher_name, by_kdf_name}
use Rattle.c_numbers.specs.declared.Image.{Image}
use Rattle.c_numbers.specs.Numbers.{half_image}
use Rattle.c_handed.specs.Handed.{same_image, code_of, half_from, placed_half, half_of}
use Rattle.c_handed.specs.Laws.{image_same}

placed_numbers : (x : Image) (a : Algorithm) (c : Cipher) (k : Kdf) (h : Header) → placed_half x a c k ≡ Some h → x ≡ half_image h
unfolding placed_half
placed_numbers x a c k h e =
    by_bool (same_image x (half_image (half_from x a c k)))
    (λ w.
    let own : Some (half_from x a c k) ≡ Some h = rw w at e in
    let same : half_from x a c k ≡ h = cc in
    image_same x (half_image (half_from x a c k)) w ∙ ap half_image same)
    (λ w. let none = rw w at e in clash cc)

pub half_numbers : (x : Image) (h : Header) → half_of x ≡ Some h → x ≡ half_image h
unfolding half_of
half_numbers x h e =
    by_algorithm (algorithm_coded (code_of x.algorithm))
    (λ w. let none = rw w at e in clash cc)
    (λ a w.
    let e₁ = rw w at e in
    by_cipher_name (cipher_coded (code_of x.cipher))
    (λ v. let none = rw v at e₁ in clash cc)
    (λ c v.
    let e₂ = rw v at e₁ in
    by_kdf_name (kdf_coded (code_of x.kdf))
    (λ u. let none = rw u at e₂ in clash cc)
    (λ k u.
    let e₃ : placed_half x a c k ≡ Some h = rw u at e₂ in
    placed_numbers x a c k h e₃)))
