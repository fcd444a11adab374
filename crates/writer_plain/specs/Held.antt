-- docs/RULES.md, 10.5 and 10.6: an accepted write meets every condition of its keys. What is known of a key that passed the plain writer's tests.
use Rattle.std.specs.Prelude.{ℕ, ◌≡◌, refl, Bool, true, false, List, eqb, length, Ok}
use Rattle.std.proofs.Common.{sym, ◌∙◌, ap, eqb-true}
use Rattle.fields.specs.Place.{clash}
use Rattle.fields.specs.declared.Refusal.{Refusal}
use Rattle.fields.specs.declared.Refusal.TheVariants.{Length, FormatEncoding}
use Rattle.names.specs.declared.Elliptic.{Elliptic}
use Rattle.names.specs.declared.Algorithm.{Algorithm}
use Rattle.names.specs.declared.Algorithm.TheVariants.{Elliptic as OnCurve, Rsa}
use Rattle.format.specs.Format.{PublicBytes, PrivateBytes, of_point, of_scalar, of_modulus, of_numbers, PublicFits, PrivateFits, public_length, private_length, point_tag, not_zero, trimmed, filled}
use Rattle.format.specs.Scalars.{allowed_own, trimmed_back, trimmed_fits}
use Rattle.writer_reply.specs.Reply.{unless, Written}
use Rattle.writer_plain.specs.Plain.{key_checked}
use Rattle.writer_plain.specs.Fits.{numbers_fit}

-- a condition of an accepted write holds
pub held : (b : Bool) (why : Refusal) (next : Written) (k : ℕ) → unless b why next ≡ Ok k → (b ≡ true) × (next ≡ Ok k)
held true why next k e = (refl, e)
held false why next k e = clash cc

-- bytes that a kind lacks are none
abbrev pub Own : Algorithm → PublicBytes → PrivateBytes → Type 0
Own (OnCurve e) key x = (key ≡ of_point key.point) × (x ≡ of_scalar x.scalar)
Own Rsa key x = (key ≡ of_modulus key.modulus key.exponent) × (x ≡ of_numbers x.d x.iqmp x.p x.q)

-- what a key over a curve is that passed its tests
pub record EllipticHeld (e : Elliptic) (point scalar : List ℕ) (next : Written) (k : ℕ) : Type 0 where
  pub long : length point ≡ public_length e
  pub private : length scalar ≡ private_length e
  pub tag : point_tag e point ≡ true
  pub some : not_zero e scalar ≡ true
  pub then : next ≡ Ok k

pub elliptic_held :
    (e : Elliptic) (key : PublicBytes) (x : PrivateBytes) (next : Written) (k : ℕ) → key_checked (OnCurve e) key x next ≡ Ok k
    → EllipticHeld e key.point x.scalar next k
unfolding key_checked
elliptic_held e key x next k passes =
    let tag = point_tag e key.point in
    let some = not_zero e x.scalar in
    let w₄ = unless some FormatEncoding next in
    let w₃ = unless tag FormatEncoding w₄ in
    let w₂ = unless (eqb (length x.scalar) (private_length e)) Length w₃ in
    let h₁ = held (eqb (length key.point) (public_length e)) Length w₂ k passes in
    let h₂ = held (eqb (length x.scalar) (private_length e)) Length w₃ k h₁.1 in
    let h₃ = held tag FormatEncoding w₄ k h₂.1 in
    let h₄ = held some FormatEncoding next k h₃.1 in
    record {
      long = eqb-true (length key.point) (public_length e) h₁.0;
      private = eqb-true (length x.scalar) (private_length e) h₂.0;
      tag = h₃.0;
      some = h₄.0;
      then = h₄.1;
    }

-- a key that passed its kind's tests fits once its scalar is trimmed, and is filled again to what it was, if it has no bytes but its own
pub key_held :
    (a : Algorithm) (key : PublicBytes) (x : PrivateBytes) (next : Written) (k : ℕ) → key_checked a key x next ≡ Ok k
    → (Own a key x → PublicFits a key × PrivateFits a key (trimmed a x) × (filled a (trimmed a x) ≡ x)) × (next ≡ Ok k)
unfolding key_checked
key_held (OnCurve e) key x next k passes =
    let h = elliptic_held e key x next k passes in
    let fits = trimmed_fits e x.scalar (allowed_own e x.scalar h.private) h.some in
    let back = ap of_scalar (trimmed_back e x.scalar h.private) in
    (λ own. ((h.long, h.tag, own.0), (fits, refl), back ∙ sym own.1), h.then)
key_held Rsa key x next k passes =
    let h₁ = held _ _ _ k passes in
    let h₂ = held _ _ _ k h₁.1 in
    let fits = numbers_fit key x h₁.0 h₂.0 in
    (λ own. ((fits.0, own.0), (fits.1, own.1), refl), h₂.1)
