-- The plain writer's tests of a key, and what fits the format: a key that fits passes them, and RSA's numbers that pass them fit.
use Rattle.std.specs.Prelude.{◌≡◌, refl, true, List, [], ◌∷◌, ◌++◌, map}
use Rattle.std.proofs.Common.{◌∙◌, ap, eq-eqb}
use Rattle.fields.specs.Bytes.{both_true}
use Rattle.names.specs.declared.Algorithm.{Algorithm}
use Rattle.names.specs.declared.Algorithm.TheVariants.{Elliptic as OnCurve, Rsa}
use Rattle.mpint.specs.Mpint.{is_mpint, modulus_fits, at_most}
use Rattle.utf8.specs.Utf8.{utf8}
use Rattle.format.specs.Format.{PublicBytes, PrivateBytes, Key, filled, ModulusFits, NumbersFit, PublicFits, PrivateFits, filled_key}
use Rattle.format.specs.Scalars.{filled_private, filled_zero, fits_allowed, fits_some}
use Rattle.fields.specs.declared.Refusal.TheVariants.{CharacterEncoding}
use Rattle.writer_reply.specs.Reply.{unless, Written}
use Rattle.writer_plain.specs.Plain.{all_mpints, sizes_fit, key_checked, keys_checked}

-- a key that fits passes the plain writer's first tests, its scalar filled
pub checks_pass :
    (a : Algorithm) (key : PublicBytes) (x : PrivateBytes) (next : Written) → PublicFits a key → PrivateFits a key x
    → key_checked a key (filled a x) next ≡ next
unfolding key_checked all_mpints sizes_fit
checks_pass (OnCurve e) key x next fits fit =
    rw (
      eq-eqb _ _ fits.0,
      eq-eqb _ _ (filled_private e x.scalar (fits_allowed e x.scalar fit.0)),
      fits.1,
      filled_zero e x.scalar,
      fits_some e x.scalar fit.0,
    )
checks_pass Rsa key x next fits fit =
    let n = fits.0 in
    let m = fit.0 in
    rw (
      n.modulus,
      n.exponent,
      m.mpint_d,
      m.mpint_iqmp,
      m.mpint_p,
      m.mpint_q,
      n.size,
      n.exponent_size,
      m.size_d,
      m.size_iqmp,
      m.size_p,
      m.size_q,
    )

-- keys that fit, with comments that are UTF-8
abbrev pub AllFit : List Key → Type 0
AllFit [] = Unit {0}
AllFit (k ∷ keys) =
    PublicFits k.algorithm k.public
    × PrivateFits k.algorithm k.public k.private
    × (utf8 k.comment ≡ true)
    × AllFit keys

-- they all pass, their scalars filled
pub keys_pass : (keys : List Key) (next : Written) → AllFit keys → keys_checked (map filled_key keys) next ≡ next
unfolding keys_checked
keys_pass [] next fit = refl
keys_pass (k ∷ keys) next fit =
    checks_pass k.algorithm k.public k.private _ fit.0 fit.1 ∙ rw fit.2 (keys_pass keys next fit.3)

-- the checks of a list, and then those of another
pub checked_append : (xs ys : List Key) (next : Written) → keys_checked (xs ++ ys) next ≡ keys_checked xs (keys_checked ys next)
unfolding keys_checked
checked_append [] ys next = refl
checked_append (k ∷ xs) ys next =
    ap (λ (w : Written). key_checked k.algorithm k.public k.private (unless (utf8 k.comment) CharacterEncoding w)) (checked_append xs ys next)

-- six numbers that pass them fit
pub numbers_fit : (key : PublicBytes) (x : PrivateBytes) → all_mpints key x ≡ true → sizes_fit key x ≡ true → ModulusFits key.modulus key.exponent × NumbersFit key.modulus x.d x.iqmp x.p x.q
unfolding all_mpints sizes_fit
numbers_fit key x m s =
    let m₅ = both_true _ (is_mpint x.q) m in
    let m₄ = both_true _ (is_mpint x.p) m₅.0 in
    let m₃ = both_true _ (is_mpint x.iqmp) m₄.0 in
    let m₂ = both_true _ (is_mpint x.d) m₃.0 in
    let m₁ = both_true _ (is_mpint key.exponent) m₂.0 in
    let s₅ = both_true _ (at_most x.q key.modulus) s in
    let s₄ = both_true _ (at_most x.p key.modulus) s₅.0 in
    let s₃ = both_true _ (at_most x.iqmp key.modulus) s₄.0 in
    let s₂ = both_true _ (at_most x.d key.modulus) s₃.0 in
    let s₁ = both_true (modulus_fits key.modulus) (at_most key.exponent key.modulus) s₂.0 in (
      record { modulus = m₁.0; exponent = m₁.1; size = s₁.0; exponent_size = s₁.1 },
      record {
        mpint_d = m₂.1;
        mpint_iqmp = m₃.1;
        mpint_p = m₄.1;
        mpint_q = m₅.1;
        size_d = s₂.1;
        size_iqmp = s₃.1;
        size_p = s₄.1;
        size_q = s₅.1;
      },
    )
