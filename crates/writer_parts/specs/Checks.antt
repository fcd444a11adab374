-- docs/RULES.md, 10.5. What a plain writer asks of a key: a length wrong for the kind 1; point tag 2; a scalar of zeros 2.
-- 10.6, RSA: the writer takes the six mpints and refuses 2, then 1.
use Rattle.std.specs.Prelude.{ℕ, ◌≡◌, refl, Bool, true, false, ◌&&◌, eqb, length, Ok, Err}
use Rattle.fields.specs.Place.{clash}
use Rattle.fields.specs.declared.Fault.{Fault}
use Rattle.fields.specs.declared.Refusal.{Refusal}
use Rattle.fields.specs.declared.Refusal.TheVariants.{Length, FormatEncoding}
use Rattle.names.specs.declared.Algorithm.{Algorithm}
use Rattle.names.specs.declared.Algorithm.TheVariants.{Elliptic as OnCurve, Rsa}
use Rattle.mpint.specs.Mpint.{is_mpint, modulus_fits, at_most}
use Rattle.format.specs.Format.{PublicBytes, PrivateBytes, public_length, private_length, point_tag, not_zero}
use Rattle.writer_reply.specs.Reply.{unless, Written}

-- all six are positive and minimal, in the order n, e, d, iqmp, p, q
unfoldable pub all_mpints : PublicBytes → PrivateBytes → Bool
all_mpints key x =
    is_mpint key.modulus && is_mpint key.exponent && is_mpint x.d && is_mpint x.iqmp && is_mpint x.p && is_mpint x.q

-- the modulus has its size, and no other number more bits
unfoldable pub sizes_fit : PublicBytes → PrivateBytes → Bool
sizes_fit key x =
    modulus_fits key.modulus
    && at_most key.exponent key.modulus
    && at_most x.d key.modulus
    && at_most x.iqmp key.modulus
    && at_most x.p key.modulus
    && at_most x.q key.modulus

-- what a key has to be, and then
unfoldable pub key_checked : Algorithm → PublicBytes → PrivateBytes → Written → Written
key_checked (OnCurve e) key x next =
    unless (eqb (length key.point) (public_length e)) Length
    (unless (eqb (length x.scalar) (private_length e)) Length
    (unless (point_tag e key.point) FormatEncoding
    (unless (not_zero e x.scalar) FormatEncoding
    next)))
key_checked Rsa key x next = unless (all_mpints key x) FormatEncoding (unless (sizes_fit key x) Length next)

-- nothing is wrong, and nothing written yet
abbrev pub passed : Written
passed = Ok 0

-- ---- a check that refuses does so whatever comes next, and one that passes goes on to it

-- what a check of any conditions is like
pub record Checking (check : Written → Written) : Type 0 where
  pub refuses : (f : Fault) (next : Written) → check passed ≡ Err f → check next ≡ Err f
  pub passes : (n : ℕ) (next : Written) → check passed ≡ Ok n → check next ≡ next

pub checking_nothing : Checking (λ next. next)
checking_nothing = record { refuses = λ f next e. clash cc; passes = λ n next e. refl }

-- one condition more
pub checking_unless : {check : Written → Written} (b : Bool) (why : Refusal) → Checking check → Checking (λ next. unless b why (check next))
checking_unless true why c = record { refuses = c.refuses; passes = c.passes }
checking_unless false why c = record { refuses = λ f next e. e; passes = λ n next e. clash cc }

pub checking_key : (a : Algorithm) (key : PublicBytes) (x : PrivateBytes) → Checking (key_checked a key x)
unfolding key_checked
checking_key (OnCurve e) key x =
    checking_unless (eqb (length key.point) (public_length e)) Length
    (checking_unless (eqb (length x.scalar) (private_length e)) Length
    (checking_unless (point_tag e key.point) FormatEncoding
    (checking_unless (not_zero e x.scalar) FormatEncoding
    checking_nothing)))
checking_key Rsa key x =
    checking_unless (all_mpints key x) FormatEncoding
    (checking_unless (sizes_fit key x) Length
    checking_nothing)
