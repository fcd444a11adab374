-- docs/RULES.md, 6.1 and 6.3: the algorithms' and curves' names, and each curve's SIZE.
use Rattle.std.specs.Prelude.{ℕ, zero, suc, ◌<◌, ◌^◌, ◌≡◌, refl, Bool, true, List, [], ◌∷◌, ◌++◌, eqb, length, Option, Some, None}
use Rattle.std.proofs.Common.{arith, sym, ◌∙◌, ap, eq-eqb, eqb-true}
use Rattle.fields.specs.Bytes.{ascii}
use Rattle.names.specs.Table.{look_up, named}
use Rattle.names.specs.declared.Curve.{Curve}
use Rattle.names.specs.declared.Curve.TheVariants.{Nistp256, Nistp384, Nistp521}
use Rattle.names.specs.declared.Elliptic.TheVariants.{Ed25519, Ecdsa}
use Rattle.names.specs.declared.Algorithm.{Algorithm}
use Rattle.names.specs.declared.Algorithm.TheVariants.{Elliptic as OnCurve, Rsa}

abbrev pub curve_name : Curve → List ℕ
curve_name Nistp256 = ascii "nistp256"
curve_name Nistp384 = ascii "nistp384"
curve_name Nistp521 = ascii "nistp521"

abbrev curves : List Curve
curves = Nistp256 ∷ Nistp384 ∷ Nistp521 ∷ []

unfoldable pub curve_named : List ℕ → Option Curve
curve_named = look_up curve_name Some None curves

-- SIZE
abbrev pub size_of : Curve → ℕ
size_of Nistp256 = 32
size_of Nistp384 = 48
size_of Nistp521 = 66

abbrev pub algorithm_name : Algorithm → List ℕ
algorithm_name (OnCurve Ed25519) = ascii "ssh-ed25519"
algorithm_name (OnCurve (Ecdsa curve)) = ascii "ecdsa-sha2-" ++ curve_name curve
algorithm_name Rsa = ascii "ssh-rsa"

abbrev pub algorithms : List Algorithm
algorithms = OnCurve Ed25519 ∷ OnCurve (Ecdsa Nistp256) ∷ OnCurve (Ecdsa Nistp384) ∷ OnCurve (Ecdsa Nistp521) ∷ Rsa ∷ []

unfoldable pub algorithm_named : List ℕ → Option Algorithm
algorithm_named = look_up algorithm_name Some None algorithms

-- a number for each algorithm
abbrev pub algorithm_code : Algorithm → ℕ
algorithm_code (OnCurve Ed25519) = 0
algorithm_code (OnCurve (Ecdsa Nistp256)) = 1
algorithm_code (OnCurve (Ecdsa Nistp384)) = 2
algorithm_code (OnCurve (Ecdsa Nistp521)) = 3
algorithm_code Rsa = 4

-- whether two algorithms are the same
unfoldable pub same_algorithm : Algorithm → Algorithm → Bool
same_algorithm a b = eqb (algorithm_code a) (algorithm_code b)

-- ---- laws

pub curve_back : (k : Curve) → (curve_named (curve_name k) ≡ Some k) × (length (curve_name k) < 2 ^ 32)
unfolding curve_named
curve_back Nistp256 = (refl, omega arith)
curve_back Nistp384 = (refl, omega arith)
curve_back Nistp521 = (refl, omega arith)

pub curve_read : (b : List ℕ) (k : Curve) → curve_named b ≡ Some k → b ≡ curve_name k
unfolding curve_named
curve_read b k e =
    named curve_name Some None curves b k (λ q. let z : ◌≡◌ {A = ℕ} 0 1 = cc in omega arith) (λ x q. cc) e

-- a scalar's and a point's lengths fit a uint32 with room to spare
pub size_small : (k : Curve) → (0 < size_of k) × (size_of k < 100)
size_small Nistp256 = omega arith
size_small Nistp384 = omega arith
size_small Nistp521 = omega arith

pub algorithm_back : (a : Algorithm) → (algorithm_named (algorithm_name a) ≡ Some a) × (length (algorithm_name a) < 2 ^ 32)
unfolding algorithm_named
algorithm_back (OnCurve Ed25519) = (refl, omega arith)
algorithm_back (OnCurve (Ecdsa Nistp256)) = (refl, omega arith)
algorithm_back (OnCurve (Ecdsa Nistp384)) = (refl, omega arith)
algorithm_back (OnCurve (Ecdsa Nistp521)) = (refl, omega arith)
algorithm_back Rsa = (refl, omega arith)

pub algorithm_read : (b : List ℕ) (a : Algorithm) → algorithm_named b ≡ Some a → b ≡ algorithm_name a
unfolding algorithm_named
algorithm_read b a e =
    named algorithm_name Some None algorithms b a (λ q. let z : ◌≡◌ {A = ℕ} 0 1 = cc in omega arith) (λ x q. cc) e

-- the algorithm of a number
algorithm_of : ℕ → Algorithm
algorithm_of zero = OnCurve Ed25519
algorithm_of (suc zero) = OnCurve (Ecdsa Nistp256)
algorithm_of (suc (suc zero)) = OnCurve (Ecdsa Nistp384)
algorithm_of (suc (suc (suc zero))) = OnCurve (Ecdsa Nistp521)
algorithm_of (suc (suc (suc (suc n)))) = Rsa

code_back : (a : Algorithm) → algorithm_of (algorithm_code a) ≡ a
unfolding algorithm_of
code_back (OnCurve Ed25519) = refl
code_back (OnCurve (Ecdsa Nistp256)) = refl
code_back (OnCurve (Ecdsa Nistp384)) = refl
code_back (OnCurve (Ecdsa Nistp521)) = refl
code_back Rsa = refl

code_same : (a b : Algorithm) → algorithm_code a ≡ algorithm_code b → a ≡ b
code_same a b e = sym (code_back a) ∙ ap algorithm_of e ∙ code_back b

pub algorithm_self : (a : Algorithm) → same_algorithm a a ≡ true
unfolding same_algorithm
algorithm_self a = eq-eqb (algorithm_code a) (algorithm_code a) refl

pub algorithm_same : (a b : Algorithm) → same_algorithm a b ≡ true → a ≡ b
unfolding same_algorithm
algorithm_same a b e = code_same a b (eqb-true _ _ e)
