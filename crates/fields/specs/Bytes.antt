-- docs/RULES.md, 3.1 and 3.2: bytes as lists of numbers, text in ASCII, RFC 4251's uint32 and string as they are written, fields joined, and whether two
-- lists are the same.
use Rattle.std.specs.Prelude.{ℕ, zero, suc, ◌/◌, ◌%◌, ◌≤◌, ◌<◌, ◌≡◌, refl, Bool, true, false, ◌&&◌, List, [], ◌∷◌, ◌++◌, eqb, length, get_or, drop}
use Prim.Native.Char.{code}
use Prim.Native.String.{String, [] as []ˢ, ◌∷◌ as ◌∷ˢ◌}
use Rattle.std.proofs.Common.{arith, ap, eqb-true, eq-eqb}

-- the bytes of a text in ASCII
abbrev pub ascii : String → List ℕ
ascii []ˢ = []
ascii (c ∷ˢ s) = code c ∷ ascii s

-- a uint32 is big-endian
unfoldable pub uint32 : ℕ → List ℕ
uint32 n = n / 16777216 % 256 ∷ n / 65536 % 256 ∷ n / 256 % 256 ∷ n % 256 ∷ []

-- a string is a uint32 length and that many bytes
unfoldable pub string : List ℕ → List ℕ
string b = uint32 (length b) ++ b

-- fields, one after the other
abbrev pub join : List (List ℕ) → List ℕ
join [] = []
join (field ∷ more) = field ++ join more

-- each element is a byte
abbrev pub AllBytes : List ℕ → Type 0
AllBytes s = (i : ℕ) → get_or s i 0 < 256

abbrev pub same_bytes : List ℕ → List ℕ → Bool
same_bytes [] [] = true
same_bytes [] (y ∷ ys) = false
same_bytes (x ∷ xs) [] = false
same_bytes (x ∷ xs) (y ∷ ys) = eqb x y && same_bytes xs ys

-- ---- same_bytes is equality

pub both_true : (a b : Bool) → (a && b) ≡ true → (a ≡ true) × (b ≡ true)
both_true true true e = (refl, refl)
both_true true false e = (refl, e)
both_true false true e = (e, refl)
both_true false false e = (e, e)

pub same_true : (a b : List ℕ) → same_bytes a b ≡ true → a ≡ b
same_true [] [] e = refl
same_true [] (y ∷ ys) e = cc
same_true (x ∷ xs) [] e = cc
same_true (x ∷ xs) (y ∷ ys) e =
    let k = both_true (eqb x y) (same_bytes xs ys) e in
    let h : x ≡ y = eqb-true x y k.0 in
    let t : xs ≡ ys = same_true xs ys k.1 in
    cc

pub same_self : (a : List ℕ) → same_bytes a a ≡ true
same_self [] = refl
same_self (x ∷ xs) = simp (eq-eqb x x refl, same_self xs)

pub and_next : (x y z : Bool) → (x && (y && z)) ≡ ((x && y) && z)
and_next true y z = refl
and_next false y z = refl

pub and_true : (x : Bool) → x ≡ (x && true)
and_true true = refl
and_true false = refl

-- one byte more
pub same_next :
    (a b : List ℕ) (i : ℕ) → i < length a → i < length b
    → same_bytes (drop i a) (drop i b) ≡ (eqb (get_or a i 0) (get_or b i 0) && same_bytes (drop (suc i) a) (drop (suc i) b))
same_next [] b i h k = absurd (omega arith)
same_next (x ∷ xs) [] i h k = absurd (omega arith)
same_next (x ∷ xs) (y ∷ ys) zero h k = refl
same_next (x ∷ xs) (y ∷ ys) (suc i) h k = same_next xs ys i (omega arith) (omega arith)

-- past the last byte
pub same_end : (a b : List ℕ) (i : ℕ) → length a ≤ i → length a ≡ length b → same_bytes (drop i a) (drop i b) ≡ true
same_end [] [] zero h k = refl
same_end [] [] (suc i) h k = refl
same_end [] (y ∷ ys) i h k = absurd (omega arith)
same_end (x ∷ xs) [] i h k = absurd (omega arith)
same_end (x ∷ xs) (y ∷ ys) zero h k = absurd (omega arith)
same_end (x ∷ xs) (y ∷ ys) (suc i) h k = same_end xs ys i (omega arith) (omega arith)

-- lists of other lengths aren't the same
pub not_as_long : (a b : List ℕ) → (length a ≡ length b → ⊥) → false ≡ same_bytes a b
not_as_long a b h = go (same_bytes a b) (same_true a b)
  where
    go : (t : Bool) → (t ≡ true → a ≡ b) → false ≡ t
    go true k = absurd (h (ap length (k refl)))
    go false k = refl

-- no bytes
pub length-zero : (l : List ℕ) → length l ≡ 0 → l ≡ []
length-zero [] z = refl
length-zero (x ∷ xs) z = absurd (omega arith)
