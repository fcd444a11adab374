-- The test `utf8` accepts what the grammar derives and nothing else (`utf8_sound`, `utf8_complete`), and what that means for
-- ASCII (`ascii_next`, `ascii_utf8`). Assumes nothing.
use Rattle.std.specs.Prelude.{ℕ, zero, suc, ◌+◌, ◌-◌, ◌≤◌, ◌<◌, ◌≡◌, refl, Bool, true, false, cond, ◌&&◌, length, get_or, leb, eqb}
use Rattle.std.proofs.Common.{eq-or-lt_of_le, arith, sym, ◌∙◌, ap, ⊎_elim, le-leb, leb-true, eqb-true}
use mathlib.Core.List.{List, [], ◌∷◌, ◌++◌, Memᴰ}
use Rattle.std.proofs.lemmas.Bool.{false≢true}
use Rattle.std.proofs.Math.Bool.{and-eq-true_iff}
use Rattle.utf8.specs.Utf8.{◌to◌, Row, UTF8-char, InRow, done, next, Octets, end, char, lies, rest, utf8_from, utf8}

pub lies_is : (low high b : ℕ) → lies (low to high) b ≡ true → (low ≤ b) × (b ≤ high)
lies_is low high b e =
    let f = (and-eq-true_iff (leb low b) (leb b high)).0 e in
    (leb-true low b f.0, leb-true b high f.1)

lies_in : (low high b : ℕ) → low ≤ b → b ≤ high → lies (low to high) b ≡ true
lies_in low high b h k = rw (le-leb low b h, le-leb b high k)

-- ---- a character's first byte tells its row, as is computed at each byte

-- the test holds at n numbers from low on
abbrev pub every : (ℕ → Bool) → ℕ → ℕ → Bool
every p low zero = true
every p low (suc n) = p low && every p (suc low) n

each : (p : ℕ → Bool) (low n b : ℕ) → every p low n ≡ true → low ≤ b → b < low + n → p b ≡ true
each p low zero b e h k = absurd (omega arith)
each p low (suc n) b e h k =
    let f = (and-eq-true_iff (p low) (every p (suc low) n)).0 e in
    ⊎_elim (λ q. rw (← q) f.0) (λ q. each p (suc low) n b f.1 q (omega arith)) (eq-or-lt_of_le h)

abbrev pub same : Row → Row → Bool
same [] [] = true
same [] (s ∷ ss) = false
same (r ∷ rs) [] = false
same (low to high ∷ rs) (low' to high' ∷ ss) = eqb low low' && (eqb high high' && same rs ss)

same_is : (rs ss : Row) → same rs ss ≡ true → rs ≡ ss
same_is [] [] e = refl
same_is [] (s ∷ ss) e = absurd (false≢true e)
same_is (r ∷ rs) [] e = absurd (false≢true e)
same_is (low to high ∷ rs) (low' to high' ∷ ss) e =
    let f = (and-eq-true_iff (eqb low low') (eqb high high' && same rs ss)).0 e in
    let g = (and-eq-true_iff (eqb high high') (same rs ss)).0 f.1 in
    cc (eqb-true low low' f.0, eqb-true high high' g.0, same_is rs ss g.1)

-- these ranges, which may hang on the byte, are left after each byte from low to high
abbrev pub each_leaves : ℕ → ℕ → (ℕ → Row) → Bool
each_leaves low high ranges = every (λ b. same (ranges b) (rest b UTF8-char)) low (suc high - low)

pub rest_each : (low high : ℕ) (ranges : ℕ → Row) (b : ℕ) → each_leaves low high ranges ≡ true → low ≤ b → b ≤ high →
    ranges b ≡ rest b UTF8-char
rest_each low high ranges b e h k =
    same_is _ _ (each (λ (b : ℕ). same (ranges b) (rest b UTF8-char)) low (suc high - low) b e h (omega arith))

-- the same ranges after each
abbrev pub leaves : ℕ → ℕ → Row → Bool
leaves low high ranges = each_leaves low high (λ b. ranges)

pub rest_between : (low high : ℕ) {ranges : Row} {b : ℕ} → leaves low high ranges ≡ true → low ≤ b → b ≤ high →
    ranges ≡ rest b UTF8-char
rest_between low high {ranges} {b} e h k = rest_each low high (λ b. ranges) b e h k

-- each byte of the row's first range leaves the row's other ranges
abbrev tells : Row → Bool
tells [] = true
tells (low to high ∷ ranges) = leaves low high ranges

abbrev all_tell : List Row → Bool
all_tell [] = true
all_tell (row ∷ rows) = tells row && all_tell rows

each_tells : (row : Row) (rows : List Row) → all_tell rows ≡ true → Memᴰ row rows → tells row ≡ true
each_tells row [] e m = elim m [ ]
each_tells row (x ∷ rows) e (Memᴰ.head q) = rw q ((and-eq-true_iff (tells x) (all_tell rows)).0 e).0
each_tells row (x ∷ rows) e (Memᴰ.tail m) = each_tells row rows ((and-eq-true_iff (tells x) (all_tell rows)).0 e).1 m

rest_is : {low high b : ℕ} {ranges : Row} → Memᴰ (low to high ∷ ranges) UTF8-char → low ≤ b → b ≤ high →
    ranges ≡ rest b UTF8-char
rest_is {low} {high} m = rest_between low high (each_tells _ UTF8-char (unfold UTF8-char in refl) m)

-- ---- what the test accepts, the grammar derives

-- the text begins with bytes that lie in the row, and goes on as UTF-8
data OctetsFrom : Row → List ℕ → Type 0 where
  go_on : {row : Row} {bytes more : List ℕ} → InRow row bytes → Octets more → OctetsFrom row (bytes ++ more)

one_before : {low high b : ℕ} {ranges : Row} {t : List ℕ} → (low ≤ b) × (b ≤ high) → OctetsFrom ranges t →
    OctetsFrom (low to high ∷ ranges) (b ∷ t)
one_before h (go_on r o) = go_on (next h.0 h.1 r) o

whole : {row : Row} {t : List ℕ} → Memᴰ row UTF8-char → OctetsFrom row t → Octets t
whole m (go_on r o) = char m r o

no_row : {t : List ℕ} → OctetsFrom (1 to 0 ∷ []) t → ⊥
no_row (go_on (next h k r) o) = omega arith

-- the byte begins one of the rows
begins : (b : ℕ) (t : List ℕ) (rows : List Row) → ((row : Row) → Memᴰ row rows → Memᴰ row UTF8-char) →
    OctetsFrom (rest b rows) t → Octets (b ∷ t)
begins b t [] among s = absurd (no_row s)
begins b t ([] ∷ rows) among s = begins b t rows (λ row m. among row (Memᴰ.tail m)) s
begins b t ((low to high ∷ ranges) ∷ rows) among s =
    this_or_later (lies (low to high) b) refl s (begins b t rows (λ row m. among row (Memᴰ.tail m)))
  where
    this_or_later : (x : Bool) → lies (low to high) b ≡ x → OctetsFrom (cond x ranges (rest b rows)) t →
        (OctetsFrom (rest b rows) t → Octets (b ∷ t)) → Octets (b ∷ t)
    this_or_later true e s later = whole (among _ (Memᴰ.head refl)) (one_before (lies_is low high b e) s)
    this_or_later false e s later = later s

derived : (row : Row) (t : List ℕ) → utf8_from row t ≡ true → OctetsFrom row t
unfolding utf8_from
derived [] [] e = go_on done end
derived (range ∷ ranges) [] e = absurd (false≢true e)
derived [] (b ∷ t) e = go_on done (begins b t UTF8-char (λ row m. m) (derived (rest b UTF8-char) t e))
derived (low to high ∷ ranges) (b ∷ t) e =
    let f = (and-eq-true_iff (lies (low to high) b) (utf8_from ranges t)).0 e in
    one_before (lies_is low high b f.0) (derived ranges t f.1)

at_start : {t : List ℕ} → OctetsFrom [] t → Octets t
at_start (go_on done o) = o

pub utf8_sound : (t : List ℕ) → utf8 t ≡ true → Octets t
unfolding utf8
utf8_sound t e = at_start (derived [] t e)

-- ---- what the grammar derives, the test accepts

pass : {row : Row} {bytes : List ℕ} (t : List ℕ) → InRow row bytes → utf8_from row (bytes ++ t) ≡ utf8_from [] t
unfolding utf8_from
pass t done = refl
pass t (next {low} {high} {b} h k r) = rw (lies_in low high b h k) (pass t r)

pass_char : {row : Row} {bytes : List ℕ} (t : List ℕ) → Memᴰ row UTF8-char → InRow row bytes →
    utf8_from [] (bytes ++ t) ≡ utf8_from [] t
unfolding utf8_from
pass_char t m done = refl
pass_char t m (next {bytes = s} h k r) = ap (λ (row : Row). utf8_from row (s ++ t)) (sym (rest_is m h k)) ∙ pass t r

pub utf8_complete : {t : List ℕ} → Octets t → utf8 t ≡ true
unfolding utf8 utf8_from
utf8_complete end = refl
utf8_complete (char {more = t} m r o) = pass_char t m r ∙ utf8_complete o

-- ---- ASCII

pub ascii_next : (b : ℕ) (t : List ℕ) → b < 0x80 → utf8 (b ∷ t) ≡ utf8 t
unfolding utf8 utf8_from UTF8-char
ascii_next b t h =
    ap (λ (row : Row). utf8_from row t) (sym (rest_between 0x00 0x7F {ranges = []} {b = b} refl (omega arith) (omega arith)))

pub ascii_utf8 : (t : List ℕ) → ((k : ℕ) → k < length t → get_or t k 0 < 0x80) → utf8 t ≡ true
unfolding utf8 utf8_from
ascii_utf8 [] h = refl
ascii_utf8 (b ∷ t) h = ascii_next b t (h 0 (omega arith)) ∙ ascii_utf8 t (λ k l. h (suc k) (omega arith))
