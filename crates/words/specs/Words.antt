-- Bytes compared by words: the number of some bytes tells them (`same_low`), and bytes are the same where their pieces are, one for each
-- binary digit of the length (`in_pieces`).
use Rattle.std.specs.Prelude.{ℕ, zero, suc, ◌+◌, ◌*◌, ◌%◌, ◌≤◌, ◌<◌, ◌≡◌, refl, Bool, true, false, cond, ◌&&◌, List, [], ◌∷◌, eqb, ltb, length, get_or, take, drop}
use Rattle.std.proofs.Common.{arith, sym, ◌∙◌, ap, eqb-true, eq-eqb, ne_eqb, ltb-true, ltb-false, lt-ltb, le-ltb, length-drop, drop-cons, drop-drop, length-take-le}
use Rattle.std.proofs.lemmas.Bool.{eqb-false}
use Rattle.fields.specs.Bytes.{same_bytes, and_next, and_true}

-- the number whose digits to base 256 are the bytes, the first the lowest
abbrev pub low : List ℕ → ℕ
low [] = 0
low (x ∷ xs) = low xs * 256 + x

-- each is a byte
abbrev pub Digits : List ℕ → Type 0
Digits [] = Unit {0}
Digits (x ∷ xs) = (x < 256) × Digits xs

-- the number is that of w bytes at the place
abbrev pub IsWord : ℕ → List ℕ → ℕ → ℕ → Type 0
IsWord w s at number = (number ≡ low (take w (drop at s))) × Digits (take w (drop at s))

-- whether the w bytes are the same that a length has with its binary digit w; true where it doesn't have that digit
unfoldable pub same_piece : ℕ → List ℕ → List ℕ → Bool
same_piece w a b =
    cond (ltb (length b % (w + w)) w) true
    (same_bytes (take w (drop (length b % w) a)) (take w (drop (length b % w) b)))

-- ---- numbers

last_digit_lem : (m n x y : ℕ) → x < 256 → y < 256 → eqb (m * 256 + x) (n * 256 + y) ≡ (eqb x y && eqb m n)
last_digit_lem m n x y h k = go (eqb x y) (eqb m n) (eqb-true x y) (eqb-false x y) (eqb-true m n) (eqb-false m n)
  where
    go :
        (t u : Bool) → (t ≡ true → x ≡ y) → (t ≡ false → x ≡ y → ⊥) → (u ≡ true → m ≡ n) → (u ≡ false → m ≡ n → ⊥)
        → eqb (m * 256 + x) (n * 256 + y) ≡ (t && u)
    go true true p p' q q' = eq-eqb (m * 256 + x) (n * 256 + y) (omega (arith, p refl, q refl))
    go true false p p' q q' = ne_eqb (m * 256 + x) (n * 256 + y) (λ e. q' refl (omega (arith, e, p refl)))
    go false u p p' q q' = ne_eqb (m * 256 + x) (n * 256 + y) (λ e. p' refl (omega (arith, e, h, k)))

pub same_low : (xs ys : List ℕ) → length xs ≡ length ys → Digits xs → Digits ys → eqb (low xs) (low ys) ≡ same_bytes xs ys
same_low [] [] e p q = eq-eqb 0 0 refl
same_low [] (y ∷ ys) e p q = absurd (omega arith)
same_low (x ∷ xs) [] e p q = absurd (omega arith)
same_low (x ∷ xs) (y ∷ ys) e p q =
    last_digit_lem (low xs) (low ys) x y p.0 q.0 ∙ ap (λ (t : Bool). eqb x y && t) (same_low xs ys (omega (arith, e)) p.1 q.1)

-- the bytes at a place, one by one
next_byte : (w : ℕ) (s : List ℕ) (i j : ℕ) → j ≡ suc i → i < length s → take (suc w) (drop i s) ≡ get_or s i 0 ∷ take w (drop j s)
next_byte w s i j e h = rw (e, drop-cons s i 0 h)

pub two_bytes : (s : List ℕ) (i : ℕ) → i + 2 ≤ length s → take 2 (drop i s) ≡ get_or s i 0 ∷ get_or s (i + 1) 0 ∷ []
two_bytes s i h =
    next_byte 1 s i (i + 1) (omega arith) (omega (arith, h))
    ∙ ap (λ (l : List ℕ). get_or s i 0 ∷ l) (next_byte 0 s (i + 1) (i + 2) (omega arith) (omega (arith, h)))

pub four_bytes :
    (w : ℕ) (s : List ℕ) (i : ℕ) → i + 4 ≤ length s
    → take (suc (suc (suc (suc w)))) (drop i s) ≡ get_or s i 0 ∷ get_or s (i + 1) 0 ∷ get_or s (i + 2) 0 ∷ get_or s (i + 3) 0 ∷ take w (drop (i + 4) s)
four_bytes w s i h =
    next_byte (suc (suc (suc w))) s i (i + 1) (omega arith) (omega (arith, h))
    ∙ ap (λ (l : List ℕ). get_or s i 0 ∷ l)
    (next_byte (suc (suc w)) s (i + 1) (i + 2) (omega arith) (omega (arith, h))
    ∙ ap (λ (l : List ℕ). get_or s (i + 1) 0 ∷ l)
    (next_byte (suc w) s (i + 2) (i + 3) (omega arith) (omega (arith, h))
    ∙ ap (λ (l : List ℕ). get_or s (i + 2) 0 ∷ l) (next_byte w s (i + 3) (i + 4) (omega arith) (omega (arith, h)))))

pub eight_apart :
    (s : List ℕ) (i : ℕ) → i + 8 ≤ length s
    → take 8 (drop i s)
    ≡ get_or s i 0 ∷ get_or s (i + 1) 0 ∷ get_or s (i + 2) 0 ∷ get_or s (i + 3) 0 ∷ get_or s (i + 4) 0 ∷ get_or s (i + 5) 0 ∷ get_or s (i + 6) 0 ∷ get_or s (i + 7) 0 ∷ []
eight_apart s i h =
    four_bytes 4 s i (omega (arith, h))
    ∙ ap (λ (l : List ℕ). get_or s i 0 ∷ get_or s (i + 1) 0 ∷ get_or s (i + 2) 0 ∷ get_or s (i + 3) 0 ∷ l)
    (rw (plus 5 1 refl, plus 6 2 refl, plus 7 3 refl) at (four_bytes 0 s (i + 4) (omega (arith, h))))
  where
    plus : (k j : ℕ) → k ≡ 4 + j → i + 4 + j ≡ i + k
    plus k j e = omega (arith, e)

pub eight_bytes :
    (s : List ℕ) (i m n : ℕ) → i + 8 ≤ length s → IsWord 4 s i m → IsWord 4 s (i + 4) n → IsWord 8 s i (n * 4294967296 + m)
eight_bytes s i m n h p q =
    let f = four_bytes 0 s i (omega (arith, h)) in
    let d = rw f at p.1 in
    rw (four_bytes 4 s i (omega (arith, h))) (omega (arith, rw f at p.0, q.0), (d.0, (d.1.0, (d.1.1.0, (d.1.1.1.0, q.1)))))

-- ---- pieces

same_split : (k : ℕ) (a b : List ℕ) → same_bytes a b ≡ (same_bytes (take k a) (take k b) && same_bytes (drop k a) (drop k b))
same_split zero a b = refl
same_split (suc k) [] [] = refl
same_split (suc k) [] (y ∷ ys) = refl
same_split (suc k) (x ∷ xs) [] = refl
same_split (suc k) (x ∷ xs) (y ∷ ys) = ap (λ (t : Bool). eqb x y && t) (same_split k xs ys) ∙ and_next (eqb x y) _ _

-- two words tell whether their bytes are the same
pub same_words :
    (w : ℕ) (a b : List ℕ) (i x y : ℕ) → length a ≡ length b → i + w ≤ length b → IsWord w a i x → IsWord w b i y
    → eqb x y ≡ same_bytes (take w (drop i a)) (take w (drop i b))
same_words w a b i x y e h p q =
    let la : length (take w (drop i a)) ≡ w = length-take-le w (drop i a) (omega (arith, e, h, length-drop i a)) in
    let lb : length (take w (drop i b)) ≡ w = length-take-le w (drop i b) (omega (arith, h, length-drop i b)) in
    rw (p.0, q.0) (same_low (take w (drop i a)) (take w (drop i b)) (la ∙ sym lb) p.1 q.1)

-- the bytes at the place are the same where a word is, and what comes after it
pub same_from :
    (w : ℕ) (a b : List ℕ) (i x y : ℕ) → length a ≡ length b → i + w ≤ length b → IsWord w a i x → IsWord w b i y
    → same_bytes (drop i a) (drop i b) ≡ (eqb x y && same_bytes (drop (i + w) a) (drop (i + w) b))
same_from w a b i x y e h p q =
    rw (same_words w a b i x y e h p q, ← drop-drop w i a, ← drop-drop w i b) (same_split w (drop i a) (drop i b))

-- the length doesn't have the digit, or the piece is two words to compare
pub no_piece : (w : ℕ) (a b : List ℕ) → length b % (w + w) < w → true ≡ same_piece w a b
unfolding same_piece
no_piece w a b h = rw (lt-ltb (length b % (w + w)) w h)

pub piece_words :
    (w : ℕ) (a b : List ℕ) (x y : ℕ) → length a ≡ length b → w ≤ length b % (w + w) → length b % w + w ≤ length b
    → IsWord w a (length b % w) x → IsWord w b (length b % w) y → eqb x y ≡ same_piece w a b
unfolding same_piece
piece_words w a b x y e d h p q = rw (le-ltb (length b % (w + w)) w d) (same_words w a b (length b % w) x y e h p q)

-- the piece of one byte
pub piece_one : (a b : List ℕ) → length a ≡ length b → 1 ≤ length b % 2 → eqb (get_or a 0 0) (get_or b 0 0) ≡ same_piece 1 a b
unfolding same_piece
piece_one a [] e h = absurd (omega arith)
piece_one [] (y ∷ ys) e h = absurd (omega arith)
piece_one (x ∷ xs) (y ∷ ys) e h =
    let z : suc (length ys) % 1 ≡ 0 = omega arith in
    rw (le-ltb (suc (length ys) % 2) 1 h, z) (and_true (eqb x y))

-- a piece, and what is left after it
piece :
    (w : ℕ) (a b : List ℕ) → (length b % (w + w) < w → length b % (w + w) ≡ length b % w)
    → (w ≤ length b % (w + w) → length b % (w + w) ≡ length b % w + w)
    → same_bytes (drop (length b % w) a) (drop (length b % w) b)
    ≡ (same_piece w a b && same_bytes (drop (length b % (w + w)) a) (drop (length b % (w + w)) b))
unfolding same_piece
piece w a b small large = go (ltb j w) (ltb-true j w) (ltb-false j w)
  where
    i : ℕ
    i = length b % w

    j : ℕ
    j = length b % (w + w)

    go :
        (t : Bool) → (t ≡ true → j < w) → (t ≡ false → w ≤ j)
        → same_bytes (drop i a) (drop i b) ≡ (cond t true (same_bytes (take w (drop i a)) (take w (drop i b))) && same_bytes (drop j a) (drop j b))
    go true h k = ap (λ (m : ℕ). same_bytes (drop m a) (drop m b)) (sym (small (h refl)))
    go false h k =
        same_split w (drop i a) (drop i b)
        ∙ ap (λ (t : Bool). same_bytes (take w (drop i a)) (take w (drop i b)) && t)
        (rw (drop-drop w i a, drop-drop w i b) (ap (λ (m : ℕ). same_bytes (drop m a) (drop m b)) (sym (large (k refl)))))

pub in_pieces :
    (a b : List ℕ)
    → same_bytes a b
    ≡ (same_piece 1 a b
    && (same_piece 2 a b
    && (same_piece 4 a b && (same_piece 8 a b && same_bytes (drop (length b % 16) a) (drop (length b % 16) b)))))
in_pieces a b =
    ap (λ (m : ℕ). same_bytes (drop m a) (drop m b)) first
    ∙ piece 1 a b (λ h. omega arith) (λ h. omega arith)
    ∙ ap (λ (t : Bool). same_piece 1 a b && t)
    (piece 2 a b (λ h. omega arith) (λ h. omega arith)
    ∙ ap (λ (t : Bool). same_piece 2 a b && t)
    (piece 4 a b (λ h. omega arith) (λ h. omega arith)
    ∙ ap (λ (t : Bool). same_piece 4 a b && t) (piece 8 a b (λ h. omega arith) (λ h. omega arith))))
  where
    first : 0 ≡ length b % 1
    first = omega arith
