-- UTF-8 by each byte and the three before it. What stands before a place is a whole character's end, or one to three bytes of a character
-- that is not whole (`Standing`). A byte that may follow leads to the next place, and the text answers the same (`moves`); one that may not
-- stops it (`stops`). Rests on `first_leaves`, computed at each first byte, and on the definitions of `may_follow` and `utf8_from`.
use Prim.Native.Nat.{ℕ, ◌≤◌, ◌<◌}
use native.Mathlib.Omega.{arith}
use mathlib.Core.Path.{◌≡◌, refl, sym, ◌∙◌, ap}
use mathlib.Core.List.{List, [], ◌∷◌}
use mathlib.Core.Bool.{Bool, true, false, cond, ◌&&◌, ◌||◌, false≢true}
use borrow.Author.Tests.{le-leb, lt-leb, leb-true, leb-false, ltb-true, ltb-false, ne_eqb}
use lib.Dec.{leb, ltb, eqb}
use lib.ListN.{replicate}
use Rattle.utf8.specs.Utf8.{◌to◌, Row, UTF8-tail, UTF8-char, lies, rest, utf8_from, utf8}
use Rattle.utf8.specs.Laws.{lies_is, rest_each, rest_between, ascii_next}
use Rattle.utf8.proofs.Bytes.{no_row}
use Rattle.utf8.specs.Follow.{lowest_after, highest_after, may_follow}

-- ---- what a first byte leaves

abbrev tails_after : ℕ → ℕ
tails_after lead = cond (leb 0xF0 lead) 2 (cond (leb 0xE0 lead) 1 0)

abbrev left_after : ℕ → Row
left_after lead = lowest_after lead to highest_after lead ∷ replicate (tails_after lead) UTF8-tail

first_leaves : (b : ℕ) → 0xC2 ≤ b → b ≤ 0xF4 → left_after b ≡ rest b UTF8-char
first_leaves b h k = rest_each 0xC2 0xF4 left_after b (unfold UTF8-char in refl) h k

-- a character's first two bytes
two_bytes : (lead b : ℕ) (t : List ℕ) → 0xC2 ≤ lead → lead ≤ 0xF4 →
    utf8 (lead ∷ b ∷ t) ≡ (lies (lowest_after lead to highest_after lead) b && utf8_from (replicate (tails_after lead) UTF8-tail) t)
unfolding utf8 utf8_from
two_bytes lead b t h k = ap (λ (row : Row). utf8_from row (b ∷ t)) (sym (first_leaves lead h k))

begins_nothing : (b : ℕ) (t : List ℕ) → 1 to 0 ∷ [] ≡ rest b UTF8-char → utf8 (b ∷ t) ≡ false
unfolding utf8 utf8_from
begins_nothing b t e = ap (λ (row : Row). utf8_from row t) (sym e) ∙ no_row t

highest_tail : (lead : ℕ) → highest_after lead ≤ 0xBF
highest_tail lead = go (eqb lead 0xED) (eqb lead 0xF4)
  where
    go : (a b : Bool) → cond a 0x9F (cond b 0x8F 0xBF) ≤ 0xBF
    go true b = omega arith
    go false true = omega arith
    go false false = omega arith

pub below_lead : (lead b : ℕ) → lies (lowest_after lead to highest_after lead) b ≡ true → b < 0xC0
below_lead lead b h = omega (arith, (lies_is (lowest_after lead) (highest_after lead) b h).1, highest_tail lead)

-- after a byte that is no first byte any tail may stand
tail_range : (x b : ℕ) → x < 0xC0 → lies (lowest_after x to highest_after x) b ≡ lies UTF8-tail b
tail_range x b h =
    rw (
      ne_eqb x 0xE0 (λ e. omega (arith, h, e)),
      ne_eqb x 0xF0 (λ e. omega (arith, h, e)),
      ne_eqb x 0xED (λ e. omega (arith, h, e)),
      ne_eqb x 0xF4 (λ e. omega (arith, h, e)),
    )

-- ---- what stands before a place

pub data Standing (z y x : ℕ) : Type 0 where
  whole : z < 0xF0 → y < 0xE0 → x < 0xC0 → Standing z y x
  one : z < 0xF0 → y < 0xE0 → 0xC2 ≤ x → x ≤ 0xF4 → Standing z y x
  two : z < 0xF0 → 0xE0 ≤ y → y ≤ 0xF4 → lies (lowest_after y to highest_after y) x ≡ true → Standing z y x
  three : 0xF0 ≤ z → z ≤ 0xF4 → lies (lowest_after z to highest_after z) y ≡ true → lies UTF8-tail x ≡ true → Standing z y x

-- the answer of the text from where the character begins that is not whole
abbrev pub answer : {z y x : ℕ} → Standing z y x → List ℕ → Bool
answer (whole h k l) t = utf8 t
answer {x = x} (one h k l m) t = utf8 (x ∷ t)
answer {y = y} {x = x} (two h k l m) t = utf8 (y ∷ x ∷ t)
answer {z = z} {y = y} {x = x} (three h k l m) t = utf8 (z ∷ y ∷ x ∷ t)

asked_by_one : (z y x b : ℕ) → 0xC0 ≤ x → may_follow z y x b ≡ lies (lowest_after x to highest_after x) b
unfolding may_follow
asked_by_one z y x b h = rw (le-leb 0xC0 x h)

asked_by_two : (z y x b : ℕ) → 0xE0 ≤ y → x < 0xC0 → may_follow z y x b ≡ lies UTF8-tail b
unfolding may_follow
asked_by_two z y x b h k = rw (lt-leb 0xC0 x k, le-leb 0xE0 y h) (tail_range x b k)

asked_by_three : (z y x b : ℕ) → 0xF0 ≤ z → y < 0xC0 → x < 0xC0 → may_follow z y x b ≡ lies UTF8-tail b
unfolding may_follow
asked_by_three z y x b h k l = rw (lt-leb 0xC0 x l, lt-leb 0xE0 y (omega (arith, k)), le-leb 0xF0 z h) (tail_range x b l)

not_asked : (z y x b : ℕ) → z < 0xF0 → y < 0xE0 → x < 0xC0 → may_follow z y x b ≡ (ltb b 0x80 || lies (0xC2 to 0xF4) b)
unfolding may_follow
not_asked z y x b h k l = rw (lt-leb 0xC0 x l, lt-leb 0xE0 y k, lt-leb 0xF0 z h)

pub tail_below : (b : ℕ) → lies UTF8-tail b ≡ true → b < 0xC0
tail_below b h = omega (arith, (lies_is 0x80 0xBF b h).1)

-- ---- a byte that may follow

pub record Moved {z y x : ℕ} (before : Standing z y x) (b : ℕ) : Type 0 where
  pub next : Standing y x b
  pub same : (t : List ℕ) → answer before (b ∷ t) ≡ answer next t

moves_whole : (z y x b : ℕ) (h : z < 0xF0) (k : y < 0xE0) (l : x < 0xC0) → (ltb b 0x80 || lies (0xC2 to 0xF4) b) ≡ true → Moved {z = z} {y = y} {x = x} (whole h k l) b
moves_whole z y x b h k l e = go (ltb b 0x80) (ltb-true b 0x80) e
  where
    go : (a : Bool) → (a ≡ true → b < 0x80) → (a || lies (0xC2 to 0xF4) b) ≡ true → Moved {z = z} {y = y} {x = x} (whole h k l) b
    go true b< e = record { next = whole (omega (arith, k)) (omega (arith, l)) (omega (arith, b< refl)); same = λ t. ascii_next b t (b< refl) }
    go false b< e =
        let i = lies_is 0xC2 0xF4 b e in
        record { next = one (omega (arith, k)) (omega (arith, l)) i.0 i.1; same = λ t. refl }

moves_one : (z y x b : ℕ) (h : z < 0xF0) (k : y < 0xE0) (l : 0xC2 ≤ x) (m : x ≤ 0xF4) → lies (lowest_after x to highest_after x) b ≡ true → Moved {z = z} {y = y} {x = x} (one h k l m) b
unfolding utf8
moves_one z y x b h k l m e = go (leb 0xE0 x) refl
  where
    go : (a : Bool) → leb 0xE0 x ≡ a → Moved {z = z} {y = y} {x = x} (one h k l m) b
    go true w = record { next = two (omega (arith, k)) (leb-true 0xE0 x w) m e; same = λ t. refl }
    go false w =
        let x< = leb-false 0xE0 x w in
        record {
          next = whole (omega (arith, k)) x< (below_lead x b e);
          same = λ t. two_bytes x b t l m ∙ rw (e, w, lt-leb 0xF0 x (omega (arith, x<)));
        }

moves_two : (z y x b : ℕ) (h : z < 0xF0) (k : 0xE0 ≤ y) (l : y ≤ 0xF4) (m : lies (lowest_after y to highest_after y) x ≡ true) → lies UTF8-tail b ≡ true → Moved {z = z} {y = y} {x = x} (two h k l m) b
unfolding utf8 utf8_from
moves_two z y x b h k l m e = go (leb 0xF0 y) refl
  where
    go : (a : Bool) → leb 0xF0 y ≡ a → Moved {z = z} {y = y} {x = x} (two h k l m) b
    go true w = record { next = three (leb-true 0xF0 y w) l m e; same = λ t. refl }
    go false w =
        record {
          next = whole (leb-false 0xF0 y w) (omega (arith, below_lead y x m)) (tail_below b e);
          same = λ t. two_bytes y x (b ∷ t) (omega (arith, k)) l ∙ rw (m, w, le-leb 0xE0 y k, e);
        }

moves_three : (z y x b : ℕ) (h : 0xF0 ≤ z) (k : z ≤ 0xF4) (l : lies (lowest_after z to highest_after z) y ≡ true) (m : lies UTF8-tail x ≡ true) → lies UTF8-tail b ≡ true → Moved {z = z} {y = y} {x = x} (three h k l m) b
unfolding utf8 utf8_from
moves_three z y x b h k l m e =
    record {
      next = whole (omega (arith, below_lead z y l)) (omega (arith, tail_below x m)) (tail_below b e);
      same = λ t. two_bytes z y (x ∷ b ∷ t) (omega (arith, h)) k ∙ rw (l, le-leb 0xF0 z h, m, e);
    }

pub moves : (z y x b : ℕ) (before : Standing z y x) → may_follow z y x b ≡ true → Moved before b
moves z y x b (whole h k l) e = moves_whole z y x b h k l (sym (not_asked z y x b h k l) ∙ e)
moves z y x b (one h k l m) e = moves_one z y x b h k l m (sym (asked_by_one z y x b (omega (arith, l))) ∙ e)
moves z y x b (two h k l m) e = moves_two z y x b h k l m (sym (asked_by_two z y x b k (below_lead y x m)) ∙ e)
moves z y x b (three h k l m) e = moves_three z y x b h k l m (sym (asked_by_three z y x b h (below_lead z y l) (tail_below x m)) ∙ e)

-- ---- one that may not

stops_whole : (b : ℕ) (t : List ℕ) → b < 256 → (ltb b 0x80 || lies (0xC2 to 0xF4) b) ≡ false → utf8 (b ∷ t) ≡ false
stops_whole b t byte e = go (ltb b 0x80) (ltb-false b 0x80) (leb 0xC2 b) (leb-true 0xC2 b) (leb-false 0xC2 b) (leb b 0xF4) (leb-false b 0xF4) e
  where
    go : (a : Bool) → (a ≡ false → 0x80 ≤ b) → (c : Bool) → (c ≡ true → 0xC2 ≤ b) → (c ≡ false → b < 0xC2) → (d : Bool) → (d ≡ false → 0xF4 < b)
        → (a || (c && d)) ≡ false → utf8 (b ∷ t) ≡ false
    go true ≤b c ≤c c< d d< e = absurd (false≢true (sym e))
    go false ≤b true ≤c c< true d< e = absurd (false≢true (sym e))
    go false ≤b true ≤c c< false d< e = begins_nothing b t (rest_between 0xF5 0xFF (unfold UTF8-char in refl) (omega (arith, d< refl)) (omega (arith, byte)))
    go false ≤b false ≤c c< d d< e = begins_nothing b t (rest_between 0x80 0xC1 (unfold UTF8-char in refl) (≤b refl) (omega (arith, c< refl)))

stops_two : (y x b : ℕ) (t : List ℕ) → 0xE0 ≤ y → y ≤ 0xF4 → lies (lowest_after y to highest_after y) x ≡ true → lies UTF8-tail b ≡ false → utf8 (y ∷ x ∷ b ∷ t) ≡ false
unfolding utf8_from
stops_two y x b t k l m e = two_bytes y x (b ∷ t) (omega (arith, k)) l ∙ rw m (go (leb 0xF0 y))
  where
    go : (a : Bool) → utf8_from (replicate (cond a 2 (cond (leb 0xE0 y) 1 0)) UTF8-tail) (b ∷ t) ≡ false
    go true = rw e
    go false = rw (le-leb 0xE0 y k, e)

pub stops : (z y x b : ℕ) (before : Standing z y x) → b < 256 → may_follow z y x b ≡ false → (t : List ℕ) → answer before (b ∷ t) ≡ false
unfolding utf8_from
stops z y x b (whole h k l) byte e t = stops_whole b t byte (sym (not_asked z y x b h k l) ∙ e)
stops z y x b (one h k l m) byte e t = two_bytes x b t l m ∙ rw (sym (asked_by_one z y x b (omega (arith, l))) ∙ e)
stops z y x b (two h k l m) byte e t = stops_two y x b t k l m (sym (asked_by_two z y x b k (below_lead y x m)) ∙ e)
stops z y x b (three h k l m) byte e t =
    let other = sym (asked_by_three z y x b h (below_lead z y l) (tail_below x m)) ∙ e in
    two_bytes z y (x ∷ b ∷ t) (omega (arith, h)) k ∙ rw (l, le-leb 0xF0 z h, m, other)
