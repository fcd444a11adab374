-- docs/RULES.md, 9.4: a record holds sixteen places. A list as sixteen numbers.
use Rattle.std.specs.Prelude.{ℕ, zero, suc, ◌+◌, ◌-◌, ◌≤◌, ◌≡◌, refl, Bool, true, cond, List, [], ◌∷◌, ltb, length, get_or, take, drop}
use Rattle.std.proofs.Common.{add-one, arith, sym, ◌∙◌, ap, ap₂, lt-ltb, drop-cons, drop_of_length-le, min, leb, leb-true, leb-false, take_all, length-drop}
use Rattle.fields.specs.Bytes.{same_bytes, same_true, same_self}
use Rattle.fields.specs.Place.{by_bool}
use Rattle.places.specs.declared.Places.{Places}

-- n elements from the i-th on, 0 where there are fewer
abbrev slots : ℕ → ℕ → List ℕ → List ℕ
slots i zero l = []
slots i (suc n) l = get_or l i 0 ∷ slots (suc i) n l

-- all sixteen
abbrev pub list_of : Places → List ℕ
list_of p = slots 0 16 p.all

-- a place that an image of at most 65,535 bytes can have; no other is kept
abbrev pub kept_place : ℕ → ℕ
kept_place n = cond (ltb n 65536) n 0

-- n elements from the i-th on, those that are kept, and 0 where there are fewer
abbrev firsts : ℕ → ℕ → List ℕ → List ℕ
firsts i zero l = []
firsts i (suc n) l = kept_place (get_or l i 0) ∷ firsts (suc i) n l

-- the first sixteen of a list
abbrev pub places_of : List ℕ → Places
places_of l = record { all = firsts 0 16 l }

-- one more before them, the sixteenth lost
abbrev pub pushed : ℕ → Places → Places
pushed first p = record { all = kept_place first ∷ take 15 (list_of p) }

abbrev pub same_places : Places → Places → Bool
same_places p q = same_bytes p.all q.all

-- ---- laws

slots_from : (l : List ℕ) (i n : ℕ) → length l ≡ i + n → slots i n l ≡ drop i l
slots_from l i zero h = sym (drop_of_length-le l (omega (arith, h)))
slots_from l i (suc n) h =
    let next = slots_from l (suc i) n (omega (arith, h)) in
    rw (next, drop-cons l i 0 (omega (arith, h)))

-- an array of sixteen is its list
pub list_all : (l : List ℕ) → length l ≡ 16 → slots 0 16 l ≡ l
list_all l h = slots_from l 0 16 h

-- so two arrays of sixteen are compared as their lists are
same_lists : (p q : Places) → length p.all ≡ 16 → length q.all ≡ 16 → same_bytes (list_of p) (list_of q) ≡ same_places p q
same_lists p q h k = ap₂ same_bytes (list_all p.all h) (list_all q.all k)

pub pushed_list : (x : ℕ) (l : List ℕ) → pushed x (places_of l) ≡ places_of (x ∷ l)
pushed_list x l = refl

firsts_next : (n i x : ℕ) (l : List ℕ) → firsts (suc i) n (x ∷ l) ≡ firsts i n l
firsts_next zero i x l = refl
firsts_next (suc n) i x l = ap (λ (t : List ℕ). kept_place (get_or l i 0) ∷ t) (firsts_next n (suc i) x l)

-- places within so many bytes
abbrev pub AllWithin : ℕ → List ℕ → Type 0
AllWithin n [] = Unit {0}
AllWithin n (x ∷ l) = (x ≤ n) × AllWithin n l

pub within_more : (m n : ℕ) (l : List ℕ) → m ≤ n → AllWithin m l → AllWithin n l
within_more m n [] h w = tt
within_more m n (x ∷ l) h w = (omega (arith, h, w.0), within_more m n l h w.1)

firsts_all : (n : ℕ) (l : List ℕ) → length l ≤ n → AllWithin 65535 l → take (length l) (firsts 0 n l) ≡ l
firsts_all n [] h w = refl
firsts_all zero (x ∷ l) h w = absurd (omega arith)
firsts_all (suc n) (x ∷ l) h w =
    let own : kept_place x ≡ x = rw (lt-ltb x 65536 (omega (arith, w.0))) in
    ap₂ (λ (y : ℕ) (t : List ℕ). y ∷ t) own (ap (take (length l)) (firsts_next n 0 x l) ∙ firsts_all n l (omega arith) w.1)

-- those after the first
abbrev pub after_first : Places → List ℕ
after_first p = drop 1 (list_of p)

-- a list of at most fifteen stands there
pub listed_after : (x : ℕ) (l : List ℕ) → length l ≤ 15 → AllWithin 65535 l → take (length l) (after_first (places_of (x ∷ l))) ≡ l
listed_after x l h w = ap (take (length l)) (firsts_next 15 0 x l) ∙ firsts_all 15 l h w

-- so the others of n keys are those after the array's first, and of more than sixteen keys all fifteen
pub others_listed : (l : List ℕ) (n m : ℕ) → m ≡ min (n - 1) 15 → length l ≡ 16 → take m (drop 1 l) ≡ take (n - 1) (drop 1 (slots 0 16 l))
others_listed l n m e h =
    let others = length-drop 1 l in
    rw e (go (drop 1 l) (n - 1) (omega (arith, others, h))) ∙ ap (λ (t : List ℕ). take (n - 1) (drop 1 t)) (sym (list_all l h))
  where
    go : (t : List ℕ) (k : ℕ) → length t ≡ 15 → take (min k 15) t ≡ take k t
    go t k long =
        by_bool (leb k 15)
        (λ w. let few : min k 15 ≡ k = omega (arith, leb-true k 15 w) in rw few)
        (λ w.
        let many : min k 15 ≡ 15 = omega (arith, leb-false k 15 w) in
        rw many (take_all 15 t (omega (arith, long)) ∙ sym (take_all k t (omega (arith, long, leb-false k 15 w)))))

-- n from the i-th on, as code goes on from one to the next
pub places_next : (l : List ℕ) (i n : ℕ) → (n ≡ 0 → ⊥) → i + n ≤ length l → take n (drop i l) ≡ get_or l i 0 ∷ take (n - 1) (drop (i + 1) l)
places_next l i zero some h = absurd (some refl)
places_next l i (suc n) some h =
    let less : suc n - 1 ≡ n = omega arith in
    rw (drop-cons l i 0 (omega arith), add-one i, less)

-- no place past the sixteenth
pub past_all : (l : List ℕ) (k : ℕ) → length l ≤ k → get_or l k 0 ≡ 0
past_all [] k h = refl
past_all (x ∷ l) zero h = absurd (omega arith)
past_all (x ∷ l) (suc k) h = past_all l k (omega arith)

-- the comparison says that all are equal, and no less
pub places_self : (p : Places) → same_places p p ≡ true
places_self p = same_self p.all

pub places_same : (p q : Places) → same_places p q ≡ true → p ≡ q
places_same p q e = ap places_from (same_true p.all q.all e)
  where
    places_from : List ℕ → Places
    places_from l = record { all = l }
