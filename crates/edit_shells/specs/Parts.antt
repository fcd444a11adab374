-- A buffer in parts: cut at places, and what it is after a put over some of them. Rests on the library's `slice` and on the contract of a put.
use Rattle.std.specs.Prelude.{ℕ, suc, ◌+◌, ◌-◌, ◌≤◌, ◌<◌, ◌≡◌, refl, Bool, true, false, ◌&&◌, List, [], ◌∷◌, ◌++◌, leb, length, take, drop, get_or}
use Rattle.std.proofs.Common.{arith, sym, ap, ◌∙◌, append_assoc, append-nil, leb-true, le-leb, length-append, take-append-drop, drop_of_length-le, length-take-le, take-take, take_at, drop_at, drop-drop, drop-cons}
use Rattle.std.proofs.Math.Seq.{slice, length-slice}
use Rattle.std.proofs.lemmas.List.{drop-append-le}
use Rattle.fields.specs.Bytes.{join, both_true}
use Rattle.fields.specs.Place.{by_bool}
use Rattle.buffer.specs.Puts.{splice, IsPut, placed-fits, next_fits, splice-length, drop-splice}
use Rattle.buffer.specs.Runs.{IsRun, join-append}
use Rattle.buffer_moves.specs.Moves.{slice_from}

-- places in order, each at or past the one before
abbrev pub rises : ℕ → List ℕ → Bool
rises a [] = true
rises a (b ∷ more) = leb a b && rises b more

abbrev pub Rises : ℕ → List ℕ → Type 0
Rises a [] = Unit {0}
Rises a (b ∷ more) = (a ≤ b) × Rises b more

-- ---- places in order

pub rises-true : (a : ℕ) (places : List ℕ) → rises a places ≡ true → Rises a places
rises-true a [] e = tt
rises-true a (b ∷ more) e =
    let k = both_true (leb a b) (rises b more) e in
    (leb-true a b k.0, rises-true b more k.1)

pub true-rises : (a : ℕ) (places : List ℕ) → Rises a places → rises a places ≡ true
true-rises a [] h = refl
true-rises a (b ∷ more) h = rw (le-leb a b h.0) (true-rises b more h.1)

pub not_rises : (a : ℕ) (places : List ℕ) → (Rises a places → ⊥) → rises a places ≡ false
not_rises a places h = by_bool (rises a places) (λ w. absurd (h (rises-true a places w))) (λ w. w)

-- the place at i, and those after it
pub rises_next :
    (a : ℕ) (places : List ℕ) (i : ℕ) → i < length places
    → rises a (drop i places) ≡ (leb a (get_or places i 0) && rises (get_or places i 0) (drop (suc i) places))
rises_next a places i h = ap (rises a) (drop-cons places i 0 h)

pub rises_end : (a : ℕ) (places : List ℕ) (i : ℕ) → length places ≤ i → rises a (drop i places) ≡ true
rises_end a places i h = ap (rises a) (drop_of_length-le places h)

-- ---- a list cut at places

-- what parts have together
abbrev pub lengths : List (List ℕ) → ℕ
lengths [] = 0
lengths (x ∷ more) = length x + lengths more

pub join-length : (parts : List (List ℕ)) → length (join parts) ≡ lengths parts
join-length [] = refl
join-length (x ∷ more) = length-append x (join more) ∙ ap (λ (n : ℕ). length x + n) (join-length more)

-- one part more
pub join_more : (parts : List (List ℕ)) (x : List ℕ) → join parts ++ x ≡ join (parts ++ x ∷ [])
join_more parts x = ap (λ (t : List ℕ). join parts ++ t) (sym (append-nil x)) ∙ sym (join-append parts (x ∷ []))

pub lengths_more : (parts : List (List ℕ)) (x : List ℕ) → lengths (parts ++ x ∷ []) ≡ lengths parts + length x
lengths_more [] x = omega arith
lengths_more (y ∷ parts) x = omega (arith, lengths_more parts x)

-- from `a` on, cut at each of some places
abbrev pub cut : List ℕ → ℕ → List ℕ → List (List ℕ)
cut l a [] = drop a l ∷ []
cut l a (b ∷ more) = slice a b l ∷ cut l b more

pub cut_once : (l : List ℕ) (a b : ℕ) → a ≤ b → b ≤ length l → drop a l ≡ slice a b l ++ drop b l
cut_once l a b h k =
    let inside : a ≤ length (take b l) = omega (arith, length-take-le b l k) in
    ap (drop a) (sym (take-append-drop b l)) ∙ drop-append-le a (take b l) (drop b l) inside

pub cut_whole : (l : List ℕ) (a : ℕ) (places : List ℕ) → Rises a (places ++ length l ∷ []) → drop a l ≡ join (cut l a places)
cut_whole l a [] h = sym (append-nil (drop a l))
cut_whole l a (b ∷ more) h =
    cut_once l a b h.0 (last b more h.1) ∙ ap (λ (t : List ℕ). slice a b l ++ t) (cut_whole l b more h.1)
  where
    last : (x : ℕ) (places : List ℕ) → Rises x (places ++ length l ∷ []) → x ≤ length l
    last x [] r = r.0
    last x (y ∷ ys) r = omega (arith, r.0, last y ys r.1)

-- a part's length
pub part_length : (l : List ℕ) (a k b : ℕ) → a + k ≡ b → b ≤ length l → length (slice a b l) ≡ k
part_length l a k b e h = length-slice a b l h ∙ omega arith

-- a part cut in two
pub slice_cut : (l : List ℕ) (a b c : ℕ) → a ≤ b → b ≤ c → c ≤ length l → slice a c l ≡ slice a b l ++ slice b c l
slice_cut l a b c h k m =
    cut_once (take c l) a b h (omega (arith, length-take-le c l m))
    ∙ ap (λ (t : List ℕ). drop a t ++ slice b c l) (take-take b c l k)

-- a part that stands among others
pub part_at :
    (before : List (List ℕ)) (x : List ℕ) (after : List (List ℕ)) (i j : ℕ) → i ≡ lengths before → j ≡ i + length x
    → slice i j (join (before ++ x ∷ after)) ≡ x
part_at before x after i j ei ej =
    let l : length (join before) ≡ i = join-length before ∙ sym ei in
    let whole : join (before ++ x ∷ after) ≡ (join before ++ x) ++ join after =
    join-append before (x ∷ after) ∙ sym (append_assoc (join before) x (join after)) in
    ap (λ (t : List ℕ). drop i (take j t)) whole
    ∙ ap (drop i) (take_at (join before ++ x) (join after) j (length-append (join before) x ∙ omega arith))
    ∙ drop_at (join before) x i l

-- ---- a put over parts

three : (x y z : List (List ℕ)) → join (x ++ (y ++ z)) ≡ join x ++ (join y ++ join z)
three x y z = join-append x (y ++ z) ∙ ap (λ (t : List ℕ). join x ++ t) (join-append y z)

splice_over : (x y z new : List ℕ) (at : ℕ) → at ≡ length x → length new ≡ length y → splice (x ++ (y ++ z)) at new ≡ x ++ (new ++ z)
unfolding splice
splice_over x y z new at e l =
    let past : drop (at + length new) (x ++ (y ++ z)) ≡ z =
    ap (drop (at + length new)) (sym (append_assoc x y z)) ∙ drop_at (x ++ y) z (at + length new) (length-append x y ∙ omega arith) in
    rw (take_at x (y ++ z) at (sym e), past) (append_assoc x new z)

-- what is put must have the length of what it is put over
splice_parts :
    (before over new after : List (List ℕ)) (bytes out : List ℕ) (at : ℕ) → out ≡ join (before ++ (over ++ after)) → at ≡ lengths before
    → lengths new ≡ lengths over → bytes ≡ join new
    → (at + length bytes ≤ length out) × (splice out at bytes ≡ join (before ++ (new ++ after)))
splice_parts before over new after bytes out at e p l b =
    let lx = join-length before in
    let ly = join-length over in
    let lb : length bytes ≡ lengths new = ap length b ∙ join-length new in
    let whole : out ≡ join before ++ (join over ++ join after) = e ∙ three before over after in
    let long : length out ≡ length (join before) + (length (join over) + length (join after)) =
    ap length whole ∙ length-append (join before) (join over ++ join after)
    ∙ ap (λ (n : ℕ). length (join before) + n) (length-append (join over) (join after)) in (
      omega arith,
      ap (λ (t : List ℕ). splice t at bytes) whole
          ∙ splice_over (join before) (join over) (join after) bytes at (omega arith) (omega arith)
          ∙ ap (λ (t : List ℕ). join before ++ (t ++ join after)) b ∙ sym (three before new after),
    )

-- several parts over several
pub splice_over_parts :
    (before over new after : List (List ℕ)) (bytes out : List ℕ) (at : ℕ) → out ≡ join (before ++ (over ++ after)) → at ≡ lengths before
    → lengths new ≡ lengths over → bytes ≡ join new → splice out at bytes ≡ join (before ++ (new ++ after))
splice_over_parts before over new after bytes out at e p l b = (splice_parts before over new after bytes out at e p l b).1

-- one over one
module _ (before : List (List ℕ)) (over new : List ℕ) (after : List (List ℕ)) (out : List ℕ) (at : ℕ) where
  pub splice_part : out ≡ join (before ++ over ∷ after) → at ≡ lengths before → length new ≡ length over → splice out at new ≡ join (before ++ new ∷ after)
  splice_part e p l = splice_over_parts before (over ∷ []) (new ∷ []) after new out at e p (omega arith) (sym (append-nil new))

  -- the last argument is what a put ensures
  pub put_part :
      (r : ℕ) (out' : List ℕ) → out ≡ join (before ++ over ∷ after) → at ≡ lengths before → length new ≡ length over → IsPut out at new r out'
      → (r ≡ at + length new) × (out' ≡ join (before ++ new ∷ after))
  put_part r out' e p l put =
      let k = splice_parts before (over ∷ []) (new ∷ []) after new out at e p (omega arith) (sym (append-nil new)) in
      (put.0 ∙ next_fits out at new k.0, put.1 ∙ placed-fits out at new k.0 ∙ k.1)

  -- nor does a run of puts ask for more
  pub run_part :
      (r : ℕ) (out' : List ℕ) → out ≡ join (before ++ over ∷ after) → at ≡ lengths before → length new ≡ length over → IsRun out at new r out'
      → (r ≡ at + length new) × (out' ≡ join (before ++ new ∷ after))
  run_part r out' e p l run =
      let k = splice_parts before (over ∷ []) (new ∷ []) after new out at e p (omega arith) (sym (append-nil new)) in
      put_part r out' e p l (run k.0)

-- what stands past a put
pub slice_past :
    (old : List ℕ) (at : ℕ) (new : List ℕ) (a b : ℕ) → at + length new ≤ a → a ≤ b → b ≤ length old → slice a b (splice old at new) ≡ slice a b old
slice_past old at new a b h k m =
    let ends : a + (b - a) ≡ b = omega arith in
    let from : at + length new + (a - (at + length new)) ≡ a = omega arith in
    let same : drop a (splice old at new) ≡ drop a old =
    ap (λ (i : ℕ). drop i (splice old at new)) (sym from) ∙ sym (drop-drop (a - (at + length new)) (at + length new) (splice old at new))
    ∙ ap (drop (a - (at + length new))) (drop-splice old at new (omega arith)) ∙ drop-drop (a - (at + length new)) (at + length new) old
    ∙ ap (λ (i : ℕ). drop i old) from in
    let long : length (splice old at new) ≡ length old = splice-length old at new (omega arith) in
    ap (λ (i : ℕ). slice a i (splice old at new)) (sym ends) ∙ slice_from (splice old at new) a (b - a) (omega arith)
    ∙ ap (take (b - a)) same ∙ sym (slice_from old a (b - a) (omega arith)) ∙ ap (λ (i : ℕ). slice a i old) ends
