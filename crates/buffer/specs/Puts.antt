-- docs/RULES.md, 2.3 and 10.8, rest on this: what a put of bytes at a place of a buffer answers and leaves there, and laws of one put and of two.
use Rattle.std.specs.Prelude.{ℕ, zero, suc, ◌+◌, ◌≤◌, ◌<◌, ◌≡◌, Bool, true, false, cond, List, [], ◌++◌, leb, length, take, drop, get_or, replicate}
use Rattle.std.proofs.Common.{add_assoc, add-zero, arith, sym, ap, ◌∙◌, append_assoc, append-nil, le-leb, length-append, length-drop, take-append-drop, drop-drop}
use Rattle.std.proofs.Math.Path.{refl}
use Rattle.std.proofs.lemmas.Bool.{lt-leb}
use Rattle.std.proofs.lemmas.List.{length-replicate}
use Rattle.std.proofs.Math.Seq.{paste, take-length, drop-append_seam, length-take-le, take_at, drop_at}

-- `old`, with `new` in place of as many bytes from `at` on
unfoldable pub splice : List ℕ → ℕ → List ℕ → List ℕ
splice old at new = take at old ++ new ++ drop (at + length new) old

-- n zeros
unfoldable pub zeros : ℕ → List ℕ
zeros n = replicate n 0

-- whether `new` lies within `old` from `at` on
unfoldable pub fits : List ℕ → ℕ → List ℕ → Bool
fits old at new = leb (at + length new) (length old)

-- what a put leaves: `new` at `at` where it fits, else all as it was
unfoldable pub placed : List ℕ → ℕ → List ℕ → List ℕ
placed old at new = cond (fits old at new) (splice old at new) old

-- what it answers: the place past `new` where it fits, else `at` itself
unfoldable pub next : List ℕ → ℕ → List ℕ → ℕ
next old at new = cond (fits old at new) (at + length new) at

-- the contract of every put: it answers r and leaves out
abbrev pub IsPut : List ℕ → ℕ → List ℕ → ℕ → List ℕ → Type 0
IsPut old at new r out = (r ≡ next old at new) × (out ≡ placed old at new)

-- ---- zeros

pub zeros-length : (n : ℕ) → length (zeros n) ≡ n
unfolding zeros
zeros-length n = length-replicate n 0

pub zeros_at : (n i : ℕ) → get_or (zeros n) i 0 ≡ 0
unfolding zeros
zeros_at zero i = refl
zeros_at (suc n) zero = refl
zeros_at (suc n) (suc i) = zeros_at n i

-- ---- one put

module _ (old : List ℕ) (at : ℕ) (new : List ℕ) where
  pub placed-fits : at + length new ≤ length old → placed old at new ≡ splice old at new
  unfolding placed fits
  placed-fits h = rw (le-leb _ _ h)

  pub next_fits : at + length new ≤ length old → next old at new ≡ at + length new
  unfolding next fits
  next_fits h = rw (le-leb _ _ h)

  -- where it doesn't fit, a put answers the place that it was given and leaves all as it was
  pub no_put : length old < at + length new → IsPut old at new at old
  unfolding next placed fits
  no_put h = (rw (lt-leb _ _ h), rw (lt-leb _ _ h))

  -- what stands before the end of the put
  head_length : at ≤ length old → length (take at old ++ new) ≡ at + length new
  head_length h = length-append (take at old) new ∙ ap (λ (k : ℕ). k + length new) (length-take-le at old h)

  pub splice-length : at + length new ≤ length old → length (splice old at new) ≡ length old
  unfolding splice
  splice-length h = simp (length-append, length-take-le at old (omega arith), length-drop) (omega arith)

  pub take-splice : at + length new ≤ length old → take (at + length new) (splice old at new) ≡ take at old ++ new
  unfolding splice
  take-splice h = take_at _ _ _ (head_length (omega arith))

  pub drop-splice : at + length new ≤ length old → drop (at + length new) (splice old at new) ≡ drop (at + length new) old
  unfolding splice
  drop-splice h = drop_at (take at old ++ new) _ _ (head_length (omega arith))

  splice_is : splice old at new ≡ take at old ++ new ++ drop (at + length new) old
  unfolding splice
  splice_is = refl

-- bytes copied one by one up to the last are put
pub copied :
    (old : List ℕ) (at : ℕ) (new out : List ℕ) (i : ℕ) → at + length new ≤ length old → i ≡ length new → out ≡ paste old at new i
    → IsPut old at new (at + i) out
unfolding splice
copied old at new out i h e p = (
  ap (λ (k : ℕ). at + k) e ∙ sym (next_fits old at new h),
  p ∙ ap (paste old at new) e ∙ rw (take-length new) (sym (placed-fits old at new h)),
)

-- what is put at the start of a buffer is what the buffer then begins with
pub begins :
    (old new : List ℕ) (r : ℕ) (out : List ℕ) → length new ≤ length old → IsPut old 0 new r out
    → (r ≡ length new) × (take r out ≡ new) × (length out ≡ length old)
begins old new r out h p =
    let fit : 0 + length new ≤ length old = omega arith in
    let e : r ≡ 0 + length new = p.0 ∙ next_fits old 0 new fit in
    let s : out ≡ splice old 0 new = p.1 ∙ placed-fits old 0 new fit in
    (omega arith, rw (e, s) (take-splice old 0 new fit), rw s (splice-length old 0 new fit))

-- nothing put
pub splice_nil : (old : List ℕ) (at : ℕ) → splice old at [] ≡ old
unfolding splice
splice_nil old at = simp (append-nil, add-zero) (take-append-drop at old)

-- a put of what stands there already changes nothing
pub splice_same : (old : List ℕ) (at : ℕ) (new more : List ℕ) → drop at old ≡ new ++ more → splice old at new ≡ old
splice_same old at new more h =
    let past : drop (at + length new) old ≡ more = sym (drop-drop (length new) at old) ∙ ap (drop (length new)) h ∙ drop-append_seam new more in
    splice_is old at new ∙ rw (past, append_assoc, ← h) (take-append-drop at old)

pub nothing_put : (old : List ℕ) (at : ℕ) → IsPut old at [] at old
unfolding next placed
nothing_put old at = go (fits old at [])
  where
    go : (b : Bool) → (at ≡ cond b (at + 0) at) × (old ≡ cond b (splice old at []) old)
    go true = (sym (add-zero at), sym (splice_nil old at))
    go false = (refl, refl)

-- two puts, the second where the first ends, are one
pub splice-splice :
    (old : List ℕ) (at : ℕ) (x y : List ℕ) → at + length x + length y ≤ length old
    → splice (splice old at x) (at + length x) y ≡ splice old at (x ++ y)
splice-splice old at x y h =
    let b : ℕ = at + length x in
    let past : drop (b + length y) (splice old at x) ≡ drop (b + length y) old =
    sym (drop-drop (length y) b (splice old at x)) ∙ ap (drop (length y)) (drop-splice old at x (omega arith)) ∙ drop-drop (length y) b old in
    splice_is (splice old at x) b y
    ∙ rw (take-splice old at x (omega arith), past, splice_is old at (x ++ y), length-append x y) (simp (append_assoc, add_assoc))
