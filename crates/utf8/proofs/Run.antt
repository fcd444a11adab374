-- Bytes that follow, one after another from a place on, carry the text's answer to the place after them (`run`), and from there back to where
-- the character begins that is not whole (`Answers_back`). One that may not follow makes the answer no (`fails`). Rests on `moves` and `stops`.
use Prim.Native.Nat.{ℕ, zero, suc, ◌+◌, ◌-◌, ◌≤◌, ◌<◌}
use native.Mathlib.Nat.{add-zero}
use native.Mathlib.Omega.{arith}
use mathlib.Core.Path.{◌≡◌, refl, sym, ◌∙◌, ap}
use mathlib.Core.List.{List, ◌∷◌}
use mathlib.Core.Bool.{Bool, true, false, cond, ◌&&◌, false≢true, and-eq-true_iff}
use borrow.Author.Tests.{le-leb, lt-leb, leb-false}
use lib.Dec.{leb}
use lib.ListN.{length, get_or, drop}
use lib.Seq.{drop-cons}
use Rattle.utf8.specs.Utf8.{utf8}
use Rattle.utf8.specs.Steps.{Passes}
use Rattle.utf8.specs.Follow.{may_follow, all_follow, begin_of}
use Rattle.utf8.proofs.Following.{Standing, whole, one, two, three, answer, below_lead, tail_below, moves, stops}
use Rattle.std.specs.Prelude.{Some, None}

-- what stands before the place that is three bytes after this one
abbrev StandingAt : List ℕ → ℕ → Type 0
StandingAt t at = Standing (get_or t at 0) (get_or t (at + 1) 0) (get_or t (at + 2) 0)

module _ (t : List ℕ) (bytes : (i : ℕ) → get_or t i 0 < 256) (at : ℕ) (start : StandingAt t at) where
  -- past bytes that follow: what stands at three places, and the text from the fourth on answers for the text from the beginning on
  pub record Run (i j k next : ℕ) : Type 0 where
    pub standing : Standing (get_or t i 0) (get_or t j 0) (get_or t k 0)
    pub same : answer start (drop (at + 3) t) ≡ answer standing (drop next t)

  abbrev RunTo : ℕ → Type 0
  RunTo n = Run (at + n) (at + n + 1) (at + n + 2) (at + n + 3)

  abbrev may_at : ℕ → ℕ → ℕ → ℕ → Bool
  may_at i j k next = may_follow (get_or t i 0) (get_or t j 0) (get_or t k 0) (get_or t next 0)

  one_further : (i j k next : ℕ) → next < length t → may_at i j k next ≡ true → Run i j k next → Run j k next (suc next)
  one_further i j k next inside may r =
      let m = moves _ _ _ (get_or t next 0) r.standing may in
      record { standing = m.next; same = r.same ∙ ap (answer r.standing) (drop-cons t next 0 inside) ∙ m.same (drop (suc next) t) }

  stops_here : (i j k next : ℕ) → next < length t → may_at i j k next ≡ false → Run i j k next → answer start (drop (at + 3) t) ≡ false
  stops_here i j k next inside may r =
      r.same ∙ ap (answer r.standing) (drop-cons t next 0 inside) ∙ stops _ _ _ (get_or t next 0) r.standing (bytes next) may _

  pub run : (n : ℕ) → at + n + 3 ≤ length t → all_follow n t at ≡ true → RunTo n
  unfolding all_follow
  run zero inside all = rw (add-zero at) (record { standing = start; same = refl })
  run (suc n) inside all =
      let f = (and-eq-true_iff (all_follow n t at) (may_at (at + n) (at + n + 1) (at + n + 2) (at + n + 3))).0 all in
      let e₃ : at + suc n + 3 ≡ suc (at + n + 3) = omega arith in
      let e₂ : at + suc n + 2 ≡ at + n + 3 = omega arith in
      let e₁ : at + suc n + 1 ≡ at + n + 2 = omega arith in
      let e₀ : at + suc n ≡ at + n + 1 = omega arith in
      rw (e₃, e₂, e₁, e₀)
      (one_further (at + n) (at + n + 1) (at + n + 2) (at + n + 3) (omega (arith, inside)) f.1 (run n (omega (arith, inside)) f.0))

  pub fails : (n : ℕ) → at + n + 3 ≤ length t → all_follow n t at ≡ false → answer start (drop (at + 3) t) ≡ false
  unfolding all_follow
  fails zero inside all = absurd (false≢true (sym all))
  fails (suc n) inside all = go (all_follow n t at) (fails n (omega (arith, inside))) (run n (omega (arith, inside))) (may_at (at + n) (at + n + 1) (at + n + 2) (at + n + 3)) refl all
    where
      go :
          (x : Bool) → (x ≡ false → answer start (drop (at + 3) t) ≡ false) → (x ≡ true → RunTo n) → (y : Bool)
          → may_at (at + n) (at + n + 1) (at + n + 2) (at + n + 3) ≡ y → (x && y) ≡ false → answer start (drop (at + 3) t) ≡ false
      go false earlier r y m both = earlier refl
      go true earlier r true m both = absurd (false≢true (sym both))
      go true earlier r false m both = stops_here (at + n) (at + n + 1) (at + n + 2) (at + n + 3) (omega (arith, inside)) m (r refl)

-- ---- where the character begins that is not whole

abbrev back : {z y x : ℕ} → Standing z y x → ℕ
back (whole h k l) = 0
back (one h k l m) = 1
back (two h k l m) = 2
back (three h k l m) = 3

before_place : (at : ℕ) → (at + 3 - 1 ≡ at + 2) × (at + 3 - 2 ≡ at + 1) × (at + 3 - 3 ≡ at)
before_place at = (omega arith, omega arith, omega arith)

begins_back : (t : List ℕ) (at : ℕ) (standing : StandingAt t at) → begin_of t (at + 3) ≡ at + 3 - back standing
unfolding begin_of
begins_back t at (whole h k l) =
    let e = before_place at in
    rw (e.0, e.1, e.2, lt-leb 0xC0 (get_or t (at + 2) 0) l, lt-leb 0xE0 (get_or t (at + 1) 0) k, lt-leb 0xF0 (get_or t at 0) h) (omega arith)
begins_back t at (one h k l m) = let e = before_place at in rw (e.0, e.1, e.2, le-leb 0xC0 (get_or t (at + 2) 0) (omega (arith, l)))
begins_back t at (two h k l m) =
    let e = before_place at in
    rw (e.0, e.1, e.2, lt-leb 0xC0 (get_or t (at + 2) 0) (below_lead (get_or t (at + 1) 0) (get_or t (at + 2) 0) m), le-leb 0xE0 (get_or t (at + 1) 0) k)
begins_back t at (three h k l m) =
    let e = before_place at in
    let y : get_or t (at + 1) 0 < 0xE0 = omega (arith, below_lead (get_or t at 0) (get_or t (at + 1) 0) l) in
    rw (e.0, e.1, e.2, lt-leb 0xC0 (get_or t (at + 2) 0) (tail_below (get_or t (at + 2) 0) m), lt-leb 0xE0 (get_or t (at + 1) 0) y, le-leb 0xF0 (get_or t at 0) h)

back_small : {z y x : ℕ} (standing : Standing z y x) → back standing ≤ 3
back_small (whole h k l) = omega arith
back_small (one h k l m) = omega arith
back_small (two h k l m) = omega arith
back_small (three h k l m) = omega arith

-- one byte more of a text
one_back : (t : List ℕ) (i j : ℕ) → j ≡ suc i → i < length t → drop i t ≡ get_or t i 0 ∷ drop j t
one_back t i j e inside = rw e (drop-cons t i 0 inside)

-- the text from where that character begins
Answers_back : (t : List ℕ) (at : ℕ) → at + 3 ≤ length t → (standing : StandingAt t at) → utf8 (drop (at + 3 - back standing) t) ≡ answer standing (drop (at + 3) t)
Answers_back t at inside standing = go standing
  where
    last : drop (at + 2) t ≡ get_or t (at + 2) 0 ∷ drop (at + 3) t
    last = one_back t (at + 2) (at + 3) (omega arith) (omega (arith, inside))

    last-two : drop (at + 1) t ≡ get_or t (at + 1) 0 ∷ get_or t (at + 2) 0 ∷ drop (at + 3) t
    last-two = one_back t (at + 1) (at + 2) (omega arith) (omega (arith, inside)) ∙ ap (λ (l : List ℕ). get_or t (at + 1) 0 ∷ l) last

    last_three : drop at t ≡ get_or t at 0 ∷ get_or t (at + 1) 0 ∷ get_or t (at + 2) 0 ∷ drop (at + 3) t
    last_three = one_back t at (at + 1) (omega arith) (omega (arith, inside)) ∙ ap (λ (l : List ℕ). get_or t at 0 ∷ l) last-two

    go : (standing : StandingAt t at) → utf8 (drop (at + 3 - back standing) t) ≡ answer standing (drop (at + 3) t)
    go (whole h k l) = let e : at + 3 - 0 ≡ at + 3 = omega arith in rw e
    go (one h k l m) = rw (before_place at).0 (ap utf8 last)
    go (two h k l m) = rw (before_place at).1 (ap utf8 last-two)
    go (three h k l m) = rw (before_place at).2 (ap utf8 last_three)

-- where none begins, what stands before the place is whole
whole_at : (t : List ℕ) (at : ℕ) → begin_of t (at + 3) ≡ at + 3 → (get_or t at 0 < 0xF0) × (get_or t (at + 1) 0 < 0xE0) × (get_or t (at + 2) 0 < 0xC0)
unfolding begin_of
whole_at t at begun =
    let e = before_place at in
    go (leb 0xC0 (get_or t (at + 2) 0)) refl (leb 0xE0 (get_or t (at + 1) 0)) refl (leb 0xF0 (get_or t at 0)) refl (rw (e.0, e.1, e.2) at begun)
  where
    go :
        (a : Bool) → leb 0xC0 (get_or t (at + 2) 0) ≡ a → (b : Bool) → leb 0xE0 (get_or t (at + 1) 0) ≡ b → (c : Bool) → leb 0xF0 (get_or t at 0) ≡ c
        → cond a (at + 2) (cond b (at + 1) (cond c at (at + 3))) ≡ at + 3
        → (get_or t at 0 < 0xF0) × (get_or t (at + 1) 0 < 0xE0) × (get_or t (at + 2) 0 < 0xC0)
    go true a₁ b b₁ c c₁ same = absurd (omega (arith, same))
    go false a₁ true b₁ c c₁ same = absurd (omega (arith, same))
    go false a₁ false b₁ true c₁ same = absurd (omega (arith, same))
    go false a₁ false b₁ false c₁ same = (leb-false 0xF0 (get_or t at 0) c₁, leb-false 0xE0 (get_or t (at + 1) 0) b₁, leb-false 0xC0 (get_or t (at + 2) 0) a₁)

-- ---- n bytes from a place before which all is whole

module _ (t : List ℕ) (bytes : (i : ℕ) → get_or t i 0 < 256) (at n : ℕ) (inside : at + n + 3 ≤ length t) (begun : begin_of t (at + 3) ≡ at + 3) where
  start : StandingAt t at
  start = let w = whole_at t at begun in whole w.0 w.1 w.2

  pub follow_pass : 3 < n → all_follow n t at ≡ true → Passes t (at + 3) (Some (begin_of t (at + n + 3)))
  unfolding start
  follow_pass many all =
      let r = run t bytes at start n inside all in
      let e = begins_back t (at + n) r.standing in
      let s = back_small r.standing in
      (omega (arith, e, s, many), omega (arith, e, inside), r.same ∙ sym (Answers_back t (at + n) inside r.standing) ∙ ap (λ (i : ℕ). utf8 (drop i t)) (sym e))

  pub follow_stop : all_follow n t at ≡ false → Passes t (at + 3) None
  unfolding start
  follow_stop all = fails t bytes at start n inside all
