-- docs/RULES.md, 12.2 and 13, rest on this: a run of puts, one after the other, is one put of their bytes joined. What of them stands in the
-- buffer already is passed over.
use Rattle.std.specs.Prelude.{ℕ, ◌+◌, ◌≤◌, ◌≡◌, refl, List, [], ◌∷◌, ◌++◌, length, drop}
use Rattle.std.proofs.Common.{arith, sym, ap, ◌∙◌, append_assoc, append-nil, length-append}
use Rattle.fields.specs.Bytes.{uint32, string, join}
use Rattle.buffer.specs.Puts.{splice, IsPut, placed-fits, next_fits, splice-length, drop-splice, splice_nil, splice_same, splice-splice}

-- Of `fields`, to be put into `old` from `a` on, `more` are still to be put; the next goes at `at`, and the buffer is `out`. There is
-- room for all of them.
pub record Left (old : List ℕ) (a : ℕ) (fields more : List (List ℕ)) (at : ℕ) (out : List ℕ) : Type 0 where
  pub done : List ℕ
  pub whole : done ++ join more ≡ join fields
  pub place : at ≡ a + length done
  pub left : out ≡ splice old a done
  pub room : a + length (join fields) ≤ length old

-- nothing is put yet
pub start : {old : List ℕ} {a : ℕ} {fields : List (List ℕ)} → a + length (join fields) ≤ length old → Left old a fields fields a old
start {old} {a} h = record { done = []; whole = refl; place = omega arith; left = sym (splice_nil old a); room = h }

-- the same, where what the fields join to has a name
pub start_as :
    {old : List ℕ} {a : ℕ} {fields : List (List ℕ)} (new : List ℕ) → join fields ≡ new → a + length new ≤ length old → Left old a fields fields a old
start_as {old} {a} {fields} new e h = start (rw e h)

-- the next field fits
next_room :
    {old : List ℕ} {a : ℕ} {fields : List (List ℕ)} {x : List ℕ} {more : List (List ℕ)} {at : ℕ} {out : List ℕ}
    → Left old a fields (x ∷ more) at out → at + length x ≤ length out
next_room {old} {a} {fields} {x} {more} {at} {out} l =
    let d : List ℕ = l.done in
    let fit : a + length d + length x ≤ length old = omega (arith, l.room, simp length-append at (ap length l.whole)) in
    let same : length (splice old a d) ≡ length old = splice-length old a d (omega arith) in
    rw (l.place, l.left, same) fit

-- one more is put: the second argument is what a put ensures
pub step :
    {old : List ℕ} {a : ℕ} {fields : List (List ℕ)} {x : List ℕ} {more : List (List ℕ)} {at : ℕ} {out : List ℕ} {r : ℕ} {out' : List ℕ}
    → Left old a fields (x ∷ more) at out → IsPut out at x r out' → Left old a fields more r out'
step {old} {a} {fields} {x} {more} {at} {out} {r} {out'} l p =
    let d : List ℕ = l.done in
    let whole : (d ++ x) ++ join more ≡ join fields = append_assoc d x (join more) ∙ l.whole in
    let fit : a + length d + length x ≤ length old = omega (arith, l.room, simp length-append at (ap length whole)) in
    let room : at + length x ≤ length out = next_room l in
    record {
      done = d ++ x;
      whole = whole;
      place = p.0 ∙ next_fits out at x room ∙ simp length-append (omega (arith, l.place));
      left = p.1 ∙ placed-fits out at x room ∙ rw (l.place, l.left) (splice-splice old a d x fit);
      room = l.room;
    }

-- all are put: together they are one put
pub finish :
    {old : List ℕ} {a : ℕ} {fields : List (List ℕ)} {at : ℕ} {out : List ℕ} → Left old a fields [] at out → IsPut old a (join fields) at out
finish {old} {a} {fields} l =
    let e : l.done ≡ join fields = sym (append-nil _) ∙ l.whole in (
      l.place ∙ ap (λ (d : List ℕ). a + length d) e ∙ sym (next_fits old a (join fields) l.room),
      l.left ∙ ap (splice old a) e ∙ sym (placed-fits old a (join fields) l.room),
    )

-- the same by that name
pub finish_as :
    {old : List ℕ} {a : ℕ} {fields : List (List ℕ)} {at : ℕ} {out : List ℕ} (new : List ℕ) → join fields ≡ new → Left old a fields [] at out
    → IsPut old a new at out
finish_as {old} {a} {fields} {at} {out} new e l = rw (← e) (finish l)

-- the contract of a function that makes a run of puts and doesn't look whether there is room: it is one put where there is
abbrev pub IsRun : List ℕ → ℕ → List ℕ → ℕ → List ℕ → Type 0
IsRun old at new r out = at + length new ≤ length old → IsPut old at new r out

-- a run within a run
pub run :
    {old : List ℕ} {a : ℕ} {fields : List (List ℕ)} {x : List ℕ} {more : List (List ℕ)} {at : ℕ} {out : List ℕ} {r : ℕ} {out' : List ℕ}
    → Left old a fields (x ∷ more) at out → IsRun out at x r out' → Left old a fields more r out'
run l p = step l (p (next_room l))

pub join-append : (xs ys : List (List ℕ)) → join (xs ++ ys) ≡ join xs ++ join ys
join-append [] ys = refl
join-append (x ∷ xs) ys = ap (λ (l : List ℕ). x ++ l) (join-append xs ys) ∙ sym (append_assoc x (join xs) (join ys))

-- a run of several fields within a run
pub runs :
    {old : List ℕ} {a : ℕ} {fields : List (List ℕ)} (xs : List (List ℕ)) {more : List (List ℕ)} {at : ℕ} {out : List ℕ} {r : ℕ} {out' : List ℕ}
    → Left old a fields (xs ++ more) at out → IsRun out at (join xs) r out' → Left old a fields more r out'
runs {old} {a} {fields} xs {more} {at} {out} l p =
    let whole : l.done ++ (join xs ++ join more) ≡ join fields = rw (← join-append xs more) l.whole in
    let one : Left old a fields (join xs ∷ more) at out =
    record { done = l.done; whole = whole; place = l.place; left = l.left; room = l.room } in
    run one p

-- a string whose bytes are put in two parts
pub string_joined : (n : ℕ) (a b : List ℕ) → n ≡ length a + length b → join (uint32 n ∷ a ∷ b ∷ []) ≡ string (a ++ b)
unfolding string
string_joined n a b e = rw (append-nil, e, length-append)

-- ---- what stands in a buffer already

-- from `at` on, `old` holds `fields` and nothing more
pub record Here (old : List ℕ) (at : ℕ) (fields : List (List ℕ)) : Type 0 where
  pub here : drop at old ≡ join fields

-- a field that stands there already is passed over
pub skip :
    {old : List ℕ} {a : ℕ} {fields : List (List ℕ)} {x : List ℕ} {more : List (List ℕ)} {at : ℕ} {out : List ℕ} {rest : List (List ℕ)} {r : ℕ}
    → Left old a fields (x ∷ more) at out → Here old at (x ∷ rest) → r ≡ at + length x → Left old a fields more r out
skip {old} {a} {fields} {x} {more} {at} {out} {rest} {r} l h e =
    let d : List ℕ = l.done in
    let whole : (d ++ x) ++ join more ≡ join fields = append_assoc d x (join more) ∙ l.whole in
    let fit : a + length d + length x ≤ length old = omega (arith, l.room, simp length-append at (ap length whole)) in
    let there : drop (a + length d) (splice old a d) ≡ x ++ join rest = drop-splice old a d (omega arith) ∙ (rw l.place at h.here) in
    record {
      done = d ++ x;
      whole = whole;
      place = simp length-append (omega (arith, e, l.place));
      left = l.left ∙ sym (splice_same (splice old a d) (a + length d) x (join rest) there) ∙ splice-splice old a d x fit;
      room = l.room;
    }
