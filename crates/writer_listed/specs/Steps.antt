-- The keys of a record one by one, as the code goes over them.
use Rattle.std.specs.Prelude.{ℕ, zero, suc, ◌+◌, ◌-◌, ◌≤◌, ◌<◌, ◌≡◌, List, [], ◌∷◌, map, length, take, drop, get_or, Some, None}
use Rattle.std.proofs.Common.{arith, add-one, min, leb, leb-true, leb-false}
use Rattle.std.proofs.Math.Path.{refl}
use Rattle.std.proofs.Math.Seq.{drop-nil}
use Rattle.fields.specs.Bytes.{join}
use Rattle.fields.specs.Place.{by_bool}
use Rattle.fields.specs.declared.Cursor.{Cursor}
use Rattle.places.specs.declared.Places.{Places}
use Rattle.places.specs.Places.{list_of, after_first}
use Rattle.reader_entries.specs.declared.KeyFields.{KeyFields}
use Rattle.reader_entries.specs.Entries.{key_placed}
use Rattle.buffer.specs.Puts.{IsPut}
use Rattle.buffer.specs.Runs.{IsRun, start, step}
use Rattle.writer_keys.specs.Passes.{none_put, rest_of}
use Rattle.writer_listed.specs.Listed.{others_at}
use Rattle.writer_listed.specs.Rows.{row_of}

-- ---- places

-- those of the keys from number k on, counted from 0, up to the count
abbrev pub places_from : Places → ℕ → ℕ → List ℕ
places_from p k count = drop k (take count (list_of p))

-- from the second key on they are those of the others
pub places_others : (p : Places) (count : ℕ) → places_from p 1 count ≡ take (count - 1) (after_first p)
places_others p zero = refl
places_others p (suc count) = let less : suc count - 1 ≡ count = omega arith in rw less

-- past the count, or past the end, there are none
from_none : (l : List ℕ) (k count : ℕ) → count ≤ k → drop k (take count l) ≡ []
from_none l k zero h = drop-nil k
from_none [] k (suc count) h = drop-nil k
from_none (x ∷ l) zero (suc count) h = absurd (omega arith)
from_none (x ∷ l) (suc k) (suc count) h = from_none l k count (omega arith)

from_past : (l : List ℕ) (k count : ℕ) → length l ≤ k → drop k (take count l) ≡ []
from_past l k zero h = drop-nil k
from_past [] k (suc count) h = drop-nil k
from_past (x ∷ l) zero (suc count) h = absurd (omega arith)
from_past (x ∷ l) (suc k) (suc count) h = from_past l k count (omega arith)

from_more : (l : List ℕ) (k count : ℕ) → k < count → k < length l → drop k (take count l) ≡ get_or l k 0 ∷ drop (suc k) (take count l)
from_more l k zero h g = absurd (omega arith)
from_more [] k (suc count) h g = absurd (omega arith)
from_more (x ∷ l) zero (suc count) h g = refl
from_more (x ∷ l) (suc k) (suc count) h g = from_more l k count (omega arith) (omega arith)

module _ (p : Places) (k count : ℕ) where
  places_none : count ≤ k → places_from p k count ≡ []
  places_none h = from_none (list_of p) k count h

  places_past : 16 ≤ k → places_from p k count ≡ []
  places_past h = from_past (list_of p) k count h

  places_more : k < count → k < 16 → places_from p k count ≡ get_or (list_of p) k 0 ∷ places_from p (k + 1) count
  places_more h g = rw (add-one k) (from_more (list_of p) k count h g)

-- ---- keys

module _ (s : List ℕ) (b : Cursor) where
  pub others_none : others_at s b [] ≡ []
  unfolding others_at
  others_none = refl

  pub others_nothing : (at : ℕ) (more : List ℕ) → key_placed s b at ≡ None → others_at s b (at ∷ more) ≡ []
  unfolding others_at
  others_nothing at more e = rw e

  pub others_key : (at : ℕ) (more : List ℕ) (k : KeyFields) (d : Cursor) → key_placed s b at ≡ Some (k, d) → others_at s b (at ∷ more) ≡ k ∷ others_at s d more
  unfolding others_at
  others_key at more k d e = rw e

-- ---- what is put of them

-- the rows of the keys from number k on
abbrev pub rows_at : List ℕ → Cursor → Places → ℕ → ℕ → List (List ℕ)
rows_at s b p k count = map (row_of s) (others_at s b (places_from p k count))

-- they are none past the last place, or where a key isn't there; else one and those after it
module _ (s : List ℕ) (b : Cursor) (p : Places) (k count : ℕ) where
  pub rows_none : min count 16 ≤ k → rows_at s b p k count ≡ []
  rows_none h =
      by_bool (leb count k)
      (λ w. rw (places_none p k count (leb-true count k w), others_none s b))
      (λ w. rw (places_past p k count (omega (arith, h, leb-false count k w)), others_none s b))

  pub rows_nothing : k < min count 16 → key_placed s b (get_or (list_of p) k 0) ≡ None → rows_at s b p k count ≡ []
  rows_nothing h e =
      rw (places_more p k count (omega (arith, h)) (omega (arith, h)), others_nothing s b (get_or (list_of p) k 0) (places_from p (k + 1) count) e)

  pub rows_more :
      k < min count 16 → (x : KeyFields) (d : Cursor) → key_placed s b (get_or (list_of p) k 0) ≡ Some (x, d)
      → rows_at s b p k count ≡ row_of s x ∷ rows_at s d p (k + 1) count
  rows_more h x d e =
      rw (places_more p k count (omega (arith, h)) (omega (arith, h)), others_key s b (get_or (list_of p) k 0) (places_from p (k + 1) count) x d e)

module _ (s : List ℕ) (b : Cursor) (p : Places) (k count : ℕ) (old : List ℕ) (at : ℕ) where
  -- nothing
  nothing : places_from p k count ≡ [] → IsRun old at (join (rows_at s b p k count)) at old
  nothing e = rw (e, others_none s b) (none_put old at)

  pub put_none : count ≤ k → IsRun old at (join (rows_at s b p k count)) at old
  put_none h = nothing (places_none p k count h)

  pub put_past : 16 ≤ k → IsRun old at (join (rows_at s b p k count)) at old
  put_past h = nothing (places_past p k count h)

  module _ (h : k < count) (g : k < 16) where
    pub put_nothing : key_placed s b (get_or (list_of p) k 0) ≡ None → IsRun old at (join (rows_at s b p k count)) at old
    put_nothing e = rw (places_more p k count h g, others_nothing s b (get_or (list_of p) k 0) (places_from p (k + 1) count) e) (none_put old at)

    -- one key, and those after it
    pub put_more :
        (x : KeyFields) (d : Cursor) → key_placed s b (get_or (list_of p) k 0) ≡ Some (x, d) → (past : ℕ) (mid : List ℕ) (r : ℕ) (out : List ℕ)
        → IsPut old at (row_of s x) past mid → IsRun mid past (join (rows_at s d p (k + 1) count)) r out
        → IsRun old at (join (rows_at s b p k count)) r out
    put_more x d w past mid r out put rest =
        rw (places_more p k count h g, others_key s b (get_or (list_of p) k 0) (places_from p (k + 1) count) x d w)
        (λ room. rest_of (step (start {fields = row_of s x ∷ rows_at s d p (k + 1) count} room) put) rest)
