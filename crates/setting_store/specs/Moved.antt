-- A store whose first places are moved: one place more, all of them, and what each then holds. Rests on the laws of a place.
use Prim.Native.Nat.{ℕ, zero, suc, ◌+◌, ◌-◌, ◌*◌, ◌≤◌}
use Rattle.std.proofs.Common.{arith, ◌∙◌, append-nil, eq-eqb, length-append, length-drop, drop_of_length-le, take_at, drop_at, get_or-append-add, get_or-drop}
use Rattle.std.specs.Prelude.{◌≡◌, refl, List, [], ◌++◌, Bool, true, false, get_or}
use Rattle.std.proofs.Math.Path.{sym, ap}
use Rattle.std.proofs.Math.ListN.{length, drop}
use Rattle.std.proofs.Math.Seq.{drop-drop}
use Rattle.fields.specs.Bytes.{uint32}
use Rattle.fields.specs.Rest.{length-uint32}
use Rattle.buffer.specs.Puts.{splice, IsPut}
use Rattle.setting_record.specs.Record.{record_at}
use Rattle.setting_record.specs.Places.{record_same, put_record}
use Rattle.setting_store.specs.Move.{passes, moved_record, moved_places}

-- an unused place passes both tests
pub passes_unused : (delay : Bool) (n : ℕ) → n ≡ 0 → true ≡ passes delay n
unfolding passes
passes_unused true n e = rw (eq-eqb n 0 e)
passes_unused false n e = rw (eq-eqb n 0 e)

pub moved_length : (d : ℕ) (s : List ℕ) → length (moved_places d s) ≡ 4 * d
unfolding moved_places
moved_length zero s = refl
moved_length (suc d) s =
    let n = moved_record (record_at s d) in
    length-append (moved_places d s) (uint32 n) ∙ omega (arith, moved_length d s, length-uint32 n)

abbrev pub moved_up_to : ℕ → List ℕ → List ℕ
moved_up_to d s = moved_places d s ++ drop (4 * d) s

pub up_to_none : (s : List ℕ) → s ≡ moved_up_to 0 s
unfolding moved_places
up_to_none s = refl

pub up_to_length : (d : ℕ) (s : List ℕ) → 4 * d ≤ length s → length (moved_up_to d s) ≡ length s
up_to_length d s h = length-append (moved_places d s) (drop (4 * d) s) ∙ omega (arith, moved_length d s, length-drop (4 * d) s)

module _ (d : ℕ) (s : List ℕ) (h : 4 * d + 4 ≤ length s) where
  -- the next place holds what it held
  up_to_byte : (i : ℕ) → 4 * d ≤ i → get_or (moved_up_to d s) i 0 ≡ get_or s i 0
  up_to_byte i k =
      let p = moved_places d s in
      let l = moved_length d s in
      let j = i - 4 * d in
      let e : i ≡ length p + j = omega arith in
      let f : 4 * d + j ≡ i = omega arith in
      ap (λ (x : ℕ). get_or (moved_up_to d s) x 0) e ∙ get_or-append-add p (drop (4 * d) s) j 0 ∙ get_or-drop (4 * d) s j 0 ∙ ap (λ (x : ℕ). get_or s x 0) f

  pub up_to_record : record_at (moved_up_to d s) d ≡ record_at s d
  up_to_record = record_same (moved_up_to d s) s d (omega (arith, up_to_length d s (omega arith))) h (λ i lo hi. up_to_byte i lo)

  -- moved too, it is one place more
  pub up_to_next : splice (moved_up_to d s) (4 * d) (uint32 (moved_record (record_at s d))) ≡ moved_up_to (suc d) s
  unfolding splice moved_places
  up_to_next =
      let p = moved_places d s in
      let q = drop (4 * d) s in
      let u = uint32 (moved_record (record_at s d)) in
      let k = length u in
      let l = moved_length d s in
      let past : drop (4 * d + k) (p ++ q) ≡ drop (4 * d + k) s = sym (drop-drop k (4 * d) (p ++ q)) ∙ ap (drop k) (drop_at p q (4 * d) l) ∙ drop-drop k (4 * d) s in
      let end : 4 * d + k ≡ 4 * suc d = omega (arith, length-uint32 (moved_record (record_at s d))) in
      rw (take_at p q (4 * d) l, past, end)

-- what a put of the next place's moved record leaves
pub up_to_put :
    (d : ℕ) (s store out : List ℕ) (n r : ℕ) → 4 * d + 4 ≤ length s → store ≡ moved_up_to d s → n ≡ moved_record (record_at store d)
    → IsPut store (4 * d) (uint32 n) r out → out ≡ moved_up_to (suc d) s
up_to_put d s store out n r h e m p =
    let fit : 4 * d + 4 ≤ length store = rw e (omega (arith, up_to_length d s (omega arith))) in
    let k : n ≡ moved_record (record_at s d) = m ∙ ap moved_record (ap (λ (x : List ℕ). record_at x d) e ∙ up_to_record d s h) in
    put_record store (4 * d) n r out fit p ∙ rw (e, k) (up_to_next d s h)

pub up_to_all : (d : ℕ) (s : List ℕ) → length s ≡ 4 * d → moved_up_to d s ≡ moved_places d s
up_to_all d s h =
    let none : drop (4 * d) s ≡ [] = drop_of_length-le s (let k : length s ≤ 4 * d = omega arith in k) in
    ap (λ (x : List ℕ). moved_places d s ++ x) none ∙ append-nil (moved_places d s)
