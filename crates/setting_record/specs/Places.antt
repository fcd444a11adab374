-- The d-th four bytes of a list: by its bytes, as what was put there, and with something put elsewhere. Rests on the laws of a uint32 and of
-- one put.
use Rattle.std.specs.Prelude.{ℕ, zero, suc, ◌+◌, ◌-◌, ◌*◌, ◌≤◌, ◌<◌, ◌^◌, ◌≡◌, List, [], ◌++◌, drop, get_or, ltb}
use Rattle.std.proofs.Common.{add-zero, arith, sym, ◌∙◌, ap, append-nil, take_at, drop_at, get_or-drop, ltb-true, ltb-false}
use Rattle.std.proofs.Math.ListN.{length, take, length-append, get_or-append}
use Rattle.std.proofs.Math.Seq.{length-take-le, get_or-take}
use Rattle.fields.specs.Bytes.{uint32, AllBytes}
use Rattle.fields.specs.Place.{by_bool}
use Rattle.fields.specs.Fields.{uint32_at, number_at}
use Rattle.fields.specs.Room.{room_is}
use Rattle.fields.specs.Rest.{rest, rest_end, rest_four, number_at_fits, number_at_digits, length-uint32}
use Rattle.fields.specs.Back.{uint32_back}
use Rattle.buffer.specs.Puts.{splice, IsPut, placed-fits, splice-length, drop-splice}
use Rattle.setting_record.specs.Record.{four, record_at}

-- by the bytes
pub record_number : (s : List ℕ) (d : ℕ) → 4 * d + 4 ≤ length s → record_at s d ≡ number_at s (4 * d)
unfolding record_at uint32_at
record_number s d h = rw (room_is s (four d) 4 (omega arith, h))

pub record_same :
    (s t : List ℕ) (d : ℕ) → 4 * d + 4 ≤ length s → 4 * d + 4 ≤ length t
    → ((i : ℕ) → 4 * d ≤ i → i < 4 * d + 4 → get_or s i 0 ≡ get_or t i 0)
    → record_at s d ≡ record_at t d
record_same s t d hs ht e =
    record_number s d hs
    ∙ rw (
      e (4 * d) (omega arith) (omega arith),
      e (4 * d + 1) (omega arith) (omega arith),
      e (4 * d + 2) (omega arith) (omega arith),
      e (4 * d + 3) (omega arith) (omega arith),
    )
    (sym (record_number t d ht))

-- 0 is four zero bytes, and no others
module _ (s : List ℕ) (d : ℕ) (h : 4 * d + 4 ≤ length s) where
  four_zeros : record_at s d ≡ 0 → (get_or s (4 * d) 0 ≡ 0) × (get_or s (4 * d + 1) 0 ≡ 0) × (get_or s (4 * d + 2) 0 ≡ 0) × (get_or s (4 * d + 3) 0 ≡ 0)
  four_zeros e = let z : number_at s (4 * d) ≡ 0 = sym (record_number s d h) ∙ e in (omega arith, omega arith, omega arith, omega arith)

  pub unused_zeros : record_at s d ≡ 0 → (i : ℕ) → i < 4 → get_or s (4 * d + i) 0 ≡ 0
  unused_zeros e zero k = ap (λ (x : ℕ). get_or s x 0) (add-zero (4 * d)) ∙ (four_zeros e).0
  unused_zeros e (suc zero) k = (four_zeros e).1
  unused_zeros e (suc (suc zero)) k = (four_zeros e).2
  unused_zeros e (suc (suc (suc zero))) k = (four_zeros e).3
  unused_zeros e (suc (suc (suc (suc i)))) k = absurd (omega arith)

  pub zeros_unused : ((i : ℕ) → i < 4 → get_or s (4 * d + i) 0 ≡ 0) → record_at s d ≡ 0
  zeros_unused z =
      let first : get_or s (4 * d) 0 ≡ 0 = ap (λ (x : ℕ). get_or s x 0) (sym (add-zero (4 * d))) ∙ z 0 (omega arith) in
      record_number s d h ∙ rw (first, z 1 (omega arith), z 2 (omega arith), z 3 (omega arith))

module _ (s : List ℕ) (all : AllBytes s) (d : ℕ) (h : 4 * d + 4 ≤ length s) where
  pub record_fits : record_at s d < 2 ^ 32
  record_fits = rw (record_number s d h) (number_at_fits s all (4 * d))

  -- the bytes are the number's
  pub record_bytes : rest s (four d) ≡ uint32 (record_at s d)
  record_bytes =
      rest_four s (four d) (omega arith, h)
      ∙ rw (rest_end s (record { at = 4 * d + 4; end = 4 * d + 4 }) (omega arith), record_number s d h) (sym (number_at_digits s all (4 * d)))

-- as what stands there
pub record_of : (p : List ℕ) (n : ℕ) (t : List ℕ) (d : ℕ) → length p ≡ 4 * d → n < 2 ^ 32 → record_at (p ++ uint32 n ++ t) d ≡ n
unfolding record_at
record_of p n t d l small =
    let q = p ++ uint32 n in
    let lq : length q ≡ 4 * d + 4 = length-append p (uint32 n) ∙ omega (arith, length-uint32 n) in
    let first : take (4 * d + 4) (q ++ t) ≡ q = take_at q t (4 * d + 4) lq in
    let there : rest (q ++ t) (four d) ≡ uint32 n ++ [] = ap (drop (4 * d)) first ∙ drop_at p (uint32 n) (4 * d) l ∙ sym (append-nil (uint32 n)) in
    let u = uint32_back (q ++ t) (four d) (omega (arith, length-append q t)) n [] small there in
    rw u.read

-- a record that is put where there is room
pub put_record : (old : List ℕ) (at n r : ℕ) (out : List ℕ) → at + 4 ≤ length old → IsPut old at (uint32 n) r out → out ≡ splice old at (uint32 n)
put_record old at n r out h p = p.1 ∙ placed-fits old at (uint32 n) (omega (arith, length-uint32 n))

-- with four bytes put at a place
module _ (s : List ℕ) (d n : ℕ) (h : 4 * d + 4 ≤ length s) where
  room : 4 * d + length (uint32 n) ≤ length s
  room = omega (arith, length-uint32 n)

  pub record_put : n < 2 ^ 32 → record_at (splice s (4 * d) (uint32 n)) d ≡ n
  unfolding splice
  record_put small = record_of (take (4 * d) s) n (drop (4 * d + length (uint32 n)) s) d (length-take-le (4 * d) s (omega arith)) small

  pub byte_before : (i : ℕ) → i < 4 * d → get_or (splice s (4 * d) (uint32 n)) i 0 ≡ get_or s i 0
  unfolding splice
  byte_before i k =
      let p = take (4 * d) s in
      let l : length p ≡ 4 * d = length-take-le (4 * d) s (omega arith) in
      get_or-append (p ++ uint32 n) _ 0 i (omega (arith, length-append p (uint32 n)))
      ∙ get_or-append p (uint32 n) 0 i (omega arith)
      ∙ get_or-take (4 * d) s i 0 k

  pub byte_after : (i : ℕ) → 4 * d + 4 ≤ i → get_or (splice s (4 * d) (uint32 n)) i 0 ≡ get_or s i 0
  byte_after i k =
      let e = 4 * d + length (uint32 n) in
      let j : i ≡ e + (i - e) = omega (arith, length-uint32 n) in
      rw j (sym (get_or-drop e (splice s (4 * d) (uint32 n)) (i - e) 0) ∙ ap (λ (l : List ℕ). get_or l (i - e) 0) (drop-splice s (4 * d) (uint32 n) room)
      ∙ get_or-drop e s (i - e) 0)

  -- another place is as it was
  pub record_other : (e : ℕ) → (e ≡ d → ⊥) → 4 * e + 4 ≤ length s → record_at (splice s (4 * d) (uint32 n)) e ≡ record_at s e
  record_other e apart k =
      record_same (splice s (4 * d) (uint32 n)) s e (omega (arith, splice-length s (4 * d) (uint32 n) room)) k
      (λ i lo hi. by_bool (ltb e d)
      (λ t. byte_before i (omega (arith, ltb-true e d t)))
      (λ t. byte_after i (let g : d < e = omega (arith, ltb-false e d t, apart) in omega arith)))
