-- The bytes from a place to the end of its part, taken apart; a uint32's digits.
use Rattle.std.specs.Prelude.{ℕ, ◌+◌, ◌-◌, ◌*◌, ◌/◌, ◌%◌, ◌≤◌, ◌<◌, ◌^◌, ◌≡◌, refl, List, [], ◌∷◌, ◌++◌, length, get_or, take, drop}
use Rattle.std.proofs.Common.{add_assoc, div-add-mod', mod-eq_of_lt, add-one, arith, sym, ◌∙◌, ap, append_assoc, length-append, length-take, take-append-drop, drop_of_length-le, length-take-le, take-take, take_at, drop_at, get_or-take, get_or-drop}
use Rattle.std.proofs.Math.Nat.{div-div-eq-div-mul}
use Rattle.std.proofs.Math.Seq.{slice, slice-cons, length-slice, take-length}
use Rattle.std.proofs.lemmas.List.{drop-append-le}
use Rattle.fields.specs.declared.Cursor.{Cursor}
use Rattle.fields.specs.declared.Part.{Part}
use Rattle.fields.specs.Bytes.{uint32, string, AllBytes}
use Rattle.fields.specs.Fields.{number4, number_at, part, absent, moved, whole, within, view_of}
use Rattle.fields.specs.Room.{Room, view_in}

-- the bytes from the place to its end
abbrev pub rest : List ℕ → Cursor → List ℕ
rest s c = slice c.at c.end s

-- the place is within its part, and that within the image
abbrev pub Good : List ℕ → Cursor → Type 0
Good s c = (c.at ≤ c.end) × (c.end ≤ length s)

pub rest-within : (s : List ℕ) (p : Part) → p.start + p.length ≤ length s → rest s (within p) ≡ view_of s p
rest-within s p h = sym (view_in s p h)

pub rest-whole : (s : List ℕ) → rest s (whole s) ≡ s
rest-whole s = take-length s

-- a field that is absent has no bytes
pub view_absent : (s : List ℕ) → view_of s absent ≡ []
view_absent s = view_in s absent (omega arith)

pub rest_end : (s : List ℕ) (c : Cursor) → c.end ≤ c.at → rest s c ≡ []
rest_end s c h =
    let l : length (take c.end s) ≤ c.at = omega (arith, length-take c.end s) in
    drop_of_length-le (take c.end s) l

-- k bytes of what is left, and the others
module _ (s : List ℕ) (c : Cursor) (k : ℕ) (room : Room s c k) where
  pub rest_split : rest s c ≡ view_of s (part c.at k) ++ rest s (moved c k)
  rest_split =
      let t = take c.end s in
      let lt : length t ≡ c.end = length-take-le c.end s room.1 in
      let lx : length (take (c.at + k) t) ≡ c.at + k = length-take-le (c.at + k) t (omega arith) in
      ap (drop c.at) (sym (take-append-drop (c.at + k) t)) ∙ drop-append-le c.at (take (c.at + k) t) (drop (c.at + k) t) (omega arith)
      ∙ ap (λ (x : List ℕ). drop c.at x ++ drop (c.at + k) t) (take-take (c.at + k) c.end s room.0)
      ∙ ap (λ (x : List ℕ). x ++ rest s (moved c k)) (sym (view_in s (part c.at k) (omega arith)))

  length_part : length (view_of s (part c.at k)) ≡ k
  length_part = ap length (view_in s (part c.at k) (omega arith)) ∙ length-slice c.at (c.at + k) s (omega arith) ∙ omega arith

-- one byte of what is left
rest_one : (s : List ℕ) (i j e : ℕ) → j ≡ i + 1 → i < e → e ≤ length s → slice i e s ≡ get_or s i 0 ∷ slice j e s
rest_one s i j e q h k = rw (q, add-one, slice-cons i e s 0 h k)

-- a part's first byte, and the others
pub view_cons : (s : List ℕ) (a n : ℕ) → a + (n + 1) ≤ length s → view_of s (part a (n + 1)) ≡ get_or s a 0 ∷ view_of s (part (a + 1) n)
view_cons s a n h =
    let ends : a + (n + 1) ≡ a + 1 + n = omega arith in
    view_in s (part a (n + 1)) h ∙ rest_one s a (a + 1) (a + (n + 1)) refl (omega arith) h
    ∙ ap (λ (x : List ℕ). get_or s a 0 ∷ x) (ap (λ (e : ℕ). slice (a + 1) e s) ends ∙ sym (view_in s (part (a + 1) n) (omega arith)))

-- four bytes of what is left
module _ (s : List ℕ) (c : Cursor) (room : Room s c 4) where
  pub rest_four : rest s c ≡ get_or s c.at 0 ∷ get_or s (c.at + 1) 0 ∷ get_or s (c.at + 2) 0 ∷ get_or s (c.at + 3) 0 ∷ rest s (moved c 4)
  rest_four =
      let e = c.end in
      rw (
        rest_one s c.at (c.at + 1) e (omega arith) (omega arith) room.1,
        rest_one s (c.at + 1) (c.at + 2) e (omega arith) (omega arith) room.1,
        rest_one s (c.at + 2) (c.at + 3) e (omega arith) (omega arith) room.1,
        rest_one s (c.at + 3) (c.at + 4) e (omega arith) (omega arith) room.1,
      )

module _ (s : List ℕ) (c : Cursor) (good : Good s c) where
  -- what stands there fits
  pub room_of : (x t : List ℕ) → rest s c ≡ x ++ t → Room s c (length x)
  room_of x t e =
      let l : c.end - c.at ≡ length x + length t = sym (length-slice c.at c.end s good.1) ∙ ap length e ∙ length-append x t in
      omega arith

  -- bytes that stand there are a part, and the others come after it
  pub rest_back : (b t : List ℕ) → rest s c ≡ b ++ t → (view_of s (part c.at (length b)) ≡ b) × (rest s (moved c (length b)) ≡ t)
  rest_back b t e =
      let r = room_of b t e in
      let l = length_part s c (length b) r in
      let q = sym (rest_split s c (length b) r) ∙ e in
      let x = view_of s (part c.at (length b)) in
      let y = rest s (moved c (length b)) in
      (sym (take_at x y _ l) ∙ ap (take (length b)) q ∙ take_at b t _ refl, sym (drop_at x y _ l) ∙ ap (drop (length b)) q ∙ drop_at b t _ refl)

-- a part whose bytes are two lists is two parts
pub view_two :
    (s : List ℕ) (p : Part) (m n : ℕ) (x y : List ℕ) → p.start + p.length ≤ length s → p.length ≡ m + n → length x ≡ m → view_of s p ≡ x ++ y
    → (view_of s (part p.start m) ≡ x) × (view_of s (part (p.start + m) n) ≡ y)
view_two s p m n x y h l lx e =
    let k = rest_back s (within p) (omega arith) x y (rest-within s p h ∙ e) in
    let ends : p.start + m + n ≡ p.start + p.length = omega arith in (
      ap (λ (i : ℕ). view_of s (part p.start i)) (sym lx) ∙ k.0,
      view_in s (part (p.start + m) n) (omega arith) ∙ ap (λ (i : ℕ). slice (p.start + m) i s) ends
          ∙ ap (λ (i : ℕ). slice (p.start + i) (p.start + p.length) s) (sym lx) ∙ k.1,
    )

-- a byte of a part
pub view_byte : (s : List ℕ) (p : Part) (i : ℕ) → p.start + p.length ≤ length s → i < p.length → get_or (view_of s p) i 0 ≡ get_or s (p.start + i) 0
view_byte s p i h k =
    ap (λ (l : List ℕ). get_or l i 0) (view_in s p h) ∙ get_or-drop p.start (take (p.start + p.length) s) i 0
    ∙ get_or-take (p.start + p.length) s (p.start + i) 0 (omega arith)

pub view_length : (s : List ℕ) (p : Part) → p.start + p.length ≤ length s → length (view_of s p) ≡ p.length
view_length s p h = ap length (view_in s p h) ∙ length-slice p.start (p.start + p.length) s h ∙ omega arith

-- a part in two
pub view_split :
    (s : List ℕ) (a m n : ℕ) → a + (m + n) ≤ length s → view_of s (part a (m + n)) ≡ view_of s (part a m) ++ view_of s (part (a + m) n)
view_split s a m n h =
    let c : Cursor = record { at = a; end = a + (m + n) } in
    view_in s (part a (m + n)) h ∙ rest_split s c m (omega arith)
    ∙ ap (λ (x : List ℕ). view_of s (part a m) ++ x)
    (ap (λ (e : ℕ). slice (a + m) e s) (sym (add_assoc a m n)) ∙ sym (view_in s (part (a + m) n) (omega arith)))

-- ---- digits

by_quotients :
    (n q1 q2 q3 r0 r1 r2 r3 : ℕ) → q1 * 256 + r0 ≡ n → q2 * 256 + r1 ≡ q1 → q3 * 256 + r2 ≡ q2 → r3 ≡ q3 → number4 r3 r2 r1 r0 ≡ n
by_quotients n q1 q2 q3 r0 r1 r2 r3 a b c d = omega arith

pub digits_number : (n : ℕ) → n < 2 ^ 32 → number4 (n / 16777216 % 256) (n / 65536 % 256) (n / 256 % 256) (n % 256) ≡ n
digits_number n h =
    by_quotients n (n / 256) (n / 65536) (n / 16777216) _ _ _ _ (div-add-mod' n 256) (rw (div-div-eq-div-mul n 256 256) at (div-add-mod' (n / 256) 256))
    (rw (div-div-eq-div-mul n 65536 256) at (div-add-mod' (n / 65536) 256))
    (mod-eq_of_lt (omega arith))

module _ (a b c d : ℕ) (ha : a < 256) (hb : b < 256) (hc : c < 256) (hd : d < 256) where
  number_fits : number4 a b c d < 2 ^ 32
  number_fits = omega arith

  digit_1 : number4 a b c d / 16777216 % 256 ≡ a
  digit_1 = omega arith

  digit_2 : number4 a b c d / 65536 % 256 ≡ b
  digit_2 = omega arith

  digit_3 : number4 a b c d / 256 % 256 ≡ c
  digit_3 = omega arith

  digit_4 : number4 a b c d % 256 ≡ d
  digit_4 = omega arith

  number_digits : uint32 (number4 a b c d) ≡ a ∷ b ∷ c ∷ d ∷ []
  unfolding uint32
  number_digits = simp (digit_1, digit_2, digit_3, digit_4)

-- four bytes of a list of bytes
module _ (s : List ℕ) (all : AllBytes s) (i : ℕ) where
  pub number_at_fits : number_at s i < 2 ^ 32
  number_at_fits = number_fits _ _ _ _ (all i) (all (i + 1)) (all (i + 2)) (all (i + 3))

  pub number_at_digits : uint32 (number_at s i) ≡ get_or s i 0 ∷ get_or s (i + 1) 0 ∷ get_or s (i + 2) 0 ∷ get_or s (i + 3) 0 ∷ []
  number_at_digits = number_digits _ _ _ _ (all i) (all (i + 1)) (all (i + 2)) (all (i + 3))

pub length-uint32 : (n : ℕ) → length (uint32 n) ≡ 4
unfolding uint32
length-uint32 n = refl

pub length-string : (b : List ℕ) → length (string b) ≡ 4 + length b
unfolding string uint32
length-string b = length-append (uint32 (length b)) b

-- ---- equal bytes

pub append_cancel : (a b c : List ℕ) → a ++ b ≡ a ++ c → b ≡ c
append_cancel a b c e = sym (drop_at a b (length a) refl) ∙ ap (drop (length a)) e ∙ drop_at a c (length a) refl

uint32_same : (m n : ℕ) → m < 2 ^ 32 → n < 2 ^ 32 → uint32 m ≡ uint32 n → m ≡ n
unfolding uint32
uint32_same m n hm hn e =
    sym (digits_number m hm)
    ∙ ap (λ (l : List ℕ). number4 (get_or l 0 0) (get_or l 1 0) (get_or l 2 0) (get_or l 3 0)) e
    ∙ digits_number n hn

-- strings that begin the same bytes have the same length
pub string_same :
    (a b t u : List ℕ) → length a < 2 ^ 32 → length b < 2 ^ 32 → string a ++ t ≡ string b ++ u → length a ≡ length b
unfolding string
string_same a b t u ha hb e =
    let first = sym (take_at (uint32 (length a)) (a ++ t) 4 (length-uint32 (length a)))
    ∙ ap (take 4) (sym (append_assoc (uint32 (length a)) a t) ∙ e ∙ append_assoc (uint32 (length b)) b u)
    ∙ take_at (uint32 (length b)) (b ++ u) 4 (length-uint32 (length b)) in
    uint32_same (length a) (length b) ha hb first
