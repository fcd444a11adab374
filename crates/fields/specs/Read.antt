-- Inversion: a field that was read stands at its place as the bytes that it is written as, and then comes what is left.
use Rattle.std.specs.Prelude.{ℕ, ◌+◌, ◌-◌, ◌≤◌, ◌<◌, ◌^◌, ◌≡◌, ltb, length, get_or}
use Rattle.std.proofs.Common.{arith, sym, ◌∙◌, ltb-false, Ok}
use Rattle.std.proofs.Math.Path.{ap}
use mathlib.Core.List.{List, [], ◌++◌, append_assoc}
use Rattle.fields.specs.declared.Cursor.{Cursor}
use Rattle.fields.specs.declared.Part.{Part}
use Rattle.fields.specs.Bytes.{uint32, string, AllBytes}
use Rattle.fields.specs.Fields.{number4, part, moved, uint32_at, bytes_at, string_at, end_at, view_of}
use Rattle.fields.specs.Place.{clash, by_bool, uint32_place, bytes_place, string_place, StringPlace}
use Rattle.fields.specs.Rest.{rest, rest_split, rest_four, rest_end, view_length, number_at_fits, number_at_digits}

-- the same place
cursor_is : (c d : Cursor) → c.at ≡ d.at → c.end ≡ d.end → c ≡ d
cursor_is c d p q = λ i. record { at = p i; end = q i }

part_is : (p q : Part) → p.start ≡ q.start → p.length ≡ q.length → p ≡ q
part_is p q h k = λ i. record { start = h i; length = k i }

module _ (s : List ℕ) (all : AllBytes s) (c : Cursor) where
  pub uint32_read : (n : ℕ) (d : Cursor) → uint32_at s c ≡ Ok (n, d) → (rest s c ≡ uint32 n ++ rest s d) × (n < 2 ^ 32)
  unfolding uint32
  uint32_read n d e =
      let p = uint32_place s c n d e in
      let m : d ≡ moved c 4 = cursor_is d (moved c 4) p.after p.end in (
        rw (← p.number, m) (rest_four s c p.room ∙ ap (λ (x : List ℕ). x ++ rest s (moved c 4)) (sym (number_at_digits s all c.at))),
        rw (← p.number) (number_at_fits s all c.at),
      )

pub bytes_read : (s : List ℕ) (c : Cursor) (k : ℕ) (p : Part) (d : Cursor) → bytes_at s c k ≡ Ok (p, d) → rest s c ≡ view_of s p ++ rest s d
bytes_read s c k p d e =
    let b = bytes_place s c k p d e in
    let q : p ≡ part c.at k = part_is p (part c.at k) b.0.start b.1 in
    let m : d ≡ moved c k = cursor_is d (moved c k) (omega (arith, b.0.after, b.0.start)) b.0.end in
    rw (q, m) (rest_split s c k (omega (arith, b.0)))

-- an accepted string: its text, and where it is
pub record StringRead (s : List ℕ) (c : Cursor) (p : Part) (d : Cursor) : Type 0 where
  pub text : rest s c ≡ string (view_of s p) ++ rest s d
  pub size : length (view_of s p) ≡ p.length
  pub fits : length (view_of s p) < 2 ^ 32
  pub place : StringPlace s c p d

pub string_read : (s : List ℕ) → AllBytes s → (c : Cursor) (p : Part) (d : Cursor) → string_at s c ≡ Ok (p, d) → StringRead s c p d
unfolding string
string_read s all c p d e =
    let k = string_place s c p d e in
    let l : length (view_of s p) ≡ p.length = view_length s p (omega (arith, k.placed)) in
    let u = uint32_read s all c p.length k.body k.length in
    record {
      text =
          rw (l, append_assoc)
          (u.0 ∙ ap (λ (x : List ℕ). uint32 p.length ++ x) (bytes_read s k.body p.length p d k.bytes));
      size = l;
      fits = omega (arith, u.1);
      place = k;
    }

-- the byte before a short string is its length
number_low : (a b c d n : ℕ) → number4 a b c d ≡ n → n < 256 → d ≡ n
number_low a b c d n e h = omega arith

pub length_byte : (s : List ℕ) (c : Cursor) (p : Part) (d : Cursor) → string_at s c ≡ Ok (p, d) → p.length < 256 → get_or s (p.start - 1) 0 ≡ p.length
length_byte s c p d e h =
    let k = string_place s c p d e in
    let u = uint32_place s c p.length k.body k.length in
    let i : p.start - 1 ≡ c.at + 3 = omega (arith, k.placed.start) in
    ap (λ (j : ℕ). get_or s j 0) i ∙ number_low (get_or s c.at 0) (get_or s (c.at + 1) 0) (get_or s (c.at + 2) 0) (get_or s (c.at + 3) 0) p.length u.number h

-- nothing is left at a clean end
pub end_read : (s : List ℕ) (c : Cursor) → end_at c ≡ Ok tt → (rest s c ≡ []) × (c.end ≤ c.at)
unfolding end_at
end_read s c e =
    by_bool (ltb c.at c.end)
    (λ w. let g = rw w at e in clash cc)
    (λ w. let h = ltb-false c.at c.end w in (rest_end s c h, h))
