-- docs/RULES.md, 7.1 and 7.5: every field read says at which byte of the image the failing field began. For uint32, bytes, string, fixed
-- field and end that place lies in what was to be read, or at its end; and what is read moves on within it.
use Rattle.std.specs.Prelude.{ℕ, ◌+◌, ◌-◌, ◌≤◌, ◌≡◌, List, ltb, length, Ok, Err}
use Rattle.std.proofs.Common.{arith, ltb-true}
use Rattle.fields.specs.Fields.{within, has_room, uint32_at, bytes_at, string_at, fixed_at, end_at, Read, Tested}
use Rattle.fields.specs.Place.{by_read, by_bool, string_place}
use Rattle.fields.specs.Rest.{Good}
use Rattle.fields.specs.Room.{room_fits}
use Rattle.fields.specs.declared.Cursor.{Cursor}
use Rattle.fields.specs.declared.Fault.{Fault}
use Rattle.fields.specs.declared.Part.{Part}

-- a refusal's place is not before the place c and not past its end
abbrev pub Lies : Cursor → Fault → Type 0
Lies c f = (c.at ≤ f.at) × (f.at ≤ c.end)

-- d is the place after what was read at c
abbrev pub After : Cursor → Cursor → Type 0
After c d = (c.at ≤ d.at) × (d.at ≤ d.end) × (d.end ≡ c.end)

-- of each answer: refused, where the refusal is; read, where the next place is
abbrev pub Uint32Lies : Cursor → Read ℕ → Type 0
Uint32Lies c (Err f) = Lies c f
Uint32Lies c (Ok (n, d)) = After c d

abbrev pub FieldLies : Cursor → Read Part → Type 0
FieldLies c (Err f) = Lies c f
FieldLies c (Ok (p, d)) = After c d

abbrev pub EndingLies : Cursor → Tested → Type 0
EndingLies c (Err f) = Lies c f
EndingLies c (Ok tt) = Unit {0}

-- a refusal further on, or in a part of what was to be read, lies there too
pub lies_after : (c d : Cursor) (f : Fault) → After c d → Lies d f → Lies c f
lies_after c d f a l = omega (arith, a, l)

pub after-after : (c d e : Cursor) → After c d → After d e → After c e
after-after c d e a b = omega (arith, a, b)

pub good_after : (s : List ℕ) (c d : Cursor) → Good s c → After c d → Good s d
good_after s c d g a = omega (arith, g, a)

pub uint32_lies : (s : List ℕ) (c : Cursor) → Good s c → Uint32Lies c (uint32_at s c)
unfolding uint32_at
uint32_lies s c good =
    by_bool (has_room s c 4)
    (λ w. rw w (let r = room_fits s c 4 w in omega (arith, r)))
    (λ w. rw w (omega (arith, good)))

pub bytes_lies : (s : List ℕ) (c : Cursor) (k : ℕ) → Good s c → FieldLies c (bytes_at s c k)
unfolding bytes_at
bytes_lies s c k good =
    by_bool (has_room s c k)
    (λ w. rw w (let r = room_fits s c k w in omega (arith, r)))
    (λ w. rw w (omega (arith, good)))

pub string_lies : (s : List ℕ) (c : Cursor) → Good s c → FieldLies c (string_at s c)
unfolding string_at
string_lies s c good =
    by_read (uint32_at s c)
    (λ f w. rw w (rw w at (uint32_lies s c good)))
    (λ n b w.
    let a = rw w at (uint32_lies s c good) in
    rw w
    (by_read (bytes_at s b n)
    (λ f v. rw v (omega (arith, good)))
    (λ p d v. rw v (after-after c b d a (rw v at (bytes_lies s b n (good_after s c b good a)))))))

-- a string that was read: four length bytes, then its bytes, up to the place after it
pub record StringIn (s : List ℕ) (c : Cursor) (p : Part) (d : Cursor) : Type 0 where
  pub start : p.start ≡ c.at + 4
  pub ends : p.start + p.length ≡ d.at
  pub after : After c d
  pub inside : Good s (within p)

pub string_in : (s : List ℕ) (c : Cursor) (p : Part) (d : Cursor) → string_at s c ≡ Ok (p, d) → StringIn s c p d
string_in s c p d e =
    let k = (string_place s c p d e).placed in
    record { start = k.start; ends = omega (arith, k); after = omega (arith, k); inside = omega (arith, k) }

-- what is refused within a string lies in what the string stands in
pub lies_within : (s : List ℕ) (c : Cursor) (p : Part) (d : Cursor) (f : Fault) → StringIn s c p d → Lies (within p) f → Lies c f
lies_within s c p d f i l = omega (arith, i, l)

pub fixed_lies : (s : List ℕ) (c : Cursor) (k : ℕ) → Good s c → FieldLies c (fixed_at s c k)
unfolding fixed_at
fixed_lies s c k good =
    by_read (string_at s c)
    (λ f w. rw w (rw w at (string_lies s c good)))
    (λ p d w.
    let i = string_in s c p d w in
    rw w
    (by_bool (ltb p.length k)
    (λ v. rw v (omega (arith, good)))
    (λ v.
    rw v
    (by_bool (ltb k p.length)
    (λ u. rw u (omega (arith, i, ltb-true k p.length u)))
    (λ u. rw u i.after)))))

pub end_lies : (c : Cursor) → EndingLies c (end_at c)
unfolding end_at
end_lies c =
    by_bool (ltb c.at c.end)
    (λ w. rw w (omega (arith, ltb-true c.at c.end w)))
    (λ w. rw w tt)
