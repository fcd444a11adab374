-- docs/RULES.md, 3.1 to 3.4, and 7.1: what reading a field at a place of an image finds.
--
-- A uint32 is big-endian; a string is a uint32 length and that many bytes. If fewer bytes remain in the enclosing part than the
-- length says: 1. A field of fixed length k with string length L: L < k gives 1, L > k gives 6 with count L - k. A field begins
-- at its length bytes; what a longer one has too much begins where its k bytes end.
use Rattle.std.specs.Prelude.{ℕ, ◌+◌, ◌-◌, ◌*◌, ◌≡◌, List, [], Bool, cond, ◌&&◌, length, get_or, ltb, leb, Result, Err, Ok, ⊤}
use Rattle.std.proofs.Math.Seq.{slice}
use Rattle.std.specs.Borrow.{Bor}
use Rattle.fields.specs.declared.Cursor.{Cursor}
use Rattle.fields.specs.declared.Part.{Part}
use Rattle.fields.specs.declared.Fault.{Fault}
use Rattle.fields.specs.declared.Refusal.{Refusal}
use Rattle.fields.specs.declared.Refusal.TheVariants.{Length, TrailingData}

abbrev pub fault : Refusal → ℕ → Fault
fault why at = record { why = why; at = at }

abbrev pub part : ℕ → ℕ → Part
part start length = record { start = start; length = length }

-- a field that the image doesn't have
abbrev pub absent : Part
absent = part 0 0

-- the place k bytes on
abbrev pub moved : Cursor → ℕ → Cursor
moved c k = record { at = c.at + k; end = c.end }

-- the image's beginning, up to its end
abbrev pub whole : List ℕ → Cursor
whole s = record { at = 0; end = length s }

-- the place at which a part begins, up to the part's end
abbrev pub within : Part → Cursor
within p = record { at = p.start; end = p.start + p.length }

-- a value and the place after it, or the refusal
abbrev pub Read : Type 0 → Type 0
Read A = Result (A × Cursor) Fault

-- by what was read
abbrev pub on_read : {A R : Type 0} → Read A → (Fault → R) → (A → Cursor → R) → R
on_read (Err f) refused read = refused f
on_read (Ok (x, c)) refused read = read x c

-- passed, or the refusal
abbrev pub Tested : Type 0
Tested = Result ⊤ Fault

abbrev pub on_tested : {R : Type 0} → Tested → (Fault → R) → R → R
on_tested (Err f) refused passed = refused f
on_tested (Ok x) refused passed = passed

-- k more bytes remain in the enclosing part, and that is within the image
unfoldable pub has_room : List ℕ → Cursor → ℕ → Bool
has_room s c k = leb (c.at + k) c.end && leb c.end (length s)

-- four bytes as a number, the first the highest
abbrev pub number4 : ℕ → ℕ → ℕ → ℕ → ℕ
number4 a b c d = ((a * 256 + b) * 256 + c) * 256 + d

abbrev pub number_at : List ℕ → ℕ → ℕ
number_at s i = number4 (get_or s i 0) (get_or s (i + 1) 0) (get_or s (i + 2) 0) (get_or s (i + 3) 0)

unfoldable pub uint32_at : List ℕ → Cursor → Read ℕ
uint32_at s c = cond (has_room s c 4) (Ok (number_at s c.at, moved c 4)) (Err (fault Length c.at))

-- k bytes without length bytes: the magic, a tag
unfoldable pub bytes_at : List ℕ → Cursor → ℕ → Read Part
bytes_at s c k = cond (has_room s c k) (Ok (part c.at k, moved c k)) (Err (fault Length c.at))

unfoldable pub string_at : List ℕ → Cursor → Read Part
string_at s c =
    on_read (uint32_at s c) Err (λ n d.
    on_read (bytes_at s d n) (λ f. Err (fault Length c.at)) (λ p e. Ok (p, e)))

unfoldable pub fixed_at : List ℕ → Cursor → ℕ → Read Part
fixed_at s c k =
    on_read (string_at s c) Err (λ p d.
    cond (ltb p.length k) (Err (fault Length c.at))
    (cond (ltb k p.length) (Err (fault (TrailingData (p.length - k)) (c.at + 4 + k)))
    (Ok (p, d))))

-- bytes left over: 6, with how many, at the first of them
unfoldable pub end_at : Cursor → Tested
end_at c = cond (ltb c.at c.end) (Err (fault (TrailingData (c.end - c.at)) c.at)) (Ok tt)

-- a part's bytes, or none where it isn't within the image
unfoldable pub view_of : List ℕ → Part → List ℕ
view_of s p = cond (leb (p.start + p.length) (length s)) (slice p.start (p.start + p.length) s) []

-- where those bytes stand
unfoldable pub view_start : List ℕ → Part → ℕ
view_start s p = cond (leb (p.start + p.length) (length s)) p.start 0

-- the reference r is that part of what image refers to: the bytes, and the very place in the caller's memory
abbrev pub IsView : Bor (List ℕ) → Bor (List ℕ) → Part → Type 0
IsView r image p =
    (r.now ≡ view_of image.now p) × (r.ref_ptr.0 ≡ image.ref_ptr.0) × (r.ref_ptr.1 ≡ image.ref_ptr.1 + view_start image.now p)
