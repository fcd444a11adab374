-- docs/RULES.md, 18.7 and 18.8: a move to version 2. A store of another length: 1; a used place of another version or kind: 4, over all places; a
-- used place whose milliseconds don't fit 24 bits: 11, over all. It leaves every used place in version 2, with its kind and milliseconds,
-- and every unused one as it is.
use Rattle.std.specs.Prelude.{ℕ, zero, suc, Bool, true, false, cond, ◌&&◌, ◌||◌, List, [], ◌++◌, eqb, length, Ok}
use Rattle.fields.specs.Bytes.{uint32}
use Rattle.fields.specs.declared.Refusal.TheVariants.{Length, AlgorithmUnknown, Size}
use Rattle.writer_reply.specs.Reply.{on_written, unless, Written}
use Rattle.setting_record.specs.Bits.{kind_in, is_known, milliseconds_in}
use Rattle.setting_record.specs.Packing.{writable, pack_of, on_packed}
use Rattle.setting_record.specs.Record.{record_at}

-- unused, or of a version and a kind that there are
abbrev pub known : ℕ → Bool
known n = eqb n 0 || is_known n

-- unused, or with a delay that version 2 can hold
abbrev pub fitting : ℕ → Bool
fitting n = eqb n 0 || writable 2 (milliseconds_in n)

-- the second test, or the first
unfoldable pub passes : Bool → ℕ → Bool
passes true = fitting
passes false = known

-- a test over the first places
unfoldable pub all_places : (ℕ → Bool) → ℕ → List ℕ → Bool
all_places test zero s = true
all_places test (suc d) s = all_places test d s && test (record_at s d)

-- the same kind and milliseconds in version 2; what is unused stays, and what can't be packed, which a move refuses before
unfoldable pub moved_record : ℕ → ℕ
moved_record n = cond (eqb n 0) 0 (on_packed (pack_of 2 (kind_in n) (milliseconds_in n)) (λ why. n) (λ m. m))

-- the first places, each moved
unfoldable pub moved_places : ℕ → List ℕ → List ℕ
moved_places zero s = []
moved_places (suc d) s = moved_places d s ++ uint32 (moved_record (record_at s d))

unfoldable pub move_reply : List ℕ → Written
move_reply s =
    unless (eqb (length s) 128) Length
    (unless (all_places known 32 s) AlgorithmUnknown
    (unless (all_places fitting 32 s) Size
    (Ok 128)))

unfoldable pub move_left : List ℕ → List ℕ
move_left s = on_written (move_reply s) (λ f. s) (λ n. moved_places 32 s)
