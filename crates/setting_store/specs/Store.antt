-- docs/RULES.md, 18.4 to 18.6, and 18.8: a store is 128 bytes, four for each device from 0 to 31. A device above 31, or a store of another length, is
-- 1. Get answers the device's record, or that its place is empty; put packs a record and puts it in the device's place.
use Rattle.std.specs.Prelude.{ℕ, ◌*◌, Bool, cond, ◌&&◌, List, eqb, leb, length, Result, Ok, Err, Option, None}
use Rattle.fields.specs.declared.Refusal.{Refusal}
use Rattle.fields.specs.declared.Refusal.TheVariants.{Length}
use Rattle.setting_record.specs.Bits.{answer_of}
use Rattle.setting_record.specs.Packing.{pack_of}
use Rattle.setting_record.specs.Record.{record_at, packed_reply, packed_left}
use Rattle.setting_record.specs.declared.Setting.{Setting}
use Rattle.writer_reply.specs.Reply.{Written}

-- the store has its length, and a place for the device
abbrev pub has_place : List ℕ → ℕ → Bool
has_place s device = leb device 31 && eqb (length s) 128

-- what a place says: unused where its four bytes are zero
unfoldable pub place_answer : ℕ → Result (Option Setting) Refusal
place_answer n = cond (eqb n 0) (Ok None) (answer_of n)

unfoldable pub get_reply : List ℕ → ℕ → Result (Option Setting) Refusal
get_reply s device = cond (has_place s device) (place_answer (record_at s device)) (Err Length)

abbrev pub put_reply : List ℕ → ℕ → ℕ → ℕ → ℕ → Written
put_reply s device version kind milliseconds = packed_reply (has_place s device) (pack_of version kind milliseconds) 128

abbrev pub put_left : List ℕ → ℕ → ℕ → ℕ → ℕ → List ℕ
put_left s device version kind milliseconds = packed_left (has_place s device) (pack_of version kind milliseconds) (4 * device) s
