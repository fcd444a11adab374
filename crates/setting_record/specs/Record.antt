-- docs/RULES.md, 18.2, 18.3 and 18.8: a record by itself. Read, a length other than 4 is 1, then its bits say. Written, a length other than 4 is 1,
-- then what can't be packed is refused; else the record stands in the buffer, and the length is answered.
use Rattle.std.specs.Prelude.{ℕ, ◌+◌, ◌*◌, Bool, cond, List, eqb, length, Result, Ok, Err, Option}
use Rattle.fields.specs.Bytes.{uint32}
use Rattle.fields.specs.Fields.{uint32_at, on_read}
use Rattle.fields.specs.declared.Cursor.{Cursor}
use Rattle.fields.specs.declared.Refusal.{Refusal}
use Rattle.fields.specs.declared.Refusal.TheVariants.{Length}
use Rattle.buffer.specs.Puts.{splice}
use Rattle.writer_reply.specs.Reply.{refused, unless, Written}
use Rattle.setting_record.specs.Bits.{answer_of}
use Rattle.setting_record.specs.Packing.{pack_of, on_packed}
use Rattle.setting_record.specs.declared.Setting.{Setting}

-- the d-th four bytes
abbrev pub four : ℕ → Cursor
four d = record { at = 4 * d; end = 4 * d + 4 }

-- their number; 0 where they aren't there
unfoldable pub record_at : List ℕ → ℕ → ℕ
record_at s d = on_read (uint32_at s (four d)) (λ f. 0) (λ n c. n)

unfoldable pub read_reply : List ℕ → Result (Option Setting) Refusal
read_reply s = cond (eqb (length s) 4) (answer_of (record_at s 0)) (Err Length)

-- a record is packed and put at a place of a buffer: where all that was handed in fits, else 1, and no byte changes
unfoldable pub packed_reply : Bool → Result ℕ Refusal → ℕ → Written
packed_reply fits p size = unless fits Length (on_packed p refused (λ n. Ok size))

unfoldable pub packed_left : Bool → Result ℕ Refusal → ℕ → List ℕ → List ℕ
packed_left fits p at old = cond fits (on_packed p (λ why. old) (λ n. splice old at (uint32 n))) old

abbrev pub write_reply : ℕ → ℕ → ℕ → List ℕ → Written
write_reply version kind milliseconds old = packed_reply (eqb (length old) 4) (pack_of version kind milliseconds) 4

abbrev pub write_left : ℕ → ℕ → ℕ → List ℕ → List ℕ
write_left version kind milliseconds old = packed_left (eqb (length old) 4) (pack_of version kind milliseconds) 0 old
