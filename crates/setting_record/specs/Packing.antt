-- docs/RULES.md, 18.3: a version, a kind and a number of milliseconds as a record. Another version: 4; another kind: 4; a delay that can't be
-- written: 11. In version 1 it can be written exactly if it is a whole number of seconds that fits 24 bits, in version 2 exactly if it
-- fits 24 bits.
use Rattle.std.specs.Prelude.{ℕ, ◌+◌, ◌*◌, ◌/◌, ◌%◌, Bool, cond, ◌&&◌, eqb, ltb, Result, Ok, Err}
use Rattle.fields.specs.declared.Refusal.{Refusal}
use Rattle.fields.specs.declared.Refusal.TheVariants.{AlgorithmUnknown, Size}
use Rattle.setting_record.specs.Bits.{is_version, is_kind, unit}

-- 18.1's bits, put together
abbrev pub bits : ℕ → ℕ → ℕ → ℕ
bits version kind delay = version * 268435456 + kind * 16777216 + delay

unfoldable pub writable : ℕ → ℕ → Bool
writable version milliseconds = eqb (milliseconds % unit version) 0 && ltb (milliseconds / unit version) 16777216

unfoldable pub pack_of : ℕ → ℕ → ℕ → Result ℕ Refusal
pack_of version kind milliseconds =
    cond (is_version version)
    (cond (is_kind kind)
    (cond (writable version milliseconds)
    (Ok (bits version kind (milliseconds / unit version)))
    (Err Size))
    (Err AlgorithmUnknown))
    (Err AlgorithmUnknown)

-- by what there is
abbrev pub on_packed : {R : Type 0} → Result ℕ Refusal → (Refusal → R) → (ℕ → R) → R
on_packed (Err why) refused made = refused why
on_packed (Ok n) refused made = made n
