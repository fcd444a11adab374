-- docs/RULES.md, 18.1 and 18.2: a setting's record is a number of 32 bits, the highest first: 4 bits version, 4 bits kind, 24 bits delay. In
-- version 1 the delay is in seconds, in version 2 in milliseconds. Another version is 4, another kind than 0 to 4 is 4.
use Rattle.std.specs.Prelude.{ℕ, ◌*◌, ◌/◌, ◌%◌, Bool, cond, ◌&&◌, ◌||◌, eqb, leb, Result, Ok, Err, Option, Some, None}
use Rattle.fields.specs.Refusals.{number_of}
use Rattle.fields.specs.declared.Refusal.{Refusal}
use Rattle.fields.specs.declared.Refusal.TheVariants.{AlgorithmUnknown}
use Rattle.setting_record.specs.declared.Setting.{Setting}

-- the bits of a record
abbrev pub version_in : ℕ → ℕ
version_in n = n / 268435456

abbrev pub kind_in : ℕ → ℕ
kind_in n = n / 16777216 % 16

abbrev pub delay_in : ℕ → ℕ
delay_in n = n % 16777216

unfoldable pub is_version : ℕ → Bool
is_version v = eqb v 1 || eqb v 2

abbrev pub is_kind : ℕ → Bool
is_kind k = leb k 4

-- how many milliseconds a delay of 1 is
unfoldable pub unit : ℕ → ℕ
unit v = cond (eqb v 1) 1000 1

unfoldable pub is_known : ℕ → Bool
is_known n = is_version (version_in n) && is_kind (kind_in n)

unfoldable pub milliseconds_in : ℕ → ℕ
milliseconds_in n = delay_in n * unit (version_in n)

abbrev pub setting : ℕ → ℕ → Setting
setting kind milliseconds = record { kind = kind; milliseconds = milliseconds }

-- what a record says
unfoldable pub answer_of : ℕ → Result (Option Setting) Refusal
answer_of n = cond (is_known n) (Ok (Some (setting (kind_in n) (milliseconds_in n)))) (Err AlgorithmUnknown)

-- by what was answered
abbrev pub on_answer : {R : Type 0} → Result (Option Setting) Refusal → (Refusal → R) → R → (Setting → R) → R
on_answer (Err why) refused empty set = refused why
on_answer (Ok None) refused empty set = empty
on_answer (Ok (Some s)) refused empty set = set s

-- the rules' reply: the refusal's number, count and place being 0; whether there is a setting, its kind and its milliseconds
pub record ToldSetting : Type 0 where
  pub number : ℕ
  pub used : ℕ
  pub kind : ℕ
  pub milliseconds : ℕ

-- of each case of an answer
unfoldable pub told_setting : Result (Option Setting) Refusal → ToldSetting
told_setting a =
    on_answer a
    (λ why. record { number = number_of why; used = 0; kind = 0; milliseconds = 0 })
    (record { number = 0; used = 0; kind = 0; milliseconds = 0 })
    (λ s. record { number = 0; used = 1; kind = s.kind; milliseconds = s.milliseconds })
