-- docs/RULES.md, 15.5: a setting in plain numbers: the refusal's number, whether there is a setting, its kind and its milliseconds.
use Rattle.std.specs.Prelude.{Result, Option}
use Rattle.fields.specs.declared.Refusal.{Refusal}
use Rattle.setting_record.specs.Bits.{told_setting}
use Rattle.setting_record.specs.declared.Setting.{Setting as Held}
use Rattle.c_settings.specs.declared.Setting.{Setting}

unfoldable pub setting_of : Result (Option Held) Refusal → Setting
setting_of a =
    record {
      number = (told_setting a).number;
      used = (told_setting a).used;
      kind = (told_setting a).kind;
      milliseconds = (told_setting a).milliseconds;
    }
