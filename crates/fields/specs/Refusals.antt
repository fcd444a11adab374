-- docs/RULES.md, 2.1 and 2.2: the number of each refusal, and the count that only number 6 carries.
use Rattle.std.specs.Prelude.{ℕ, ◌≡◌, refl, false, eqb}
use Rattle.fields.specs.declared.Refusal.{Refusal}
use Rattle.fields.specs.declared.Refusal.TheVariants.{Length, FormatEncoding, Crypto, AlgorithmUnknown, PublicKey, TrailingData, CharacterEncoding, Encrypted, Room, Form, Size}

abbrev pub number_of : Refusal → ℕ
number_of Length = 1
number_of FormatEncoding = 2
number_of Crypto = 3
number_of AlgorithmUnknown = 4
number_of PublicKey = 5
number_of (TrailingData left) = 6
number_of CharacterEncoding = 7
number_of Encrypted = 8
number_of Room = 9
number_of Form = 10
number_of Size = 11

abbrev pub count_of : Refusal → ℕ
count_of Length = 0
count_of FormatEncoding = 0
count_of Crypto = 0
count_of AlgorithmUnknown = 0
count_of PublicKey = 0
count_of (TrailingData left) = left
count_of CharacterEncoding = 0
count_of Encrypted = 0
count_of Room = 0
count_of Form = 0
count_of Size = 0

-- 0 is no refusal's number: it is an accepted call's
pub never_zero : (why : Refusal) → eqb (number_of why) 0 ≡ false
never_zero Length = refl
never_zero FormatEncoding = refl
never_zero Crypto = refl
never_zero AlgorithmUnknown = refl
never_zero PublicKey = refl
never_zero (TrailingData left) = refl
never_zero CharacterEncoding = refl
never_zero Encrypted = refl
never_zero Room = refl
never_zero Form = refl
never_zero Size = refl
