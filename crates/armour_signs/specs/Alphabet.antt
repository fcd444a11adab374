-- docs/RULES.md, 14.1. RFC 4648, table 1: which sign stands for a value below 64, and which value a sign has.
use Rattle.std.specs.Prelude.{ℕ, zero, suc, ◌+◌, Bool, true, cond, ◌&&◌, List, [], ◌∷◌, eqb, ltb, get_or}
use Rattle.fields.specs.Bytes.{ascii}

-- the signs, each at its value
unfoldable pub signs : List ℕ
signs = ascii "ABCDEFGHIJKLMNOPQRSTUVWXYZabcdefghijklmnopqrstuvwxyz0123456789+/"

unfoldable pub sign_of : ℕ → ℕ
sign_of v = get_or signs v 0

-- the place of a byte in a list, counted from n; where it stands nowhere: 64
abbrev pub place : ℕ → ℕ → List ℕ → ℕ
place c n [] = 64
place c n (x ∷ xs) = cond (eqb c x) n (place c (suc n) xs)

unfoldable pub value_of : ℕ → ℕ
value_of c = place c 0 signs

unfoldable pub is_sign : ℕ → Bool
is_sign c = ltb (value_of c) 64

-- whether the n bytes of t from p on are signs
abbrev pub all_signs : ℕ → List ℕ → ℕ → Bool
all_signs zero t p = true
all_signs (suc n) t p = all_signs n t p && is_sign (get_or t (p + n) 0)

-- the values of k bytes from c on
abbrev pub values_from : ℕ → ℕ → List ℕ
values_from c zero = []
values_from c (suc k) = value_of c ∷ values_from (suc c) k

-- the values of all bytes
unfoldable pub values : List ℕ
values = values_from 0 256
