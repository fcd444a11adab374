-- UTF-8 by each byte and the three before it: whether it may stand there, and where the character begins that is not whole yet.
use Rattle.std.specs.Prelude.{ℕ, zero, suc, ◌+◌, ◌-◌, List, Bool, true, cond, ◌&&◌, ◌||◌, leb, ltb, eqb, get_or}
use Rattle.utf8.specs.Utf8.{◌to◌, lies}

-- the range of the byte after a character's first byte
abbrev pub lowest_after : ℕ → ℕ
lowest_after lead = cond (eqb lead 0xE0) 0xA0 (cond (eqb lead 0xF0) 0x90 0x80)

abbrev pub highest_after : ℕ → ℕ
highest_after lead = cond (eqb lead 0xED) 0x9F (cond (eqb lead 0xF4) 0x8F 0xBF)

-- one of three bytes asks for a tail after them: a character of several bytes begins with the last, one of three or four with the one before
-- it, or one of four with the first
abbrev pub asks : ℕ → ℕ → ℕ → Bool
asks z y x = (leb 0xC0 x || leb 0xE0 y) || leb 0xF0 z

-- b may stand after the bytes z, y and x
unfoldable pub may_follow : ℕ → ℕ → ℕ → ℕ → Bool
may_follow z y x b = cond (asks z y x) (lies (lowest_after x to highest_after x) b) (ltb b 0x80 || lies (0xC2 to 0xF4) b)

-- so do n bytes after the three from the place on
unfoldable pub all_follow : ℕ → List ℕ → ℕ → Bool
all_follow zero t at = true
all_follow (suc n) t at = all_follow n t at && may_follow (get_or t (at + n) 0) (get_or t (at + n + 1) 0) (get_or t (at + n + 2) 0) (get_or t (at + n + 3) 0)

-- where the character begins that is not whole before the place
unfoldable pub begin_of : List ℕ → ℕ → ℕ
begin_of t at =
    cond (leb 0xC0 (get_or t (at - 1) 0)) (at - 1)
    (cond (leb 0xE0 (get_or t (at - 2) 0)) (at - 2)
    (cond (leb 0xF0 (get_or t (at - 3) 0)) (at - 3) at))
