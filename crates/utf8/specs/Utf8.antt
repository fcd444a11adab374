-- docs/RULES.md, 5.5: UTF-8, the grammar of RFC 3629, section 4, "Syntax of UTF-8 Byte Sequences", under its own names.
--
--     UTF8-octets = *( UTF8-char )
--     UTF8-char   = UTF8-1 / UTF8-2 / UTF8-3 / UTF8-4
--     UTF8-1      = %x00-7F
--     UTF8-2      = %xC2-DF UTF8-tail
--     UTF8-3      = %xE0 %xA0-BF UTF8-tail / %xE1-EC 2( UTF8-tail ) /
--                   %xED %x80-9F UTF8-tail / %xEE-EF 2( UTF8-tail )
--     UTF8-4      = %xF0 %x90-BF 2( UTF8-tail ) / %xF1-F3 3( UTF8-tail ) /
--                   %xF4 %x80-8F 2( UTF8-tail )
--     UTF8-tail   = %x80-BF
use Rattle.std.specs.Prelude.{ℕ, ◌≤◌, Bool, true, false, cond, ◌&&◌, leb}
use mathlib.Core.List.{List, [], ◌∷◌, ◌++◌, Memᴰ}

-- ---- the grammar

-- the bytes from the lowest to the highest: `0x80 to 0xBF` is %x80-BF
infix 70 ◌to◌
pub data Range : Type 0 where
  ◌to◌ : ℕ → ℕ → Range

-- one byte: `only 0xE0` is %xE0
abbrev pub only : ℕ → Range
only b = b to b

-- a form of a character: a range for each of its bytes
abbrev pub Row : Type 0
Row = List Range

abbrev pub UTF8-tail : Range
UTF8-tail = 0x80 to 0xBF

abbrev pub UTF8-1 : List Row
UTF8-1 = (0x00 to 0x7F ∷ []) ∷ []

abbrev pub UTF8-2 : List Row
UTF8-2 = (0xC2 to 0xDF ∷ UTF8-tail ∷ []) ∷ []

abbrev pub UTF8-3 : List Row
UTF8-3 =
    (only 0xE0 ∷ 0xA0 to 0xBF ∷ UTF8-tail ∷ []) ∷
    (0xE1 to 0xEC ∷ UTF8-tail ∷ UTF8-tail ∷ []) ∷
    (only 0xED ∷ 0x80 to 0x9F ∷ UTF8-tail ∷ []) ∷
    (0xEE to 0xEF ∷ UTF8-tail ∷ UTF8-tail ∷ []) ∷
    []

abbrev pub UTF8-4 : List Row
UTF8-4 =
    (only 0xF0 ∷ 0x90 to 0xBF ∷ UTF8-tail ∷ UTF8-tail ∷ []) ∷
    (0xF1 to 0xF3 ∷ UTF8-tail ∷ UTF8-tail ∷ UTF8-tail ∷ []) ∷
    (only 0xF4 ∷ 0x80 to 0x8F ∷ UTF8-tail ∷ UTF8-tail ∷ []) ∷
    []

unfoldable pub UTF8-char : List Row
UTF8-char = UTF8-1 ++ UTF8-2 ++ UTF8-3 ++ UTF8-4

-- the bytes lie in the ranges of the row, one in each
pub data InRow : Row → List ℕ → Type 0 where
  done : InRow [] []
  next : {low high b : ℕ} {ranges : Row} {bytes : List ℕ} → low ≤ b → b ≤ high → InRow ranges bytes →
      InRow (low to high ∷ ranges) (b ∷ bytes)

-- UTF8-octets: one character after another, up to the end
pub data Octets : List ℕ → Type 0 where
  end : Octets []
  char : {row : Row} {bytes more : List ℕ} → Memᴰ row UTF8-char → InRow row bytes → Octets more →
      Octets (bytes ++ more)

-- ---- the same as a test that computes. `utf8_sound` and `utf8_complete` say that it accepts what `Octets` derives, and nothing else

abbrev pub lies : Range → ℕ → Bool
lies (low to high) b = leb low b && leb b high

-- the ranges that are left of the row that a byte begins; where it begins none, a range that no byte lies in
abbrev pub rest : ℕ → List Row → Row
rest b [] = 1 to 0 ∷ []
rest b ([] ∷ rows) = rest b rows
rest b ((range ∷ ranges) ∷ rows) = cond (lies range b) ranges (rest b rows)

-- the text is UTF-8 from within a character, of which these ranges are left: none, where a character may begin
unfoldable pub utf8_from : Row → List ℕ → Bool
utf8_from [] [] = true
utf8_from (range ∷ ranges) [] = false
utf8_from [] (b ∷ bytes) = utf8_from (rest b UTF8-char) bytes
utf8_from (range ∷ ranges) (b ∷ bytes) = lies range b && utf8_from ranges bytes

unfoldable pub utf8 : List ℕ → Bool
utf8 t = utf8_from [] t
