-- The examples of RFC 3629, section 7, the ends of the forms, and sequences that the grammar leaves out.
use Rattle.std.specs.Prelude.{◌≡◌, [], ◌∷◌, true, false}
use Rattle.std.proofs.Math.Path.{refl}
use Rattle.utf8.specs.Utf8.{UTF8-char, utf8_from, utf8}

-- ---- section 7

-- U+0041 U+2262 U+0391 U+002E, "A≢Α."
not_identical_to : utf8 (0x41 ∷ 0xE2 ∷ 0x89 ∷ 0xA2 ∷ 0xCE ∷ 0x91 ∷ 0x2E ∷ []) ≡ true
not_identical_to = unfold utf8 utf8_from UTF8-char in refl

-- U+D55C U+AD6D U+C5B4, Korean "hangugeo"
korean : utf8 (0xED ∷ 0x95 ∷ 0x9C ∷ 0xEA ∷ 0xB5 ∷ 0xAD ∷ 0xEC ∷ 0x96 ∷ 0xB4 ∷ []) ≡ true
korean = unfold utf8 utf8_from UTF8-char in refl

-- U+65E5 U+672C U+8A9E, Japanese "nihongo"
japanese : utf8 (0xE6 ∷ 0x97 ∷ 0xA5 ∷ 0xE6 ∷ 0x9C ∷ 0xAC ∷ 0xE8 ∷ 0xAA ∷ 0x9E ∷ []) ≡ true
japanese = unfold utf8 utf8_from UTF8-char in refl

-- U+233B4, after a byte order mark
byte_order_mark : utf8 (0xEF ∷ 0xBB ∷ 0xBF ∷ 0xF0 ∷ 0xA3 ∷ 0x8E ∷ 0xB4 ∷ []) ≡ true
byte_order_mark = unfold utf8 utf8_from UTF8-char in refl

-- ---- the first and the last character of each length, and those beside the surrogates

ends : utf8
    (0x00 ∷ 0x7F ∷ 0xC2 ∷ 0x80 ∷ 0xDF ∷ 0xBF ∷ 0xE0 ∷ 0xA0 ∷ 0x80 ∷ 0xEF ∷ 0xBF ∷ 0xBF ∷
    0xF0 ∷ 0x90 ∷ 0x80 ∷ 0x80 ∷ 0xF4 ∷ 0x8F ∷ 0xBF ∷ 0xBF ∷ []) ≡ true
ends = unfold utf8 utf8_from UTF8-char in refl

beside_surrogates : utf8 (0xED ∷ 0x9F ∷ 0xBF ∷ 0xEE ∷ 0x80 ∷ 0x80 ∷ []) ≡ true
beside_surrogates = unfold utf8 utf8_from UTF8-char in refl

-- ---- left out

-- U+0000 in two bytes, in three and in four
overlong_2 : utf8 (0xC0 ∷ 0x80 ∷ []) ≡ false
overlong_2 = unfold utf8 utf8_from UTF8-char in refl

overlong_3 : utf8 (0xE0 ∷ 0x80 ∷ 0x80 ∷ []) ≡ false
overlong_3 = unfold utf8 utf8_from UTF8-char in refl

overlong_4 : utf8 (0xF0 ∷ 0x80 ∷ 0x80 ∷ 0x80 ∷ []) ≡ false
overlong_4 = unfold utf8 utf8_from UTF8-char in refl

-- U+D800, and the surrogate pair of section 3
surrogate : utf8 (0xED ∷ 0xA0 ∷ 0x80 ∷ []) ≡ false
surrogate = unfold utf8 utf8_from UTF8-char in refl

surrogate_pair : utf8 (0xED ∷ 0xA1 ∷ 0x8C ∷ 0xED ∷ 0xBE ∷ 0xB4 ∷ []) ≡ false
surrogate_pair = unfold utf8 utf8_from UTF8-char in refl

-- U+110000
above_10ffff : utf8 (0xF4 ∷ 0x90 ∷ 0x80 ∷ 0x80 ∷ []) ≡ false
above_10ffff = unfold utf8 utf8_from UTF8-char in refl

-- a character that the text breaks off, and one that another interrupts
truncated : utf8 (0x41 ∷ 0xE2 ∷ 0x89 ∷ []) ≡ false
truncated = unfold utf8 utf8_from UTF8-char in refl

interrupted : utf8 (0xE2 ∷ 0x89 ∷ 0x41 ∷ []) ≡ false
interrupted = unfold utf8 utf8_from UTF8-char in refl

-- a tail that nothing begins
lone_tail : utf8 (0x41 ∷ 0x80 ∷ []) ≡ false
lone_tail = unfold utf8 utf8_from UTF8-char in refl
