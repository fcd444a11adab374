-- What the functions of the check answer on the way: how far ASCII goes, a byte at a place, what is left of a character, and where it ends.
use Rattle.std.specs.Prelude.{ℕ, zero, suc, ◌+◌, ◌*◌, ◌≤◌, ◌<◌, ◌≡◌, List, [], ◌∷◌, Bool, false, cond, ltb, length, drop, replicate, Option, Some, None}
use Rattle.utf8.specs.declared.Rest.{Rest}
use Rattle.utf8.specs.Utf8.{Range, ◌to◌, Row, UTF8-tail, lies, utf8_from, utf8}

-- how many bytes at the beginning of the text are ASCII, up to the first that is not
unfoldable pub ascii_run : List ℕ → ℕ
ascii_run [] = 0
ascii_run (b ∷ t) = cond (ltb b 0x80) (suc (ascii_run t)) 0

-- the top bits of the first n bytes of the text, in a number whose lowest byte is the first of them
unfoldable pub top_bits : ℕ → List ℕ → ℕ
top_bits zero t = 0
top_bits (suc n) [] = 0
top_bits (suc n) (b ∷ t) = top_bits n t * 256 + cond (ltb b 0x80) 0 0x80

-- the text begins with a byte of the range
abbrev pub begins : Range → List ℕ → Bool
begins range [] = false
begins range (b ∷ t) = lies range b

-- a byte of the range stands at the place
unfoldable pub lies_at : Range → List ℕ → ℕ → Bool
lies_at range t at = begins range (drop at t)

-- the ranges that a `Rest` stands for
abbrev pub ranges : Rest → Row
ranges r = r.0 to r.1 ∷ replicate r.2 UTF8-tail

-- from the place on the ranges of the row are met up to an end, after which the answer is that of the whole; or the text is not UTF-8
abbrev pub Ends : List ℕ → ℕ → Row → Option ℕ → Type 0
Ends t from row (Some at) = (from ≤ at) × (at ≤ length t) × (utf8_from row (drop from t) ≡ utf8 (drop at t))
Ends t from row None = utf8_from row (drop from t) ≡ false

-- the text from the place on, where a character may begin, is answered by the text from an end on; or it is not UTF-8
abbrev pub Passes : List ℕ → ℕ → Option ℕ → Type 0
Passes t from (Some at) = (from < at) × (at ≤ length t) × (utf8 (drop from t) ≡ utf8 (drop at t))
Passes t from None = utf8 (drop from t) ≡ false
