-- Import takes a text exactly if it is export's of some bytes with some of its line feeds made CR LF; those bytes are then what it carries,
-- and export of them gives the text back with LF ends. So each list of bytes has one spelling with LF ends, and import after export gives
-- the bytes back.
use Rattle.std.specs.Prelude.{ℕ, ◌≡◌, true, List}
use Rattle.std.proofs.Common.{sym, ◌∙◌}
use Rattle.fields.specs.Bytes.{AllBytes, same_true, same_self}
use Rattle.armour_text.specs.Inverse.{loosely-encode, loosely_bytes}
use Rattle.armour_text.specs.Text.{text}
use Rattle.armour_text.specs.Import.{strip, carried, carries}
use Rattle.armour_text.specs.Ends.{CrLf}
use Rattle.armour_text.proofs.Ends.{strip_crlf, crlf_strip, text_no_return, strip-text, unwrap-text}

-- the bytes of a text are found again
pub carried_of : (t b : List ℕ) → AllBytes b → strip t ≡ text b → carried t ≡ b
unfolding carried
carried_of t b h e = rw (e, unwrap-text b) (loosely-encode b h)

pub carries_of : (t b : List ℕ) → AllBytes b → strip t ≡ text b → carries t ≡ true
unfolding carries
carries_of t b h e = rw (carried_of t b h e, e) (same_self (text b))

pub carried_bytes : (t : List ℕ) → AllBytes (carried t)
unfolding carried
carried_bytes t = loosely_bytes _

pub carries_only : (t : List ℕ) → carries t ≡ true → text (carried t) ≡ strip t
unfolding carries
carries_only t e = same_true (text (carried t)) (strip t) e

-- ---- in the request's words

-- what is the text of some bytes, with some of its line feeds made CR LF, is taken, and carries those bytes
pub takes : (t b : List ℕ) → AllBytes b → CrLf (text b) t → (carries t ≡ true) × (carried t ≡ b)
takes t b h c = let e = crlf_strip (text_no_return b) c in (carries_of t b h e, carried_of t b h e)

-- nothing else is
pub takes_only : (t : List ℕ) → carries t ≡ true → AllBytes (carried t) × CrLf (text (carried t)) t
takes_only t e = (carried_bytes t, rw (carries_only t e) (strip_crlf t))

-- import after export gives the bytes back
pub import_export : (b : List ℕ) → AllBytes b → (carries (text b) ≡ true) × (carried (text b) ≡ b)
import_export b h = (carries_of (text b) b h (strip-text b), carried_of (text b) b h (strip-text b))

-- export after import gives the text back with LF ends
pub export_import : (t : List ℕ) → carries t ≡ true → text (carried t) ≡ strip t
export_import t e = carries_only t e

-- two lists of bytes with one text are the same
pub text_injective : (b d : List ℕ) → AllBytes b → AllBytes d → text b ≡ text d → b ≡ d
text_injective b d h k e = sym (import_export b h).1 ∙ carried_of (text b) d k (strip-text b ∙ e)
