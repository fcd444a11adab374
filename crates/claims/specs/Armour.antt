-- docs/RULES.md, 14, of whatever answer meets the promise of export or of import (Refusals; of the functions themselves Entries).
-- Import after export gives the bytes back; export after import gives the text back with LF ends. Import answers a length exactly where there
-- is room for the bytes and the text is export's of some bytes within the limit with some of its line feeds made CR LF, and 2 exactly for what
-- is no such text of any bytes, however many. So a text that carries more than the limit and is misspelled after it is 2.
use Rattle.std.specs.Prelude.{ℕ, ◌+◌, ◌≤◌, ◌<◌, ◌≡◌, refl, true, false, List, leb, length, take, drop, Ok}
use Rattle.std.proofs.Common.{arith, sym, ◌∙◌, ap, le-leb, leb-true}
use Rattle.std.proofs.lemmas.Bool.{lt-leb}
use Rattle.fields.specs.Bytes.{AllBytes}
use Rattle.fields.specs.Place.{clash, by_bool}
use Rattle.fields.specs.declared.Refusal.TheVariants.{FormatEncoding, Size, Room}
use Rattle.buffer.specs.Puts.{splice-length, take-splice, drop-splice}
use Rattle.writer_reply.specs.Reply.{told, refused, sized, left, Answers, Written}
use Rattle.armour_text.specs.Text.{text, export_reply, export_left}
use Rattle.armour_text.specs.Import.{strip, carried, carries, import_reply, import_left}
use Rattle.armour_text.specs.Ends.{CrLf, has_no_return}
use Rattle.armour_text.proofs.Ends.{crlf_same, crlf_strip, text_no_return}
use Rattle.armour_text.proofs.Exactly.{takes, takes_only, import_export}
use Rattle.claims.specs.Reading.{held, sized_held, sized-fits}
use Rattle.c_reply.specs.Replies.{reply_of}
use Rattle.c_reply.specs.declared.Reply.{Reply}
use Rattle.claims.specs.Refusals.{export, import, Promise, saltorchard_export, saltorchard_import, PromiseC}

-- the text is export's of these bytes, however many, with some of its line feeds made CR LF
abbrev pub Spells : List ℕ → List ℕ → Type 0
Spells t b = AllBytes b × CrLf (text b) t

-- ---- what is left where a length was answered

-- the length is that of `new`, which stands at the buffer's start; the bytes past it stay
pub record Holds (new old : List ℕ) (r : Written) (out : List ℕ) : Type 0 where
  pub answered : r ≡ Ok (length new)
  pub begins : take (length new) out ≡ new
  pub past : drop (length new) out ≡ drop (length new) old
  pub as_long : length out ≡ length old

holds :
    (new old : List ℕ) (w r : Written) (out : List ℕ) → w ≡ Ok (length new) → length new ≤ length old → Answers w (left w new old) r out
    → Holds new old r out
holds new old w r out e room p =
    let fit : 0 + length new ≤ length old = omega arith in
    let end : length new ≡ 0 + length new = omega arith in
    let o = rw e at p.1 in
    record {
      answered = p.0 ∙ e;
      begins = rw (o, end) (take-splice old 0 new fit);
      past = rw (o, end) (drop-splice old 0 new fit);
      as_long = rw o (splice-length old 0 new fit);
    }

-- ---- export

export_fits : (b : List ℕ) (room : ℕ) → length b ≤ 65535 → length (text b) ≤ room → export_reply b room ≡ Ok (length (text b))
unfolding export_reply
export_fits b room small fit = rw (le-leb _ _ small, le-leb _ _ fit)

export_held : (b : List ℕ) (room n : ℕ) → export_reply b room ≡ Ok n → (length b ≤ 65535) × (length (text b) ≤ room)
unfolding export_reply
export_held b room n e =
    let h₁ = held (leb (length b) 65535) Size _ n e in
    let h₂ = held (leb (length (text b)) room) Room _ n h₁.1 in
    (leb-true _ _ h₁.0, leb-true _ _ h₂.0)

-- bytes within the limit, where there is room for their text, are written as it; how long it is says `text-length` (armour_export/Sizes)
pub exported : (b old : List ℕ) (r : Written) (out : List ℕ) → length b ≤ 65535 → length (text b) ≤ length old → Promise (export b) old r out → Holds (text b) old r out
unfolding export_left
exported b old r out small fit p = holds (text b) old (export_reply b (length old)) r out (export_fits b (length old) small fit) fit p

-- ---- import

-- as export writes it, a text spells its bytes
pub itself : (b : List ℕ) → AllBytes b → CrLf (text b) (text b)
itself b all = let h = import_export b all in rw h.1 at (takes_only (text b) h.0).1

sized_not_2 : (b : List ℕ) (room : ℕ) → (told (sized b room)).number ≡ 2 → ⊥
unfolding sized told
sized_not_2 b room =
    by_bool (leb (length b) 65535)
    (λ e. by_bool (leb (length b) room) (λ f. rw (e, f) (λ z. omega arith)) (λ f. rw (e, f) (λ z. omega arith)))
    (λ e. rw e (λ z. omega arith))

-- of a text that spells bytes: their size, then the room for them
spelled : (t b : List ℕ) (room : ℕ) → Spells t b → import_reply t room ≡ sized b room
unfolding import_reply
spelled t b room s = let h = takes t b s.0 s.1 in rw (h.0, h.1)

spelled_carried : (t b : List ℕ) → Spells t b → carried t ≡ b
spelled_carried t b s = (takes t b s.0 s.1).1

carries_spells : (t : List ℕ) → carries t ≡ true → Spells t (carried t)
carries_spells t e = takes_only t e

misspelled : (t : List ℕ) (room : ℕ) → carries t ≡ false → import_reply t room ≡ refused FormatEncoding
unfolding import_reply
misspelled t room e = rw e

-- a text that spells bytes within the limit, where there is room for them, gives them
pub imported : (t b old : List ℕ) (r : Written) (out : List ℕ) → Spells t b → length b ≤ 65535 → length b ≤ length old → Promise (import t) old r out → Holds b old r out
unfolding import_left
imported t b old r out s small fit p =
    let answer = spelled t b (length old) s ∙ sized-fits b (length old) small fit in
    let q : Answers (import_reply t (length old)) (left (import_reply t (length old)) b old) r out = rw (spelled_carried t b s) at p in
    holds b old (import_reply t (length old)) r out answer fit q

-- nothing else gives any: of a text that was answered with n, the bytes that it spells, which stand at the buffer's start
pub record Taken (t old : List ℕ) (n : ℕ) (out : List ℕ) : Type 0 where
  pub bytes : List ℕ
  pub spells : Spells t bytes
  pub small : length bytes ≤ 65535
  pub room : length bytes ≤ length old
  pub size : n ≡ length bytes
  pub begins : take n out ≡ bytes

pub imported_only : (t old : List ℕ) (n : ℕ) (out : List ℕ) → Promise (import t) old (Ok n) out → Taken t old n out
imported_only t old n out p =
    by_bool (carries t)
    (λ e.
    let s = carries_spells t e in
    let b = carried t in
    let h = sized_held b (length old) n (sym (spelled t b (length old) s) ∙ sym p.0) in
    let there = imported t b old (Ok n) out s h.0 h.1 p in
    record { bytes = b; spells = s; small = h.0; room = h.1; size = h.2; begins = rw h.2 there.begins })
    (λ e. clash (let o : Ok n ≡ refused FormatEncoding = p.0 ∙ misspelled t (length old) e in cc))

-- 2 is for all that spells no bytes, however many, and for nothing else
pub no_text : (t old : List ℕ) (r : Written) (out : List ℕ) → ((b : List ℕ) → Spells t b → ⊥) → Promise (import t) old r out → r ≡ refused FormatEncoding
no_text t old r out none p =
    by_bool (carries t)
    (λ e. absurd (none (carried t) (carries_spells t e)))
    (λ e. p.0 ∙ misspelled t (length old) e)

pub no_text_only : (t old : List ℕ) (r : Written) (out : List ℕ) → Promise (import t) old r out → (told r).number ≡ 2 → (b : List ℕ) → Spells t b → ⊥
no_text_only t old r out p two b s =
    let e : (told (sized b (length old))).number ≡ 2 = ap (λ (w : Written). (told w).number) (sym (p.0 ∙ spelled t b (length old) s)) ∙ two in
    sized_not_2 b (length old) e

-- then 11 for more bytes than the limit, and 9 for want of room
pub above_limit : (t b old : List ℕ) (r : Written) (out : List ℕ) → Spells t b → 65535 < length b → Promise (import t) old r out → r ≡ refused Size
unfolding sized
above_limit t b old r out s large p = p.0 ∙ spelled t b (length old) s ∙ rw (lt-leb _ _ large)

pub no_room :
    (t b old : List ℕ) (r : Written) (out : List ℕ) → Spells t b → length b ≤ 65535 → length old < length b → Promise (import t) old r out → r ≡ refused Room
unfolding sized
no_room t b old r out s small short p = p.0 ∙ spelled t b (length old) s ∙ rw (le-leb _ _ small, lt-leb _ _ short)

-- ---- one after the other

-- a text spells one list of bytes, and all its spellings have one text without carriage returns before line feeds
pub one_list : (t b d : List ℕ) → Spells t b → Spells t d → b ≡ d
one_list t b d s u = sym (spelled_carried t b s) ∙ spelled_carried t d u

pub one_text : (t b : List ℕ) → Spells t b → strip t ≡ text b
one_text t b s = crlf_strip (text_no_return b) s.1

-- so the one spelling with LF ends of a list of bytes is its text
pub one_spelling : (t b : List ℕ) → has_no_return t ≡ true → Spells t b → t ≡ text b
one_spelling t b n s = sym (crlf_strip n (crlf_same t)) ∙ one_text t b s

-- import of the bytes that export wrote
pub import_after_export :
    (b old : List ℕ) (n : ℕ) (out : List ℕ) → AllBytes b → Promise (export b) old (Ok n) out
    → (into : List ℕ) (r : Written) (after : List ℕ) → length b ≤ length into → Promise (import (take n out)) into r after → Holds b into r after
import_after_export b old n out all p into r after fit q =
    let h = export_held b (length old) n (sym p.0) in
    let there = exported b old (Ok n) out h.0 h.1 p in
    let size : n ≡ length (text b) = let o : Ok n ≡ Ok (length (text b)) = there.answered in cc in
    let is : take n out ≡ text b = rw size there.begins in
    imported (text b) b into r after (all, itself b all) h.0 fit (rw is at q)

-- export of the bytes that import wrote
pub export_after_import :
    (t old : List ℕ) (n : ℕ) (out : List ℕ) → Promise (import t) old (Ok n) out
    → (into : List ℕ) (r : Written) (after : List ℕ) → length (strip t) ≤ length into → Promise (export (take n out)) into r after → Holds (strip t) into r after
export_after_import t old n out p into r after fit q =
    let h = imported_only t old n out p in
    let e = one_text t h.bytes h.spells in
    rw e (exported h.bytes into r after h.small (omega (arith, ap length e)) (rw h.begins at q))

-- ---- for C

-- in numbers, the answer that export or import gives; so all of the above holds of what it leaves
pub export_c :
    (b old : List ℕ) (r : Reply) (out : List ℕ) → PromiseC (saltorchard_export b) old r out → (w : Written) × (r ≡ reply_of w) × Promise (export b) old w out
export_c b old r out p = (export_reply b (length old), p.0, (refl, p.1, refl))

pub import_c :
    (t old : List ℕ) (r : Reply) (out : List ℕ) → PromiseC (saltorchard_import t) old r out → (w : Written) × (r ≡ reply_of w) × Promise (import t) old w out
import_c t old r out p = (import_reply t (length old), p.0, (refl, p.1, refl))
