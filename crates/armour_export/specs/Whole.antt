-- The whole text: the line that opens it is put, then the signs, then the end.
use Rattle.std.specs.Prelude.{ℕ, ◌+◌, ◌<◌, ◌≤◌, ◌≡◌, refl, Ok}
use Rattle.std.proofs.Common.{zero-add, arith, ap, ◌∙◌}
use Rattle.std.proofs.Math.Path.{sym}
use mathlib.Core.List.{List, [], ◌∷◌, ◌++◌, append-nil}
use borrow.Author.Tests.{eq-eqb, ne_eqb, le-leb, lt-leb}
use Rattle.std.proofs.Math.ListN.{length, length-append}
use Rattle.std.proofs.Math.Seq.{sets, sets-eq, length-sets}
use Rattle.fields.specs.declared.Refusal.TheVariants.{Size, Room}
use Rattle.buffer.specs.Puts.{splice, IsPut}
use Rattle.writer_reply.specs.Reply.{refused, Answers, answered}
use Rattle.armour_text.specs.Base64.{encode}
use Rattle.armour_text.specs.Text.{opening, closing, last, wrap, text, export_reply, export_left}
use Rattle.armour_export.specs.Sizes.{size_of, opening-length, closing-length, text-length}
use Rattle.armour_export.specs.Stores.{Moves, sets-append, put_sets}

-- ---- the end

pub last_none : (k : ℕ) → k ≡ 70 → last k ++ closing ≡ closing
last_none k h = rw (eq-eqb k 70 h)

pub last_feed : (k : ℕ) → (k ≡ 70 → ⊥) → last k ++ closing ≡ 10 ∷ closing
last_feed k h = rw (ne_eqb k 70 h)

module _ (b old : List ℕ) (room : size_of (length b) ≤ length old) where
  fits : length (text b) ≤ length old
  fits = rw (text-length b) room

  parts : length (text b) ≡ 36 + length (wrap (encode b) 70 ++ closing)
  unfolding text
  parts = length-append opening (wrap (encode b) 70 ++ closing) ∙ rw opening-length

  opening_room : 0 + length opening ≤ length old
  opening_room = omega (arith, opening-length, fits, parts)

  module _ (r : ℕ) (out₁ : List ℕ) (p : IsPut old 0 opening r out₁) where
    opened : out₁ ≡ sets old 0 opening
    opened = put_sets old 0 opening r out₁ opening_room p

    long : length out₁ ≡ length old
    long = rw (opened, length-sets old 0 opening)

    pub signs_room : 36 + length (wrap (encode b) 70) + 8 ≤ length out₁
    signs_room = omega (arith, fits, long, parts, length-append (wrap (encode b) 70) closing, closing-length)

    module _ (out₂ : List ℕ) (o k : ℕ) (m : Moves out₁ 36 70 (encode b) out₂ o k) where
      -- there is room for the end
      pub end_room : o + length (last k ++ closing) ≤ length out₂
      unfolding wrap
      end_room = omega (arith, fits, long, parts, rw (append-nil (encode b)) at (m.size [] closing), m.long)

      -- and with it the text stands there whole
      pub whole_text : sets out₂ o (last k ++ closing) ≡ sets old 0 (text b)
      unfolding text wrap
      whole_text =
          sym (m.same [] closing)
          ∙ rw (append-nil (encode b), opened) (ap (λ (n : ℕ). sets (sets old 0 opening) n (wrap (encode b) 70 ++ closing)) (sym opening-length ∙ sym (zero-add (length opening))))
          ∙ sym (sets-append old 0 opening (wrap (encode b) 70 ++ closing))

-- ---- the reply

module _ (b old : List ℕ) where
  pub too_large : 65535 < length b → Answers (export_reply b (length old)) (export_left b old) (refused Size) old
  unfolding export_reply export_left
  too_large h = answered (refused Size) _ old _ (rw (lt-leb _ _ h) (refl, refl))

  module _ (h : length b ≤ 65535) where
    pub no_room : length old < size_of (length b) → Answers (export_reply b (length old)) (export_left b old) (refused Room) old
    unfolding export_reply export_left
    no_room k = answered (refused Room) _ old _ (rw (le-leb _ _ h, text-length b, lt-leb _ _ k) (refl, refl))

    pub done : size_of (length b) ≤ length old → (out : List ℕ) → out ≡ sets old 0 (text b)
        → Answers (export_reply b (length old)) (export_left b old) (Ok (size_of (length b))) out
    unfolding export_reply export_left splice
    done k out e =
        let fit : 0 + length (text b) ≤ length old = omega (arith, fits b old k) in
        answered (Ok (size_of (length b))) _ out _
        (rw (le-leb _ _ h, text-length b, le-leb _ _ k) (refl, e ∙ sets-eq (text b) old 0 fit))
