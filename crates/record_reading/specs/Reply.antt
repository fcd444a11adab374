-- docs/RULES.md, 2.2 and 9.1: what a read replies. A record holds the lent image itself: an accepted one's image is the
-- lent one, in its bytes and by its pointer; a refused one's has no bytes. So does a section read's record, and a header (8).
use Rattle.std.specs.Prelude.{ℕ, ◌≡◌, List}
use Rattle.std.proofs.Common.{sym, ◌∙◌}
use Rattle.std.specs.Borrow.{Bor}
use Rattle.reader_image.specs.declared.Fields.{Fields}
use Rattle.fields.specs.Fields.{IsView}
use Rattle.reader_header.specs.declared.Header.{Header}
use Rattle.record_found.specs.declared.Found.{Found}
use Rattle.record_found.specs.Found.{found_at, section_found_at, header_found_at, held_part}

-- n, c and a are the number, the count and the place, and what is held is x, over the image itself or over no bytes of it
abbrev pub IsHeld : {X : Type 0} → ℕ → ℕ → ℕ → X → ℕ → ℕ → ℕ → Bor (List ℕ) → X → Bor (List ℕ) → Type 0
IsHeld number count at x n c a over y image =
    (n ≡ number) × (c ≡ count) × (a ≡ at) × (y ≡ x) × IsView over image (held_part image.now number)

-- number, count and place, the record or the half, and the image that it holds
abbrev pub IsFound : {X : Type 0} → Found X → ℕ → ℕ → ℕ → Bor (List ℕ) → X → Bor (List ℕ) → Type 0
IsFound found number count at over fields image =
    IsHeld found.number found.count found.at found.fields number count at over fields image

abbrev pub IsReply : ℕ → ℕ → ℕ → Bor (List ℕ) → Fields → Bor (List ℕ) → Type 0
IsReply number count at over fields image = IsFound (found_at image.now) number count at over fields image

abbrev pub IsSectionReply : ℕ → ℕ → ℕ → Bor (List ℕ) → Fields → Bor (List ℕ) → Header → Type 0
IsSectionReply number count at over fields image half = IsFound (section_found_at image.now half) number count at over fields image

-- a header and its half
abbrev pub IsHeaderReply : ℕ → ℕ → ℕ → Bor (List ℕ) → Header → Bor (List ℕ) → Type 0
IsHeaderReply number count at over half image = IsFound (header_found_at image.now) number count at over half image

-- ---- any two such replies are alike: in their numbers, in what they hold, and in its bytes and place

abbrev pub Alike : {X : Type 0} → ℕ → ℕ → ℕ → ℕ → ℕ → ℕ → X → X → Bor (List ℕ) → Bor (List ℕ) → Type 0
Alike n m c d a b x y v w = (n ≡ m) × (c ≡ d) × (a ≡ b) × (x ≡ y) × (v.now ≡ w.now) × (v.ref_ptr.0 ≡ w.ref_ptr.0) × (v.ref_ptr.1 ≡ w.ref_ptr.1)

pub held_alike :
    {X : Type 0} (number count at : ℕ) (held : X) (image : Bor (List ℕ)) (n m c d a b : ℕ) (v w : Bor (List ℕ)) (x y : X)
    → IsHeld number count at held n c a v x image → IsHeld number count at held m d b w y image → Alike n m c d a b x y v w
held_alike number count at held image n m c d a b v w x y p q = (
  p.0 ∙ sym q.0,
  p.1 ∙ sym q.1,
  p.2 ∙ sym q.2,
  p.3 ∙ sym q.3,
  p.4.0 ∙ sym q.4.0,
  p.4.1 ∙ sym q.4.1,
  p.4.2 ∙ sym q.4.2,
)
