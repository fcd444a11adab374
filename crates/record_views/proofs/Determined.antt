-- Any two answers of an accessor are the same bytes at the same place in memory. The accessors are walked by hand, and the checker makes
-- no plain form of their contracts; so this is said of `IsView`, the definition that the contracts cite.
use Prim.Native.Nat.{ℕ}
use mathlib.Core.Path.{◌≡◌, sym, ◌∙◌}
use mathlib.Core.List.{List}
use denote.Ref.{Bor}
use Rattle.fields.specs.Fields.{IsView}
use Rattle.fields.specs.declared.Part.{Part}
use Rattle.reader_parts.specs.Parts.{place_of}
use Rattle.reader_parts.specs.declared.Which.{Which}
use Rattle.record_views.specs.declared.Record.{Record}

-- what a contract with `IsView` at a part of the record fixes
abbrev pub DeterminedPart : (Record → Part) → Type 0
DeterminedPart part =
    (r : Record) (v w : Bor (List ℕ)) → IsView v r.image (part r) → IsView w r.image (part r)
    → (v.now ≡ w.now) × (v.ref_ptr.0 ≡ w.ref_ptr.0) × (v.ref_ptr.1 ≡ w.ref_ptr.1)

view_determined : (part : Record → Part) → DeterminedPart part
view_determined part r v w p q = (p.0 ∙ sym q.0, p.1 ∙ sym q.1, p.2 ∙ sym q.2)

pub part_determined : (which : Which) → DeterminedPart (λ r. place_of which r.fields)
part_determined which = view_determined (λ r. place_of which r.fields)

pub comment_determined : DeterminedPart (λ r. r.fields.section.comment)
comment_determined = view_determined (λ r. r.fields.section.comment)
