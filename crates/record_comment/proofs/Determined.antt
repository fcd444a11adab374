-- Any two comments of an image are the same bytes at the same place. The function is walked by hand, and the checker makes no plain form of its
-- contract; so this is said of the definition that the contract cites.
use mathlib.Core.Path.{◌≡◌, sym, ◌∙◌}
use Prim.Native.Nat.{ℕ}
use mathlib.Core.List.{List}
use denote.Ref.{Bor}
use Rattle.fields.specs.Fields.{IsView}
use Rattle.record_found.specs.Found.{found_at}

pub comment_of_determined :
    (image v w : Bor (List ℕ)) → IsView v image (found_at image.now).fields.section.comment → IsView w image (found_at image.now).fields.section.comment
    → (v.now ≡ w.now) × (v.ref_ptr.0 ≡ w.ref_ptr.0) × (v.ref_ptr.1 ≡ w.ref_ptr.1)
comment_of_determined image v w p q = (p.0 ∙ sym q.0, p.1 ∙ sym q.1, p.2 ∙ sym q.2)
