-- Any two replies to one image are equal, in their fields and in the bytes and the place of what they hold. The reads are walked by hand, and
-- the checker makes no plain form of their contracts; so this is said of the definitions that the contracts cite.
use Prim.Native.Nat.{ℕ}
use mathlib.Core.List.{List}
use denote.Ref.{Bor}
use Rattle.reader_header.specs.declared.Header.{Header}
use Rattle.reader_image.specs.declared.Fields.{Fields}
use Rattle.record_found.specs.declared.Found.{Found}
use Rattle.record_found.specs.Found.{found_at, section_found_at, header_found_at}
use Rattle.record_reading.specs.Reply.{IsFound, IsReply, IsSectionReply, IsHeaderReply, Alike, held_alike}

found_determined :
    {X : Type 0} (found : Found X) (image : Bor (List ℕ)) (n m c d a b : ℕ) (v w : Bor (List ℕ)) (f g : X) → IsFound found n c a v f image
    → IsFound found m d b w g image → Alike n m c d a b f g v w
found_determined found image = held_alike found.number found.count found.at found.fields image

pub read_determined :
    (image : Bor (List ℕ)) (n m c d a b : ℕ) (v w : Bor (List ℕ)) (f g : Fields) → IsReply n c a v f image → IsReply m d b w g image
    → Alike n m c d a b f g v w
read_determined image = found_determined (found_at image.now) image

pub read_section_determined :
    (image : Bor (List ℕ)) (half : Header) (n m c d a b : ℕ) (v w : Bor (List ℕ)) (f g : Fields) → IsSectionReply n c a v f image half
    → IsSectionReply m d b w g image half → Alike n m c d a b f g v w
read_section_determined image half = found_determined (section_found_at image.now half) image

pub read_header_determined :
    (image : Bor (List ℕ)) (n m c d a b : ℕ) (v w : Bor (List ℕ)) (h k : Header) → IsHeaderReply n c a v h image → IsHeaderReply m d b w k image
    → Alike n m c d a b h k v w
read_header_determined image = found_determined (header_found_at image.now) image
