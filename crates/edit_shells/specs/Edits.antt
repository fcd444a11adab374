-- docs/RULES.md, 12: what an edit of the first n bytes of a buffer answers and leaves there, by the image that it makes. Order: n above 65,535:
-- 11; places that aren't in order within the n bytes, or n above the buffer's length: 1; size 11; room 9.
use Rattle.std.specs.Prelude.{ℕ, ◌+◌, ◌-◌, ◌≡◌, cond, List, [], ◌∷◌, ◌++◌, leb, length, take, Ok, Err}
use Rattle.fields.specs.Fields.{fault, Tested}
use Rattle.fields.specs.declared.Refusal.TheVariants.{Length, Size}
use Rattle.format.specs.Format.{padding_bytes}
use Rattle.buffer.specs.Puts.{splice, placed, next, zeros}
use Rattle.writer_reply.specs.Reply.{unless, left, sized_by, sized, Written}
use Rattle.edit_shells.specs.Shells.{blobs_place}
use Rattle.edit_shells.specs.Parts.{rises}

-- the places that each edit is given, in order
abbrev pub changed_by_places : ℕ → ℕ → ℕ → ℕ → List ℕ
changed_by_places section field past end = (section + 4) ∷ field ∷ past ∷ end ∷ []

abbrev pub removed_by_places : ℕ → ℕ → ℕ → ℕ → ℕ → ℕ → List ℕ
removed_by_places blobStart blobEnd section entryStart entryEnd end =
    blobs_place ∷ blobStart ∷ blobEnd ∷ section ∷ (section + 4) ∷ entryStart ∷ entryEnd ∷ end ∷ []

abbrev pub added_by_places : ℕ → ℕ → List ℕ
added_by_places section end = blobs_place ∷ section ∷ (section + 4) ∷ end ∷ []

-- n at most 65,535, and places in order, the image's end and the buffer's among them
abbrev pub places_checked : ℕ → List ℕ → Tested
places_checked n places =
    cond (leb n 65535)
    (cond (rises 0 places) (Ok tt) (Err (fault Length 0)))
    (Err (fault Size 0))

-- `room` is the buffer's length
unfoldable pub edit_reply : List ℕ → ℕ → ℕ → ℕ → Written
edit_reply places size n room =
    unless (leb n 65535) Size
    (unless (rises 0 (places ++ n ∷ room ∷ [])) Length
    (sized_by size room))

-- refused, the buffer keeps every byte; else the image stands at its start, and zeros from its end to n; the bytes past both ends stay
abbrev pub renewed : Written → List ℕ → ℕ → List ℕ → List ℕ
renewed (Err f) image n old = old
renewed (Ok k) image n old = splice (splice old 0 image) k (zeros (n - k))

-- the contract of an edit that makes `image`: it answers r and leaves out
abbrev pub IsEdit : List ℕ → List ℕ → ℕ → List ℕ → Written → List ℕ → Type 0
IsEdit places image n old r out =
    (r ≡ edit_reply places (length image) n (length old)) × (out ≡ renewed (edit_reply places (length image) n (length old)) image n old)

-- the same at places that are in order, within a buffer that has the n bytes
abbrev pub IsRenewed : List ℕ → ℕ → List ℕ → Written → List ℕ → Type 0
IsRenewed image n old r out = (r ≡ sized image (length old)) × (out ≡ renewed (sized image (length old)) image n old)

-- of an edit that only makes room: it leaves an image of that size, and zeros nothing
abbrev pub IsOpened : List ℕ → ℕ → List ℕ → ℕ → List ℕ → Written → List ℕ → Type 0
IsOpened places size image n old r out =
    (r ≡ edit_reply places size n (length old)) × (out ≡ left (edit_reply places size n (length old)) image old)

abbrev pub IsRoomMade : ℕ → List ℕ → List ℕ → Written → List ℕ → Type 0
IsRoomMade size image old r out = (r ≡ sized_by size (length old)) × (out ≡ left (sized_by size (length old)) image old)

-- the contract of an image's ending: padding at `at`, zeros from its end to n
abbrev pub IsEnding : List ℕ → ℕ → ℕ → ℕ → ℕ → List ℕ → Type 0
IsEnding old at padding n r out =
    (r ≡ next old at (take padding padding_bytes)) × (out ≡ placed (placed old at (take padding padding_bytes)) r (zeros (n - r)))
