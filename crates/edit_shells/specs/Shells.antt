-- docs/RULES.md, 12: what each edit makes of an image, by the bytes of a buffer that begins with it and by places there. `section` is where the
-- section's length field begins, `end` where its padding does; of a key, its blob's string and its entry begin and end at places of their own.
use Rattle.std.specs.Prelude.{ℕ, ◌+◌, ◌-◌, ◌≡◌, List, [], ◌∷◌, ◌++◌, length, take}
use Rattle.std.proofs.Common.{◌∙◌, ap₂, length-append}
use Rattle.std.proofs.Math.Seq.{slice}
use Rattle.fields.specs.Bytes.{uint32, string, join}
use Rattle.fields.specs.Rest.{length-string}
use Rattle.format.specs.Format.{padding_length, padding_bytes}
use Rattle.format.proofs.Laws.{padding_length_lem}
use Rattle.buffer.specs.Runs.{join-append}
use Rattle.edit_shells.specs.Parts.{lengths, join-length, join_more}

-- the key count's field stands after the magic, the two names `none` and the empty options; the first blob after it
abbrev pub count_place : ℕ
count_place = 35

abbrev pub blobs_place : ℕ
blobs_place = 39

-- a content filled to a multiple of 8, by the fewest bytes
unfoldable pub padded : List ℕ → List ℕ
padded content = content ++ take (padding_length (length content)) padding_bytes

-- an image: what stands before the section's length field, and the section as a string
unfoldable pub closed : List ℕ → List ℕ → List ℕ
closed front content = front ++ string (padded content)

-- another comment where one stands from `field`, its length bytes included, up to `past`
unfoldable pub changed_at : List ℕ → ℕ → ℕ → ℕ → ℕ → List ℕ → List ℕ
changed_at old section field past end comment =
    closed (take section old)
    (join (slice (section + 4) field old ∷ string comment ∷ slice past end old ∷ []))

-- one key fewer, which leaves `count`: its blob's string and its entry left out
unfoldable pub removed_at : List ℕ → ℕ → ℕ → ℕ → ℕ → ℕ → ℕ → ℕ → List ℕ
removed_at old count blobStart blobEnd section entryStart entryEnd end =
    closed
    (join (take count_place old ∷ uint32 count ∷ slice blobs_place blobStart old ∷ slice blobEnd section old ∷ []))
    (join (slice (section + 4) entryStart old ∷ slice entryEnd end old ∷ []))

-- one key more, which makes `count`: its blob the last of the blobs, its entry the last of the entries
unfoldable pub added_at : List ℕ → ℕ → ℕ → ℕ → List ℕ → List ℕ → List ℕ → List ℕ
added_at old count section end blob pair comment =
    closed
    (join (take count_place old ∷ uint32 count ∷ slice blobs_place section old ∷ string blob ∷ []))
    (join (slice (section + 4) end old ∷ pair ∷ string comment ∷ []))

-- the same before the new key is put: its blob's string takes `blob` bytes and its entry `entry`, and there all is as it was
unfoldable pub opened_at : List ℕ → ℕ → ℕ → ℕ → ℕ → ℕ → List ℕ
opened_at old count section end blob entry =
    closed
    (join (take count_place old ∷ uint32 count ∷ slice blobs_place section old ∷ slice section (section + blob) old ∷ []))
    (join (slice (section + 4) end old ∷ slice (end + blob) (end + blob + entry) old ∷ []))

-- the length of both
unfoldable pub opened_size : ℕ → ℕ → ℕ → ℕ → ℕ
opened_size section end blob entry =
    section + blob + 4 + (end - (section + 4) + entry + padding_length (end - (section + 4) + entry))

-- ---- laws of an image with its section

-- front and content in parts, and the content's length
pub closed_is :
    (front inside : List (List ℕ)) (size : ℕ) → lengths inside ≡ size
    → closed (join front) (join inside)
    ≡ join (front ++ uint32 (size + padding_length size) ∷ (inside ++ take (padding_length size) padding_bytes ∷ []))
unfolding closed padded string
closed_is front inside size e =
    let l : length (join inside) ≡ size = join-length inside ∙ e in
    let whole : length (join inside ++ take (padding_length size) padding_bytes) ≡ size + padding_length size =
    length-append (join inside) (take (padding_length size) padding_bytes) ∙ ap₂ (λ (i j : ℕ). i + j) l (padding_length_lem size) in
    rw (l, whole, join-append, ← join_more inside (take (padding_length size) padding_bytes))

pub closed-length :
    (front content : List ℕ) → length (closed front content) ≡ length front + (4 + (length content + padding_length (length content)))
unfolding closed padded
closed-length front content = simp (length-append, length-string, padding_length_lem (length content))
