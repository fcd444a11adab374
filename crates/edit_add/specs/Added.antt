-- docs/RULES.md, 12: at the places of an image that the writer makes of a list of keys, making room for a key and then putting it keeps the promise
-- of an edit that makes the list with that key at its end. Rests on the laws of Fill and on the places' being in order.
use Rattle.std.specs.Prelude.{ℕ, ◌+◌, ◌-◌, ◌≤◌, ◌≡◌, List, [], ◌∷◌, ◌++◌, map, length, take, drop, Ok, Err}
use Rattle.std.proofs.Common.{arith, sym, ◌∙◌, ap}
use Rattle.fields.specs.Bytes.{string}
use Rattle.fields.specs.declared.Fault.{Fault}
use Rattle.format.specs.Format.{Key, key_blob, written_entry, padding_length, written_image}
use Rattle.format.proofs.Laws.{section-length}
use Rattle.format.specs.Lengths.{entries_length}
use Rattle.format.proofs.Lengths.{content-length, plain_length}
use Rattle.buffer.specs.Runs.{IsRun}
use Rattle.edit_shells.specs.Parts.{Rises, true-rises}
use Rattle.edit_shells.specs.Shells.{added_at, opened_at, opened_size}
use Rattle.edit_shells.specs.Edits.{added_by_places, IsOpened, IsRoomMade, IsRenewed}
use Rattle.edit_shells.proofs.Edits.{opened_room, sized-renewed}
use Rattle.edit_shells.specs.Keys.{section_place, end_place, keys_with, add_written}
use Rattle.edit_shells.proofs.Within.{begins, as_long, add_order}
use Rattle.edit_add.specs.Open.{Ordered, rises_ordered}
use Rattle.edit_add.specs.Fill.{blob_takes, entry_takes, added_size, add_refused, add_filled}
use Rattle.writer_reply.specs.Reply.{Written}

-- more bytes, padded, are no fewer
grown :
    (n section content end blob own size : ℕ) → n ≡ section + 4 + (content + padding_length content) → end ≡ section + 4 + content
    → size ≡ opened_size section end blob own → n ≤ size
unfolding opened_size
grown n section content end blob own size e h s =
    let kept : end - (section + 4) ≡ content = omega arith in
    rw (s, kept, e) (more_padded section content blob own)
  where
    more_padded : (a b x y : ℕ) → a + 4 + (b + padding_length b) ≤ a + x + 4 + (b + y + padding_length (b + y))
    more_padded a b x y = omega arith

-- where a key is added to the image of some keys: the section's length field, the padding, and how many there are then
pub record EndPlaces (keys : List Key) (count section end : ℕ) : Type 0 where
  pub count_is : count ≡ length keys + 1
  pub section_is : section ≡ section_place (map key_blob keys)
  pub end_is : end ≡ end_place (map key_blob keys) (map written_entry keys)

module _
    (c : ℕ) (keys : List Key) (key : Key) (old : List ℕ) (n : ℕ) (stands : take n old ≡ written_image c keys) (inside : n ≤ length old) (small : n ≤ 65535)
    (count section end : ℕ) (places : EndPlaces keys count section end)
  where
    abbrev blob : ℕ
    blob = blob_takes (key_blob key)

    abbrev own : ℕ
    own = entry_takes (written_entry key).pair key.comment

    order : Rises 0 (added_by_places section end ++ n ∷ length old ∷ [])
    order =
        rw (places.section_is, places.end_is)
        (add_order c (map key_blob keys) (map written_entry keys) n (length old) (as_long c keys old n stands inside) inside)

    ordered : Ordered old section end
    ordered = rises_ordered old n section end small (true-rises 0 (added_by_places section end ++ n ∷ length old ∷ []) order)

    image_is : added_at old count section end (key_blob key) (written_entry key).pair key.comment ≡ written_image c (keys_with key keys)
    image_is =
        rw (places.count_is, places.section_is, places.end_is) (add_written c keys (drop n old) old (begins c keys old n stands inside) key)

    -- an image with one key more is no shorter
    longer : n ≤ length (written_image c (keys_with key keys))
    longer =
        let blobs = map key_blob keys in
        let entries = map written_entry keys in
        let long : length (written_image c (keys_with key keys)) ≡ opened_size section end blob own =
        ap length (sym image_is) ∙ added_size old count section end (key_blob key) (written_entry key).pair key.comment ordered in
        let short : n ≡ section + 4 + (8 + entries_length entries + padding_length (8 + entries_length entries)) =
        as_long c keys old n stands inside ∙ plain_length c blobs entries
        ∙ rw (section-length c entries, content-length c entries, places.section_is) (omega arith) in
        grown n section (8 + entries_length entries) end blob own (length (written_image c (keys_with key keys))) short
        (omega (arith, places.section_is, places.end_is)) long

    -- what making room for the key promises, where its blob's string takes `blob` bytes and its entry `own`
    abbrev pub IsOpenedFor : Written → List ℕ → Type 0
    IsOpenedFor r out =
        IsOpened (added_by_places section end) (opened_size section end blob own) (opened_at old count section end blob own) n old r out

    made : (r : Written) (out : List ℕ) → IsOpenedFor r out → IsRoomMade (opened_size section end blob own) (opened_at old count section end blob own) old r out
    made r out p =
        opened_room (opened_size section end blob own) (opened_at old count section end blob own) n old (added_by_places section end) r out small order p

    pub add_key_refused :
        (f : Fault) (out : List ℕ) → IsOpenedFor (Err f) out → IsRenewed (written_image c (keys_with key keys)) n old (Err f) out
    add_key_refused f out p =
        sized-renewed (written_image c (keys_with key keys)) n old (Err f) out longer
        (rw (← image_is)
        (add_refused old count section end (key_blob key) (written_entry key).pair key.comment ordered f out (made (Err f) out p)))

    -- the last three arguments are what the puts of the blob, of the keypair and of the comment ensure
    pub add_key :
        (k r₁ r₂ r₃ : ℕ) (out o₁ o₂ o₃ : List ℕ) → IsOpenedFor (Ok k) out → IsRun out section (string (key_blob key)) r₁ o₁
        → IsRun o₁ (end + blob) (written_entry key).pair r₂ o₂ → IsRun o₂ r₂ (string key.comment) r₃ o₃
        → IsRenewed (written_image c (keys_with key keys)) n old (Ok k) o₃
    add_key k r₁ r₂ r₃ out o₁ o₂ o₃ p run₁ run₂ run₃ =
        sized-renewed (written_image c (keys_with key keys)) n old (Ok k) o₃ longer
        (rw (← image_is)
        (add_filled old count section end (key_blob key) (written_entry key).pair key.comment ordered k r₁ r₂ r₃ out o₁ o₂ o₃
        (made (Ok k) out p) run₁ run₂ run₃))
