-- docs/RULES.md, 12: the places of a key are in order within its image, so an edit's promise at these places is the promise of a writer: what it
-- answers and leaves is said by the edited list of keys alone. Rests on the laws of Keys.
use Rattle.std.specs.Prelude.{ℕ, suc, ◌+◌, ◌-◌, ◌≤◌, ◌<◌, ◌≡◌, refl, List, [], ◌∷◌, ◌++◌, map, take, drop}
use Rattle.std.proofs.Common.{arith, ◌∙◌, ap₂, take-append-drop, length-take-le, take_at}
use Rattle.std.proofs.Math.Path.{sym, ap}
use Rattle.std.proofs.Math.ListN.{length}
use Rattle.std.proofs.lemmas.List.{length-map, get_or_at}
use Rattle.format.specs.Format.{Entry, entry, Key, key_blob, written_entry, plain_image, written_image}
use Rattle.format.proofs.Laws.{section-length}
use Rattle.format.specs.Lengths.{blobs_length, entries_length}
use Rattle.format.proofs.Lengths.{content-length, plain_length}
use Rattle.edit_shells.specs.Parts.{Rises}
use Rattle.edit_shells.specs.Shells.{changed_at, removed_at}
use Rattle.edit_shells.specs.Edits.{changed_by_places, removed_by_places, added_by_places, IsEdit, IsRenewed}
use Rattle.edit_shells.proofs.Edits.{edit_renewed}
use Rattle.edit_shells.specs.Keys.{blob_place, section_place, entry_place, end_place, entry_at, comment_place, keys_changed, keys_without, change_places, remove_places, change_written, remove_written, map_split}
use Rattle.edit_shells.specs.Within.{KeyPlaces}
use Rattle.writer_reply.specs.Reply.{Written}

-- ---- the places are in order

module _ (c : ℕ) (blobs : List (List ℕ)) (entries : List Entry) where
  pub end_within : end_place blobs entries ≤ length (plain_image c blobs entries)
  end_within = omega (arith, plain_length c blobs entries, section-length c entries, content-length c entries)

  module _ (n room : ℕ) (whole : n ≡ length (plain_image c blobs entries)) (inside : n ≤ room) where
    pub change_order :
        (i : ℕ) → i < length entries
        → Rises 0
        (changed_by_places (section_place blobs) (comment_place blobs i entries) (entry_place blobs (suc i) entries) (end_place blobs entries) ++ n ∷ room ∷ [])
    change_order i h = let p = change_places blobs entries i h in omega (arith, p.field_is, p.past_is, p.end_is, end_within)

    pub remove_order :
        (i : ℕ) → i < length blobs → i < length entries
        → Rises 0
        (removed_by_places (blob_place i blobs) (blob_place (suc i) blobs) (section_place blobs) (entry_place blobs i entries)
        (entry_place blobs (suc i) entries) (end_place blobs entries) ++ n ∷ room ∷ [])
    remove_order i g h =
        let p = remove_places blobs entries i g h in
        omega (arith, p.blob_end, p.section_is, p.entry_start, p.entry_end, p.end_is, end_within)

    pub add_order : Rises 0 (added_by_places (section_place blobs) (end_place blobs entries) ++ n ∷ room ∷ [])
    add_order = omega (arith, end_within)

-- ---- the promises

-- of an image that the writer makes of a list of keys and that the first n bytes of a buffer are

module _ (c : ℕ) (keys : List Key) (old : List ℕ) (n : ℕ) (stands : take n old ≡ written_image c keys) (inside : n ≤ length old) where
  pub begins : old ≡ written_image c keys ++ drop n old
  begins = sym (take-append-drop n old) ∙ ap (λ (l : List ℕ). l ++ drop n old) stands

  pub as_long : n ≡ length (plain_image c (map key_blob keys) (map written_entry keys))
  unfolding written_image
  as_long = sym (length-take-le n old inside) ∙ ap length stands

  module _ (small : n ≤ 65535) (k : ℕ) (some : 0 < k) (there : k ≤ length keys) where
    module _ (blob after section pair field past end : ℕ) (places : KeyPlaces keys k blob after section pair field past end) where
      -- its places are in order, and changed there the image is that of the edited keys
      pub change_rises : Rises 0 (changed_by_places section field past end ++ n ∷ length old ∷ [])
      change_rises =
          let i : k - 1 < length (map written_entry keys) = omega (arith, some, there, length-map keys written_entry) in
          rw (places.section_is, places.field_is, places.past_is, places.end_is)
          (change_order c (map key_blob keys) (map written_entry keys) n (length old) as_long inside (k - 1) i)

      pub change_there : (comment : List ℕ) → changed_at old section field past end comment ≡ written_image c (keys_changed k comment keys)
      change_there comment =
          rw (places.section_is, places.field_is, places.past_is, places.end_is)
          (change_written c keys (drop n old) old begins k comment some there)

      pub change_key :
          (comment : List ℕ) (r : Written) (out : List ℕ)
          → IsEdit (changed_by_places section field past end) (changed_at old section field past end comment) n old r out
          → IsRenewed (written_image c (keys_changed k comment keys)) n old r out
      change_key comment r out p =
          rw (change_there comment) at
          (edit_renewed (changed_at old section field past end comment) n old (changed_by_places section field past end) r out small change_rises p)

      pub remove_key :
          (count : ℕ) (r : Written) (out : List ℕ) → count ≡ length keys - 1
          → IsEdit (removed_by_places blob after section pair past end) (removed_at old count blob after section pair past end) n old r out
          → IsRenewed (written_image c (keys_without k keys)) n old r out
      remove_key count r out e₀ p =
          let b = map key_blob keys in
          let e = map written_entry keys in
          let g : k - 1 < length b = omega (arith, some, there, length-map keys key_blob) in
          let i : k - 1 < length e = omega (arith, some, there, length-map keys written_entry) in
          let order : Rises 0 (removed_by_places blob after section pair past end ++ n ∷ length old ∷ []) =
          rw (places.blob_is, places.after_is, places.section_is, places.pair_is, places.past_is, places.end_is)
          (remove_order c b e n (length old) as_long inside (k - 1) g i) in
          let image : removed_at old count blob after section pair past end ≡ written_image c (keys_without k keys) =
          rw (e₀, places.blob_is, places.after_is, places.section_is, places.pair_is, places.past_is, places.end_is)
          (remove_written c keys (drop n old) old begins k some there) in
          rw image at (edit_renewed (removed_at old count blob after section pair past end) n old (removed_by_places blob after section pair past end) r out small order p)

-- ---- the places by what stands before them, for a key after `ks` and before `ls`

blobs_of_lem : (bs : List (List ℕ)) (b : List ℕ) (cs : List (List ℕ)) → blobs_length (bs ++ b ∷ cs) ≡ blobs_length bs + (4 + length b + blobs_length cs)
blobs_of_lem [] b cs = omega arith
blobs_of_lem (x ∷ bs) b cs = omega (arith, blobs_of_lem bs b cs)

entries_of_lem :
    (es : List Entry) (e : Entry) (fs : List Entry)
    → entries_length (es ++ e ∷ fs) ≡ entries_length es + (length e.pair + (4 + length e.comment) + entries_length fs)
entries_of_lem [] e fs = omega arith
entries_of_lem (x ∷ es) e fs = omega (arith, entries_of_lem es e fs)

first_of : {A : Type 0} (xs : List A) (y : A) (ys : List A) → take (suc (length xs)) (xs ++ y ∷ ys) ≡ xs ++ y ∷ []
first_of [] y ys = refl
first_of (x ∷ xs) y ys = ap (λ l. x ∷ l) (first_of xs y ys)

module _
    (ks : List Key) (key : Key) (ls : List Key) (k blob after section pair field past end : ℕ) (k-is : k ≡ suc (length ks))
    (blob_is : blob ≡ 39 + blobs_length (map key_blob ks)) (after_is : after ≡ blob + 4 + length (key_blob key))
    (section_is : section ≡ after + blobs_length (map key_blob ls)) (pair_is : pair ≡ section + 12 + entries_length (map written_entry ks))
    (field_is : field ≡ pair + length (written_entry key).pair) (past_is : past ≡ field + 4 + length key.comment)
    (end_is : end ≡ past + entries_length (map written_entry ls))
  where
    pub split_places : KeyPlaces (ks ++ key ∷ ls) k blob after section pair field past end
    split_places =
        let blobs = map key_blob (ks ++ key ∷ ls) in
        let entries = map written_entry (ks ++ key ∷ ls) in
        let i : k - 1 ≡ length ks = omega (arith, k-is) in
        let lb : length (map key_blob ks) ≡ length ks = length-map ks key_blob in
        let le : length (map written_entry ks) ≡ length ks = length-map ks written_entry in
        let mb : blobs ≡ map key_blob ks ++ key_blob key ∷ map key_blob ls = map_split key_blob ks key ls in
        let me : entries ≡ map written_entry ks ++ written_entry key ∷ map written_entry ls = map_split written_entry ks key ls in
        let b₁ : take (k - 1) blobs ≡ map key_blob ks = ap₂ take i mb ∙ take_at (map key_blob ks) (key_blob key ∷ map key_blob ls) (length ks) lb in
        let b₂ : take (suc (k - 1)) blobs ≡ map key_blob ks ++ key_blob key ∷ [] =
        ap₂ (λ j l. take (suc j) l) (i ∙ sym lb) mb ∙ first_of (map key_blob ks) (key_blob key) (map key_blob ls) in
        let e₁ : take (k - 1) entries ≡ map written_entry ks =
        ap₂ take i me ∙ take_at (map written_entry ks) (written_entry key ∷ map written_entry ls) (length ks) le in
        let e₂ : take (suc (k - 1)) entries ≡ map written_entry ks ++ written_entry key ∷ [] =
        ap₂ (λ j l. take (suc j) l) (i ∙ sym le) me ∙ first_of (map written_entry ks) (written_entry key) (map written_entry ls) in
        let own : entry_at (k - 1) entries ≡ written_entry key =
        ap₂ entry_at i me ∙ get_or_at (map written_entry ks) (written_entry key) (map written_entry ls) (entry [] []) (length ks) le in
        let x₁ = ap blobs_length b₁ in
        let x₂ = ap blobs_length b₂ ∙ blobs_of_lem (map key_blob ks) (key_blob key) [] in
        let x₃ = ap blobs_length mb ∙ blobs_of_lem (map key_blob ks) (key_blob key) (map key_blob ls) in
        let y₁ = ap entries_length e₁ in
        let y₂ = ap entries_length e₂ ∙ entries_of_lem (map written_entry ks) (written_entry key) [] in
        let y₃ = ap entries_length me ∙ entries_of_lem (map written_entry ks) (written_entry key) (map written_entry ls) in
        let at : section ≡ section_place blobs = omega (arith, x₃, blob_is, after_is, section_is) in
        let long : length (entry_at (k - 1) entries).pair ≡ length (written_entry key).pair = ap (λ (e : Entry). length e.pair) own in
        record {
          blob_is = omega (arith, x₁, blob_is);
          after_is = omega (arith, x₂, blob_is, after_is);
          section_is = at;
          pair_is = omega (arith, y₁, at, pair_is);
          field_is = omega (arith, y₁, at, pair_is, field_is, long);
          past_is = omega (arith, y₂, at, pair_is, field_is, past_is);
          end_is = omega (arith, y₃, at, pair_is, field_is, past_is, end_is);
        }
