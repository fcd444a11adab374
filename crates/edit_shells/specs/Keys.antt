-- docs/RULES.md, 12: a file as the list of its keys, and what the edits make of the list. At the places of key k, an edit of the bytes that the
-- writer makes of a list is the bytes that it makes of the edited list. Rests on `changed`, `removed` and `added` of Places.
use Rattle.std.specs.Prelude.{ℕ, zero, suc, ◌+◌, ◌-◌, ◌≤◌, ◌<◌, ◌≡◌, refl, List, [], ◌∷◌, ◌++◌, map, take, drop, get_or}
use Rattle.std.proofs.Common.{arith, sym, ◌∙◌}
use Rattle.std.proofs.Math.Path.{ap, ap₂}
use Rattle.std.proofs.Math.ListN.{length, length-map}
use Rattle.std.proofs.Math.Seq.{split_at}
use Rattle.format.specs.Format.{Entry, entry, Key, key_of, key_blob, written_entry, plain_image, written_image}
use Rattle.format.specs.Lengths.{blobs_length, entries_length}
use Rattle.edit_shells.specs.Shells.{changed_at, removed_at, added_at}
use Rattle.edit_shells.specs.Places.{ChangePlaces, RemovePlaces, changed, removed, added}

-- ---- lists edited, at the element that i others stand before

abbrev pub change_at : {A : Type 0} → (A → A) → ℕ → List A → List A
change_at f i [] = []
change_at f zero (x ∷ more) = f x ∷ more
change_at f (suc i) (x ∷ more) = x ∷ change_at f i more

abbrev pub remove_at : {A : Type 0} → ℕ → List A → List A
remove_at i [] = []
remove_at zero (x ∷ more) = more
remove_at (suc i) (x ∷ more) = x ∷ remove_at i more

-- ---- the edits of a file's keys; they are counted from 1

abbrev pub with_comment : List ℕ → Key → Key
with_comment comment key = key_of key.algorithm key.public key.private comment

unfoldable pub keys_changed : ℕ → List ℕ → List Key → List Key
keys_changed k comment keys = change_at (with_comment comment) (k - 1) keys

unfoldable pub keys_without : ℕ → List Key → List Key
keys_without k keys = remove_at (k - 1) keys

unfoldable pub keys_with : Key → List Key → List Key
keys_with key keys = keys ++ key ∷ []

-- ---- the places of the key that i others stand before

-- the blob's string begins, and the next one's
abbrev pub blob_place : ℕ → List (List ℕ) → ℕ
blob_place i blobs = 39 + blobs_length (take i blobs)

-- the section's length field begins
abbrev pub section_place : List (List ℕ) → ℕ
section_place blobs = 39 + blobs_length blobs

-- the entry begins, and the next one, or the padding
abbrev pub entry_place : List (List ℕ) → ℕ → List Entry → ℕ
entry_place blobs i entries = section_place blobs + 12 + entries_length (take i entries)

abbrev pub end_place : List (List ℕ) → List Entry → ℕ
end_place blobs entries = section_place blobs + 12 + entries_length entries

-- no entry at all stands for one that isn't there
abbrev pub entry_at : ℕ → List Entry → Entry
entry_at i entries = get_or entries i (entry [] [])

-- the comment's field begins
abbrev pub comment_place : List (List ℕ) → ℕ → List Entry → ℕ
comment_place blobs i entries = entry_place blobs i entries + length (entry_at i entries).pair

-- ---- laws of the lists

module _ {A : Type 0} where
  pub change_split :
      (f : A → A) (i : ℕ) (l : List A) (d : A) → i < length l → change_at f i l ≡ take i l ++ f (get_or l i d) ∷ drop (suc i) l
  change_split f i [] d h = absurd (omega arith)
  change_split f zero (x ∷ l) d h = refl
  change_split f (suc i) (x ∷ l) d h = ap (λ (m : List A). x ∷ m) (change_split f i l d (omega arith))

  pub remove_split : (i : ℕ) (l : List A) → i < length l → remove_at i l ≡ take i l ++ drop (suc i) l
  remove_split i [] h = absurd (omega arith)
  remove_split zero (x ∷ l) h = refl
  remove_split (suc i) (x ∷ l) h = ap (λ (m : List A). x ∷ m) (remove_split i l (omega arith))

  pub change_length : (f : A → A) (i : ℕ) (l : List A) → length (change_at f i l) ≡ length l
  change_length f i [] = refl
  change_length f zero (x ∷ l) = refl
  change_length f (suc i) (x ∷ l) = ap suc (change_length f i l)

  pub remove_length : (i : ℕ) (l : List A) → i < length l → length (remove_at i l) ≡ length l - 1
  remove_length i [] h = absurd (omega arith)
  remove_length zero (x ∷ l) h = omega arith
  remove_length (suc i) (x ∷ l) h = omega (arith, remove_length i l (omega arith))

module _ {A B : Type 0} (g : A → B) where
  pub map_change :
      (f : A → A) (h : B → B) → ((x : A) → g (f x) ≡ h (g x)) → (i : ℕ) (l : List A) → map g (change_at f i l) ≡ change_at h i (map g l)
  map_change f h same i [] = refl
  map_change f h same zero (x ∷ l) = ap (λ (y : B). y ∷ map g l) (same x)
  map_change f h same (suc i) (x ∷ l) = ap (λ (m : List B). g x ∷ m) (map_change f h same i l)

  pub map_unchanged : (f : A → A) → ((x : A) → g (f x) ≡ g x) → (i : ℕ) (l : List A) → map g (change_at f i l) ≡ map g l
  map_unchanged f same i [] = refl
  map_unchanged f same zero (x ∷ l) = ap (λ (y : B). y ∷ map g l) (same x)
  map_unchanged f same (suc i) (x ∷ l) = ap (λ (m : List B). g x ∷ m) (map_unchanged f same i l)

  pub map_remove : (i : ℕ) (l : List A) → map g (remove_at i l) ≡ remove_at i (map g l)
  map_remove i [] = refl
  map_remove zero (x ∷ l) = refl
  map_remove (suc i) (x ∷ l) = ap (λ (m : List B). g x ∷ m) (map_remove i l)

  pub map_split : (xs : List A) (y : A) (ys : List A) → map g (xs ++ y ∷ ys) ≡ map g xs ++ g y ∷ map g ys
  map_split [] y ys = refl
  map_split (x ∷ xs) y ys = ap (λ (m : List B). g x ∷ m) (map_split xs y ys)

-- ---- laws of the places

blobs_split :
    (i : ℕ) (l : List (List ℕ)) → i < length l
    → blobs_length l ≡ blobs_length (take i l) + (4 + length (get_or l i [])) + blobs_length (drop (suc i) l)
blobs_split i [] h = absurd (omega arith)
blobs_split zero (b ∷ l) h = omega arith
blobs_split (suc i) (b ∷ l) h = omega (arith, blobs_split i l (omega arith))

blobs_next : (i : ℕ) (l : List (List ℕ)) → i < length l → blobs_length (take (suc i) l) ≡ blobs_length (take i l) + (4 + length (get_or l i []))
blobs_next i [] h = absurd (omega arith)
blobs_next zero (b ∷ l) h = omega arith
blobs_next (suc i) (b ∷ l) h = omega (arith, blobs_next i l (omega arith))

entries_next :
    (i : ℕ) (l : List Entry) → i < length l
    → entries_length (take (suc i) l) ≡ entries_length (take i l) + (length (entry_at i l).pair + (4 + length (entry_at i l).comment))
entries_next i [] h = absurd (omega arith)
entries_next zero (e ∷ l) h = omega arith
entries_next (suc i) (e ∷ l) h = omega (arith, entries_next i l (omega arith))

entries_split :
    (i : ℕ) (l : List Entry) → i < length l
    → entries_length l ≡ entries_length (take (suc i) l) + entries_length (drop (suc i) l)
entries_split i [] h = absurd (omega arith)
entries_split zero (e ∷ l) h = omega arith
entries_split (suc i) (e ∷ l) h = omega (arith, entries_split i l (omega arith))

lengths_split : (i : ℕ) (l : List (List ℕ)) → i < length l → length l - 1 ≡ length (take i l) + length (drop (suc i) l)
lengths_split i [] h = absurd (omega arith)
lengths_split zero (b ∷ l) h = omega arith
lengths_split (suc i) (b ∷ l) h = omega (arith, lengths_split i l (omega arith))

module _ (blobs : List (List ℕ)) (entries : List Entry) (i : ℕ) where
  pub change_places :
      i < length entries
      → ChangePlaces blobs (take i entries) (entry_at i entries) (drop (suc i) entries) (section_place blobs) (comment_place blobs i entries)
      (entry_place blobs (suc i) entries) (end_place blobs entries)
  change_places h =
      record {
        section_is = refl;
        field_is = omega arith;
        past_is = omega (arith, entries_next i entries h);
        end_is = omega (arith, entries_split i entries h);
      }

  pub remove_places :
      i < length blobs → i < length entries
      → RemovePlaces (take i blobs) (get_or blobs i []) (drop (suc i) blobs) (take i entries) (entry_at i entries) (drop (suc i) entries) (length blobs - 1)
      (blob_place i blobs) (blob_place (suc i) blobs) (section_place blobs) (entry_place blobs i entries) (entry_place blobs (suc i) entries)
      (end_place blobs entries)
  remove_places g h =
      record {
        count_is = lengths_split i blobs g;
        blob_start = refl;
        blob_end = omega (arith, blobs_next i blobs g);
        section_is = omega (arith, blobs_next i blobs g, blobs_split i blobs g);
        entry_start = omega arith;
        entry_end = omega (arith, entries_next i entries h);
        end_is = omega (arith, entries_split i entries h);
      }

-- ---- the edits of an image, by the key that i others stand before

abbrev pub entry_with : List ℕ → Entry → Entry
entry_with comment e = entry e.pair comment

module _ (n : ℕ) (blobs : List (List ℕ)) (entries : List Entry) (rest old : List ℕ) (stands : old ≡ plain_image n blobs entries ++ rest) where
  pub change_image :
      (i : ℕ) (comment : List ℕ) → i < length entries
      → changed_at old (section_place blobs) (comment_place blobs i entries) (entry_place blobs (suc i) entries) (end_place blobs entries) comment
      ≡ plain_image n blobs (change_at (entry_with comment) i entries)
  change_image i comment h =
      let split = split_at entries i (entry [] []) h in
      let whole = stands ∙ ap (λ (l : List Entry). plain_image n blobs l ++ rest) split in
      changed n rest old blobs (take i entries) (entry_at i entries) (drop (suc i) entries) _ _ _ _ comment whole (change_places blobs entries i h)
      ∙ ap (plain_image n blobs) (sym (change_split (entry_with comment) i entries (entry [] []) h))

  pub remove_image :
      (i : ℕ) → i < length blobs → i < length entries
      → removed_at old (length blobs - 1) (blob_place i blobs) (blob_place (suc i) blobs) (section_place blobs) (entry_place blobs i entries)
      (entry_place blobs (suc i) entries) (end_place blobs entries)
      ≡ plain_image n (remove_at i blobs) (remove_at i entries)
  remove_image i g h =
      let whole = stands ∙ ap₂ (λ (b : List (List ℕ)) (l : List Entry). plain_image n b l ++ rest) (split_at blobs i [] g)
      (split_at entries i (entry [] []) h) in
      removed n rest old (take i blobs) (get_or blobs i []) (drop (suc i) blobs) (take i entries) (entry_at i entries)
      (drop (suc i) entries) _ _ _ _ _ _ _ whole
      (remove_places blobs entries i g h)
      ∙ ap₂ (plain_image n) (sym (remove_split i blobs g)) (sym (remove_split i entries h))

  pub add_image :
      (blob pair comment : List ℕ)
      → added_at old (length blobs + 1) (section_place blobs) (end_place blobs entries) blob pair comment
      ≡ plain_image n (blobs ++ blob ∷ []) (entries ++ entry pair comment ∷ [])
  add_image blob pair comment =
      added n rest old blobs entries _ _ _ blob pair comment stands (record { count_is = refl; section_is = refl; end_is = refl })

-- ---- the edits of what the writer makes of a list of keys

module _ (n : ℕ) (keys : List Key) (rest old : List ℕ) (stands : old ≡ written_image n keys ++ rest) where
  pub change_written :
      (k : ℕ) (comment : List ℕ) → 0 < k → k ≤ length keys
      → changed_at old (section_place (map key_blob keys)) (comment_place (map key_blob keys) (k - 1) (map written_entry keys))
      (entry_place (map key_blob keys) (suc (k - 1)) (map written_entry keys)) (end_place (map key_blob keys) (map written_entry keys)) comment
      ≡ written_image n (keys_changed k comment keys)
  unfolding written_image keys_changed
  change_written k comment g h =
      let inside : k - 1 < length (map written_entry keys) = omega (arith, length-map keys written_entry) in
      change_image n (map key_blob keys) (map written_entry keys) rest old stands (k - 1) comment inside
      ∙ ap₂ (plain_image n) (sym (map_unchanged key_blob (with_comment comment) (λ x. refl) (k - 1) keys))
      (sym (map_change written_entry (with_comment comment) (entry_with comment) (λ x. refl) (k - 1) keys))

  pub remove_written :
      (k : ℕ) → 0 < k → k ≤ length keys
      → removed_at old (length keys - 1) (blob_place (k - 1) (map key_blob keys)) (blob_place (suc (k - 1)) (map key_blob keys))
      (section_place (map key_blob keys))
      (entry_place (map key_blob keys) (k - 1) (map written_entry keys)) (entry_place (map key_blob keys) (suc (k - 1)) (map written_entry keys))
      (end_place (map key_blob keys) (map written_entry keys))
      ≡ written_image n (keys_without k keys)
  unfolding written_image keys_without
  remove_written k g h =
      let lb = length-map keys key_blob in
      let le = length-map keys written_entry in
      ap (λ (c : ℕ). removed_at old (c - 1) (blob_place (k - 1) (map key_blob keys)) (blob_place (suc (k - 1)) (map key_blob keys))
      (section_place (map key_blob keys)) (entry_place (map key_blob keys) (k - 1) (map written_entry keys))
      (entry_place (map key_blob keys) (suc (k - 1)) (map written_entry keys)) (end_place (map key_blob keys) (map written_entry keys))) (sym lb)
      ∙ remove_image n (map key_blob keys) (map written_entry keys) rest old stands (k - 1) (omega arith) (omega arith)
      ∙ ap₂ (plain_image n) (sym (map_remove key_blob (k - 1) keys)) (sym (map_remove written_entry (k - 1) keys))

  pub add_written :
      (key : Key)
      → added_at old (length keys + 1) (section_place (map key_blob keys)) (end_place (map key_blob keys) (map written_entry keys)) (key_blob key)
      (written_entry key).pair key.comment
      ≡ written_image n (keys_with key keys)
  unfolding written_image keys_with
  add_written key =
      ap (λ (c : ℕ). added_at old (c + 1) (section_place (map key_blob keys)) (end_place (map key_blob keys) (map written_entry keys)) (key_blob key)
      (written_entry key).pair key.comment) (sym (length-map keys key_blob))
      ∙ add_image n (map key_blob keys) (map written_entry keys) rest old stands (key_blob key) (written_entry key).pair key.comment
      ∙ ap₂ (plain_image n) (sym (map_split key_blob keys key [])) (sym (map_split written_entry keys key []))
