-- A key added: what the writer answers of the list with it goes by the key's own check, its comment's, size and room; so room that was made and
-- then filled with the key is the edit. Rests on the laws of Added and on the image's being written afresh.
use Prim.Native.Nat.{ℕ, ◌+◌, ◌-◌, ◌≤◌, ◌<◌}
use Rattle.std.proofs.Common.{arith, sym, ◌∙◌, ap, ap₂, length-append, length-take-le}
use Rattle.std.specs.Prelude.{◌≡◌, refl, Bool, true, false, take, Result, Ok, Err}
use mathlib.Core.List.{List, [], ◌++◌, map}
use borrow.Author.Tests.{le-leb, lt-leb}
use Rattle.std.proofs.Math.ListN.{length}
use Rattle.std.proofs.lemmas.List.{length-map}
use Rattle.fields.specs.Bytes.{AllBytes, string}
use Rattle.fields.specs.Place.{clash, by_bool}
use Rattle.fields.specs.declared.Fault.{Fault}
use Rattle.fields.specs.declared.Refusal.TheVariants.{Length, CharacterEncoding}
use Rattle.utf8.specs.Utf8.{utf8}
use Rattle.format.specs.Format.{Key, Entry, alone, filled_key, key_blob, written_entry, plain_image, written_image}
use Rattle.format.specs.Scalars.{blobs_filled, entries_filled}
use Rattle.buffer.specs.Runs.{IsRun}
use Rattle.reader_image.specs.declared.Fields.{Fields}
use Rattle.reader_image.specs.Container.{keys_in}
use Rattle.writer_reply.specs.Reply.{refused, unless, sized, answered, Written}
use Rattle.writer_parts.specs.Checks.{key_checked, passed, checking_key}
use Rattle.writer_parts.specs.Sizes.{capped, capped_exact, capped_sum, capped_sum_last}
use Rattle.writer_plain.specs.Plain.{keys_checked, keys_reply}
use Rattle.writer_plain.specs.Fits.{keys_pass, checked_append}
use Rattle.edit_shells.specs.Shells.{opened_size}
use Rattle.edit_shells.specs.Edits.{added_by_places, edit_reply, IsRenewed}
use Rattle.edit_shells.specs.Keys.{end_place, keys_with, map_split}
use Rattle.edit_add.specs.Open.{size_over}
use Rattle.edit_add.specs.Fill.{blob_takes, entry_takes}
use Rattle.edit_add.specs.Added.{EndPlaces, IsOpenedFor, add_key_refused, add_key}
use Rattle.edit_file.specs.Edits.{on_editable, editable_at, file_keys, add_reply, add_left, IsAdd}
use Rattle.edit_file.specs.Stand.{Edited, image_written, section_is, end_is}
use Rattle.edit_file.specs.Afresh.{passed_renewed, told, text, keys_fit}
use Rattle.key_add.specs.More.{more_at, more_not, more_is, end_of, own_of, room_reply, IsRoom, reply_fits, opened_capped}

-- ---- a list with one key more

-- zeros in front of the scalars before it change nothing of what is written
pub added_filled : (c : ℕ) (keys : List Key) (key : Key) → written_image c (keys_with key (map filled_key keys)) ≡ written_image c (keys_with key keys)
unfolding written_image keys_with
added_filled c keys key =
    ap₂ (plain_image c)
    (map_split key_blob (map filled_key keys) key [] ∙ ap (λ (l : List (List ℕ)). l ++ alone (key_blob key)) (blobs_filled keys)
    ∙ sym (map_split key_blob keys key []))
    (map_split written_entry (map filled_key keys) key [] ∙ ap (λ (l : List Entry). l ++ alone (written_entry key)) (entries_filled keys)
    ∙ sym (map_split written_entry keys key []))

added_length : (keys : List Key) (key : Key) → length (keys_with key (map filled_key keys)) ≡ length keys + 1
unfolding keys_with
added_length keys key = length-append (map filled_key keys) (alone key) ∙ rw (length-map keys filled_key)

-- ---- what is refused

-- refused, an addition changes nothing
add_refused : (old : List ℕ) (n : ℕ) (key : Key) (g : Fault) → add_reply old n key ≡ Err g → IsAdd old n key (Err g) old
unfolding add_left
add_refused old n key g e = answered _ _ _ _ (sym e, rw e (sym (go (editable_at old n))))
  where
    go : (w : Result Fields Fault) → on_editable w (λ h. old) (λ f. old) ≡ old
    go (Err h) = refl
    go (Ok f) = refl

module _ (old : List ℕ) (all : AllBytes old) (n : ℕ) (f : Fields) (e : editable_at old n ≡ Ok f) (key : Key) where
  abbrev keys : List Key
  keys = keys_in (take n old) f

  -- a 17th key
  pub too_many : 16 ≤ f.header.count → add_reply old n key ≡ refused Length
  unfolding add_reply keys_reply file_keys
  too_many many =
      let long = added_length keys key in
      let counted = (text old all n f e).counted in
      let new = keys_with key (map filled_key keys) in
      rw (e, le-leb 1 (length new) (omega (arith, long)), lt-leb (length new) 16 (omega (arith, long, counted, many)))

  -- the keys that are there pass
  pub add_reply_lem :
      f.header.count < 16
      → add_reply old n key ≡ keys_checked (alone key) (sized (written_image f.section.checkint (keys_with key keys)) (length old))
  unfolding add_reply keys_reply file_keys keys_with
  add_reply_lem few =
      let long = added_length keys key in
      let counted = (text old all n f e).counted in
      let c = f.section.checkint in
      let new = map filled_key keys ++ alone key in
      let next = sized (written_image c new) (length old) in
      rw (
        e,
        le-leb 1 (length new) (omega (arith, long)),
        le-leb (length new) 16 (omega (arith, long, counted, few)),
        checked_append (map filled_key keys) (alone key) next,
        keys_pass keys (keys_checked (alone key) next) (keys_fit old all n f e),
        added_filled c keys key,
      )

-- the image is, or has 16 keys
pub more_refused :
    (old : List ℕ) → AllBytes old → (n : ℕ) (key : Key) (g : Fault) → more_at old n ≡ Err g → IsAdd old n key (Err g) old
unfolding add_reply
more_refused old all n key g e =
    more_not old n g e
    (λ w. add_refused old n key g (rw w))
    (λ f w many h. let same : Err g ≡ refused Length = cc in rw same (add_refused old n key _ (too_many old all n f w key many)))

-- ---- a key added to an image that has fewer than 16

-- the key passes its own check
abbrev pub MayAdd : List ℕ → ℕ → Fields → Key → Type 0
MayAdd old n f key = (more_at old n ≡ Ok f) × (key_checked key.algorithm key.public key.private passed ≡ passed)

module _ (old : List ℕ) (all : AllBytes old) (n : ℕ) (f : Fields) (e : more_at old n ≡ Ok f) where
  image : editable_at old n ≡ Ok f
  image = (more_is old n f e).0

  is : Edited old n f
  is = told old all n f image

  abbrev were : List Key
  were = keys_in (take n old) f

  abbrev checkint : ℕ
  checkint = f.section.checkint

  -- its last places
  abbrev begins : ℕ
  begins = f.header.section

  abbrev ends : ℕ
  ends = end_of n f

  end_place_lem : ends ≡ end_place (map key_blob were) (map written_entry were)
  end_place_lem =
      ap (λ (i : ℕ). i - f.section.padding) (sym (length-take-le n old is.inside))
      ∙ end_is (take n old) f (text old all n f image) is.plain is.form

  places : EndPlaces were (f.header.count + 1) begins ends
  places =
      record {
        count_is = ap (λ (i : ℕ). i + 1) (text old all n f image).counted;
        section_is = section_is (take n old) f (text old all n f image) is.plain is.form;
        end_is = end_place_lem;
      }

  stands : take n old ≡ written_image checkint were
  stands = image_written (take n old) f (text old all n f image) is.plain is.form

  pub padding_inside : f.section.padding ≤ n
  padding_inside = omega (arith, end_place_lem)

  pub few_bytes : n ≤ 65535
  few_bytes = is.small

  pub one_more : f.header.count < 16
  one_more = (more_is old n f e).1

  -- the key is refused
  pub key_refused :
      (key : Key) (g : Fault) → key_checked key.algorithm key.public key.private passed ≡ Err g
      → IsAdd old n key (Err g) old
  unfolding keys_checked
  key_refused key g w =
      add_refused old n key g
      (add_reply_lem old all n f image key one_more ∙ (checking_key key.algorithm key.public key.private).refuses g _ w)

  module _ (key : Key) (passes : key_checked key.algorithm key.public key.private passed ≡ passed) where
    -- it goes on by its comment, size and room
    passed_reply :
        add_reply old n key ≡ unless (utf8 key.comment) CharacterEncoding (sized (written_image checkint (keys_with key were)) (length old))
    unfolding keys_checked
    passed_reply =
        add_reply_lem old all n f image key one_more ∙ (checking_key key.algorithm key.public key.private).passes 0 _ passes

    add_is :
        (r : Written) (out : List ℕ) → utf8 key.comment ≡ true → IsRenewed (written_image checkint (keys_with key were)) n old r out
        → IsAdd old n key r out
    unfolding add_left add_reply file_keys
    add_is r out utf p =
        let reply = rw utf at passed_reply in
        answered _ _ _ _
        (rw image
        (passed_renewed (keys_with key (map filled_key were)) f n old (written_image checkint (keys_with key were)) r out (rw image at reply)
        (added_filled checkint were key) p))

    -- the lengths of the blob, of the blob as a string and of the keypair, as they were measured
    module _
        (l b p : ℕ) (el : l ≡ capped (length (key_blob key))) (es : b ≡ capped (4 + l)) (ep : p ≡ capped (length (written_entry key).pair))
      where
        eb : b ≡ capped (blob_takes (key_blob key))
        eb = es ∙ ap (λ (i : ℕ). capped (4 + i)) el ∙ capped_sum_last 4 (length (key_blob key))

        opened :
            (r : Written) (out : List ℕ) → utf8 key.comment ≡ true → IsRoom old n f b p key.comment r out
            → IsOpenedFor checkint were key old n stands is.inside few_bytes (f.header.count + 1) begins ends places r out
        unfolding room_reply
        opened r out utf q =
            opened_capped (added_by_places begins ends) old n (f.header.count + 1) begins ends b (capped (own_of p key.comment)) (blob_takes (key_blob key))
            (entry_takes (written_entry key).pair key.comment) r out eb
            (ap (λ (i : ℕ). capped (own_of i key.comment)) ep ∙ capped_sum (length (written_entry key).pair) (4 + length key.comment))
            (rw utf at q)

        -- room was made, so the blob is no longer than an image
        pub room_small : (k : ℕ) (out : List ℕ) → IsRoom old n f b p key.comment (Ok k) out → b ≤ 65535
        unfolding room_reply
        room_small k out q = go (utf8 key.comment) q.0
          where
            size : ℕ
            size = opened_size begins ends b (capped (own_of p key.comment))

            go : (u : Bool) → Ok k ≡ unless u CharacterEncoding (edit_reply (added_by_places begins ends) size n (length old)) → b ≤ 65535
            go true w =
                omega (
                  arith,
                  reply_fits (added_by_places begins ends) size n (length old) k w,
                  size_over begins ends b (capped (own_of p key.comment)),
                )
            go false w = clash cc

        -- no room was made
        pub room_refused :
            (g : Fault) (out : List ℕ) → IsRoom old n f b p key.comment (Err g) out → IsAdd old n key (Err g) out
        unfolding room_reply
        room_refused g out q =
            by_bool (utf8 key.comment)
            (λ utf.
            add_is (Err g) out utf
            (add_key_refused checkint were key old n stands is.inside few_bytes (f.header.count + 1) begins ends places g out
            (opened (Err g) out utf q)))
            (λ utf. let q' = rw utf at q in rw (q'.0, q'.1) (add_refused old n key _ (rw utf at passed_reply)))

        -- the last three arguments are what the puts of the blob, of the keypair and of the comment ensure
        pub room_filled :
            (k r₁ r₂ r₃ : ℕ) (out o₁ o₂ o₃ : List ℕ) → IsRoom old n f b p key.comment (Ok k) out
            → IsRun out begins (string (key_blob key)) r₁ o₁ → IsRun o₁ (ends + b) (written_entry key).pair r₂ o₂
            → IsRun o₂ r₂ (string key.comment) r₃ o₃ → IsAdd old n key (Ok k) o₃
        unfolding room_reply
        room_filled k r₁ r₂ r₃ out o₁ o₂ o₃ q run₁ run₂ run₃ =
            by_bool (utf8 key.comment)
            (λ utf.
            let exact : b ≡ blob_takes (key_blob key) = capped_exact b _ 65535 eb (room_small k out q) (omega arith) in
            add_is (Ok k) o₃ utf
            (add_key checkint were key old n stands is.inside few_bytes (f.header.count + 1) begins ends places k r₁ r₂ r₃ out o₁ o₂ o₃
            (opened (Ok k) out utf q) run₁ (rw exact at run₂) run₃))
            (λ utf. let q' = rw utf at q.0 in clash cc)
