-- The keys then in the file are written afresh: a list of keys that fit, with comments that are UTF-8, passes every test of the writer but those of
-- size and room. So what leaves the image of the edited list, as `IsRenewed` says, is the edit.
use Rattle.std.specs.Prelude.{ℕ, zero, suc, ◌-◌, ◌≤◌, ◌<◌, ◌≡◌, refl, Bool, true, false, ltb, take, get_or, Ok, Err}
use Rattle.std.proofs.Common.{arith, ◌∙◌, ap, length-take, get_or-take}
use Rattle.std.proofs.Math.Path.{sym}
use mathlib.Core.List.{List, [], ◌∷◌, map}
use borrow.Author.Tests.{le-leb, lt-leb, ltb-true, ltb-false}
use Rattle.std.proofs.Math.ListN.{length, length-map, get_or-eq_default}
use Rattle.fields.specs.Bytes.{AllBytes}
use Rattle.fields.specs.declared.Refusal.TheVariants.{Length}
use Rattle.utf8.specs.Utf8.{utf8}
use Rattle.format.specs.Format.{Key, filled_key, written_image}
use Rattle.format.specs.Scalars.{written_filled}
use Rattle.reader_header.specs.Place.{keys_some, keys_most}
use Rattle.reader_entries.specs.Back.{AllFit as Stand}
use Rattle.reader_image.specs.declared.Fields.{Fields}
use Rattle.reader_image.specs.Container.{keys_in}
use Rattle.reader_image.specs.Read.{KeysText}
use Rattle.reader_image.specs.FormLaws.{keys_of}
use Rattle.writer_reply.specs.Reply.{refused, left, sized, Written}
use Rattle.writer_plain.specs.Plain.{keys_reply, keys_left}
use Rattle.writer_plain.specs.Fits.{AllFit, keys_pass}
use Rattle.edit_shells.specs.Edits.{renewed, IsRenewed}
use Rattle.edit_shells.specs.Keys.{change_at, remove_at, with_comment, keys_changed, keys_without, map_change, map_remove, change_length, remove_length}
use Rattle.edit_file.specs.Edits.{editable_at, file_keys, has_key, afresh_reply, afresh_left, change_reply, change_left, remove_reply, remove_left}
use Rattle.edit_file.specs.Stand.{Edited, edited}

-- ---- lists that fit

pub all_fit : (zs : List ℕ) (keys : List Key) → Stand zs keys → AllFit keys
all_fit [] (k ∷ keys) fits = elim fits [ ]
all_fit (z ∷ zs) [] fits = elim fits [ ]
all_fit [] [] fits = tt
all_fit (z ∷ zs) (k ∷ keys) fits = (fits.0.public, fits.0.private, fits.0.text, all_fit zs keys fits.1)

pub fit_changed : (comment : List ℕ) → utf8 comment ≡ true → (i : ℕ) (keys : List Key) → AllFit keys → AllFit (change_at (with_comment comment) i keys)
fit_changed comment text i [] fits = tt
fit_changed comment text zero (k ∷ keys) fits = (fits.0, fits.1, text, fits.3)
fit_changed comment text (suc i) (k ∷ keys) fits = (fits.0, fits.1, fits.2, fit_changed comment text i keys fits.3)

pub fit_removed : (i : ℕ) (keys : List Key) → AllFit keys → AllFit (remove_at i keys)
fit_removed i [] fits = tt
fit_removed zero (k ∷ keys) fits = fits.3
fit_removed (suc i) (k ∷ keys) fits = (fits.0, fits.1, fits.2, fit_removed i keys fits.3)

-- ---- a list that passes every test of the writer but those of size and room, written afresh

module _ (keys : List Key) (f : Fields) (n : ℕ) (old image : List ℕ) where
  by_answer : (w : Written) → keys_left keys f.section.checkint old ≡ left w image old → afresh_left w keys f n old ≡ renewed w image n old
  by_answer (Err g) e = refl
  by_answer (Ok k) e = rw e

  pub passed_renewed :
      (r : Written) (out : List ℕ) → keys_reply keys f.section.checkint (length old) ≡ sized image (length old)
      → written_image f.section.checkint keys ≡ image → IsRenewed image n old r out
      → (r ≡ afresh_reply keys f old) × (out ≡ afresh_left (afresh_reply keys f old) keys f n old)
  unfolding keys_left
  passed_renewed r out w same p = (p.0 ∙ sym w, p.1 ∙ sym (rw w (by_answer (sized image (length old)) (rw (w, same)))))

-- such is a list that fits
module _ (keys : List Key) (fits : AllFit keys) (some : 1 ≤ length keys) (few : length keys ≤ 16) where
  pub keys_sized : (c room : ℕ) → keys_reply (map filled_key keys) c room ≡ sized (written_image c keys) room
  unfolding keys_reply
  keys_sized c room =
      rw (
        length-map keys filled_key,
        le-leb 1 (length keys) some,
        le-leb (length keys) 16 few,
        keys_pass keys (sized (written_image c (map filled_key keys)) room) fits,
        written_filled c keys,
      )

  pub afresh_renewed :
      (f : Fields) (n : ℕ) (old : List ℕ) (r : Written) (out : List ℕ) → IsRenewed (written_image f.section.checkint keys) n old r out
      → (r ≡ afresh_reply (map filled_key keys) f old) × (out ≡ afresh_left (afresh_reply (map filled_key keys) f old) (map filled_key keys) f n old)
  afresh_renewed f n old r out p =
      let c = f.section.checkint in
      passed_renewed (map filled_key keys) f n old (written_image c keys) r out (keys_sized c (length old)) (written_filled c keys) p

  -- and the other way round
  pub renewed_afresh :
      (f : Fields) (n : ℕ) (old : List ℕ) (r : Written) (out : List ℕ) → r ≡ afresh_reply (map filled_key keys) f old
      → out ≡ afresh_left (afresh_reply (map filled_key keys) f old) (map filled_key keys) f n old → IsRenewed (written_image f.section.checkint keys) n old r out
  renewed_afresh f n old r out e o =
      let c = f.section.checkint in
      let w = sized (written_image c keys) (length old) in
      let p = passed_renewed (map filled_key keys) f n old (written_image c keys) w (renewed w (written_image c keys) n old) (keys_sized c (length old)) (written_filled c keys) (refl, refl) in
      (e ∙ sym p.0, o ∙ sym p.1)

-- ---- of an image that may be edited

-- all bytes of a beginning are bytes
pub all_take : (n : ℕ) (l : List ℕ) → AllBytes l → AllBytes (take n l)
all_take n l all i = go (ltb i n) refl
  where
    go : (b : Bool) → ltb i n ≡ b → get_or (take n l) i 0 < 256
    go true e = rw (get_or-take n l i 0 (ltb-true i n e)) (all i)
    go false e =
        let past : length (take n l) ≤ i = omega (arith, ltb-false i n e, length-take n l) in
        rw (get_or-eq_default (take n l) 0 past) (omega arith)

module _ (old : List ℕ) (all : AllBytes old) (n : ℕ) (f : Fields) (e : editable_at old n ≡ Ok f) where
  pub told : Edited old n f
  told = edited old n f e

  pub text : KeysText (take n old) f
  text = keys_of (take n old) (all_take n old all) f told.was_read told.plain

  pub some_keys : 1 ≤ length (keys_in (take n old) f)
  some_keys = omega (arith, text.counted, keys_some f.header.cipher f.header.count text.allowed)

  pub few_keys : length (keys_in (take n old) f) ≤ 16
  few_keys = omega (arith, text.counted, keys_most f.header.cipher f.header.count text.allowed)

  pub keys_fit : AllFit (keys_in (take n old) f)
  keys_fit = all_fit (text.zeros ∷ text.more_zeros) (keys_in (take n old) f) text.keys_fit

  -- the comment of a key that is there, changed
  pub change_is :
      (k : ℕ) (comment : List ℕ) (r : Written) (out : List ℕ) → has_key f k ≡ true → utf8 comment ≡ true
      → IsRenewed (written_image f.section.checkint (keys_changed k comment (keys_in (take n old) f))) n old r out
      → (r ≡ change_reply old n k comment) × (out ≡ change_left old n k comment)
  unfolding change_reply change_left keys_changed file_keys
  change_is k comment r out there utf p =
      let keys = keys_in (take n old) f in
      let new = change_at (with_comment comment) (k - 1) keys in
      let long : length new ≡ length keys = change_length (with_comment comment) (k - 1) keys in
      let same : map filled_key new ≡ change_at (with_comment comment) (k - 1) (map filled_key keys) =
      map_change filled_key (with_comment comment) (with_comment comment) (λ x. refl) (k - 1) keys in
      rw (e, there, utf, ← same)
      (afresh_renewed new (fit_changed comment utf (k - 1) keys keys_fit) (omega (arith, long, some_keys)) (omega (arith, long, few_keys)) f n old r out p)

  -- a key that is there, and not the only one, removed
  pub remove_is :
      (k : ℕ) (r : Written) (out : List ℕ) → has_key f k ≡ true → 0 < k → k ≤ f.header.count → 1 < f.header.count
      → IsRenewed (written_image f.section.checkint (keys_without k (keys_in (take n old) f))) n old r out
      → (r ≡ remove_reply old n k) × (out ≡ remove_left old n k)
  unfolding remove_reply remove_left keys_without file_keys
  remove_is k r out there some inside more p =
      let keys = keys_in (take n old) f in
      let new = remove_at (k - 1) keys in
      let long : length new ≡ length keys - 1 = remove_length (k - 1) keys (omega (arith, some, inside, text.counted)) in
      let same : map filled_key new ≡ remove_at (k - 1) (map filled_key keys) = map_remove filled_key (k - 1) keys in
      rw (e, there, ← same)
      (afresh_renewed new (fit_removed (k - 1) keys keys_fit) (omega (arith, long, text.counted)) (omega (arith, long, few_keys)) f n old r out p)

  -- ---- what the writer answers of the edited keys

  abbrev c : ℕ
  c = f.section.checkint

  -- of a list that fits, with its scalars filled
  filled_sized :
      (ks new : List Key) → new ≡ map filled_key ks → AllFit ks → 1 ≤ length ks → length ks ≤ 16
      → afresh_reply new f old ≡ sized (written_image c new) (length old)
  filled_sized ks new same fits some few =
      rw same (keys_sized ks fits some few c (length old) ∙ ap (λ (l : List ℕ). sized l (length old)) (sym (written_filled c ks)))

  pub change_sized :
      (k : ℕ) (comment : List ℕ) → utf8 comment ≡ true
      → afresh_reply (keys_changed k comment (file_keys (take n old) f)) f old
      ≡ sized (written_image c (keys_changed k comment (file_keys (take n old) f))) (length old)
  unfolding keys_changed file_keys
  change_sized k comment utf =
      let keys = keys_in (take n old) f in
      let new = change_at (with_comment comment) (k - 1) keys in
      let long : length new ≡ length keys = change_length (with_comment comment) (k - 1) keys in
      filled_sized new _ (sym (map_change filled_key (with_comment comment) (with_comment comment) (λ x. refl) (k - 1) keys))
      (fit_changed comment utf (k - 1) keys keys_fit) (omega (arith, long, some_keys)) (omega (arith, long, few_keys))

  pub remove_sized :
      (k : ℕ) → 0 < k → k ≤ f.header.count → 1 < f.header.count
      → afresh_reply (keys_without k (file_keys (take n old) f)) f old ≡ sized (written_image c (keys_without k (file_keys (take n old) f))) (length old)
  unfolding keys_without file_keys
  remove_sized k some inside more =
      let keys = keys_in (take n old) f in
      let new = remove_at (k - 1) keys in
      let long : length new ≡ length keys - 1 = remove_length (k - 1) keys (omega (arith, some, inside, text.counted)) in
      filled_sized new _ (sym (map_remove filled_key (k - 1) keys)) (fit_removed (k - 1) keys keys_fit) (omega (arith, long, more, text.counted))
      (omega (arith, long, few_keys))

  -- of none it says 1
  pub remove_only : (k : ℕ) → 0 < k → k ≤ f.header.count → f.header.count ≡ 1 → afresh_reply (keys_without k (file_keys (take n old) f)) f old ≡ refused Length
  unfolding keys_without file_keys keys_reply
  remove_only k some inside only =
      let keys = map filled_key (keys_in (take n old) f) in
      let many : length keys ≡ 1 = length-map (keys_in (take n old) f) filled_key ∙ sym text.counted ∙ only in
      let long : length (remove_at (k - 1) keys) ≡ length keys - 1 = remove_length (k - 1) keys (omega (arith, some, inside, many, only)) in
      rw (lt-leb 1 (length (remove_at (k - 1) keys)) (omega (arith, long, many)))
