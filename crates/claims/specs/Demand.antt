-- docs/RULES.md, 16.3, the third demand: one change of a comment, whole and with the demand's own premises. A buffer begins with an accepted plain image in the form,
-- which has key k; the new comment is valid UTF-8; with it the image written afresh has at most 65,535 bytes and fits the buffer. Whatever
-- meets the contract of a change then accepts it, answers that length and leaves that image; all before the length field of key k's comment
-- stays, but the four bytes of the section's length; zeros stand from the new end to the old one; bytes past both ends stay. That the premises
-- can be met: `asked` (ShutOut), of a written image of keys of any kinds, and `relettered` there, of one.
use Rattle.std.specs.Prelude.{ℕ, ◌+◌, ◌-◌, ◌≤◌, ◌≡◌, refl, true, take, drop, Ok}
use Rattle.std.proofs.Common.{arith, ◌∙◌, length-append, length-take-le, take_at, drop_at}
use Rattle.std.proofs.Math.Path.{sym, ap}
use mathlib.Core.List.{List, [], ◌∷◌, ◌++◌, append_assoc, map}
use borrow.Author.Tests.{le-leb}
use Rattle.std.proofs.Math.ListN.{length}
use Rattle.std.proofs.Math.Seq.{slice, length-slice}
use Rattle.fields.specs.Bytes.{AllBytes, uint32, string, join}
use Rattle.fields.specs.Rest.{length-uint32}
use Rattle.utf8.specs.Utf8.{utf8}
use Rattle.format.specs.Format.{Key, filled_key, written_image, padding_length, padding_bytes}
use Rattle.format.specs.Scalars.{written_filled}
use Rattle.reader_entries.specs.declared.KeyFields.{KeyFields}
use Rattle.reader_section.specs.declared.Kind.TheVariants.{Plain}
use Rattle.reader_image.specs.declared.Fields.{Fields}
use Rattle.reader_image.specs.Container.{keys_in, read_at}
use Rattle.reader_image.specs.Form.{form_of}
use Rattle.reader_image.specs.Read.{KeysText}
use Rattle.reader_image.specs.FormLaws.{keys_of}
use Rattle.buffer.specs.Puts.{zeros}
use Rattle.writer_reply.specs.Reply.{sized, Written}
use Rattle.writer_plain.specs.Plain.{keys_reply, keys_left}
use Rattle.edit_shells.specs.Shells.{closed, padded, changed_at}
use Rattle.edit_shells.specs.Keys.{change_at, with_comment, keys_changed, map_change, change_length}
use Rattle.edit_shells.specs.Parts.{Rises}
use Rattle.edit_shells.specs.Edits.{changed_by_places}
use Rattle.edit_shells.specs.Within.{KeyPlaces}
use Rattle.edit_shells.proofs.Within.{change_rises, change_there}
use Rattle.edit_shells.specs.Sequence.{Holds, further}
use Rattle.edit_file.specs.Edits.{editable_at, file_keys, comment_field, change_reply, change_left, IsChange}
use Rattle.edit_file.specs.Stand.{image_written, found, key_places}
use Rattle.edit_file.specs.Afresh.{all_take, fit_changed, keys_sized, text, some_keys, few_keys, keys_fit}
use Rattle.laws_edits.specs.Steps.{change, step_holds, first_file, first_holds}
use Rattle.claims.specs.Reading.{sized-fits}
use Rattle.claims.specs.Change.{may_edit, held_out, writer_leaves}

-- a plain image in the form and its record: what every edit of it begins with
pub record Base (s : List ℕ) (f : Fields) : Type 0 where
  pub was_read : read_at s ≡ Ok f
  pub plain : f.section.kind ≡ Plain
  pub form : form_of s f ≡ true

module _ (old : List ℕ) (n : ℕ) (f : Fields) (k : ℕ) (comment : List ℕ) where
  -- the keys then in the file, as the writer takes them
  abbrev new_keys : List Key
  new_keys = keys_changed k comment (file_keys (take n old) f)

  -- written afresh: what the writer makes of them with the image's own checkint
  abbrev new : List ℕ
  new = written_image f.section.checkint new_keys

  -- what the demand begins with
  pub record Asked : Type 0 where
    pub bytes : AllBytes old
    pub inside : n ≤ length old
    -- the first n bytes are read as f, plain, in the form
    pub image : Base (take n old) f
    -- there is a key k
    pub some : 1 ≤ k
    pub there : k ≤ f.header.count
    pub text : utf8 comment ≡ true
    pub small : length new ≤ 65535
    pub fits : length new ≤ length old

  -- what it asks of the answer r and of the buffer out
  pub record Demanded (r : Written) (out : List ℕ) : Type 0 where
    pub answered : r ≡ Ok (length new)
    pub image : take (length new) out ≡ new
    -- the writer, lent the same buffer, answers the same and leaves the same image
    pub by_writer :
        (r ≡ keys_reply new_keys f.section.checkint (length old))
        × (take (length new) out ≡ take (length new) (keys_left new_keys f.section.checkint old))
    -- the section's length stands before the comment's, and the image has both; what stands before and between them stays
    pub order : (f.header.section + 4 ≤ comment_field (take n old) f k) × (comment_field (take n old) f k ≤ n)
    pub front : take f.header.section out ≡ take f.header.section old
    pub between : slice (f.header.section + 4) (comment_field (take n old) f k) out ≡ slice (f.header.section + 4) (comment_field (take n old) f k) old
    -- old bytes past the new end are zero; those past both ends stay
    pub zeroed : take (n - length new) (drop (length new) out) ≡ zeros (n - length new)
    pub stays : drop (length new + (n - length new)) out ≡ drop (length new + (n - length new)) old
    pub same_length : length out ≡ length old

-- ---- that it is met

string_is : (l : List ℕ) → string l ≡ uint32 (length l) ++ l
unfolding string
string_is l = refl

-- what stands in the middle of three parts
middle_part : (a b c : List ℕ) (i j : ℕ) → length a ≡ i → i + length b ≡ j → slice i j (a ++ (b ++ c)) ≡ b
middle_part a b c i j la lb =
    let whole : length (a ++ b) ≡ j = length-append a b ∙ omega (arith, la, lb) in
    ap (drop i) (ap (take j) (sym (append_assoc a b c)) ∙ take_at (a ++ b) c j whole) ∙ drop_at a b i la

-- what stands before a comment that was changed, and what stood there
module _ (old : List ℕ) (section field past end : ℕ) (comment t : List ℕ) (h : section + 4 ≤ field) (k : field ≤ length old) where
  abbrev inside : List ℕ
  inside = join (slice (section + 4) field old ∷ string comment ∷ slice past end old ∷ [])

  abbrev after : List ℕ
  after = string comment ++ (slice past end old ++ [])

  abbrev padding : List ℕ
  padding = take (padding_length (length inside)) padding_bytes

  abbrev size : List ℕ
  size = uint32 (length (inside ++ padding))

  changed_parts :
      changed_at old section field past end comment ++ t
      ≡ take section old ++ (size ++ (slice (section + 4) field old ++ (after ++ (padding ++ t))))
  unfolding changed_at closed padded
  changed_parts = ap (λ (l : List ℕ). (take section old ++ l) ++ t) (string_is (inside ++ padding)) ∙ simp append_assoc

  pub changed_front :
      (take section (changed_at old section field past end comment ++ t) ≡ take section old)
      × (slice (section + 4) field (changed_at old section field past end comment ++ t) ≡ slice (section + 4) field old)
  changed_front =
      let front = take section old in
      let middle = slice (section + 4) field old in
      let rest = after ++ (padding ++ t) in
      let front_long : length front ≡ section = length-take-le section old (omega arith) in
      let middle-long : length middle ≡ field - (section + 4) = length-slice (section + 4) field old k in
      let both : length (front ++ size) ≡ section + 4 = length-append front size ∙ omega (arith, front_long, length-uint32 (length (inside ++ padding))) in (
        ap (take section) changed_parts ∙ take_at front (size ++ (middle ++ rest)) section front_long,
        ap (slice (section + 4) field) (changed_parts ∙ sym (append_assoc front size (middle ++ rest)))
            ∙ middle_part (front ++ size) middle rest (section + 4) field both (omega (arith, middle-long)),
      )

module _ (old : List ℕ) (n : ℕ) (f : Fields) (k : ℕ) (comment : List ℕ) (h : Asked old n f k comment) where
  abbrev s : List ℕ
  s = take n old

  abbrev c : ℕ
  c = f.section.checkint

  accepted_text : KeysText s f
  accepted_text = keys_of s (all_take n old h.bytes) f h.image.was_read h.image.plain

  -- an accepted image has at most 65,535 bytes
  image_small : n ≤ 65535
  image_small = omega (arith, accepted_text.fits, length-take-le n old h.inside)

  editable_is : editable_at old n ≡ Ok f
  editable_is =
      may_edit old n f (le-leb n 65535 image_small) (le-leb n (length old) h.inside) h.image.was_read h.image.plain h.image.form

  -- the edited keys as the record has them
  same_keys : new_keys old n f k comment ≡ map filled_key (keys_changed k comment (keys_in s f))
  unfolding keys_changed file_keys
  same_keys = sym (map_change filled_key (with_comment comment) (with_comment comment) (λ x. refl) (k - 1) (keys_in s f))

  writer_answers : keys_reply (new_keys old n f k comment) c (length old) ≡ Ok (length (new old n f k comment))
  unfolding keys_changed
  writer_answers =
      let keys = keys_in s f in
      let long : length (change_at (with_comment comment) (k - 1) keys) ≡ length keys = change_length (with_comment comment) (k - 1) keys in
      let image : written_image c (change_at (with_comment comment) (k - 1) keys) ≡ new old n f k comment =
      sym (ap (written_image c) same_keys ∙ written_filled c (change_at (with_comment comment) (k - 1) keys)) in
      ap (λ (l : List Key). keys_reply l c (length old)) same_keys
      ∙ keys_sized (change_at (with_comment comment) (k - 1) keys) (fit_changed comment h.text (k - 1) keys (keys_fit old h.bytes n f editable_is))
      (omega (arith, long, some_keys old h.bytes n f editable_is)) (omega (arith, long, few_keys old h.bytes n f editable_is)) c (length old)
      ∙ ap (λ (l : List ℕ). sized l (length old)) image
      ∙ sized-fits (new old n f k comment) (length old) h.small h.fits

  accepts : change_reply old n k comment ≡ Ok (length (new old n f k comment))
  unfolding change_reply
  accepts = rw (editable_is, le-leb 1 k h.some, le-leb k f.header.count h.there, h.text) writer_answers

  -- the buffer holds the new image
  held : Holds c old (new_keys old n f k comment) (length (new old n f k comment)) (further n (length (new old n f k comment))) (change_left old n k comment)
  unfolding file_keys
  held =
      step_holds c old (keys_in s f) (first_file old h.bytes n f editable_is) n n old (first_holds old h.bytes n f editable_is) (change k comment)
      (length (new old n f k comment)) accepts

  -- where key k stands
  abbrev key : KeyFields
  key = (found s f accepted_text h.image.plain h.image.form k h.some h.there).fields

  abbrev field : ℕ
  field = key.comment.start - 4

  abbrev past : ℕ
  past = key.comment.start + key.comment.length

  abbrev end : ℕ
  end = length s - f.section.padding

  places : KeyPlaces (keys_in s f) k (key.blob.start - 4) (key.blob.start + key.blob.length) f.header.section key.begins field past end
  places = key_places s f accepted_text h.image.plain h.image.form k h.some h.there

  field_is : comment_field s f k ≡ field
  field_is = rw (found s f accepted_text h.image.plain h.image.form k h.some h.there).looked

  image_is : take n old ≡ written_image c (keys_in s f)
  image_is = image_written s f accepted_text h.image.plain h.image.form

  few : k ≤ length (keys_in s f)
  few = omega (arith, h.there, accepted_text.counted)

  in_order : Rises 0 (changed_by_places f.header.section field past end ++ n ∷ length old ∷ [])
  in_order = change_rises c (keys_in s f) old n image_is h.inside image_small k h.some few _ _ _ _ _ _ _ places

  new_is : new old n f k comment ≡ changed_at old f.header.section field past end comment
  new_is =
      ap (written_image c) same_keys ∙ written_filled c (keys_changed k comment (keys_in s f))
      ∙ sym (change_there c (keys_in s f) old n image_is h.inside image_small k h.some few _ _ _ _ _ _ _ places comment)

  definition_demanded : Demanded old n f k comment (change_reply old n k comment) (change_left old n k comment)
  definition_demanded =
      let image = new old n f k comment in
      let m = length image in
      let tail = zeros (further n m - m) ++ drop (further n m) old in
      let out = change_left old n k comment in
      let r = in_order in
      let whole : out ≡ changed_at old f.header.section field past end comment ++ tail = held.whole ∙ ap (λ (l : List ℕ). l ++ tail) new_is in
      let front = changed_front old f.header.section field past end comment tail r.1.0 (omega (arith, r.1.1, r.1.1.1)) in
      let o = held_out c old (new_keys old n f k comment) n m out held in
      record {
        answered = accepts;
        image = o.0;
        by_writer = (accepts ∙ sym writer_answers, o.0 ∙ sym (writer_leaves (new_keys old n f k comment) c old m writer_answers refl h.fits));
        order = rw field_is (r.1.0, omega (arith, r.1.1, r.1.1.1, r.1.1.1.1));
        front = ap (take f.header.section) whole ∙ front.0;
        between = rw field_is (ap (slice (f.header.section + 4) field) whole ∙ front.1);
        zeroed = o.1;
        stays = o.2;
        same_length = o.3;
      }

  -- whatever meets the contract
  pub demand_three : (r : Written) (out : List ℕ) → IsChange old n k comment r out → Demanded old n f k comment r out
  demand_three r out meets = rw (meets.0, meets.1) definition_demanded
