-- docs/RULES.md, 7.3 to 7.5 and 18.8, of every entry that takes a lent buffer, and whatever answer meets its promise: a writer's refusal is at 0, and so
-- are export's, import's and a setting's; a rewrite's and a comment change's is where the reader refused, a new comment's 7 is at the old comment's field, and what
-- is about the whole image is at 0. An answer that refuses nothing gives 0 too.
use Rattle.std.specs.Prelude.{ℕ, zero, suc, ◌+◌, ◌-◌, ◌%◌, ◌≤◌, ◌<◌, ◌≡◌, refl, Bool, true, false, cond, ◌&&◌, not, List, [], ◌∷◌, ◌++◌, map, eqb, leb, ltb, length, take, Result, Ok, Err, Option, Some, None}
use Rattle.std.proofs.Common.{arith, ◌∙◌, ap, ne_eqb, leb-true, ltb-false, length-take-le}
use Rattle.fields.specs.Bytes.{AllBytes, both_true}
use Rattle.fields.specs.Fields.{whole}
use Rattle.fields.specs.Place.{by_bool}
use Rattle.fields.specs.Refusals.{number_of}
use Rattle.fields.specs.declared.Refusal.{Refusal}
use Rattle.fields.specs.declared.Refusal.TheVariants.{Length, FormatEncoding, Crypto, AlgorithmUnknown, CharacterEncoding, Encrypted, Room, Form, Size}
use Rattle.names.specs.declared.Algorithm.{Algorithm}
use Rattle.names.specs.declared.Algorithm.TheVariants.{Elliptic as OnCurve, Rsa}
use Rattle.names.specs.declared.Cipher.{Cipher}
use Rattle.names.specs.declared.Kdf.{Kdf}
use Rattle.names.specs.Ciphers.{is_none, block_size, tag_length}
use Rattle.names_codes.specs.Codes.{algorithm_coded, cipher_coded, kdf_coded}
use Rattle.utf8.specs.Utf8.{utf8}
use Rattle.format.specs.Format.{PublicBytes, PrivateBytes, Key, filled_key, public_length, private_length, point_tag, not_zero, of_point, of_scalar, of_modulus, of_numbers, written_image, encrypted_image, alone, entry, key_of, Entry as FormatEntry, standing_entries, key_blob, section}
use Rattle.format.proofs.Laws.{section-length}
use Rattle.format.specs.Lengths.{blobs_length, entries_length}
use Rattle.format.proofs.Lengths.{content-length, plain_length, plain_header-length}
use Rattle.key_material.specs.Material.{public_of, private_of, checkint_of}
use Rattle.key_public.specs.Keys.{on_algorithm_name, on_algorithm, blob_at}
use Rattle.laws_keys.specs.Read.{by_algorithm}
use Rattle.reader_header.specs.Place.{by_cipher_name, by_kdf_name}
use Rattle.reader_blobs.specs.Read.{by_blob}
use Rattle.reader_section.specs.declared.Kind.{Kind}
use Rattle.reader_section.specs.declared.Kind.TheVariants.{Plain, Encrypted as Sealed}
use Rattle.reader_image.specs.declared.Fields.{Fields}
use Rattle.reader_image.specs.Container.{on_read, read_at, keys_in}
use Rattle.reader_image.specs.Read.{KeysText, ImageText, plain_text, encrypted_text, image_text}
use Rattle.reader_keys.specs.Keys.{key_numbered}
use Rattle.reader_keys.specs.Found.{key_lies}
use Rattle.reader_image.specs.Form.{on_kind, form_of}
use Rattle.reader_image.specs.FormLaws.{by_read}
use Rattle.handed_record.specs.Judge.{is_read}
use Rattle.writer_reply.specs.Reply.{told, unless, sized, Answers, Written}
use Rattle.buffer.specs.Puts.{fits}
use Rattle.writer_plain.specs.Plain.{all_mpints, sizes_fit, key_checked, keys_checked, keys_reply, plain_reply, plain_alone}
use Rattle.writer_encrypted.specs.Encrypted.{options_fit, encrypted_reply}
use Rattle.writer_again.specs.Rewrite.{plain_again, record_reply, rewrite_reply, handed_reply, reply_plain}
use Rattle.writer_table.specs.Table.{code_known, rows, every, table_fits, table_checked}
use Rattle.writer_keys.specs.Named.{named_keys, named_reply, first_private}
use Rattle.writer_listed.specs.Listed.{listed_keys}
use Rattle.edit_shells.specs.Parts.{rises}
use Rattle.edit_shells.specs.Edits.{changed_by_places, removed_by_places, added_by_places, edit_reply}
use Rattle.edit_shells.specs.Keys.{keys_without, keys_with}
use Rattle.edit_file.specs.Edits.{on_editable, refused_whole, record_editable, editable_at, file_keys, has_key, comment_field, change_reply, remove_reply, add_reply}
use Rattle.edit_file.specs.Afresh.{all_take, change_sized}
use Rattle.report_parts.specs.Parts.{text_reply}
use Rattle.inspect_report.specs.Report.{report_of, report_reply}
use Rattle.keys_report.specs.Lines.{keys_report}
use Rattle.armour_text.specs.Text.{text, export_reply}
use Rattle.armour_text.specs.Import.{carried, carries, import_reply}
use Rattle.setting_record.specs.Packing.{pack_of}
use Rattle.setting_record.specs.Record.{packed_reply}
use Rattle.setting_store.specs.Store.{has_place}
use Rattle.setting_store.specs.Move.{known, fitting, all_places, move_reply}
use Rattle.c_reply.specs.Replies.{reply_of, names_nothing, AnswersC}
use Rattle.c_reply.specs.declared.Reply.{Reply}
use Rattle.c_writing.specs.Coded.{checkint_for, coded_plain_reply, coded_encrypted_reply}
use Rattle.c_add.specs.Added.{coded_add_reply}
use Rattle.laws_places.specs.Read.{read_said}
use Rattle.claims.specs.Places.{place_within}
use Rattle.claims.specs.Change.{may_edit}
use Rattle.claims.specs.Refusals.{by_kind, Entry, write_key, write_parts, write_numbers, write_rsa, write_plain, write_encrypted, rewrite, rewrite_record, recorded_rewrite, write_listed, write_keys, write_named, change_comment, change_comment_of, remove_key, add_key, add_rsa, change_places, remove_places, open_places, curve_key, rsa_key, hand_text, write_report, write_keys_report, export, import, write_setting, store_put, store_move, Promise, EntryC, saltorchard_write_plain, saltorchard_write_rsa, saltorchard_write_encrypted, saltorchard_rewrite, saltorchard_write_keys, saltorchard_change_comment, saltorchard_change_comment_of, saltorchard_add_key, saltorchard_add_rsa, saltorchard_remove_key, saltorchard_export, saltorchard_import, saltorchard_write_setting, saltorchard_store_put, saltorchard_store_move, PromiseC}

-- ---- the place by the reply's number

-- where the reader refused; 0 where it did not
unfoldable pub reader_place : List ℕ → ℕ
reader_place s = on_read (read_at s) (λ g. g.at) (λ f. 0)

-- an edit: a length above the limit or the buffer's is about the whole image; then the reader's refusals; then those of an accepted image
unfoldable pub edit_place : List ℕ → ℕ → (Fields → ℕ → ℕ) → ℕ → ℕ
edit_place old n accepted number =
    cond (leb n 65535 && leb n (length old)) (on_read (read_at (take n old)) (λ g. g.at) (λ f. accepted f number)) 0

-- an accepted image's refusal to change a comment: key k's comment's field for a 7, else 0
abbrev pub accepted_place : List ℕ → ℕ → Fields → ℕ → ℕ
accepted_place s k f number = cond (eqb number 7) (comment_field s f k) 0

abbrev pub change_place : List ℕ → ℕ → ℕ → ℕ → ℕ
change_place old n k number = edit_place old n (accepted_place (take n old) k) number

-- and to have a key removed or added: 0
abbrev pub whole_place : List ℕ → ℕ → ℕ → ℕ
whole_place old n number = edit_place old n (λ f m. 0) number

abbrev pub place_of : Entry → List ℕ → ℕ → ℕ
place_of (write_key a key x checkint comment) old number = 0
place_of (write_parts e point scalar checkint comment) old number = 0
place_of (write_numbers n e d iqmp p q checkint comment) old number = 0
place_of (write_rsa n e d iqmp p q given comment) old number = 0
place_of (write_plain m given comment) old number = 0
place_of (write_encrypted cipher k salt rounds blob ciphertext tag) old number = 0
place_of (rewrite s) old number = reader_place s
place_of (rewrite_record s f) old number = 0
place_of (recorded_rewrite s f) old number = 0
place_of (write_listed s f) old number = 0
place_of (write_keys text table given) old number = 0
place_of (write_named text table checkint) old number = 0
place_of (change_comment n comment) old number = change_place old n 1 number
place_of (change_comment_of n k comment) old number = change_place old n k number
place_of (remove_key n k) old number = whole_place old n number
place_of (add_key n e public private comment) old number = whole_place old n number
place_of (add_rsa n m e d iqmp p q comment) old number = whole_place old n number
place_of (change_places n section field past end comment) old number = 0
place_of (remove_places n count blob after section pair past end) old number = 0
place_of (open_places n count section end blob own) old number = 0
place_of (hand_text text) old number = 0
place_of (write_report s) old number = 0
place_of (write_keys_report s) old number = 0
place_of (export b) old number = 0
place_of (import t) old number = 0
place_of (write_setting version kind ms) old number = 0
place_of (store_put device version kind ms) old number = 0
place_of store_move old number = 0

-- a code that names nothing is about no image
abbrev pub coded_place : List ℕ → ℕ → Option Algorithm → ℕ → ℕ
coded_place old n None number = 0
coded_place old n (Some (OnCurve e)) number = whole_place old n number
coded_place old n (Some Rsa) number = 0

abbrev pub place_of_c : EntryC → List ℕ → ℕ → ℕ
place_of_c (saltorchard_write_plain code public private derive checkint comment) old number = 0
place_of_c (saltorchard_write_rsa n e d iqmp p q derive checkint comment) old number = 0
place_of_c (saltorchard_write_encrypted cipher k salt rounds blob ciphertext tag) old number = 0
place_of_c (saltorchard_rewrite s) old number = reader_place s
place_of_c (saltorchard_write_keys table text derive checkint) old number = 0
place_of_c (saltorchard_change_comment n comment) old number = change_place old n 1 number
place_of_c (saltorchard_change_comment_of n k comment) old number = change_place old n k number
place_of_c (saltorchard_add_key n code public private comment) old number = coded_place old n (algorithm_coded code) number
place_of_c (saltorchard_add_rsa n m e d iqmp p q comment) old number = whole_place old n number
place_of_c (saltorchard_remove_key n k) old number = whole_place old n number
place_of_c (saltorchard_export b) old number = 0
place_of_c (saltorchard_import t) old number = 0
place_of_c (saltorchard_write_setting version kind ms) old number = 0
place_of_c (saltorchard_store_put device version kind ms) old number = 0
place_of_c saltorchard_store_move old number = 0

-- ---- each by itself

-- an answer's place is this, by its number
abbrev At : (ℕ → ℕ) → Written → Type 0
At place (Err g) = g.at ≡ place (number_of g.why)
At place (Ok n) = 0 ≡ place 0

abbrev nowhere : ℕ → ℕ
nowhere number = 0

-- one condition after another: a refusal at 0, and then what comes next
unless_at : (place : ℕ → ℕ) (b : Bool) (why : Refusal) (next : Written) → 0 ≡ place (number_of why) → At place next → At place (unless b why next)
unless_at place true why next none h = h
unless_at place false why next none h = none

sized_at : (place : ℕ → ℕ) (image : List ℕ) (room : ℕ) → 0 ≡ place 0 → 0 ≡ place 9 → 0 ≡ place 11 → At place (sized image room)
unfolding sized
sized_at place image room none nine eleven =
    unless_at place (leb (length image) 65535) Size (unless (leb (length image) room) Room (Ok (length image))) eleven
    (unless_at place (leb (length image) room) Room (Ok (length image)) nine none)

key_at_lem :
    (place : ℕ → ℕ) (a : Algorithm) (key : PublicBytes) (x : PrivateBytes) (next : Written) → 0 ≡ place 1 → 0 ≡ place 2 → At place next
    → At place (key_checked a key x next)
unfolding key_checked
key_at_lem place (OnCurve e) key x next one two h =
    let long = eqb (length x.scalar) (private_length e) in
    let tag = point_tag e key.point in
    let some = not_zero e x.scalar in
    let last = unless some FormatEncoding next in
    unless_at place (eqb (length key.point) (public_length e)) Length (unless long Length (unless tag FormatEncoding last)) one
    (unless_at place long Length (unless tag FormatEncoding last) one
    (unless_at place tag FormatEncoding last two
    (unless_at place some FormatEncoding next two h)))
key_at_lem place Rsa key x next one two h =
    unless_at place (all_mpints key x) FormatEncoding (unless (sizes_fit key x) Length next) two
    (unless_at place (sizes_fit key x) Length next one h)

-- each key in order, and then
checked_at : (keys : List Key) (next : Written) → At nowhere next → At nowhere (keys_checked keys next)
unfolding keys_checked
checked_at [] next h = h
checked_at (k ∷ keys) next h =
    key_at_lem nowhere k.algorithm k.public k.private (unless (utf8 k.comment) CharacterEncoding (keys_checked keys next)) refl refl
    (unless_at nowhere (utf8 k.comment) CharacterEncoding (keys_checked keys next) refl (checked_at keys next h))

keys_at_lem : (keys : List Key) (n room : ℕ) → At nowhere (keys_reply keys n room)
unfolding keys_reply
keys_at_lem keys n room =
    let image = written_image n keys in
    unless_at nowhere (leb 1 (length keys) && leb (length keys) 16) Length (keys_checked keys (sized image room)) refl
    (checked_at keys (sized image room) (sized_at nowhere image room refl refl refl))

plain_at : (a : Algorithm) (key : PublicBytes) (x : PrivateBytes) (n : ℕ) (comment : List ℕ) (room : ℕ) → At nowhere (plain_reply a key x n comment room)
plain_at a key x n comment room = rw (plain_alone a key x n comment room) (keys_at_lem (alone (key_of a key x comment)) n room)

encrypted_at_lem :
    (cipher : Cipher) (k : Kdf) (salt : List ℕ) (rounds : ℕ) (key ciphertext tag : List ℕ) (room : ℕ)
    → At nowhere (encrypted_reply cipher k salt rounds key ciphertext tag room)
unfolding encrypted_reply
encrypted_at_lem cipher k salt rounds key ciphertext tag room =
    let image = encrypted_image cipher k salt rounds key ciphertext tag in
    let last = unless (eqb (length tag) (tag_length cipher)) Length (sized image room) in
    unless_at nowhere (not (is_none cipher)) Crypto _ refl
    (unless_at nowhere (options_fit k salt rounds) Crypto _ refl
    (by_blob (blob_at key (whole key))
    (λ f w. rw w refl)
    (λ a point w.
    rw w
    (unless_at nowhere (eqb (length ciphertext % block_size cipher) 0) Crypto last refl
    (unless_at nowhere (eqb (length tag) (tag_length cipher)) Length (sized image room) refl (sized_at nowhere image room refl refl refl))))))

record_at_lem : (s : List ℕ) (f : Fields) (room : ℕ) → At nowhere (record_reply s f room)
unfolding record_reply plain_again
record_at_lem s f room =
    by_kind f.section.kind
    (λ k. rw (reply_plain s f k room) (keys_at_lem (map filled_key (keys_in s f)) f.section.checkint room))
    (λ k. rw k (encrypted_at_lem _ _ _ _ _ _ _ room))

rewrite_at : (s : List ℕ) (room : ℕ) → At (λ number. reader_place s) (rewrite_reply s room)
unfolding rewrite_reply reader_place
rewrite_at s room =
    by_read (read_at s)
    (λ g e. rw e refl)
    (λ f e. rw e (record_at_lem s f room))

handed_at : (s : List ℕ) (f : Fields) (room : ℕ) → At nowhere (handed_reply s f room)
unfolding handed_reply
handed_at s f room = unless_at nowhere (is_read s f) Length (record_reply s f room) refl (record_at_lem s f room)

-- the same place, said otherwise
at_same : (place other : ℕ → ℕ) (w : Written) → ((number : ℕ) → place number ≡ other number) → At place w → At other w
at_same place other (Err g) same h = h ∙ same (number_of g.why)
at_same place other (Ok n) same h = h ∙ same 0

-- ---- the edits

named_at : (filling : Bool) (text table : List ℕ) (checkint room : ℕ) → At nowhere (named_reply filling text table checkint room)
unfolding named_reply table_checked
named_at filling text table checkint room =
    unless_at nowhere (table_fits text table) Length _ refl
    (unless_at nowhere (every (code_known table) (rows table)) AlgorithmUnknown _ refl (keys_at_lem (named_keys filling text table) checkint room))

-- at places that are handed in
edit_reply_at : (places : List ℕ) (size n room : ℕ) → At nowhere (edit_reply places size n room)
unfolding edit_reply
edit_reply_at places size n room =
    unless_at nowhere (leb n 65535) Size _ refl
    (unless_at nowhere (rises 0 (places ++ n ∷ room ∷ [])) Length _ refl
    (unless_at nowhere (leb size 65535) Size _ refl
    (unless_at nowhere (leb size room) Room (Ok size) refl refl)))

judged_at :
    (place : ℕ → ℕ) (f : Fields) (k : Kind) (form : Bool) (answer : Fields → Written) → 0 ≡ place 8 → 0 ≡ place 10 → (k ≡ Plain → form ≡ true → At place (answer f))
    → At place (on_editable (on_kind k (cond form (Ok f) (refused_whole Form)) (refused_whole Encrypted)) Err answer)
judged_at place f Plain true answer eight ten h = h refl refl
judged_at place f Plain false answer eight ten h = ten
judged_at place f Sealed form answer eight ten h = eight

-- the tests that all edits have in common
module _ (old : List ℕ) (n : ℕ) (accepted : Fields → ℕ → ℕ) where
  place_large : (number : ℕ) → leb n 65535 ≡ false → 0 ≡ edit_place old n accepted number
  unfolding edit_place
  place_large number large = rw large

  place_outside : (number : ℕ) → leb n 65535 ≡ true → leb n (length old) ≡ false → 0 ≡ edit_place old n accepted number
  unfolding edit_place
  place_outside number small outside = rw (small, outside)

  place_reads :
      (number : ℕ) → leb n 65535 ≡ true → leb n (length old) ≡ true
      → on_read (read_at (take n old)) (λ g. g.at) (λ f. accepted f number) ≡ edit_place old n accepted number
  unfolding edit_place
  place_reads number small inside = rw (small, inside)

  edit_at :
      (answer : Fields → Written) → ((f : Fields) → 0 ≡ accepted f 8) → ((f : Fields) → 0 ≡ accepted f 10)
      → ((f : Fields) → editable_at old n ≡ Ok f → At (accepted f) (answer f))
      → At (edit_place old n accepted) (on_editable (editable_at old n) Err answer)
  unfolding editable_at record_editable
  edit_at answer eight ten h =
      by_bool (leb n 65535)
      (λ small.
      rw small
      (by_bool (leb n (length old))
      (λ inside.
      rw inside
      (by_read (read_at (take n old))
      (λ g e. rw e (rw e at (place_reads (number_of g.why) small inside)))
      (λ f e.
      rw e
      (at_same (accepted f) (edit_place old n accepted)
      (on_editable (on_kind f.section.kind (cond (form_of (take n old) f) (Ok f) (refused_whole Form)) (refused_whole Encrypted)) Err answer)
      (λ number. rw e at (place_reads number small inside))
      (judged_at (accepted f) f f.section.kind (form_of (take n old) f) answer (eight f) (ten f)
      (λ plain form. h f (may_edit old n f small inside e plain form)))))))
      (λ outside. rw outside (place_outside 1 small outside))))
      (λ large. rw large (place_large 11 large))

change_at_lem : (old : List ℕ) → AllBytes old → (n k : ℕ) (comment : List ℕ) → At (change_place old n k) (change_reply old n k comment)
unfolding change_reply
change_at_lem old all n k comment =
    edit_at old n (accepted_place (take n old) k) _ (λ f. refl) (λ f. refl)
    (λ f w.
    unless_at (accepted_place (take n old) k f) (has_key f k) Length _ refl
    (by_bool (utf8 comment)
    (λ u. rw (u, change_sized old all n f w k comment u) (sized_at (accepted_place (take n old) k f) _ (length old) refl refl refl))
    (λ u. rw u refl)))

remove_at_lem : (old : List ℕ) (n k : ℕ) → At (whole_place old n) (remove_reply old n k)
unfolding remove_reply
remove_at_lem old n k =
    edit_at old n (λ f m. 0) _ (λ f. refl) (λ f. refl)
    (λ f w. unless_at nowhere (has_key f k) Length _ refl (keys_at_lem (keys_without k (file_keys (take n old) f)) f.section.checkint (length old)))

add_at : (old : List ℕ) (n : ℕ) (key : Key) → At (whole_place old n) (add_reply old n key)
unfolding add_reply
add_at old n key =
    edit_at old n (λ f m. 0) _ (λ f. refl) (λ f. refl)
    (λ f w. keys_at_lem (keys_with key (file_keys (take n old) f)) f.section.checkint (length old))

coded_add_at :
    (old : List ℕ) (n code : ℕ) (public private comment : List ℕ)
    → At (coded_place old n (algorithm_coded code)) (coded_add_reply old n code public private comment)
unfolding coded_add_reply
coded_add_at old n code public private comment = by_name (algorithm_coded code)
  where
    by_name :
        (name : Option Algorithm)
        → At (coded_place old n name)
        (on_algorithm_name name names_nothing (λ a. on_algorithm a (λ e. add_reply old n (curve_key e public private comment)) names_nothing))
    by_name None = refl
    by_name (Some (OnCurve e)) = add_at old n (curve_key e public private comment)
    by_name (Some Rsa) = refl

text_at : (text old : List ℕ) → At nowhere (text_reply text old)
text_at text old = unless_at nowhere (fits old 0 text) Room (Ok (length text)) refl refl

report_at : (s old : List ℕ) → At nowhere (report_reply s old)
unfolding report_reply
report_at s old = text_at (report_of s) old

export_at : (b : List ℕ) (room : ℕ) → At nowhere (export_reply b room)
unfolding export_reply
export_at b room =
    let fits = leb (length (text b)) room in
    unless_at nowhere (leb (length b) 65535) Size (unless fits Room (Ok (length (text b)))) refl
    (unless_at nowhere fits Room (Ok (length (text b))) refl refl)

import_at : (t : List ℕ) (room : ℕ) → At nowhere (import_reply t room)
unfolding import_reply
import_at t room =
    by_bool (carries t)
    (λ e. rw e (sized_at nowhere (carried t) room refl refl refl))
    (λ e. rw e refl)

packed_at : (ok : Bool) (p : Result ℕ Refusal) (size : ℕ) → At nowhere (packed_reply ok p size)
unfolding packed_reply
packed_at false p size = refl
packed_at true (Err why) size = refl
packed_at true (Ok n) size = refl

move_at : (s : List ℕ) → At nowhere (move_reply s)
unfolding move_reply
move_at s =
    let done = Ok 128 in
    let fit = all_places fitting 32 s in
    let known = all_places known 32 s in
    unless_at nowhere (eqb (length s) 128) Length (unless known AlgorithmUnknown (unless fit Size done)) refl
    (unless_at nowhere known AlgorithmUnknown (unless fit Size done) refl
    (unless_at nowhere fit Size done refl refl))

coded_plain_at :
    (code : ℕ) (public private : List ℕ) (checkint : ℕ) (comment : List ℕ) (room : ℕ)
    → At nowhere (coded_plain_reply code public private checkint comment room)
unfolding coded_plain_reply
coded_plain_at code public private checkint comment room =
    by_algorithm (algorithm_coded code)
    (λ w. rw w refl)
    (λ a w. rw w (by_kind_of a))
  where
    by_kind_of :
        (a : Algorithm)
        → At nowhere (on_algorithm a (λ e. plain_reply (OnCurve e) (of_point public) (of_scalar private) checkint comment room) names_nothing)
    by_kind_of (OnCurve e) = plain_at (OnCurve e) (of_point public) (of_scalar private) checkint comment room
    by_kind_of Rsa = refl

coded_encrypted_at :
    (cipher k : ℕ) (salt : List ℕ) (rounds : ℕ) (blob ciphertext tag : List ℕ) (room : ℕ)
    → At nowhere (coded_encrypted_reply cipher k salt rounds blob ciphertext tag room)
unfolding coded_encrypted_reply
coded_encrypted_at cipher k salt rounds blob ciphertext tag room =
    by_cipher_name (cipher_coded cipher)
    (λ w. rw w refl)
    (λ c w.
    rw w
    (by_kdf_name (kdf_coded k)
    (λ v. rw v refl)
    (λ d v. rw v (encrypted_at_lem c d salt rounds blob ciphertext tag room))))

-- ---- the claims

told_by : (place : ℕ → ℕ) (w r : Written) → At place w → r ≡ w → (told r).at ≡ place (told r).number
unfolding told
told_by place (Err g) r h e = rw e h
told_by place (Ok n) r h e = rw e h

told_at : (place : ℕ → ℕ) (w r : Written) (after out : List ℕ) → At place w → Answers w after r out → (told r).at ≡ place (told r).number
told_at place w r after out h p = told_by place w r h p.0

-- whatever answer meets an entry's promise, its place is the entry's, by the number
pub place_said :
    (entry : Entry) (old : List ℕ) → AllBytes old → (r : Written) (out : List ℕ) → Promise entry old r out → (told r).at ≡ place_of entry old (told r).number
place_said (write_key a key x checkint comment) old all r out p =
    told_at nowhere _ r _ out (plain_at a key x checkint comment (length old)) p
place_said (write_parts e point scalar checkint comment) old all r out p =
    told_at nowhere _ r _ out (plain_at (OnCurve e) (of_point point) (of_scalar scalar) checkint comment (length old)) p
place_said (write_numbers n e d iqmp p q checkint comment) old all r out promise =
    told_at nowhere _ r _ out (plain_at Rsa (of_modulus n e) (of_numbers d iqmp p q) checkint comment (length old)) promise
place_said (write_rsa n e d iqmp p q given comment) old all r out promise =
    told_at nowhere _ r _ out (plain_at Rsa (of_modulus n e) (of_numbers d iqmp p q) (checkint_of given d) comment (length old)) promise
place_said (write_plain m given comment) old all r out p =
    told_at nowhere _ r _ out
    (plain_at (OnCurve m.algorithm) (of_point (public_of m)) (of_scalar (private_of m)) (checkint_of given (private_of m)) comment (length old)) p
place_said (write_encrypted cipher k salt rounds blob ciphertext tag) old all r out p =
    told_at nowhere _ r _ out (encrypted_at_lem cipher k salt rounds blob ciphertext tag (length old)) p
place_said (rewrite s) old all r out p = told_at (λ number. reader_place s) _ r _ out (rewrite_at s (length old)) p
place_said (rewrite_record s f) old all r out p = told_at nowhere _ r _ out (handed_at s f (length old)) p
place_said (recorded_rewrite s f) old all r out p = told_at nowhere _ r _ out (handed_at s f (length old)) p
place_said (write_listed s f) old all r out p = told_at nowhere _ r _ out (keys_at_lem (listed_keys s f) f.section.checkint (length old)) p
place_said (write_keys text table given) old all r out p =
    told_at nowhere _ r _ out (named_at false text table (checkint_of given (first_private text table)) (length old)) p
place_said (write_named text table checkint) old all r out p = told_at nowhere _ r _ out (named_at true text table checkint (length old)) p
place_said (change_comment n comment) old all r out p = told_at (change_place old n 1) _ r _ out (change_at_lem old all n 1 comment) p
place_said (change_comment_of n k comment) old all r out p = told_at (change_place old n k) _ r _ out (change_at_lem old all n k comment) p
place_said (remove_key n k) old all r out p = told_at (whole_place old n) _ r _ out (remove_at_lem old n k) p
place_said (add_key n e public private comment) old all r out p = told_at (whole_place old n) _ r _ out (add_at old n (curve_key e public private comment)) p
place_said (add_rsa n m e d iqmp x y comment) old all r out p = told_at (whole_place old n) _ r _ out (add_at old n (rsa_key m e d iqmp x y comment)) p
place_said (change_places n section field past end comment) old all r out p =
    told_by nowhere _ r (edit_reply_at (changed_by_places section field past end) _ n (length old)) p.0
place_said (remove_places n count blob after section pair past end) old all r out p =
    told_by nowhere _ r (edit_reply_at (removed_by_places blob after section pair past end) _ n (length old)) p.0
place_said (open_places n count section end blob own) old all r out p = told_by nowhere _ r (edit_reply_at (added_by_places section end) _ n (length old)) p.0
place_said (hand_text text) old all r out p = told_at nowhere _ r _ out (text_at text old) p
place_said (write_report s) old all r out p = told_at nowhere _ r _ out (report_at s old) p.0
place_said (write_keys_report s) old all r out p = told_at nowhere _ r _ out (text_at (keys_report s) old) p.0
place_said (export b) old all r out p = told_at nowhere _ r _ out (export_at b (length old)) p
place_said (import t) old all r out p = told_at nowhere _ r _ out (import_at t (length old)) p
place_said (write_setting version kind ms) old all r out p =
    told_at nowhere _ r _ out (packed_at (eqb (length old) 4) (pack_of version kind ms) 4) p
place_said (store_put device version kind ms) old all r out p =
    told_at nowhere _ r _ out (packed_at (has_place old device) (pack_of version kind ms) 128) p
place_said store_move old all r out p = told_at nowhere _ r _ out (move_at old) p

told_at_c : (place : ℕ → ℕ) (w : Written) (r : Reply) (after out : List ℕ) → At place w → AnswersC w after r out → r.at ≡ place r.number
unfolding reply_of told
told_at_c place (Err g) r after out h p = rw p.0 h
told_at_c place (Ok n) r after out h p = rw p.0 h

pub place_said_c :
    (entry : EntryC) (old : List ℕ) → AllBytes old → (r : Reply) (out : List ℕ) → PromiseC entry old r out → r.at ≡ place_of_c entry old r.number
place_said_c (saltorchard_write_plain code public private derive checkint comment) old all r out p =
    told_at_c nowhere _ r _ out (coded_plain_at code public private (checkint_for derive checkint private) comment (length old)) p
place_said_c (saltorchard_write_rsa n e d iqmp p q derive checkint comment) old all r out promise =
    told_at_c nowhere _ r _ out (plain_at Rsa (of_modulus n e) (of_numbers d iqmp p q) (checkint_for derive checkint d) comment (length old)) promise
place_said_c (saltorchard_write_encrypted cipher k salt rounds blob ciphertext tag) old all r out p =
    told_at_c nowhere _ r _ out (coded_encrypted_at cipher k salt rounds blob ciphertext tag (length old)) p
place_said_c (saltorchard_rewrite s) old all r out p = told_at_c (λ number. reader_place s) _ r _ out (rewrite_at s (length old)) p
place_said_c (saltorchard_write_keys table text derive checkint) old all r out p =
    told_at_c nowhere _ r _ out (named_at false text table (checkint_for derive checkint (first_private text table)) (length old)) p
place_said_c (saltorchard_change_comment n comment) old all r out p = told_at_c (change_place old n 1) _ r _ out (change_at_lem old all n 1 comment) p
place_said_c (saltorchard_change_comment_of n k comment) old all r out p = told_at_c (change_place old n k) _ r _ out (change_at_lem old all n k comment) p
place_said_c (saltorchard_add_key n code public private comment) old all r out p =
    told_at_c (coded_place old n (algorithm_coded code)) _ r _ out (coded_add_at old n code public private comment) p
place_said_c (saltorchard_add_rsa n m e d iqmp x y comment) old all r out p =
    told_at_c (whole_place old n) _ r _ out (add_at old n (rsa_key m e d iqmp x y comment)) p
place_said_c (saltorchard_remove_key n k) old all r out p = told_at_c (whole_place old n) _ r _ out (remove_at_lem old n k) p
place_said_c (saltorchard_export b) old all r out p = told_at_c nowhere _ r _ out (export_at b (length old)) p
place_said_c (saltorchard_import t) old all r out p = told_at_c nowhere _ r _ out (import_at t (length old)) p
place_said_c (saltorchard_write_setting version kind ms) old all r out p =
    told_at_c nowhere _ r _ out (packed_at (eqb (length old) 4) (pack_of version kind ms) 4) p
place_said_c (saltorchard_store_put device version kind ms) old all r out p =
    told_at_c nowhere _ r _ out (packed_at (has_place old device) (pack_of version kind ms) 128) p
place_said_c saltorchard_store_move old all r out p = told_at_c nowhere _ r _ out (move_at old) p

-- and these places too are within the image or at its end
pub reader_place_within : (s : List ℕ) → reader_place s ≤ length s
unfolding reader_place
reader_place_within s =
    by_read (read_at s)
    (λ g e. rw e (place_within s g e))
    (λ f e. rw e (omega arith))

taken_less : (i : ℕ) (l : List FormatEntry) → entries_length (take i l) ≤ entries_length l
taken_less zero l = omega arith
taken_less (suc i) [] = omega arith
taken_less (suc i) (e ∷ l) = omega (arith, taken_less i l)

-- a key's comment is within the image
other_within : (s : List ℕ) (f : Fields) → KeysText s f → (k : ℕ) → 0 < k → k ≤ f.header.count → comment_field s f k ≤ length s
other_within s f p k some there =
    let h = key_lies s f p k some there in
    let keys = keys_in s f in
    let entries = standing_entries (p.zeros ∷ p.more_zeros) keys in
    let c = f.section.checkint in
    let long : length s ≡ 43 + blobs_length (map key_blob keys) + length (section c entries) = ap length p.text ∙ plain_length c (map key_blob keys) entries in
    let from : f.header.section ≡ 39 + blobs_length (map key_blob keys) = p.section_place ∙ plain_header-length (map key_blob keys) in
    rw h.looked
    (omega (arith, h.lies.past_is, taken_less (suc (k - 1)) entries, long, from, section-length c entries, content-length c entries))

comment_within : (s : List ℕ) → AllBytes s → (f : Fields) → read_at s ≡ Ok f → (k : ℕ) → comment_field s f k ≤ length s
unfolding key_numbered
comment_within s all f e zero = omega arith
comment_within s all f e (suc zero) =
    let first : f.section.comment.start - 4 ≤ length s = rw e at (read_said s) in
    by_bool (ltb f.header.count 1)
    (λ w. rw w (omega arith))
    (λ w. rw w first)
comment_within s all f e (suc (suc i)) =
    by_bool (ltb f.header.count (suc (suc i)))
    (λ w. rw (ne_eqb (suc (suc i)) 0 (λ o. omega arith), w) (omega arith))
    (λ w. go (ltb-false f.header.count (suc (suc i)) w) (image_text s all f e))
  where
    go : suc (suc i) ≤ f.header.count → ImageText s all f e → comment_field s f (suc (suc i)) ≤ length s
    go there (plain_text plain p) = other_within s f p (suc (suc i)) (omega arith) there
    go there (encrypted_text sealed p) = absurd (omega (arith, there, p.one_key))

pub change_place_within : (old : List ℕ) → AllBytes old → (n k number : ℕ) → change_place old n k number ≤ n
unfolding edit_place
change_place_within old all n k number =
    by_bool (leb n 65535 && leb n (length old))
    (λ w.
    let long : length (take n old) ≡ n = length-take-le n old (leb-true n (length old) (both_true (leb n 65535) (leb n (length old)) w).1) in
    rw w
    (by_read (read_at (take n old))
    (λ g e. rw e (omega (arith, long, place_within (take n old) g e)))
    (λ f e.
    let field : comment_field (take n old) f k ≤ length (take n old) = comment_within (take n old) (all_take n old all) f e k in
    rw e
    (by_bool (eqb number 7)
    (λ seven. rw seven (omega (arith, long, field)))
    (λ other. rw other (omega arith))))))
    (λ w. rw w (omega arith))
