-- docs/RULES.md, 12: the edits of a lent buffer whose first n bytes are an image: the comment of key k changed, key k removed, a key added last.
-- Order: n above 65,535: 11; n above the buffer's length: 1; the reader's refusals; encrypted: 8; not the writer's form: 10; then 1 for a key that
-- is missing, for the only key removed and for a 17th added; then the new comment's 7, at that key's old comment, or the new key's own refusals;
-- size 11; room 9. What is left is what the writer, given the keys that are then in the file and the image's own checkint, leaves there, and zeros
-- from its end to the old image's.
use Rattle.std.specs.Prelude.{ℕ, ◌-◌, Bool, cond, ◌&&◌, List, map, leb, length, take, Result, Ok, Err}
use Rattle.fields.specs.Fields.{fault}
use Rattle.fields.specs.declared.Fault.{Fault}
use Rattle.fields.specs.declared.Refusal.{Refusal}
use Rattle.fields.specs.declared.Refusal.TheVariants.{Length, CharacterEncoding, Encrypted, Form, Size}
use Rattle.utf8.specs.Utf8.{utf8}
use Rattle.format.specs.Format.{Key, filled_key}
use Rattle.buffer.specs.Puts.{splice, zeros}
use Rattle.reader_image.specs.declared.Fields.{Fields}
use Rattle.reader_image.specs.Container.{keys_in, on_read, read_at}
use Rattle.reader_image.specs.Form.{on_kind, form_of}
use Rattle.reader_keys.specs.Keys.{on_looked, key_numbered}
use Rattle.writer_reply.specs.Reply.{unless, Answers, Written}
use Rattle.writer_plain.specs.Plain.{keys_reply, keys_left}
use Rattle.edit_shells.specs.Keys.{keys_changed, keys_without, keys_with}

-- ---- the image that an edit is given

abbrev pub on_editable : {R : Type 0} → Result Fields Fault → (Fault → R) → (Fields → R) → R
on_editable (Err f) refused image = refused f
on_editable (Ok x) refused image = image x

-- a refusal that belongs to the whole image
abbrev pub refused_whole : Refusal → Result Fields Fault
refused_whole why = Err (fault why 0)

-- an accepted image that is plain and in the form
unfoldable pub record_editable : List ℕ → Fields → Result Fields Fault
record_editable s f =
    on_kind f.section.kind
    (cond (form_of s f) (Ok f) (refused_whole Form))
    (refused_whole Encrypted)

unfoldable pub editable_at : List ℕ → ℕ → Result Fields Fault
editable_at old n =
    cond (leb n 65535)
    (cond (leb n (length old))
    (on_read (read_at (take n old)) Err (λ f. record_editable (take n old) f))
    (refused_whole Length))
    (refused_whole Size)

-- ---- its keys, as a writer takes them

unfoldable pub file_keys : List ℕ → Fields → List Key
file_keys s f = map filled_key (keys_in s f)

-- keys count from 1
abbrev pub has_key : Fields → ℕ → Bool
has_key f k = leb 1 k && leb k f.header.count

-- the field of key k's comment, length bytes included
abbrev pub comment_field : List ℕ → Fields → ℕ → ℕ
comment_field s f k = on_looked (key_numbered s f k) 0 (λ key. key.comment.start - 4)

-- ---- the keys then in the file written afresh, with the image's checkint, over a buffer whose first n bytes it was

abbrev pub afresh_reply : List Key → Fields → List ℕ → Written
afresh_reply keys f old = keys_reply keys f.section.checkint (length old)

abbrev pub afresh_left : Written → List Key → Fields → ℕ → List ℕ → List ℕ
afresh_left (Err g) keys f n old = old
afresh_left (Ok k) keys f n old = splice (keys_left keys f.section.checkint old) k (zeros (n - k))

-- ---- the comment of key k changed

unfoldable pub change_reply : List ℕ → ℕ → ℕ → List ℕ → Written
change_reply old n k comment =
    on_editable (editable_at old n) Err (λ f.
    unless (has_key f k) Length
    (cond (utf8 comment)
    (afresh_reply (keys_changed k comment (file_keys (take n old) f)) f old)
    (Err (fault CharacterEncoding (comment_field (take n old) f k)))))

unfoldable pub change_left : List ℕ → ℕ → ℕ → List ℕ → List ℕ
change_left old n k comment =
    on_editable (editable_at old n) (λ g. old) (λ f.
    afresh_left (change_reply old n k comment) (keys_changed k comment (file_keys (take n old) f)) f n old)

-- ---- key k removed; of no keys at all the writer says 1

unfoldable pub remove_reply : List ℕ → ℕ → ℕ → Written
remove_reply old n k =
    on_editable (editable_at old n) Err (λ f.
    unless (has_key f k) Length
    (afresh_reply (keys_without k (file_keys (take n old) f)) f old))

unfoldable pub remove_left : List ℕ → ℕ → ℕ → List ℕ
remove_left old n k =
    on_editable (editable_at old n) (λ g. old) (λ f.
    afresh_left (remove_reply old n k) (keys_without k (file_keys (take n old) f)) f n old)

-- ---- a key added, last; of 17 keys the writer says 1

unfoldable pub add_reply : List ℕ → ℕ → Key → Written
add_reply old n key =
    on_editable (editable_at old n) Err (λ f.
    afresh_reply (keys_with key (file_keys (take n old) f)) f old)

unfoldable pub add_left : List ℕ → ℕ → Key → List ℕ
add_left old n key =
    on_editable (editable_at old n) (λ g. old) (λ f.
    afresh_left (add_reply old n key) (keys_with key (file_keys (take n old) f)) f n old)

-- ---- the contracts: an edit answers r and leaves out

abbrev pub IsChange : List ℕ → ℕ → ℕ → List ℕ → Written → List ℕ → Type 0
IsChange old n k comment r out = Answers (change_reply old n k comment) (change_left old n k comment) r out

abbrev pub IsRemove : List ℕ → ℕ → ℕ → Written → List ℕ → Type 0
IsRemove old n k r out = Answers (remove_reply old n k) (remove_left old n k) r out

abbrev pub IsAdd : List ℕ → ℕ → Key → Written → List ℕ → Type 0
IsAdd old n key r out = Answers (add_reply old n key) (add_left old n key) r out
