-- docs/RULES.md, 10.5 to 10.7, 10.11, 12.1, 12.4, 12.5, 14.2 and 14.3: the conditions of the writers, of the edits, of export and of import, as lists in the rules'
-- order, each with its number. The reply is the first that holds, for every input; where none does it is 0 0 0 and the length.
use Rattle.std.specs.Prelude.{ℕ, ◌%◌, ◌≤◌, ◌<◌, ◌≡◌, Bool, cond, ◌&&◌, ◌||◌, List, [], ◌∷◌, eqb, leb, length, take, Result, Ok, Err}
use Rattle.std.proofs.Common.{arith, sym, ◌∙◌, leb-true, leb-false, ltb-true, ltb-false, lt-ltb, le-ltb}
use Rattle.std.proofs.Math.Path.{refl, ap}
use Rattle.std.proofs.Math.Bool.{true, false, not}
use Rattle.std.proofs.Math.Dec.{ltb}
use Rattle.fields.specs.Bytes.{AllBytes, both_true}
use Rattle.fields.specs.Fields.{fault, whole}
use Rattle.fields.specs.Place.{by_bool}
use Rattle.fields.specs.Refusals.{number_of, count_of}
use Rattle.fields.specs.declared.Fault.{Fault}
use Rattle.fields.specs.declared.Refusal.{Refusal}
use Rattle.fields.specs.declared.Refusal.TheVariants.{Length, FormatEncoding, Crypto, CharacterEncoding, Encrypted, Form, Size, Room}
use Rattle.names.specs.Ciphers.{is_none, block_size, tag_length}
use Rattle.names.specs.declared.Algorithm.{Algorithm}
use Rattle.names.specs.declared.Algorithm.TheVariants.{Elliptic as OnCurve, Rsa}
use Rattle.names.specs.declared.Cipher.{Cipher}
use Rattle.names.specs.declared.Kdf.{Kdf}
use Rattle.names.specs.declared.Kdf.TheVariants as kdf
use Rattle.utf8.specs.Utf8.{utf8}
use Rattle.format.specs.Format.{PublicBytes, PrivateBytes, Key, public_length, private_length, point_tag, not_zero, written_image, encrypted_image, alone, key_of}
use Rattle.key_public.specs.Keys.{on_blob, blob_at}
use Rattle.reader_section.specs.declared.Kind.{Kind}
use Rattle.reader_section.specs.declared.Kind.TheVariants.{Plain, Encrypted as Sealed}
use Rattle.reader_image.specs.declared.Fields.{Fields}
use Rattle.reader_image.specs.Container.{keys_in, on_read, read_at}
use Rattle.reader_image.specs.Form.{on_kind, form_of}
use Rattle.reader_image.specs.FormLaws.{by_read}
use Rattle.writer_reply.specs.Reply.{Told, told, refused, unless, sized, Written}
use Rattle.writer_plain.specs.Plain.{all_mpints, sizes_fit, key_checked, keys_checked, keys_reply, plain_reply}
use Rattle.writer_encrypted.specs.Encrypted.{options_fit, encrypted_reply}
use Rattle.edit_shells.specs.Keys.{keys_changed, keys_without, keys_with}
use Rattle.edit_file.specs.Edits.{on_editable, refused_whole, record_editable, editable_at, file_keys, has_key, comment_field, afresh_reply, change_reply, remove_reply, add_reply}
use Rattle.edit_file.specs.Afresh.{change_sized, remove_sized, remove_only}
use Rattle.key_add.specs.Add.{added_filled, too_many, add_reply_lem}
use Rattle.claims.specs.Change.{may_edit}
use Rattle.armour_text.specs.Text.{text, export_reply}
use Rattle.armour_text.specs.Import.{carried, carries, import_reply}
use Rattle.key_public.specs.declared.Public.{Public}

-- a condition: whether it holds, and the reply that it gives
pub record Condition : Type 0 where
  pub holds : Bool
  pub number : ℕ
  pub count : ℕ
  pub at : ℕ

-- one that gives its number alone
abbrev pub says : Bool → ℕ → Condition
says holds number = record { holds = holds; number = number; count = 0; at = 0 }

-- the first that holds
unfoldable pub first : List Condition → ℕ → Told
first [] length = record { number = 0; count = 0; at = 0; length = length }
first (c ∷ more) length = cond c.holds (record { number = c.number; count = c.count; at = c.at; length = 0 }) (first more length)

-- ---- the lists

-- size 11; room 9
abbrev pub sizes : List ℕ → ℕ → List Condition
sizes image room = says (ltb 65535 (length image)) 11 ∷ says (ltb room (length image)) 9 ∷ []

-- a length wrong for the kind 1; point tag 2; a scalar of zeros 2; or RSA's numbers, 2 over all six, then 1 over all six
abbrev pub key_conditions : Algorithm → PublicBytes → PrivateBytes → List Condition → List Condition
key_conditions (OnCurve e) key x more =
    says (not (eqb (length key.point) (public_length e)) || not (eqb (length x.scalar) (private_length e))) 1
    ∷ says (not (point_tag e key.point)) 2
    ∷ says (not (not_zero e x.scalar)) 2
    ∷ more
key_conditions Rsa key x more = says (not (all_mpints key x)) 2 ∷ says (not (sizes_fit key x)) 1 ∷ more

-- then comment 7; size 11; room 9
abbrev pub plain_conditions : Algorithm → PublicBytes → PrivateBytes → ℕ → List ℕ → ℕ → List Condition
plain_conditions a key x checkint comment room = key_conditions a key x (says (not (utf8 comment)) 7 ∷ sizes (written_image checkint (alone (key_of a key x comment))) room)

-- KDF `none` with salt bytes or rounds other than 0
abbrev pub misused : Kdf → List ℕ → ℕ → Bool
misused kdf.None salt rounds = not (eqb (length salt) 0) || not (eqb rounds 0)
misused kdf.Bcrypt salt rounds = false

-- a blob's refusal, with its count
abbrev pub blob_condition : Fault → Condition
blob_condition f = record { holds = true; number = number_of f.why; count = count_of f.why; at = 0 }

-- cipher `none` 3; KDF `none` with salt bytes or rounds other than 0, 3; blob refused as in 4.6; ciphertext not a multiple of the
-- block 3; tag length wrong 1; size 11; room 9
abbrev pub encrypted_conditions : Cipher → Kdf → List ℕ → ℕ → List ℕ → List ℕ → List ℕ → ℕ → List Condition
encrypted_conditions cipher k salt rounds key ciphertext tag room =
    says (is_none cipher) 3
    ∷ says (misused k salt rounds) 3
    ∷ on_blob (blob_at key (whole key))
    (λ f. blob_condition f ∷ [])
    (λ a point.
    says (not (eqb (length ciphertext % block_size cipher) 0)) 3
    ∷ says (not (eqb (length tag) (tag_length cipher))) 1
    ∷ sizes (encrypted_image cipher k salt rounds key ciphertext tag) room)

abbrev pub read_condition : Fault → Condition
read_condition g = record { holds = true; number = number_of g.why; count = count_of g.why; at = g.at }

-- each key's in key order, its comment's 7 after its own
abbrev pub listed_conditions : List Key → List Condition → List Condition
listed_conditions [] more = more
listed_conditions (k ∷ keys) more = key_conditions k.algorithm k.public k.private (says (not (utf8 k.comment)) 7 ∷ listed_conditions keys more)

-- of several keys: a count of 0 or above 16: 1; each key's; size 11; room 9
abbrev pub keys_conditions : List Key → ℕ → ℕ → List Condition
keys_conditions keys checkint room =
    says (not (leb 1 (length keys) && leb (length keys) 16)) 1 ∷ listed_conditions keys (sizes (written_image checkint keys) room)

-- of an edit: n above 65,535: 11; n above the buffer's length: 1; the reader's refusals; encrypted: 8; not the writer's form: 10; then
abbrev pub edit_conditions : List ℕ → ℕ → (Fields → List Condition) → List Condition
edit_conditions old n more =
    says (ltb 65535 n) 11
    ∷ says (ltb (length old) n) 1
    ∷ on_read (read_at (take n old)) (λ g. read_condition g ∷ [])
    (λ f.
    says (on_kind f.section.kind false true) 8
    ∷ says (not (form_of (take n old) f)) 10
    ∷ more f)

-- the image of the keys then in the file
abbrev pub afresh : Fields → List Key → List ℕ
afresh f keys = written_image f.section.checkint keys

abbrev pub edited_length : List ℕ → ℕ → (Fields → List Key) → ℕ
edited_length old n keys = on_read (read_at (take n old)) (λ g. 0) (λ f. length (afresh f (keys f)))

-- a missing key 1; the new comment's 7, at that key's old comment's field; size 11; room 9
abbrev pub changed_keys : List ℕ → ℕ → ℕ → List ℕ → Fields → List Key
changed_keys old n k comment f = keys_changed k comment (file_keys (take n old) f)

abbrev pub change_conditions : List ℕ → ℕ → ℕ → List ℕ → List Condition
change_conditions old n k comment =
    edit_conditions old n (λ f.
    says (not (has_key f k)) 1
    ∷ record { holds = not (utf8 comment); number = 7; count = 0; at = comment_field (take n old) f k }
    ∷ sizes (afresh f (changed_keys old n k comment f)) (length old))

-- a missing key 1; the only key 1; size 11; room 9
abbrev pub kept_keys : List ℕ → ℕ → ℕ → Fields → List Key
kept_keys old n k f = keys_without k (file_keys (take n old) f)

abbrev pub remove_conditions : List ℕ → ℕ → ℕ → List Condition
remove_conditions old n k =
    edit_conditions old n (λ f.
    says (not (has_key f k)) 1
    ∷ says (not (ltb 1 f.header.count)) 1
    ∷ sizes (afresh f (kept_keys old n k f)) (length old))

-- a 17th key 1; the new key's own; its comment's 7; size 11; room 9
abbrev pub more_keys : List ℕ → ℕ → Key → Fields → List Key
more_keys old n key f = keys_with key (file_keys (take n old) f)

abbrev pub add_conditions : List ℕ → ℕ → Key → List Condition
add_conditions old n key =
    edit_conditions old n (λ f.
    says (not (ltb f.header.count 16)) 1
    ∷ listed_conditions (alone key) (sizes (afresh f (more_keys old n key f)) (length old)))

-- above the limit 11; then room 9, for the text
abbrev pub export_conditions : List ℕ → ℕ → List Condition
export_conditions b room = says (ltb 65535 (length b)) 11 ∷ says (ltb room (length (text b))) 9 ∷ []

-- what is the text of no list of bytes 2; then, of what it carries, size 11; room 9
abbrev pub import_conditions : List ℕ → ℕ → List Condition
import_conditions t room = says (not (carries t)) 2 ∷ sizes (carried t) room

-- ---- one condition after another

-- a test that fails gives its refusal, at 0, and what comes next is asked where it holds
pub then_first :
    (h b : Bool) → h ≡ not b → (why : Refusal) → count_of why ≡ 0 → (next : Written) (more : List Condition) (n : ℕ) → told next ≡ first more n
    → told (unless b why next) ≡ first (says h (number_of why) ∷ more) n
unfolding told first
then_first h true e why none next more n p = rw e p
then_first h false e why none next more n p = rw (e, none)

not-not : (b : Bool) → b ≡ not (not b)
not-not true = refl
not-not false = refl

either_fails : (a b : Bool) (why : Refusal) (next : Written) → unless a why (unless b why next) ≡ unless (a && b) why next
either_fails true b why next = refl
either_fails false b why next = refl

pub not_both : (a b : Bool) → (not a || not b) ≡ not (a && b)
not_both true b = refl
not_both false b = refl

pub above : (a b : ℕ) → ltb a b ≡ not (leb b a)
above a b =
    by_bool (leb b a)
    (λ e. rw e (le-ltb a b (leb-true b a e)))
    (λ e. rw e (lt-ltb a b (leb-false b a e)))

pub done_first : (n : ℕ) → told (Ok n) ≡ first [] n
unfolding told first
done_first n = refl

sized-first : (image : List ℕ) (room : ℕ) → told (sized image room) ≡ first (sizes image room) (length image)
unfolding sized
sized-first image room =
    let fits = leb (length image) room in
    let w = Ok (length image) in
    then_first (ltb 65535 (length image)) (leb (length image) 65535) (above 65535 (length image)) Size refl (unless fits Room w)
    (says (ltb room (length image)) 9 ∷ []) (length image)
    (then_first (ltb room (length image)) fits (above room (length image)) Room refl w [] (length image) (done_first (length image)))

refused-first :
    (why : Refusal) (more : List Condition) (n : ℕ)
    → told (refused why) ≡ first (record { holds = true; number = number_of why; count = count_of why; at = 0 } ∷ more) n
unfolding told first
refused-first why more n = refl

fault-first :
    (g : Fault) (more : List Condition) (n : ℕ)
    → told (Err g) ≡ first (record { holds = true; number = number_of g.why; count = count_of g.why; at = g.at } ∷ more) n
unfolding told first
fault-first g more n = refl

-- a condition that fails is passed over
passed_first : (number count at : ℕ) (more : List Condition) (n : ℕ) → first more n ≡ first (record { holds = false; number = number; count = count; at = at } ∷ more) n
unfolding first
passed_first number count at more n = refl

-- ---- the claims

key_first :
    (a : Algorithm) (key : PublicBytes) (x : PrivateBytes) (w : Written) (c : List Condition) (n : ℕ) → told w ≡ first c n
    → told (key_checked a key x w) ≡ first (key_conditions a key x c) n
unfolding key_checked
key_first (OnCurve e) key x w c n h =
    let long = eqb (length key.point) (public_length e) in
    let private-long = eqb (length x.scalar) (private_length e) in
    let tag = point_tag e key.point in
    let some = not_zero e x.scalar in
    let w₃ = unless some FormatEncoding w in
    let c₃ = says (not some) 2 ∷ c in
    let w₂ = unless tag FormatEncoding w₃ in
    ap told (either_fails long private-long Length w₂)
    ∙ then_first (not long || not private-long) (long && private-long) (not_both long private-long) Length refl w₂ (says (not tag) 2 ∷ c₃) n
    (then_first (not tag) tag refl FormatEncoding refl w₃ c₃ n
    (then_first (not some) some refl FormatEncoding refl w c n h))
key_first Rsa key x w c n h =
    then_first (not (all_mpints key x)) (all_mpints key x) refl FormatEncoding refl (unless (sizes_fit key x) Length w) (says (not (sizes_fit key x)) 1 ∷ c) n
    (then_first (not (sizes_fit key x)) (sizes_fit key x) refl Length refl w c n h)

pub plain_first :
    (a : Algorithm) (key : PublicBytes) (x : PrivateBytes) (checkint : ℕ) (comment : List ℕ) (room : ℕ)
    → told (plain_reply a key x checkint comment room)
    ≡ first (plain_conditions a key x checkint comment room) (length (written_image checkint (alone (key_of a key x comment))))
unfolding plain_reply
plain_first a key x checkint comment room =
    let image = written_image checkint (alone (key_of a key x comment)) in
    let n = length image in
    key_first a key x (unless (utf8 comment) CharacterEncoding (sized image room)) (says (not (utf8 comment)) 7 ∷ sizes image room) n
    (then_first (not (utf8 comment)) (utf8 comment) refl CharacterEncoding refl (sized image room) (sizes image room) n
    (sized-first image room))

misused-not : (k : Kdf) (salt : List ℕ) (rounds : ℕ) → misused k salt rounds ≡ not (options_fit k salt rounds)
misused-not kdf.None salt rounds = not_both (eqb (length salt) 0) (eqb rounds 0)
misused-not kdf.Bcrypt salt rounds = refl

pub encrypted_first :
    (cipher : Cipher) (k : Kdf) (salt : List ℕ) (rounds : ℕ) (key ciphertext tag : List ℕ) (room : ℕ)
    → told (encrypted_reply cipher k salt rounds key ciphertext tag room)
    ≡ first (encrypted_conditions cipher k salt rounds key ciphertext tag room) (length (encrypted_image cipher k salt rounds key ciphertext tag))
unfolding encrypted_reply
encrypted_first cipher k salt rounds key ciphertext tag room =
    let n = length (encrypted_image cipher k salt rounds key ciphertext tag) in
    let w = on_blob (blob_at key (whole key)) (λ f. refused f.why) (λ a point. wrapped) in
    let c = on_blob (blob_at key (whole key)) (λ f. blob_condition f ∷ []) (λ a point. listed) in
    then_first (is_none cipher) (not (is_none cipher)) (not-not (is_none cipher)) Crypto refl (unless (options_fit k salt rounds) Crypto w)
    (says (misused k salt rounds) 3 ∷ c) n
    (then_first (misused k salt rounds) (options_fit k salt rounds) (misused-not k salt rounds) Crypto refl w c n
    (by_blob (blob_at key (whole key))))
  where
    image : List ℕ
    image = encrypted_image cipher k salt rounds key ciphertext tag

    wrapped : Written
    wrapped = unless (eqb (length ciphertext % block_size cipher) 0) Crypto (unless (eqb (length tag) (tag_length cipher)) Length (sized image room))

    listed : List Condition
    listed = says (not (eqb (length ciphertext % block_size cipher) 0)) 3 ∷ says (not (eqb (length tag) (tag_length cipher))) 1 ∷ sizes image room

    by_blob :
        (b : Result (Algorithm × Public) Fault)
        → told (on_blob b (λ f. refused f.why) (λ a point. wrapped)) ≡ first (on_blob b (λ f. blob_condition f ∷ []) (λ a point. listed)) (length image)
    by_blob (Err f) = refused-first f.why [] (length image)
    by_blob (Ok (a, point)) =
        then_first (not (eqb (length ciphertext % block_size cipher) 0)) (eqb (length ciphertext % block_size cipher) 0) refl Crypto refl
        (unless (eqb (length tag) (tag_length cipher)) Length (sized image room)) (says (not (eqb (length tag) (tag_length cipher))) 1 ∷ sizes image room) (length image)
        (then_first (not (eqb (length tag) (tag_length cipher))) (eqb (length tag) (tag_length cipher)) refl Length refl (sized image room) (sizes image room) (length image)
        (sized-first image room))

listed_first :
    (keys : List Key) (w : Written) (c : List Condition) (n : ℕ) → told w ≡ first c n → told (keys_checked keys w) ≡ first (listed_conditions keys c) n
unfolding keys_checked
listed_first [] w c n h = h
listed_first (k ∷ keys) w c n h =
    let text = utf8 k.comment in
    let more = listed_first keys w c n h in
    key_first k.algorithm k.public k.private (unless text CharacterEncoding (keys_checked keys w)) (says (not text) 7 ∷ listed_conditions keys c) n
    (then_first (not text) text refl CharacterEncoding refl (keys_checked keys w) (listed_conditions keys c) n more)

pub keys_first :
    (keys : List Key) (checkint room : ℕ)
    → told (keys_reply keys checkint room) ≡ first (keys_conditions keys checkint room) (length (written_image checkint keys))
unfolding keys_reply
keys_first keys checkint room =
    let image = written_image checkint keys in
    let some = leb 1 (length keys) && leb (length keys) 16 in
    then_first (not some) some refl Length refl (keys_checked keys (sized image room)) (listed_conditions keys (sizes image room)) (length image)
    (listed_first keys (sized image room) (sizes image room) (length image) (sized-first image room))

-- ---- the edits

-- the tests that all have in common
module _ (old : List ℕ) (n : ℕ) (reply : Fields → Written) (more : Fields → List Condition) (size : Fields → ℕ) where
  judged_first :
      (f : Fields) (k : Kind) (form : Bool) → (k ≡ Plain → form ≡ true → told (reply f) ≡ first (more f) (size f))
      → told (on_editable (on_kind k (cond form (Ok f) (refused_whole Form)) (refused_whole Encrypted)) Err reply)
      ≡ first (says (on_kind k false true) 8 ∷ says (not form) 10 ∷ more f) (size f)
  unfolding told first
  judged_first f Plain true h = h refl refl
  judged_first f Plain false h = refl
  judged_first f Sealed form h = refl

  edit_first :
      ((f : Fields) → editable_at old n ≡ Ok f → told (reply f) ≡ first (more f) (size f))
      → told (on_editable (editable_at old n) Err reply) ≡ first (edit_conditions old n more) (on_read (read_at (take n old)) (λ g. 0) size)
  unfolding editable_at record_editable told first
  edit_first h =
      by_bool (leb n 65535)
      (λ small.
      let few : ltb 65535 n ≡ false = above 65535 n ∙ ap not small in
      by_bool (leb n (length old))
      (λ inside.
      let fit : ltb (length old) n ≡ false = above (length old) n ∙ ap not inside in
      by_read (read_at (take n old))
      (λ g e. rw (small, inside, few, fit, e))
      (λ f e.
      rw (small, inside, few, fit, e)
      (judged_first f f.section.kind (form_of (take n old) f) (λ plain form. h f (may_edit old n f small inside e plain form)))))
      (λ outside. let past : ltb (length old) n ≡ true = above (length old) n ∙ ap not outside in rw (small, outside, few, past)))
      (λ large. let many : ltb 65535 n ≡ true = above 65535 n ∙ ap not large in rw (large, many))

-- for every buffer and comment; that the buffer's bytes are bytes is the slice's own rule
pub change_first :
    (old : List ℕ) (n k : ℕ) (comment : List ℕ) → AllBytes old
    → told (change_reply old n k comment) ≡ first (change_conditions old n k comment) (edited_length old n (changed_keys old n k comment))
unfolding change_reply
change_first old n k comment all =
    edit_first old n _ _ (λ f. length (afresh f (changed_keys old n k comment f)))
    (λ f w.
    let image = afresh f (changed_keys old n k comment f) in
    let field = comment_field (take n old) f k in
    then_first (not (has_key f k)) (has_key f k) refl Length refl _ _ (length image)
    (by_bool (utf8 comment)
    (λ u.
    rw u
    (ap told (change_sized old all n f w k comment u) ∙ sized-first image (length old) ∙ passed_first 7 0 field (sizes image (length old)) (length image)))
    (λ u. rw u (fault-first (fault CharacterEncoding field) (sizes image (length old)) (length image)))))

both_places : (k count : ℕ) → (leb 1 k && leb k count) ≡ true → (0 < k) × (k ≤ count)
both_places k count e =
    let b = both_true (leb 1 k) (leb k count) e in
    (omega (arith, leb-true 1 k b.0), leb-true k count b.1)

pub remove_first :
    (old : List ℕ) (n k : ℕ) → AllBytes old
    → told (remove_reply old n k) ≡ first (remove_conditions old n k) (edited_length old n (kept_keys old n k))
unfolding remove_reply
remove_first old n k all =
    edit_first old n _ _ (λ f. length (afresh f (kept_keys old n k f)))
    (λ f w.
    let image = afresh f (kept_keys old n k f) in
    let rest = sizes image (length old) in
    by_bool (has_key f k)
    (λ there.
    let place = both_places k f.header.count there in
    by_bool (ltb 1 f.header.count)
    (λ more.
    rw (there, more)
    (ap told (remove_sized old all n f w k place.0 place.1 (ltb-true 1 f.header.count more)) ∙ sized-first image (length old)
    ∙ passed_first 1 0 0 rest (length image) ∙ passed_first 1 0 0 (says false 1 ∷ rest) (length image)))
    (λ only.
    let one : f.header.count ≡ 1 = omega (arith, ltb-false 1 f.header.count only, place.0, place.1) in
    rw (there, only)
    (ap told (remove_only old all n f w k place.0 place.1 one) ∙ refused-first Length rest (length image)
    ∙ passed_first 1 0 0 (says true 1 ∷ rest) (length image))))
    (λ missing. rw missing (refused-first Length (says (not (ltb 1 f.header.count)) 1 ∷ rest) (length image))))

added_first :
    (old : List ℕ) (all : AllBytes old) (n : ℕ) (key : Key) (f : Fields) → editable_at old n ≡ Ok f
    → told (afresh_reply (more_keys old n key f) f old)
    ≡ first (says (not (ltb f.header.count 16)) 1 ∷ listed_conditions (alone key) (sizes (afresh f (more_keys old n key f)) (length old)))
    (length (afresh f (more_keys old n key f)))
unfolding add_reply file_keys
added_first old all n key f w =
    let keys = keys_in (take n old) f in
    let image = afresh f (more_keys old n key f) in
    let rest = listed_conditions (alone key) (sizes image (length old)) in
    let own : add_reply old n key ≡ afresh_reply (more_keys old n key f) f old = rw w in
    by_bool (ltb f.header.count 16)
    (λ few.
    let reply = sym own ∙ add_reply_lem old all n f w key (ltb-true f.header.count 16 few) in
    let same : written_image f.section.checkint (keys_with key keys) ≡ image = sym (added_filled f.section.checkint keys key) in
    rw few
    (ap told (reply ∙ ap (λ (l : List ℕ). keys_checked (alone key) (sized l (length old))) same)
    ∙ listed_first (alone key) (sized image (length old)) (sizes image (length old)) (length image) (sized-first image (length old))
    ∙ passed_first 1 0 0 rest (length image)))
    (λ many.
    rw many
    (ap told (sym own ∙ too_many old all n f w key (ltb-false f.header.count 16 many)) ∙ refused-first Length rest (length image)))

pub add_first :
    (old : List ℕ) (n : ℕ) (key : Key) → AllBytes old
    → told (add_reply old n key) ≡ first (add_conditions old n key) (edited_length old n (more_keys old n key))
unfolding add_reply
add_first old n key all = edit_first old n _ _ (λ f. length (afresh f (more_keys old n key f))) (added_first old all n key)

pub export_first : (b : List ℕ) (room : ℕ) → told (export_reply b room) ≡ first (export_conditions b room) (length (text b))
unfolding export_reply
export_first b room =
    let n = length (text b) in
    let w = Ok n in
    then_first (ltb 65535 (length b)) (leb (length b) 65535) (above 65535 (length b)) Size refl (unless (leb n room) Room w) (says (ltb room n) 9 ∷ []) n
    (then_first (ltb room n) (leb n room) (above room n) Room refl w [] n (done_first n))

pub import_first : (t : List ℕ) (room : ℕ) → told (import_reply t room) ≡ first (import_conditions t room) (length (carried t))
unfolding import_reply
import_first t room =
    by_bool (carries t)
    (λ e. rw e (sized-first (carried t) room ∙ passed_first 2 0 0 (sizes (carried t) room) (length (carried t))))
    (λ e. rw e (refused-first FormatEncoding (sizes (carried t) room) (length (carried t))))
