-- docs/RULES.md, 16.1, the first demand: any input to any public entry that takes a lent buffer; a refused call changes no byte of it. The entries stand in one list,
-- each with all that it is given beside the buffer, and with the promise that its contract cites.
use Rattle.std.specs.Prelude.{ℕ, ◌*◌, ◌≡◌, refl, Bool, true, false, List, map, eqb, length, Result, Ok, Err, Option}
use Rattle.std.proofs.Common.{sym, ◌∙◌, ap}
use Rattle.fields.specs.declared.Refusal.{Refusal}
use Rattle.fields.specs.Place.{clash, by_bool}
use Rattle.fields.specs.declared.Fault.{Fault}
use Rattle.names.specs.declared.Elliptic.{Elliptic}
use Rattle.names.specs.declared.Algorithm.{Algorithm}
use Rattle.names.specs.declared.Algorithm.TheVariants.{Elliptic as OnCurve, Rsa}
use Rattle.names.specs.declared.Cipher.{Cipher}
use Rattle.names.specs.declared.Kdf.{Kdf}
use Rattle.names_codes.specs.Codes.{algorithm_coded, cipher_coded, kdf_coded}
use Rattle.format.specs.Format.{PublicBytes, PrivateBytes, Key, key_of, filled_key, of_point, of_scalar, of_modulus, of_numbers}
use Rattle.key_material.specs.Material.{public_of, private_of, checkint_of}
use Rattle.key_material.specs.declared.Material.{Material}
use Rattle.key_public.specs.Keys.{on_algorithm}
use Rattle.laws_keys.specs.Read.{by_algorithm}
use Rattle.reader_header.specs.Place.{by_cipher_name, by_kdf_name}
use Rattle.reader_section.specs.declared.Kind.{Kind}
use Rattle.reader_section.specs.declared.Kind.TheVariants.{Plain, Encrypted}
use Rattle.reader_image.specs.declared.Fields.{Fields}
use Rattle.reader_image.specs.Container.{keys_in, read_at}
use Rattle.reader_image.specs.FormLaws.{by_read}
use Rattle.handed_record.specs.Judge.{is_read}
use Rattle.writer_reply.specs.Reply.{told, left, Answers, Written}
use Rattle.writer_plain.specs.Plain.{keys_reply, keys_left, plain_reply, plain_left, IsPlain}
use Rattle.writer_encrypted.specs.Encrypted.{encrypted_reply, encrypted_left, IsEncrypted}
use Rattle.writer_keys.specs.Named.{named_reply, named_left, IsNamed, first_private}
use Rattle.writer_listed.specs.Listed.{listed_keys, IsListed}
use Rattle.writer_again.specs.Rewrite.{plain_again, plain_again_left, record_reply, record_left, rewrite_reply, rewrite_left, IsRewritten, handed_reply, handed_left, IsHanded, reply_plain, left_plain}
use Rattle.armour_text.specs.Text.{export_reply, export_left}
use Rattle.armour_text.specs.Import.{import_reply, import_left}
use Rattle.setting_record.specs.Packing.{pack_of}
use Rattle.setting_record.specs.Record.{packed_reply, packed_left, write_reply, write_left}
use Rattle.setting_store.specs.Store.{has_place, put_reply, put_left}
use Rattle.setting_store.specs.Move.{move_reply, move_left}
use Rattle.report_parts.specs.Parts.{text_reply, IsHandedText}
use Rattle.inspect_report.specs.Report.{report_of, report_reply, IsReport}
use Rattle.keys_report.specs.Lines.{keys_report, IsKeysReport}
use Rattle.buffer.specs.Puts.{placed, fits}
use Rattle.edit_shells.specs.Shells.{changed_at, removed_at, opened_at, opened_size}
use Rattle.edit_shells.specs.Edits.{changed_by_places, removed_by_places, added_by_places, renewed, IsEdit, IsOpened}
use Rattle.edit_file.specs.Edits.{change_reply, change_left, IsChange, remove_reply, remove_left, IsRemove, add_reply, add_left, IsAdd}
use Rattle.laws_edits.specs.Steps.{change, remove, add}
use Rattle.c_reply.specs.Replies.{reply_of, names_nothing, AnswersC}
use Rattle.c_reply.specs.declared.Reply.{Reply}
use Rattle.c_writing.specs.Coded.{checkint_for, coded_plain_reply, coded_plain_left, coded_encrypted_reply, coded_encrypted_left}
use Rattle.c_add.specs.Added.{coded_add_reply, coded_add_left}
use Rattle.claims.specs.Change.{refused_stays}

-- the entries of the library
pub data Entry : Type 0 where
  write_key : Algorithm → PublicBytes → PrivateBytes → ℕ → List ℕ → Entry
  write_parts : Elliptic → List ℕ → List ℕ → ℕ → List ℕ → Entry
  write_numbers : List ℕ → List ℕ → List ℕ → List ℕ → List ℕ → List ℕ → ℕ → List ℕ → Entry
  write_rsa : List ℕ → List ℕ → List ℕ → List ℕ → List ℕ → List ℕ → Option ℕ → List ℕ → Entry
  write_plain : Material → Option ℕ → List ℕ → Entry
  write_encrypted : Cipher → Kdf → List ℕ → ℕ → List ℕ → List ℕ → List ℕ → Entry
  rewrite : List ℕ → Entry
  rewrite_record : List ℕ → Fields → Entry
  recorded_rewrite : List ℕ → Fields → Entry
  write_listed : List ℕ → Fields → Entry
  write_keys : List ℕ → List ℕ → Option ℕ → Entry
  write_named : List ℕ → List ℕ → ℕ → Entry
  change_comment : ℕ → List ℕ → Entry
  change_comment_of : ℕ → ℕ → List ℕ → Entry
  remove_key : ℕ → ℕ → Entry
  add_key : ℕ → Elliptic → List ℕ → List ℕ → List ℕ → Entry
  add_rsa : ℕ → List ℕ → List ℕ → List ℕ → List ℕ → List ℕ → List ℕ → List ℕ → Entry
  change_places : ℕ → ℕ → ℕ → ℕ → ℕ → List ℕ → Entry
  remove_places : ℕ → ℕ → ℕ → ℕ → ℕ → ℕ → ℕ → ℕ → Entry
  open_places : ℕ → ℕ → ℕ → ℕ → ℕ → ℕ → Entry
  hand_text : List ℕ → Entry
  write_report : List ℕ → Entry
  write_keys_report : List ℕ → Entry
  export : List ℕ → Entry
  import : List ℕ → Entry
  write_setting : ℕ → ℕ → ℕ → Entry
  store_put : ℕ → ℕ → ℕ → ℕ → Entry
  store_move : Entry

-- the keys that are added
abbrev pub curve_key : Elliptic → List ℕ → List ℕ → List ℕ → Key
curve_key e public private comment = key_of (OnCurve e) (of_point public) (of_scalar private) comment

abbrev pub rsa_key : List ℕ → List ℕ → List ℕ → List ℕ → List ℕ → List ℕ → List ℕ → Key
rsa_key m e d iqmp p q comment = key_of Rsa (of_modulus m e) (of_numbers d iqmp p q) comment

abbrev pub Promise : Entry → List ℕ → Written → List ℕ → Type 0
Promise (write_key a key x checkint comment) old r out = IsPlain a key x checkint comment old r out
Promise (write_parts e point scalar checkint comment) old r out = IsPlain (OnCurve e) (of_point point) (of_scalar scalar) checkint comment old r out
Promise (write_numbers n e d iqmp p q checkint comment) old r out = IsPlain Rsa (of_modulus n e) (of_numbers d iqmp p q) checkint comment old r out
Promise (write_rsa n e d iqmp p q given comment) old r out = IsPlain Rsa (of_modulus n e) (of_numbers d iqmp p q) (checkint_of given d) comment old r out
Promise (write_plain m given comment) old r out =
    IsPlain (OnCurve m.algorithm) (of_point (public_of m)) (of_scalar (private_of m)) (checkint_of given (private_of m)) comment old r out
Promise (write_encrypted cipher k salt rounds blob ciphertext tag) old r out = IsEncrypted cipher k salt rounds blob ciphertext tag old r out
Promise (rewrite s) old r out = IsRewritten s old r out
Promise (rewrite_record s f) old r out = IsHanded s f old r out
Promise (recorded_rewrite s f) old r out = IsHanded s f old r out
Promise (write_listed s f) old r out = IsListed s f old r out
Promise (write_keys text table given) old r out = IsNamed false text table (checkint_of given (first_private text table)) old r out
Promise (write_named text table checkint) old r out = IsNamed true text table checkint old r out
Promise (change_comment n comment) old r out = IsChange old n 1 comment r out
Promise (change_comment_of n k comment) old r out = IsChange old n k comment r out
Promise (remove_key n k) old r out = IsRemove old n k r out
Promise (add_key n e public private comment) old r out = IsAdd old n (curve_key e public private comment) r out
Promise (add_rsa n m e d iqmp p q comment) old r out = IsAdd old n (rsa_key m e d iqmp p q comment) r out
Promise (change_places n section field past end comment) old r out =
    IsEdit (changed_by_places section field past end) (changed_at old section field past end comment) n old r out
Promise (remove_places n count blob after section pair past end) old r out =
    IsEdit (removed_by_places blob after section pair past end) (removed_at old count blob after section pair past end) n old r out
Promise (open_places n count section end blob own) old r out =
    IsOpened (added_by_places section end) (opened_size section end blob own) (opened_at old count section end blob own) n old r out
Promise (hand_text text) old r out = IsHandedText text old r out
Promise (write_report s) old r out = IsReport s old r out
Promise (write_keys_report s) old r out = IsKeysReport s old r out
Promise (export b) old r out = Answers (export_reply b (length old)) (export_left b old) r out
Promise (import t) old r out = Answers (import_reply t (length old)) (import_left t old) r out
Promise (write_setting version kind ms) old r out = Answers (write_reply version kind ms old) (write_left version kind ms old) r out
Promise (store_put device version kind ms) old r out = Answers (put_reply old device version kind ms) (put_left old device version kind ms) r out
Promise store_move old r out = Answers (move_reply old) (move_left old) r out

-- the entries for C
pub data EntryC : Type 0 where
  saltorchard_write_plain : ℕ → List ℕ → List ℕ → ℕ → ℕ → List ℕ → EntryC
  saltorchard_write_rsa : List ℕ → List ℕ → List ℕ → List ℕ → List ℕ → List ℕ → ℕ → ℕ → List ℕ → EntryC
  saltorchard_write_encrypted : ℕ → ℕ → List ℕ → ℕ → List ℕ → List ℕ → List ℕ → EntryC
  saltorchard_rewrite : List ℕ → EntryC
  saltorchard_write_keys : List ℕ → List ℕ → ℕ → ℕ → EntryC
  saltorchard_change_comment : ℕ → List ℕ → EntryC
  saltorchard_change_comment_of : ℕ → ℕ → List ℕ → EntryC
  saltorchard_add_key : ℕ → ℕ → List ℕ → List ℕ → List ℕ → EntryC
  saltorchard_add_rsa : ℕ → List ℕ → List ℕ → List ℕ → List ℕ → List ℕ → List ℕ → List ℕ → EntryC
  saltorchard_remove_key : ℕ → ℕ → EntryC
  saltorchard_export : List ℕ → EntryC
  saltorchard_import : List ℕ → EntryC
  saltorchard_write_setting : ℕ → ℕ → ℕ → EntryC
  saltorchard_store_put : ℕ → ℕ → ℕ → ℕ → EntryC
  saltorchard_store_move : EntryC

abbrev pub PromiseC : EntryC → List ℕ → Reply → List ℕ → Type 0
PromiseC (saltorchard_write_plain code public private derive checkint comment) old r out =
    AnswersC (coded_plain_reply code public private (checkint_for derive checkint private) comment (length old))
    (coded_plain_left code public private (checkint_for derive checkint private) comment old) r out
PromiseC (saltorchard_write_rsa n e d iqmp p q derive checkint comment) old r out =
    AnswersC (plain_reply Rsa (of_modulus n e) (of_numbers d iqmp p q) (checkint_for derive checkint d) comment (length old))
    (plain_left Rsa (of_modulus n e) (of_numbers d iqmp p q) (checkint_for derive checkint d) comment old) r out
PromiseC (saltorchard_write_encrypted cipher k salt rounds blob ciphertext tag) old r out =
    AnswersC (coded_encrypted_reply cipher k salt rounds blob ciphertext tag (length old)) (coded_encrypted_left cipher k salt rounds blob ciphertext tag old) r out
PromiseC (saltorchard_rewrite s) old r out = AnswersC (rewrite_reply s (length old)) (rewrite_left s old) r out
PromiseC (saltorchard_write_keys table text derive checkint) old r out =
    AnswersC (named_reply false text table (checkint_for derive checkint (first_private text table)) (length old))
    (named_left false text table (checkint_for derive checkint (first_private text table)) old) r out
PromiseC (saltorchard_change_comment n comment) old r out = AnswersC (change_reply old n 1 comment) (change_left old n 1 comment) r out
PromiseC (saltorchard_change_comment_of n k comment) old r out = AnswersC (change_reply old n k comment) (change_left old n k comment) r out
PromiseC (saltorchard_add_key n code public private comment) old r out =
    AnswersC (coded_add_reply old n code public private comment) (coded_add_left old n code public private comment) r out
PromiseC (saltorchard_add_rsa n m e d iqmp p q comment) old r out =
    AnswersC (add_reply old n (rsa_key m e d iqmp p q comment)) (add_left old n (rsa_key m e d iqmp p q comment)) r out
PromiseC (saltorchard_remove_key n k) old r out = AnswersC (remove_reply old n k) (remove_left old n k) r out
PromiseC (saltorchard_export b) old r out = AnswersC (export_reply b (length old)) (export_left b old) r out
PromiseC (saltorchard_import t) old r out = AnswersC (import_reply t (length old)) (import_left t old) r out
PromiseC (saltorchard_write_setting version kind ms) old r out = AnswersC (write_reply version kind ms old) (write_left version kind ms old) r out
PromiseC (saltorchard_store_put device version kind ms) old r out =
    AnswersC (put_reply old device version kind ms) (put_left old device version kind ms) r out
PromiseC saltorchard_store_move old r out = AnswersC (move_reply old) (move_left old) r out

-- ---- each by itself

plain_keeps :
    (a : Algorithm) (key : PublicBytes) (x : PrivateBytes) (checkint : ℕ) (comment old : List ℕ) (g : Fault)
    → plain_reply a key x checkint comment (length old) ≡ Err g → plain_left a key x checkint comment old ≡ old
unfolding plain_left
plain_keeps a key x checkint comment old g e = rw e

encrypted_keeps :
    (cipher : Cipher) (k : Kdf) (salt : List ℕ) (rounds : ℕ) (blob ciphertext tag old : List ℕ) (g : Fault)
    → encrypted_reply cipher k salt rounds blob ciphertext tag (length old) ≡ Err g
    → encrypted_left cipher k salt rounds blob ciphertext tag old ≡ old
unfolding encrypted_left
encrypted_keeps cipher k salt rounds blob ciphertext tag old g e = rw e

pub by_kind : {P : Type 0} (k : Kind) → (k ≡ Plain → P) → (k ≡ Encrypted → P) → P
by_kind Plain plain encrypted = plain refl
by_kind Encrypted plain encrypted = encrypted refl

keys_keeps :
    (keys : List Key) (checkint : ℕ) (old : List ℕ) (g : Fault) → keys_reply keys checkint (length old) ≡ Err g → keys_left keys checkint old ≡ old
unfolding keys_left
keys_keeps keys checkint old g e = rw e

record_keeps : (s : List ℕ) (f : Fields) (old : List ℕ) (g : Fault) → record_reply s f (length old) ≡ Err g → record_left s f old ≡ old
unfolding record_reply record_left plain_again plain_again_left
record_keeps s f old g e =
    by_kind f.section.kind
    (λ k.
    left_plain s f k old
    ∙ keys_keeps (map filled_key (keys_in s f)) f.section.checkint old g (sym (reply_plain s f k (length old)) ∙ e))
    (λ k. rw k (encrypted_keeps _ _ _ _ _ _ _ old g (rw k at e)))

rewrite_keeps : (s old : List ℕ) (g : Fault) → rewrite_reply s (length old) ≡ Err g → rewrite_left s old ≡ old
unfolding rewrite_reply rewrite_left
rewrite_keeps s old g e =
    by_read (read_at s)
    (λ h w. rw w)
    (λ f w. rw w (record_keeps s f old g (rw w at e)))

handed_keeps : (s : List ℕ) (f : Fields) (old : List ℕ) (g : Fault) → handed_reply s f (length old) ≡ Err g → handed_left s f old ≡ old
unfolding handed_reply handed_left
handed_keeps s f old g e =
    by_bool (is_read s f)
    (λ b. rw b (record_keeps s f old g (rw b at e)))
    (λ b. rw b)

coded_plain_keeps :
    (code : ℕ) (public private : List ℕ) (checkint : ℕ) (comment old : List ℕ) (g : Fault)
    → coded_plain_reply code public private checkint comment (length old) ≡ Err g
    → coded_plain_left code public private checkint comment old ≡ old
unfolding coded_plain_reply coded_plain_left
coded_plain_keeps code public private checkint comment old g e =
    by_algorithm (algorithm_coded code)
    (λ w. rw w)
    (λ a w. rw w (by_kind_of a (rw w at e)))
  where
    by_kind_of :
        (a : Algorithm)
        → on_algorithm a (λ k. plain_reply (OnCurve k) (of_point public) (of_scalar private) checkint comment (length old)) names_nothing ≡ Err g
        → on_algorithm a (λ k. plain_left (OnCurve k) (of_point public) (of_scalar private) checkint comment old) old ≡ old
    by_kind_of (OnCurve k) f = plain_keeps (OnCurve k) (of_point public) (of_scalar private) checkint comment old g f
    by_kind_of Rsa f = refl

coded_encrypted_keeps :
    (cipher k : ℕ) (salt : List ℕ) (rounds : ℕ) (blob ciphertext tag old : List ℕ) (g : Fault)
    → coded_encrypted_reply cipher k salt rounds blob ciphertext tag (length old) ≡ Err g
    → coded_encrypted_left cipher k salt rounds blob ciphertext tag old ≡ old
unfolding coded_encrypted_reply coded_encrypted_left
coded_encrypted_keeps cipher k salt rounds blob ciphertext tag old g e =
    by_cipher_name (cipher_coded cipher)
    (λ w. rw w)
    (λ c w.
    let e' = rw w at e in
    rw w
    (by_kdf_name (kdf_coded k)
    (λ v. rw v)
    (λ d v. rw v (encrypted_keeps c d salt rounds blob ciphertext tag old g (rw v at e')))))

named_keeps :
    (filling : Bool) (text table : List ℕ) (checkint : ℕ) (old : List ℕ) (g : Fault) → named_reply filling text table checkint (length old) ≡ Err g
    → named_left filling text table checkint old ≡ old
unfolding named_left
named_keeps filling text table checkint old g e = rw e

change_keeps : (n k : ℕ) (comment old : List ℕ) (g : Fault) → change_reply old n k comment ≡ Err g → change_left old n k comment ≡ old
change_keeps n k comment old g e = refused_stays (change k comment) old n g e

remove_keeps : (n k : ℕ) (old : List ℕ) (g : Fault) → remove_reply old n k ≡ Err g → remove_left old n k ≡ old
remove_keeps n k old g e = refused_stays (remove k) old n g e

curve_keeps :
    (n : ℕ) (e : Elliptic) (public private comment old : List ℕ) (g : Fault) → add_reply old n (curve_key e public private comment) ≡ Err g
    → add_left old n (curve_key e public private comment) ≡ old
curve_keeps n e public private comment old g w = refused_stays (add (curve_key e public private comment) (refl, refl)) old n g w

rsa_keeps :
    (n : ℕ) (m e d iqmp p q comment old : List ℕ) (g : Fault) → add_reply old n (rsa_key m e d iqmp p q comment) ≡ Err g
    → add_left old n (rsa_key m e d iqmp p q comment) ≡ old
rsa_keeps n m e d iqmp p q comment old g w = refused_stays (add (rsa_key m e d iqmp p q comment) (refl, refl)) old n g w

coded_add_keeps :
    (n code : ℕ) (public private comment old : List ℕ) (g : Fault) → coded_add_reply old n code public private comment ≡ Err g
    → coded_add_left old n code public private comment ≡ old
unfolding coded_add_reply coded_add_left
coded_add_keeps n code public private comment old g w =
    by_algorithm (algorithm_coded code)
    (λ e. rw e)
    (λ a e. rw e (by_kind_of a (rw e at w)))
  where
    by_kind_of :
        (a : Algorithm) → on_algorithm a (λ k. add_reply old n (curve_key k public private comment)) names_nothing ≡ Err g
        → on_algorithm a (λ k. add_left old n (curve_key k public private comment)) old ≡ old
    by_kind_of (OnCurve k) f = curve_keeps n k public private comment old g f
    by_kind_of Rsa f = refl

text_keeps : (text old : List ℕ) (g : Fault) → text_reply text old ≡ Err g → placed old 0 text ≡ old
unfolding placed
text_keeps text old g e =
    by_bool (fits old 0 text)
    (λ b. let d : Ok (length text) ≡ Err g = rw b at e in clash cc)
    (λ b. rw b)

report_keeps : (s old : List ℕ) (g : Fault) → report_reply s old ≡ Err g → placed old 0 (report_of s) ≡ old
unfolding report_reply
report_keeps s old g e = text_keeps (report_of s) old g e

export_keeps : (b old : List ℕ) (g : Fault) → export_reply b (length old) ≡ Err g → export_left b old ≡ old
unfolding export_left
export_keeps b old g e = rw e

import_keeps : (t old : List ℕ) (g : Fault) → import_reply t (length old) ≡ Err g → import_left t old ≡ old
unfolding import_left
import_keeps t old g e = rw e

packed_keeps :
    (ok : Bool) (p : Result ℕ Refusal) (size at : ℕ) (old : List ℕ) (g : Fault) → packed_reply ok p size ≡ Err g → packed_left ok p at old ≡ old
unfolding packed_reply packed_left
packed_keeps false p size at old g e = refl
packed_keeps true (Err why) size at old g e = refl
packed_keeps true (Ok n) size at old g e = clash cc

move_keeps : (old : List ℕ) (g : Fault) → move_reply old ≡ Err g → move_left old ≡ old
unfolding move_left
move_keeps old g e = rw e

-- ---- the claims

-- a promise whose answer is refused, of one that keeps the buffer where it refuses
kept :
    (w r : Written) (after out old : List ℕ) (g : Fault) → ((h : Fault) → w ≡ Err h → after ≡ old) → Answers w after r out
    → r ≡ Err g → out ≡ old
kept w r after out old g keeps p e = p.1 ∙ keeps g (sym p.0 ∙ e)

-- a refused call of any entry leaves every byte
pub refused_keeps : (entry : Entry) (old : List ℕ) (r : Written) (out : List ℕ) (g : Fault) → Promise entry old r out → r ≡ Err g → out ≡ old
refused_keeps (write_key a key x checkint comment) old r out g promise q = kept _ r _ out old g (plain_keeps a key x checkint comment old) promise q
refused_keeps (write_parts e point scalar checkint comment) old r out g promise q =
    kept _ r _ out old g (plain_keeps (OnCurve e) (of_point point) (of_scalar scalar) checkint comment old) promise q
refused_keeps (write_numbers n e d iqmp p q checkint comment) old r out g promise w =
    kept _ r _ out old g (plain_keeps Rsa (of_modulus n e) (of_numbers d iqmp p q) checkint comment old) promise w
refused_keeps (write_rsa n e d iqmp p q given comment) old r out g promise w =
    kept _ r _ out old g (plain_keeps Rsa (of_modulus n e) (of_numbers d iqmp p q) (checkint_of given d) comment old) promise w
refused_keeps (write_plain m given comment) old r out g promise q =
    kept _ r _ out old g
    (plain_keeps (OnCurve m.algorithm) (of_point (public_of m)) (of_scalar (private_of m)) (checkint_of given (private_of m)) comment old) promise q
refused_keeps (write_encrypted cipher k salt rounds blob ciphertext tag) old r out g p e =
    kept _ r _ out old g (encrypted_keeps cipher k salt rounds blob ciphertext tag old) p e
refused_keeps (rewrite s) old r out g p e = kept _ r _ out old g (rewrite_keeps s old) p e
refused_keeps (rewrite_record s f) old r out g p e = kept _ r _ out old g (handed_keeps s f old) p e
refused_keeps (recorded_rewrite s f) old r out g p e = kept _ r _ out old g (handed_keeps s f old) p e
refused_keeps (write_listed s f) old r out g p e = kept _ r _ out old g (keys_keeps (listed_keys s f) f.section.checkint old) p e
refused_keeps (write_keys text table given) old r out g p e =
    kept _ r _ out old g (named_keeps false text table (checkint_of given (first_private text table)) old) p e
refused_keeps (write_named text table checkint) old r out g p e = kept _ r _ out old g (named_keeps true text table checkint old) p e
refused_keeps (change_comment n comment) old r out g p e = kept _ r _ out old g (change_keeps n 1 comment old) p e
refused_keeps (change_comment_of n k comment) old r out g p e = kept _ r _ out old g (change_keeps n k comment old) p e
refused_keeps (remove_key n k) old r out g p e = kept _ r _ out old g (remove_keeps n k old) p e
refused_keeps (add_key n e public private comment) old r out g p w = kept _ r _ out old g (curve_keeps n e public private comment old) p w
refused_keeps (add_rsa n m e d iqmp x y comment) old r out g p w = kept _ r _ out old g (rsa_keeps n m e d iqmp x y comment old) p w
refused_keeps (change_places n section field past end comment) old r out g p e =
    p.1 ∙ ap (λ (w : Written). renewed w (changed_at old section field past end comment) n old) (sym p.0 ∙ e)
refused_keeps (remove_places n count blob after section pair past end) old r out g p e =
    p.1 ∙ ap (λ (w : Written). renewed w (removed_at old count blob after section pair past end) n old) (sym p.0 ∙ e)
refused_keeps (open_places n count section end blob own) old r out g p e =
    p.1 ∙ ap (λ (w : Written). left w (opened_at old count section end blob own) old) (sym p.0 ∙ e)
refused_keeps (hand_text text) old r out g p e = kept _ r _ out old g (text_keeps text old) p e
refused_keeps (write_report s) old r out g p e = kept _ r _ out old g (report_keeps s old) p.0 e
refused_keeps (write_keys_report s) old r out g p e = kept _ r _ out old g (text_keeps (keys_report s) old) p.0 e
refused_keeps (export b) old r out g p e = kept _ r _ out old g (export_keeps b old) p e
refused_keeps (import t) old r out g p e = kept _ r _ out old g (import_keeps t old) p e
refused_keeps (write_setting version kind ms) old r out g p e =
    kept _ r _ out old g (packed_keeps (eqb (length old) 4) (pack_of version kind ms) 4 0 old) p e
refused_keeps (store_put device version kind ms) old r out g p e =
    kept _ r _ out old g (packed_keeps (has_place old device) (pack_of version kind ms) 128 (4 * device) old) p e
refused_keeps store_move old r out g p e = kept _ r _ out old g (move_keeps old) p e

-- over C a refusal is a number that isn't 0
kept_c :
    (w : Written) (r : Reply) (after out old : List ℕ) → ((h : Fault) → w ≡ Err h → after ≡ old) → AnswersC w after r out
    → (r.number ≡ 0 → ⊥) → out ≡ old
unfolding reply_of told
kept_c (Err g) r after out old keeps p refused = p.1 ∙ keeps g refl
kept_c (Ok n) r after out old keeps p refused = absurd (refused (ap (λ (x : Reply). x.number) p.0))

pub refused_keeps_c : (entry : EntryC) (old : List ℕ) (r : Reply) (out : List ℕ) → PromiseC entry old r out → (r.number ≡ 0 → ⊥) → out ≡ old
refused_keeps_c (saltorchard_write_plain code public private derive checkint comment) old r out p refused =
    kept_c _ r _ out old (coded_plain_keeps code public private (checkint_for derive checkint private) comment old) p refused
refused_keeps_c (saltorchard_write_rsa n e d iqmp p q derive checkint comment) old r out promise refused =
    kept_c _ r _ out old (plain_keeps Rsa (of_modulus n e) (of_numbers d iqmp p q) (checkint_for derive checkint d) comment old) promise refused
refused_keeps_c (saltorchard_write_encrypted cipher k salt rounds blob ciphertext tag) old r out p refused =
    kept_c _ r _ out old (coded_encrypted_keeps cipher k salt rounds blob ciphertext tag old) p refused
refused_keeps_c (saltorchard_rewrite s) old r out p refused = kept_c _ r _ out old (rewrite_keeps s old) p refused
refused_keeps_c (saltorchard_write_keys table text derive checkint) old r out p refused =
    kept_c _ r _ out old (named_keeps false text table (checkint_for derive checkint (first_private text table)) old) p refused
refused_keeps_c (saltorchard_change_comment n comment) old r out p refused = kept_c _ r _ out old (change_keeps n 1 comment old) p refused
refused_keeps_c (saltorchard_change_comment_of n k comment) old r out p refused = kept_c _ r _ out old (change_keeps n k comment old) p refused
refused_keeps_c (saltorchard_add_key n code public private comment) old r out p refused =
    kept_c _ r _ out old (coded_add_keeps n code public private comment old) p refused
refused_keeps_c (saltorchard_add_rsa n m e d iqmp p q comment) old r out promise refused =
    kept_c _ r _ out old (rsa_keeps n m e d iqmp p q comment old) promise refused
refused_keeps_c (saltorchard_remove_key n k) old r out p refused = kept_c _ r _ out old (remove_keeps n k old) p refused
refused_keeps_c (saltorchard_export b) old r out p refused = kept_c _ r _ out old (export_keeps b old) p refused
refused_keeps_c (saltorchard_import t) old r out p refused = kept_c _ r _ out old (import_keeps t old) p refused
refused_keeps_c (saltorchard_write_setting version kind ms) old r out p refused =
    kept_c _ r _ out old (packed_keeps (eqb (length old) 4) (pack_of version kind ms) 4 0 old) p refused
refused_keeps_c (saltorchard_store_put device version kind ms) old r out p refused =
    kept_c _ r _ out old (packed_keeps (has_place old device) (pack_of version kind ms) 128 (4 * device) old) p refused
refused_keeps_c saltorchard_store_move old r out p refused = kept_c _ r _ out old (move_keeps old) p refused
