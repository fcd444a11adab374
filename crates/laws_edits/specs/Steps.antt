-- docs/RULES.md, 16.3: a file as the list of its keys, and one edit of it after the other. An edit that is accepted leaves the image of the edited
-- list, and one that is refused leaves all as it was.
use Rattle.std.specs.Prelude.{ℕ, ◌-◌, ◌≤◌, ◌≡◌, refl, Bool, true, false, cond, ◌&&◌, leb, length, take, Ok, Err}
use Rattle.std.proofs.Common.{arith, ◌∙◌, ap₂, leb-true}
use Rattle.std.proofs.Math.Path.{sym, ap}
use mathlib.Core.List.{List, [], ◌∷◌, ◌++◌, map}
use Rattle.std.proofs.lemmas.List.{length-map}
use Rattle.fields.specs.Bytes.{AllBytes, both_true}
use Rattle.fields.specs.Place.{clash}
use Rattle.fields.specs.declared.Fault.{Fault}
use Rattle.fields.specs.declared.Refusal.{Refusal}
use Rattle.fields.specs.declared.Refusal.TheVariants.{CharacterEncoding}
use Rattle.utf8.specs.Utf8.{utf8}
use Rattle.format.specs.Format.{Key, key_of, trimmed, filled_key, written_image}
use Rattle.format.specs.Scalars.{written_filled}
use Rattle.reader_image.specs.declared.Fields.{Fields}
use Rattle.reader_image.specs.Container.{keys_in}
use Rattle.writer_reply.specs.Reply.{unless, Written}
use Rattle.writer_plain.specs.Plain.{keys_checked, keys_reply}
use Rattle.writer_plain.specs.Fits.{AllFit, keys_pass, checked_append}
use Rattle.writer_plain.specs.Held.{Own, key_held, held}
use Rattle.edit_shells.specs.Keys.{change_at, remove_at, with_comment, keys_changed, keys_without, keys_with, map_change, map_remove, map_split}
use Rattle.edit_shells.specs.Sequence.{Holds, further}
use Rattle.edit_shells.proofs.Sequence.{holds_first, holds_image, holds_next}
use Rattle.edit_file.specs.Edits.{editable_at, file_keys, has_key, afresh_reply, afresh_left, change_reply, change_left, remove_reply, remove_left, add_reply, add_left}
use Rattle.edit_file.specs.Stand.{image_written}
use Rattle.edit_file.specs.Afresh.{fit_changed, fit_removed, renewed_afresh, told, text, some_keys, few_keys, keys_fit}
use Rattle.laws_edits.specs.File.{File, Again, read_again, editable_again}

-- ---- an edit of a file

-- a key that is added has no bytes but those of its kind, as the entries make it
pub data Edit : Type 0 where
  change : (k : ℕ) (comment : List ℕ) → Edit
  remove : (k : ℕ) → Edit
  add : (key : Key) → Own key.algorithm key.public key.private → Edit

-- what it makes of the keys
abbrev pub made : Edit → List Key → List Key
made (change k comment) keys = keys_changed k comment keys
made (remove k) keys = keys_without k keys
made (add key own) keys = keys_with key keys

-- what it answers, and what it leaves in the buffer whose first n bytes the file is
abbrev pub reply : Edit → List ℕ → ℕ → Written
reply (change k comment) old n = change_reply old n k comment
reply (remove k) old n = remove_reply old n k
reply (add key own) old n = add_reply old n key

abbrev pub leaves : Edit → List ℕ → ℕ → List ℕ
leaves (change k comment) old n = change_left old n k comment
leaves (remove k) old n = remove_left old n k
leaves (add key own) old n = add_left old n key

-- ---- where the image can't be edited, no edit is accepted, and all stays

pub not_editable :
    (e : Edit) (old : List ℕ) (n : ℕ) (g : Fault) → editable_at old n ≡ Err g → (reply e old n ≡ Err g) × (leaves e old n ≡ old)
unfolding change_reply change_left remove_reply remove_left add_reply add_left
not_editable (change k comment) old n g w = (rw w, rw w)
not_editable (remove k) old n g w = (rw w, rw w)
not_editable (add key own) old n g w = (rw w, rw w)

-- ---- an image that may be edited

-- by a test, and by a comment
by_test : (b : Bool) (why : Refusal) (next : Written) (m : ℕ) → unless b why next ≡ Ok m → next ≡ Ok m
by_test b why next m e = (held b why next m e).1

by_text : (b : Bool) (w : Written) (f : Fault) (m : ℕ) → cond b w (Err f) ≡ Ok m → (b ≡ true) × (w ≡ Ok m)
by_text true w f m e = (refl, e)
by_text false w f m e = clash cc

module _ (old : List ℕ) (n : ℕ) (f : Fields) (w : editable_at old n ≡ Ok f) where
  -- an edit that is accepted was accepted by the writer, of the edited keys
  pub accepted_afresh : (e : Edit) (m : ℕ) → reply e old n ≡ Ok m → afresh_reply (made e (file_keys (take n old) f)) f old ≡ Ok m
  unfolding change_reply remove_reply add_reply
  accepted_afresh (change k comment) m a = (by_text (utf8 comment) _ _ m (by_test (has_key f k) _ _ m (rw w at a))).1
  accepted_afresh (remove k) m a = by_test (has_key f k) _ _ m (rw w at a)
  accepted_afresh (add key own) m a = rw w at a

  pub accepted_text : (k : ℕ) (comment : List ℕ) (m : ℕ) → change_reply old n k comment ≡ Ok m → utf8 comment ≡ true
  unfolding change_reply
  accepted_text k comment m a = (by_text (utf8 comment) _ _ m (by_test (has_key f k) _ _ m (rw w at a))).0

  -- what it leaves
  pub accepted_left :
      (e : Edit) (m : ℕ) → reply e old n ≡ Ok m
      → leaves e old n ≡ afresh_left (Ok m) (made e (file_keys (take n old) f)) f n old
  unfolding change_left remove_left add_left
  accepted_left (change k comment) m a = rw (w, a)
  accepted_left (remove k) m a = rw (w, a)
  accepted_left (add key own) m a = rw (w, a)

  -- refused, it leaves all
  pub refused_left : (e : Edit) (g : Fault) → reply e old n ≡ Err g → leaves e old n ≡ old
  unfolding change_left remove_left add_left
  refused_left (change k comment) g a = rw (w, a)
  refused_left (remove k) g a = rw (w, a)
  refused_left (add key own) g a = rw (w, a)

-- ---- the edited keys

-- a key as a record has it
abbrev trimmed_key : Key → Key
trimmed_key k = key_of k.algorithm k.public (trimmed k.algorithm k.private) k.comment

-- a write of keys that is accepted: their number, and the tests of each
writes_held :
    (keys : List Key) (c room m : ℕ) → keys_reply keys c room ≡ Ok m
    → (1 ≤ length keys) × (length keys ≤ 16) × ((next : Written) × (keys_checked keys next ≡ Ok m))
unfolding keys_reply
writes_held keys c room m e =
    let h = held (leb 1 (length keys) && leb (length keys) 16) _ _ m e in
    let b = both_true (leb 1 (length keys)) (leb (length keys) 16) h.0 in
    (leb-true 1 (length keys) b.0, leb-true (length keys) 16 b.1, (_, h.1))

fit_appended : (xs : List Key) (k : Key) → AllFit xs → AllFit (k ∷ []) → AllFit (xs ++ k ∷ [])
fit_appended [] k fits one = one
fit_appended (x ∷ xs) k fits one = (fits.0, fits.1, fits.2, fit_appended xs k fits.3 one)

-- what a file becomes
pub record Becomes (c : ℕ) (new : List Key) : Type 0 where
  pub keys : List Key
  pub same : new ≡ map filled_key keys
  pub file : File c keys

module _ (c : ℕ) (keys : List Key) (file : File c keys) where
  becomes_of : (new : List Key) (ks : List Key) (room m : ℕ) → new ≡ map filled_key ks → AllFit ks → keys_reply new c room ≡ Ok m → Becomes c new
  becomes_of new ks room m same fits a =
      let h = writes_held new c room m a in
      let long : length new ≡ length ks = ap length same ∙ length-map ks filled_key in
      record { keys = ks; same = same; file = record { fits = fits; some = omega (arith, long, h.0); few = omega (arith, long, h.1); checkint = file.checkint } }

  change_becomes :
      (k : ℕ) (comment : List ℕ) (room m : ℕ) → utf8 comment ≡ true → keys_reply (keys_changed k comment (map filled_key keys)) c room ≡ Ok m
      → Becomes c (keys_changed k comment (map filled_key keys))
  unfolding keys_changed
  change_becomes k comment room m utf a =
      becomes_of _ (change_at (with_comment comment) (k - 1) keys) room m
      (sym (map_change filled_key (with_comment comment) (with_comment comment) (λ x. refl) (k - 1) keys)) (fit_changed comment utf (k - 1) keys file.fits) a

  remove_becomes :
      (k room m : ℕ) → keys_reply (keys_without k (map filled_key keys)) c room ≡ Ok m → Becomes c (keys_without k (map filled_key keys))
  unfolding keys_without
  remove_becomes k room m a =
      becomes_of _ (remove_at (k - 1) keys) room m (sym (map_remove filled_key (k - 1) keys)) (fit_removed (k - 1) keys file.fits) a

  add_becomes :
      (key : Key) → Own key.algorithm key.public key.private → (room m : ℕ) → keys_reply (keys_with key (map filled_key keys)) c room ≡ Ok m
      → Becomes c (keys_with key (map filled_key keys))
  unfolding keys_with keys_checked
  add_becomes key own room m a =
      let h = (writes_held (map filled_key keys ++ key ∷ []) c room m a).2 in
      let one = sym (checked_append (map filled_key keys) (key ∷ []) h.0 ∙ keys_pass keys _ file.fits) ∙ h.1 in
      let k = key_held key.algorithm key.public key.private _ m one in
      let fit = k.0 own in
      let utf = (held (utf8 key.comment) CharacterEncoding h.0 m k.1).0 in
      let back : filled_key (trimmed_key key) ≡ key = ap (λ x. key_of key.algorithm key.public x key.comment) fit.2 in
      let same : map filled_key keys ++ key ∷ [] ≡ map filled_key (keys ++ trimmed_key key ∷ []) =
      sym (map_split filled_key keys (trimmed_key key) [] ∙ ap (λ (x : Key). map filled_key keys ++ x ∷ []) back) in
      becomes_of _ (keys ++ trimmed_key key ∷ []) room m same (fit_appended keys (trimmed_key key) file.fits (fit.0, fit.1, utf, tt)) a

-- ---- one edit after others

module _ (c : ℕ) (old : List ℕ) (keys : List Key) (file : File c keys) (n far : ℕ) (out : List ℕ) (h : Holds c old (map filled_key keys) n far out) where
  -- the image is read again, and may be edited
  read_now : Again (take n out) c keys
  read_now =
      let image : take n out ≡ written_image c keys = (holds_image c old h).0 ∙ written_filled c keys in
      let small : length (take n out) ≤ 65535 = omega (arith, ap length (holds_image c old h).0, h.size, h.small) in
      read_again (take n out) c keys file small image

  abbrev now_fields : Fields
  now_fields = read_now.fields

  editable_now : (editable_at out n ≡ Ok now_fields) × (file_keys (take n out) now_fields ≡ map filled_key keys)
  editable_now = editable_again out n c keys read_now h.small (omega (arith, (holds_image c old h).1, h.reached, h.room))

  pub step_refused : (e : Edit) (g : Fault) → reply e out n ≡ Err g → leaves e out n ≡ out
  step_refused e g a = refused_left out n now_fields editable_now.0 e g a

  -- the writer took the edited keys
  writer_took : (e : Edit) (m : ℕ) → reply e out n ≡ Ok m → keys_reply (made e (map filled_key keys)) c (length out) ≡ Ok m
  writer_took e m a =
      ap₂ (λ (l : List Key) (i : ℕ). keys_reply (made e l) i (length out)) (sym editable_now.1) (sym read_now.same_checkint)
      ∙ accepted_afresh out n now_fields editable_now.0 e m a

  pub step_becomes : (e : Edit) (m : ℕ) → reply e out n ≡ Ok m → Becomes c (made e (map filled_key keys))
  step_becomes (change k comment) m a =
      change_becomes c keys file k comment (length out) m (accepted_text out n now_fields editable_now.0 k comment m a) (writer_took (change k comment) m a)
  step_becomes (remove k) m a = remove_becomes c keys file k (length out) m (writer_took (remove k) m a)
  step_becomes (add key own) m a = add_becomes c keys file key own (length out) m (writer_took (add key own) m a)

  -- and the buffer holds their image
  pub step_holds : (e : Edit) (m : ℕ) → reply e out n ≡ Ok m → Holds c old (made e (map filled_key keys)) m (further far m) (leaves e out n)
  step_holds e m a =
      let b = step_becomes e m a in
      let f = now_fields in
      let new = map filled_key b.keys in
      let own : made e (file_keys (take n out) f) ≡ new = ap (made e) editable_now.1 ∙ b.same in
      let took : afresh_reply new f out ≡ Ok m =
      ap (λ (l : List Key). afresh_reply l f out) (sym own) ∙ accepted_afresh out n f editable_now.0 e m a in
      let left : leaves e out n ≡ afresh_left (afresh_reply new f out) new f n out =
      accepted_left out n f editable_now.0 e m a ∙ ap₂ (λ (w : Written) (l : List Key). afresh_left w l f n out) (sym took) own in
      let p = renewed_afresh b.keys b.file.fits b.file.some b.file.few f n out (Ok m) (leaves e out n) (sym took) left in
      let image : written_image f.section.checkint b.keys ≡ written_image c (made e (map filled_key keys)) =
      ap (λ (i : ℕ). written_image i b.keys) read_now.same_checkint ∙ sym (written_filled c b.keys) ∙ ap (written_image c) (sym b.same) in
      holds_next c old (made e (map filled_key keys)) m (leaves e out n) h (rw image at p)

-- ---- before the first

module _ (old : List ℕ) (all : AllBytes old) (n : ℕ) (f : Fields) (w : editable_at old n ≡ Ok f) where
  pub first_file : File f.section.checkint (keys_in (take n old) f)
  first_file =
      record {
        fits = keys_fit old all n f w;
        some = some_keys old all n f w;
        few = few_keys old all n f w;
        checkint = (text old all n f w).checkint_fits;
      }

  pub first_holds : Holds f.section.checkint old (map filled_key (keys_in (take n old) f)) n n old
  first_holds =
      let t = told old all n f w in
      let image = image_written (take n old) f (text old all n f w) t.plain t.form in
      holds_first f.section.checkint old (map filled_key (keys_in (take n old) f)) n
      (image ∙ sym (written_filled f.section.checkint (keys_in (take n old) f))) t.inside t.small
