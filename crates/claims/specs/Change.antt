-- docs/RULES.md, 16.3, the third demand, of one edit: the comment of key k changed, key k removed, a key added. It leaves what the writer, given the keys then
-- in the file and the image's own checkint, leaves; old bytes past the new end become zero; what lies past both ends stays; a refused edit
-- leaves every byte.
use Rattle.std.specs.Prelude.{ℕ, ◌+◌, ◌-◌, ◌≤◌, ◌≡◌, refl, true, List, ◌++◌, map, leb, length, take, drop, Result, Ok, Err}
use Rattle.std.proofs.Common.{arith, sym, ◌∙◌, ap, take_at, drop_at, drop-drop}
use Rattle.fields.specs.Bytes.{AllBytes}
use Rattle.fields.specs.Place.{clash}
use Rattle.fields.specs.declared.Fault.{Fault}
use Rattle.format.specs.Format.{Key, filled_key, written_image}
use Rattle.reader_section.specs.declared.Kind.TheVariants.{Plain}
use Rattle.reader_image.specs.declared.Fields.{Fields}
use Rattle.reader_image.specs.Container.{keys_in, read_at}
use Rattle.reader_image.specs.Form.{form_of}
use Rattle.buffer.specs.Puts.{take-splice, zeros, zeros-length}
use Rattle.writer_plain.specs.Plain.{keys_reply, keys_left}
use Rattle.edit_shells.specs.Sequence.{Holds, further}
use Rattle.edit_shells.proofs.Sequence.{holds_image}
use Rattle.edit_file.specs.Edits.{record_editable, editable_at, file_keys}
use Rattle.laws_edits.specs.Steps.{Edit, made, reply, leaves, not_editable, refused_left, accepted_afresh, step_holds, first_file, first_holds}

-- an image is read in one way
pub one_record : (s : List ℕ) (f g : Fields) → read_at s ≡ Ok f → read_at s ≡ Ok g → f ≡ g
one_record s f g e w = let o : Ok f ≡ Ok g = sym e ∙ w in cc

pub by_editable : {P : Type 0} (w : Result Fields Fault) → ((g : Fault) → w ≡ Err g → P) → ((f : Fields) → w ≡ Ok f → P) → P
by_editable (Err g) refused image = refused g refl
by_editable (Ok f) refused image = image f refl

-- an accepted image that is plain and in the form
pub may_edit :
    (old : List ℕ) (n : ℕ) (f : Fields) → leb n 65535 ≡ true → leb n (length old) ≡ true → read_at (take n old) ≡ Ok f → f.section.kind ≡ Plain
    → form_of (take n old) f ≡ true → editable_at old n ≡ Ok f
unfolding editable_at record_editable
may_edit old n f small inside e plain form = rw (small, inside, e, form, plain)

-- what an accepted edit was given and leaves
pub record Changed (e : Edit) (old : List ℕ) (n m : ℕ) : Type 0 where
  -- a plain image in the form
  pub fields : Fields
  pub may_edit : editable_at old n ≡ Ok fields
  -- the writer takes the keys then in the file, and the first m bytes are those that it leaves: their image
  pub by_writer : keys_reply (made e (file_keys (take n old) fields)) fields.section.checkint (length old) ≡ Ok m
  pub image : take m (leaves e old n) ≡ written_image fields.section.checkint (made e (file_keys (take n old) fields))
  pub written_afresh : take m (leaves e old n) ≡ take m (keys_left (made e (file_keys (take n old) fields)) fields.section.checkint old)
  -- old bytes past the new end are zero
  pub zeroed : take (n - m) (drop m (leaves e old n)) ≡ zeros (n - m)
  -- bytes past both ends stay
  pub stays : drop (m + (n - m)) (leaves e old n) ≡ drop (m + (n - m)) old
  pub same_length : length (leaves e old n) ≡ length old

-- what a buffer holds after one edit, by the two ends
pub held_out :
    (c : ℕ) (old : List ℕ) (keys : List Key) (n m : ℕ) (out : List ℕ) → Holds c old keys m (further n m) out
    → (take m out ≡ written_image c keys) × (take (n - m) (drop m out) ≡ zeros (n - m)) × (drop (m + (n - m)) out ≡ drop (m + (n - m)) old)
    × (length out ≡ length old)
held_out c old keys n m out h =
    let image = written_image c keys in
    let gap : further n m - m ≡ n - m = omega arith in
    let far : m + (n - m) ≡ further n m = omega arith in
    let tail = zeros (further n m - m) ++ drop (further n m) old in
    let rest : drop m out ≡ tail = ap (drop m) h.whole ∙ drop_at image tail m (sym h.size) in
    let both = holds_image c old h in (
      both.0,
      ap (take (n - m)) rest ∙ rw gap (take_at (zeros (n - m)) (drop (further n m) old) (n - m) (zeros-length (n - m))),
      sym (drop-drop (n - m) m out) ∙ ap (drop (n - m)) rest ∙ rw gap (drop_at (zeros (n - m)) (drop (further n m) old) (n - m) (zeros-length (n - m)))
          ∙ ap (λ (i : ℕ). drop i old) (sym far),
      both.1,
    )

-- the writer's first bytes are the image
pub writer_leaves :
    (keys : List Key) (c : ℕ) (old : List ℕ) (m : ℕ) → keys_reply keys c (length old) ≡ Ok m → m ≡ length (written_image c keys)
    → length (written_image c keys) ≤ length old → take m (keys_left keys c old) ≡ written_image c keys
unfolding keys_left
writer_leaves keys c old m e size fits =
    let image = written_image c keys in
    let fit : 0 + length image ≤ length old = omega (arith, fits) in
    let end : m ≡ 0 + length image = omega (arith, size) in
    rw (e, end) (take-splice old 0 image fit)

pub change_changes : (e : Edit) (old : List ℕ) → AllBytes old → (n m : ℕ) → reply e old n ≡ Ok m → Changed e old n m
unfolding file_keys
change_changes e old all n m a =
    by_editable (editable_at old n)
    (λ g w. clash (let o : Err g ≡ Ok m = sym (not_editable e old n g w).0 ∙ a in cc))
    (λ f w.
    let c = f.section.checkint in
    let keys = made e (map filled_key (keys_in (take n old) f)) in
    let h = step_holds c old (keys_in (take n old) f) (first_file old all n f w) n n old (first_holds old all n f w) e m a in
    let o = held_out c old keys n m (leaves e old n) h in
    let took = accepted_afresh old n f w e m a in
    record {
      fields = f;
      may_edit = w;
      by_writer = took;
      image = o.0;
      written_afresh = o.0 ∙ sym (writer_leaves keys c old m took h.size (omega (arith, h.size, h.reached, h.room)));
      zeroed = o.1;
      stays = o.2;
      same_length = o.3;
    })

-- a refused edit leaves every byte
pub refused_stays : (e : Edit) (old : List ℕ) (n : ℕ) (g : Fault) → reply e old n ≡ Err g → leaves e old n ≡ old
refused_stays e old n g a =
    by_editable (editable_at old n)
    (λ h w. (not_editable e old n h w).1)
    (λ f w. refused_left old n f w e g a)
