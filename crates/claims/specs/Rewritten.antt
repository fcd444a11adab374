-- docs/RULES.md, 11, and 16.2, the second demand: what the plain writer writes is in the form. So is what a rewrite writes of an accepted image, and it is read as the same
-- record, with the same keys in their order, each scalar in its form. It does write: `rewrite_sized` (Form) says that a rewrite of an accepted image is refused for size and room
-- only.
use Rattle.std.specs.Prelude.{ℕ, suc, ◌-◌, ◌%◌, ◌≤◌, ◌<◌, ◌^◌, ◌≡◌, refl, eqb, take, Result, Ok, Err}
use Rattle.std.proofs.Common.{arith, ◌∙◌}
use Rattle.std.proofs.Math.Path.{sym, ap}
use Rattle.std.proofs.Math.Bool.{true}
use mathlib.Core.List.{List, [], ◌∷◌, map}
use Rattle.std.proofs.Math.ListN.{length}
use Rattle.fields.specs.Bytes.{AllBytes, same_true, same_self}
use Rattle.fields.specs.Fields.{fault, absent, within, bytes_at, string_at, end_at, view_of}
use Rattle.fields.specs.Place.{clash, by_bool, by_read, by_tested}
use Rattle.fields.specs.Rest.{view_absent}
use Rattle.fields.specs.declared.Cursor.{Cursor}
use Rattle.fields.specs.declared.Refusal.TheVariants.{Crypto}
use Rattle.names.specs.declared.Algorithm.{Algorithm}
use Rattle.names.specs.declared.Cipher.{Cipher}
use Rattle.names.specs.declared.Cipher.TheVariants as cipher
use Rattle.names.specs.declared.Kdf.{Kdf}
use Rattle.names.specs.declared.Kdf.TheVariants as kdf
use Rattle.names.specs.Ciphers.{is_none, block_size, tag_length}
use Rattle.format.specs.Format.{Key, key_blob, standing_entries, plain_image}
use Rattle.format.specs.Scalars.{key_zeros, rule_may, written_own}
use Rattle.key_public.specs.declared.Public.{Public}
use Rattle.reader_section.specs.declared.Kind.TheVariants.{Plain, Encrypted}
use Rattle.reader_header.specs.declared.Header.{Header}
use Rattle.reader_header.specs.Header.{on_kdf, keys_allowed, second_blob}
use Rattle.reader_header.specs.Place.{keys_sealed, one_allowed}
use Rattle.reader_entries.specs.Entries.{keys_at, key_read_of}
use Rattle.reader_entries.proofs.Read.{by_keys}
use Rattle.reader_section.specs.Section.{checkints_at, padding_at, closed_at, content_at, ended_at, plain_at, encrypted_at}
use Rattle.reader_entries.specs.Back.{KeyFits, AllFit}
use Rattle.reader_section.specs.Read.{by_section}
use Rattle.reader_image.specs.declared.Fields.{Fields}
use Rattle.reader_image.specs.Container.{public_in, private_in, first_in, other_places, keys_in, kdf_name_place, section_at, read_at}
use Rattle.reader_image.specs.Form.{rewritten, form_of}
use Rattle.reader_image.specs.Read.{halves, KeysText, ImageText, plain_text, encrypted_text, image_text}
use Rattle.reader_image.specs.FormLaws.{fit_private, rewritten_plain, form_encrypted}
use Rattle.reader_image.specs.Back.{keys_image_back}
use Rattle.writer_plain.specs.Plain.{keys_left}
use Rattle.writer_again.specs.Rewrite.{IsRewritten}
use Rattle.claims.specs.Reading.{AllOwn, Writes, trimmed_key, plain_accepted, plain_written, written_stands, read_after_write}
use Rattle.claims.specs.Form.{keys_form, rewrite_written}
use Rattle.claims.specs.Change.{one_record}
use Rattle.fields.specs.declared.Fault.{Fault}
use Rattle.reader_section.specs.declared.Section.{Section}
use Rattle.writer_reply.specs.Reply.{Written}

-- ---- what the plain writer writes

pub plain_in_form :
    (keys : List Key) (n : ℕ) (old : List ℕ) (r : Written) (out : List ℕ) (k : ℕ) → n < 2 ^ 32 → AllOwn keys → Writes keys n old r out → r ≡ Ok k
    → (f : Fields) × (read_at (take k out) ≡ Ok f) × (form_of (take k out) f ≡ true)
plain_in_form [] n old r out k small own meets answered =
    absurd (omega (arith, (plain_accepted [] n (length old) k (sym meets.0 ∙ answered)).some))
plain_in_form (x ∷ others) n old r out k small own meets answered =
    let keys = x ∷ others in
    let e = sym meets.0 ∙ answered in
    let b = read_after_write x others n old k small own e in
    let rule = map key_zeros (map trimmed_key keys) in
    let text = plain_written keys n old k e ∙ written_stands n keys in
    let form =
    keys_form (take k (keys_left keys n old)) b.fields n rule (map trimmed_key keys) b.plain b.same_checkint b.same_keys
    ((plain_accepted keys n (length old) k e).fits own) text
    ∙ same_self rule in
    rw meets.1 (b.fields, b.read, form)

-- ---- what a rewrite writes

-- the record g of t says what the record f of s says: all but how many bytes the padding has
pub record SameRecord (s : List ℕ) (f : Fields) (t : List ℕ) (g : Fields) : Type 0 where
  pub kind : g.section.kind ≡ f.section.kind
  pub count : g.header.count ≡ f.header.count
  pub keys : keys_in t g ≡ keys_in s f
  pub cipher : g.header.cipher ≡ f.header.cipher
  pub kdf : g.header.kdf ≡ f.header.kdf
  pub salt : view_of t g.header.salt ≡ view_of s f.header.salt
  pub rounds : g.header.rounds ≡ f.header.rounds
  pub algorithm : g.header.algorithm ≡ f.header.algorithm
  pub blob_bytes : view_of t g.header.blob ≡ view_of s f.header.blob
  pub public : public_in t g ≡ public_in s f
  pub bits : g.header.public.bits ≡ f.header.public.bits
  pub checkint : g.section.checkint ≡ f.section.checkint
  pub private : private_in t g ≡ private_in s f
  pub comment : view_of t g.section.comment ≡ view_of s f.section.comment
  pub ciphertext : view_of t g.section.ciphertext ≡ view_of s f.section.ciphertext
  pub tag : view_of t g.section.tag ≡ view_of s f.section.tag

-- what is written of the record f of s
pub record Rewritten (s : List ℕ) (f : Fields) (t : List ℕ) : Type 0 where
  pub fields : Fields
  pub read : read_at t ≡ Ok fields
  pub form : form_of t fields ≡ true
  pub same : SameRecord s f t fields
  -- before each scalar of a plain image stand the zeros that the writer's rule asks for
  pub stands :
      f.section.kind ≡ Plain
      → t ≡ plain_image f.section.checkint (map key_blob (keys_in s f)) (standing_entries (map key_zeros (keys_in s f)) (keys_in s f))

-- ---- a plain section has neither ciphertext nor tag

abbrev Open : Result Section Fault → Type 0
Open (Err g) = Unit {0}
Open (Ok x) = x.kind ≡ Plain → (x.ciphertext ≡ absent) × (x.tag ≡ absent)

content_open : (s : List ℕ) (c : Cursor) (a : Algorithm) (q : Public) (o : Cursor) (more : ℕ) → Open (content_at s c a q o more)
unfolding content_at closed_at
content_open s c a q o more =
    by_bool (eqb ((c.end - c.at) % 8) 0)
    (λ w.
    rw w
    (by_read (checkints_at s c)
    (λ g v. rw v tt)
    (λ n d v.
    rw v
    (by_keys (keys_at s d a q o more)
    (λ g u. rw u tt)
    (λ y m places b u.
    rw u
    (by_tested (padding_at s b)
    (λ g t. rw t tt)
    (λ t. rw t (λ plain. (refl, refl)))))))))
    (λ w. rw w tt)

plain_open : (s : List ℕ) (c : Cursor) (a : Algorithm) (q : Public) (o : Cursor) (more : ℕ) → Open (plain_at s c a q o more)
unfolding plain_at ended_at
plain_open s c a q o more =
    by_read (string_at s c)
    (λ g w. rw w tt)
    (λ p d w.
    rw w
    (by_section (content_at s (within p) a q o more)
    (λ g v. rw v tt)
    (λ x v.
    rw v
    (by_tested (end_at d)
    (λ g u. rw u tt)
    (λ u. rw u (rw v at (content_open s (within p) a q o more)))))))

encrypted_open : (s : List ℕ) (c : Cursor) (k : Cipher) → Open (encrypted_at s c k)
unfolding encrypted_at
encrypted_open s c k =
    by_read (string_at s c)
    (λ g w. rw w tt)
    (λ p d w.
    rw w
    (by_bool (eqb (p.length % block_size k) 0)
    (λ v.
    rw v
    (by_read (bytes_at s d (tag_length k))
    (λ g u. rw u tt)
    (λ m b u.
    rw u
    (by_tested (end_at b)
    (λ g t. rw t tt)
    (λ t. rw t (λ plain. clash cc))))))
    (λ v. rw v tt)))

section_open : (s : List ℕ) (h : Header) → Open (section_at s h)
unfolding section_at
section_open s h =
    let c : Cursor = record { at = h.section; end = length s } in
    by_bool (is_none h.cipher)
    (λ w. rw w (by_kdf h.kdf (plain_open s c h.algorithm h.public (second_blob s h) (h.count - 1))))
    (λ w. rw w (encrypted_open s c h.cipher))
  where
    by_kdf : (k : Kdf) → Open (plain_at s (record { at = h.section; end = length s }) h.algorithm h.public (second_blob s h) (h.count - 1))
        → Open (on_kdf k (plain_at s (record { at = h.section; end = length s }) h.algorithm h.public (second_blob s h) (h.count - 1)) (Err (fault Crypto kdf_name_place)))
    by_kdf kdf.None h₁ = h₁
    by_kdf kdf.Bcrypt h₁ = tt

no_seal :
    (s : List ℕ) (f : Fields) → read_at s ≡ Ok f → f.section.kind ≡ Plain
    → (view_of s f.section.ciphertext ≡ []) × (view_of s f.section.tag ≡ [])
no_seal s f e plain =
    let none = rw (halves s f e).1 at (section_open s f.header) in
    let o = none plain in
    (ap (view_of s) o.0 ∙ view_absent s, ap (view_of s) o.1 ∙ view_absent s)

-- ---- the claim

-- keys that fit, with the zeros that the rule asks for
rule_fit : (zs : List ℕ) (keys : List Key) → AllFit zs keys → AllFit (map key_zeros keys) keys
rule_fit [] (k ∷ keys) fits = elim fits [ ]
rule_fit (z ∷ zs) [] fits = elim fits [ ]
rule_fit [] [] fits = tt
rule_fit (z ∷ zs) (k ∷ keys) fits =
    let own = fits.0 in
    let one : KeyFits k.algorithm (key_zeros k) k.public k.private k.comment =
    record {
      public = own.public;
      private = own.private;
      may = rule_may k.algorithm k.public k.private own.private;
      text = own.text;
    } in
    (one, rule_fit zs keys fits.1)

-- as many keys as are read may be written
count_plain : (c : Cipher) (n : ℕ) → keys_allowed c n ≡ true → keys_allowed cipher.None n ≡ true
count_plain c n e = by_bool (is_none c) (λ w. rw w at e) (λ w. rw (keys_sealed c n w e) (one_allowed cipher.None))

module _ (s : List ℕ) (all : AllBytes s) (f : Fields) (e : read_at s ≡ Ok f) where
  -- a plain record is written with the zeros that the rule asks for
  plain_read : f.section.kind ≡ Plain → KeysText s f → length (rewritten s f) ≤ 65535 → Rewritten s f (rewritten s f)
  unfolding keys_in
  plain_read plain p small =
      let t = rewritten s f in
      let n = f.section.checkint in
      let k = first_in s f in
      let others = map (key_read_of s) (other_places f) in
      let keys = k ∷ others in
      let zs = p.zeros ∷ p.more_zeros in
      let rule = map key_zeros keys in
      let fits = rule_fit zs keys p.keys_fit in
      let text : t ≡ plain_image n (map key_blob keys) (standing_entries rule keys) =
      rewritten_plain s f plain ∙ written_own n keys (fit_private zs keys p.keys_fit) in
      let allowed : keys_allowed cipher.None (suc (length others)) ≡ true =
      rw (← p.counted) (count_plain f.header.cipher f.header.count p.allowed) in
      let b = keys_image_back t n k others (key_zeros k) (map key_zeros others) small p.checkint_fits fits allowed text in
      let o = keys_image_back s n k others p.zeros p.more_zeros p.fits p.checkint_fits p.keys_fit allowed p.text in
      let own = one_record s o.fields f o.read e in
      let none = no_seal s f e plain in
      let also-none = no_seal t b.fields b.read b.plain in
      record {
        fields = b.fields;
        read = b.read;
        form =
            keys_form t b.fields n rule keys b.plain b.same_checkint b.same_keys fits text ∙ same_self rule;
        same =
            record {
              kind = b.plain ∙ sym plain;
              count = b.same_count ∙ sym p.counted;
              keys = b.same_keys;
              cipher = b.no_cipher ∙ sym (rw own at o.no_cipher);
              kdf = b.no_kdf ∙ sym (rw own at o.no_kdf);
              salt = b.no_salt ∙ sym (rw own at o.no_salt);
              rounds = b.no_rounds ∙ sym (rw own at o.no_rounds);
              algorithm = ap (λ (y : Key). y.algorithm) b.same_first;
              blob_bytes = b.same_blob ∙ sym p.content;
              public = ap (λ (y : Key). y.public) b.same_first;
              bits = b.same_bits ∙ sym (rw own at o.same_bits);
              checkint = b.same_checkint;
              private = ap (λ (y : Key). y.private) b.same_first;
              comment = ap (λ (y : Key). y.comment) b.same_first;
              ciphertext = also-none.0 ∙ sym none.0;
              tag = also-none.1 ∙ sym none.1;
            };
        stands = λ kind. text;
      }

  -- an encrypted image is written as it is
  encrypted_read : f.section.kind ≡ Encrypted → rewritten s f ≡ s → form_of s f ≡ true → Rewritten s f (rewritten s f)
  encrypted_read kind same form =
      rw same
      (record {
        fields = f;
        read = e;
        form = form;
        same =
            record {
              kind = refl;
              count = refl;
              keys = refl;
              cipher = refl;
              kdf = refl;
              salt = refl;
              rounds = refl;
              algorithm = refl;
              blob_bytes = refl;
              public = refl;
              bits = refl;
              checkint = refl;
              private = refl;
              comment = refl;
              ciphertext = refl;
              tag = refl;
            };
        stands = λ plain. clash (let o : Plain ≡ Encrypted = sym plain ∙ kind in cc);
      })

  -- whatever meets the contract of a rewrite, and answers a length
  pub rewrite_read :
      (old : List ℕ) (r : Written) (out : List ℕ) (k : ℕ) → IsRewritten s old r out → r ≡ Ok k → Rewritten s f (take k out)
  unfolding form_of
  rewrite_read old r out k meets answered =
      let h = rewrite_written s all f e old k (sym meets.0 ∙ answered) in
      rw (meets.1, h.1) (go h.0 (image_text s all f e))
    where
      go : length (rewritten s f) ≤ 65535 → ImageText s all f e → Rewritten s f (rewritten s f)
      go small (plain_text kind p) = plain_read kind p small
      go small (encrypted_text kind p) =
          let form = form_encrypted s f p kind in
          encrypted_read kind (same_true (rewritten s f) s form) form
