-- The form by the scalars alone: for an accepted image, writing its record again gives it back exactly where each scalar stands by
-- the writer's rule.
use Rattle.std.specs.Prelude.{ℕ, suc, ◌+◌, ◌-◌, ◌≤◌, ◌<◌, ◌≡◌, refl, Bool, true, false, ◌&&◌, List, [], ◌∷◌, map, eqb, length, take, drop, get_or, Result, Ok, Err}
use Rattle.std.proofs.Common.{arith, sym, ◌∙◌, ap, eq-eqb}
use Rattle.fields.specs.Bytes.{AllBytes, same_bytes, same_true, same_self}
use Rattle.fields.specs.Fields.{view_of}
use Rattle.fields.specs.declared.Cursor.{Cursor}
use Rattle.fields.specs.declared.Fault.{Fault}
use Rattle.fields.specs.Place.{clash, by_bool}
use Rattle.names.specs.declared.Elliptic.TheVariants.{Ed25519, Ecdsa}
use Rattle.names.specs.declared.Algorithm.{Algorithm}
use Rattle.names.specs.declared.Algorithm.TheVariants.{Elliptic as OnCurve, Rsa}
use Rattle.format.specs.Format.{PublicBytes, PrivateBytes, Key, PrivateFits, MayStand, leading_zero, zero_length, zeros_asked, blob, key_of, key_blob, standing_entries, plain_image, written_image, encrypted_image, filled_key}
use Rattle.format.specs.Laws.{AllMay}
use Rattle.format.proofs.Laws.{allowed_small, standing_same}
use Rattle.format.specs.Scalars.{AllPrivate, key_zeros, rule_may, fits_allowed, written_own}
use Rattle.key_public.specs.Keys.{public_bytes}
use Rattle.key_pairs.specs.declared.Private.{Private}
use Rattle.key_pairs.specs.Pairs.{private_bytes}
use Rattle.laws_keys.specs.ReadPair.{IfScalar, Begins}
use Rattle.reader_section.specs.declared.Kind.{Kind}
use Rattle.reader_section.specs.declared.Kind.TheVariants.{Plain, Encrypted}
use Rattle.places.specs.Places.{places_next}
use Rattle.reader_entries.specs.Entries.{key_read_of, on_key_read, key_placed}
use Rattle.reader_entries.specs.Back.{AllFit}
use Rattle.reader_entries.specs.Read.{AllStand}
use Rattle.reader_entries.proofs.Read.{stands_found}
use Rattle.reader_header.specs.Header.{second_blob}
use Rattle.reader_image.specs.declared.Fields.{Fields}
use Rattle.reader_image.specs.Container.{other_places, keys_in, read_at}
use Rattle.reader_image.specs.Form.{on_kind, rewritten, form_of, scalar_stands, scalar_in_form, others_in_form, scalars_in_form, record_in_form}
use Rattle.reader_image.specs.Read.{KeysText, EncryptedText, ImageText, plain_text, encrypted_text, image_text}

-- a scalar is short, and RSA has none
pub scalar_short : (a : Algorithm) (key : PublicBytes) (x : PrivateBytes) → PrivateFits a key x → length x.scalar < 67
scalar_short (OnCurve e) key x fits = allowed_small e x.scalar (fits_allowed e x.scalar fits.0)
scalar_short Rsa key x fits =
    let none : length x.scalar ≡ 0 = ap (λ (y : PrivateBytes). length y.scalar) fits.1 in
    omega (arith, none)

-- keys that fit have private bytes that fit, scalars that are short, and may have the zeros that the rule asks for
pub fit_private : (zs : List ℕ) (keys : List Key) → AllFit zs keys → AllPrivate keys
fit_private [] (k ∷ keys) fits = elim fits [ ]
fit_private (z ∷ zs) [] fits = elim fits [ ]
fit_private [] [] fits = tt
fit_private (z ∷ zs) (k ∷ keys) fits = (fits.0.private, fit_private zs keys fits.1)

fit_may : (zs : List ℕ) (keys : List Key) → AllFit zs keys → AllMay zs keys
fit_may [] (k ∷ keys) fits = elim fits [ ]
fit_may (z ∷ zs) [] fits = elim fits [ ]
fit_may [] [] fits = tt
fit_may (z ∷ zs) (k ∷ keys) fits = (scalar_short k.algorithm k.public k.private fits.0.private, fits.0.may, fit_may zs keys fits.1)

rule_all : (keys : List Key) → AllPrivate keys → AllMay (map key_zeros keys) keys
rule_all [] fits = tt
rule_all (k ∷ keys) fits =
    (scalar_short k.algorithm k.public k.private fits.0, rule_may k.algorithm k.public k.private fits.0, rule_all keys fits.1)

on_plain : (k : Kind) (x y : List ℕ) → k ≡ Plain → on_kind k x y ≡ x
on_plain k x y e = ap (λ (j : Kind). on_kind j x y) e

on_encrypted : (k : Kind) (x y : List ℕ) → k ≡ Encrypted → on_kind k x y ≡ y
on_encrypted k x y e = ap (λ (j : Kind). on_kind j x y) e

pub rewritten_plain : (s : List ℕ) (f : Fields) → f.section.kind ≡ Plain → rewritten s f ≡ written_image f.section.checkint (map filled_key (keys_in s f))
unfolding rewritten
rewritten_plain s f plain = on_plain f.section.kind _ _ plain

pub rewritten_encrypted :
    (s : List ℕ) (f : Fields) → f.section.kind ≡ Encrypted
    → rewritten s f
    ≡ encrypted_image f.header.cipher f.header.kdf (view_of s f.header.salt) f.header.rounds (view_of s f.header.blob)
    (view_of s f.section.ciphertext) (view_of s f.section.tag)
unfolding rewritten
rewritten_encrypted s f encrypted = on_encrypted f.section.kind _ _ encrypted

-- the writer's image is the image itself exactly where the zeros that stand are those that the rule asks for
pub form_stands :
    (s : List ℕ) (f : Fields) (zs : List ℕ)
    → s ≡ plain_image f.section.checkint (map key_blob (keys_in s f)) (standing_entries zs (keys_in s f)) → AllFit zs (keys_in s f)
    → f.section.kind ≡ Plain → form_of s f ≡ same_bytes (map key_zeros (keys_in s f)) zs
unfolding form_of
form_stands s f zs text fits plain =
    let keys = keys_in s f in
    let rule = map key_zeros keys in
    let private = fit_private zs keys fits in
    let image : List ℕ → List ℕ = λ vs. plain_image f.section.checkint (map key_blob keys) (standing_entries vs keys) in
    let written = written_own f.section.checkint keys private in
    rw (rewritten_plain s f plain, written)
    (by_bool (same_bytes rule zs)
    (λ w. rw w (ap (λ (vs : List ℕ). same_bytes (image vs) s) (same_true rule zs w) ∙ ap (λ (t : List ℕ). same_bytes t s) (sym text) ∙ same_self s))
    (λ w.
    rw w
    (by_bool (same_bytes (image rule) s)
    (λ v.
    let same : image rule ≡ image zs = same_true (image rule) s v ∙ text in
    let z = standing_same f.section.checkint (map key_blob keys) keys rule zs (rule_all keys private) (fit_may zs keys fits) same in
    let differ : false ≡ true = sym w ∙ ap (λ (l : List ℕ). same_bytes l zs) z ∙ same_self zs in
    clash cc)
    (λ v. v))))

zero_small : (b : Bool) → zero_length b < 2
zero_small true = omega arith
zero_small false = omega arith

-- one scalar, by the byte at which the length of its string would end
scalar_agrees :
    (s : List ℕ) (a : Algorithm) (x : Private) (zeros : ℕ) → MayStand a zeros (private_bytes s x) → IfScalar a (Begins s x.scalar zeros)
    → scalar_in_form s Plain a x.scalar ≡ eqb (zeros_asked a (private_bytes s x)) zeros
unfolding scalar_in_form scalar_stands private_bytes
scalar_agrees s (OnCurve Ed25519) x z may begins = sym (eq-eqb 0 z (sym may))
scalar_agrees s (OnCurve (Ecdsa k)) x z may begins =
    begins (zero_length (leading_zero (view_of s x.scalar))) (zero_small (leading_zero (view_of s x.scalar)))
scalar_agrees s Rsa x z may begins = sym (eq-eqb 0 z (sym may))

-- the scalars of keys that stand one after the other
others_agree :
    (s : List ℕ) (all : AllBytes s) (c b : Cursor) (l zs : List ℕ) → c.end ≡ length s → AllStand s all c b l zs → length zs ≡ length l
    → others_in_form s b l ≡ same_bytes (map key_zeros (map (key_read_of s) l)) zs
unfolding others_in_form
others_agree s all c b (x ∷ l) [] end stand long = elim stand [ ]
others_agree s all c b [] [] end stand long = refl
others_agree s all c b [] (z ∷ zs) end stand long = absurd (omega arith)
others_agree s all c b (x ∷ l) (z ∷ zs) end stand long =
    let k = stand.1.0 in
    let r = k.entry_text in
    let key : key_read_of s x ≡ key_of k.algorithm (public_bytes s k.public) (private_bytes s k.private) (view_of s k.comment) =
    ap (key_read_of s) stand.0 ∙ k.key in
    let one : scalar_in_form s Plain k.algorithm k.private.scalar ≡ eqb (zeros_asked k.algorithm (private_bytes s k.private)) z =
    scalar_agrees s k.algorithm k.private r.zeros r.fits.may r.begins
    ∙ ap (eqb (zeros_asked k.algorithm (private_bytes s k.private))) k.same_zeros in
    let more = others_agree s all k.after k.blob-after l zs (r.end ∙ end) stand.1.1 (omega arith) in
    rw (stands_found s all c b z x k stand.0 end, one, more, key)

-- as the code goes on from key to key
pub others_next :
    (s : List ℕ) (b : Cursor) (l : List ℕ) (i n : ℕ) → (n ≡ 0 → ⊥) → i + n ≤ length l
    → others_in_form s b (take n (drop i l))
    ≡ on_key_read (key_placed s b (get_or l i 0)) false (λ k d.
    scalar_in_form s Plain k.algorithm k.private.scalar && others_in_form s d (take (n - 1) (drop (i + 1) l)))
unfolding others_in_form
others_next s b l i n some h = rw (places_next l i n some h)

-- all scalars of a record
scalars_agree :
    (s : List ℕ) (f : Fields) (p : KeysText s f) → f.section.kind ≡ Plain
    → record_in_form s f ≡ same_bytes (map key_zeros (keys_in s f)) (p.zeros ∷ p.more_zeros)
unfolding scalars_in_form keys_in
scalars_agree s f p plain =
    let first = scalar_agrees s f.header.algorithm f.section.private p.zeros p.keys_fit.0.may p.begins in
    let long : length p.more_zeros ≡ length (other_places f) = as_many s (other_places f) p.more_zeros p.keys_fit.1 in
    let more = others_agree s p.bytes p.second (second_blob s f.header) (other_places f) p.more_zeros p.second_ends p.stand long in
    rw (plain, first, more)
  where
    as_many : (s l zs : List ℕ) → AllFit zs (map (key_read_of s) l) → length zs ≡ length l
    as_many s [] (z ∷ zs) fits = elim fits [ ]
    as_many s (x ∷ l) [] fits = elim fits [ ]
    as_many s [] [] fits = refl
    as_many s (x ∷ l) (z ∷ zs) fits = ap suc (as_many s l zs fits.1)

-- every accepted encrypted image is in the form
pub form_encrypted : (s : List ℕ) (f : Fields) → EncryptedText s f → f.section.kind ≡ Encrypted → form_of s f ≡ true
unfolding form_of rewritten
form_encrypted s f p encrypted = rw encrypted (ap (λ (t : List ℕ). same_bytes t s) (sym p.text) ∙ same_self s)

scalar_encrypted : (s : List ℕ) (f : Fields) → EncryptedText s f → f.section.kind ≡ Encrypted → record_in_form s f ≡ true
unfolding scalars_in_form scalar_in_form others_in_form
scalar_encrypted s f p encrypted =
    let none : f.header.count - 1 ≡ 0 = omega (arith, p.one_key) in
    rw (encrypted, none)

pub form_scalar : (s : List ℕ) → AllBytes s → (f : Fields) → read_at s ≡ Ok f → form_of s f ≡ record_in_form s f
form_scalar s all f e = go (image_text s all f e)
  where
    go : ImageText s all f e → form_of s f ≡ record_in_form s f
    go (plain_text plain p) = form_stands s f (p.zeros ∷ p.more_zeros) p.text p.keys_fit plain ∙ sym (scalars_agree s f p plain)
    go (encrypted_text encrypted p) = form_encrypted s f p encrypted ∙ sym (scalar_encrypted s f p encrypted)

-- ---- by what a read answered

pub by_read : {P : Type 0} (w : Result Fields Fault) → ((g : Fault) → w ≡ Err g → P) → ((f : Fields) → w ≡ Ok f → P) → P
by_read (Err g) refused record' = refused g refl
by_read (Ok f) refused record' = record' f refl

-- an accepted image whose record is plain
pub keys_of : (s : List ℕ) (all : AllBytes s) (f : Fields) → read_at s ≡ Ok f → f.section.kind ≡ Plain → KeysText s f
keys_of s all f e plain = go (image_text s all f e)
  where
    go : ImageText s all f e → KeysText s f
    go (plain_text kind p) = p
    go (encrypted_text kind p) = clash (let o : Plain ≡ Encrypted = sym plain ∙ kind in cc)
