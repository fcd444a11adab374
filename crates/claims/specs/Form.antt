-- docs/RULES.md, 11, and 16.2, the second demand, of the form: write after read gives the image exactly where it is in the form. Of accepted plain images, of one key or
-- several, those are in the form in which every ECDSA scalar stands as RFC 4251's mpint, so every one of keys that aren't ECDSA's; two things break it, a needless zero
-- before the scalar of some key, and a missing one. Every accepted encrypted image is in the form.
use Rattle.std.specs.Prelude.{ℕ, zero, suc, ◌+◌, ◌≤◌, ◌<◌, ◌≡◌, refl, Bool, true, false, ◌&&◌, eqb, get_or, Ok}
use native.Mathlib.Omega.{arith}
use Rattle.std.proofs.Common.{sym, ◌∙◌, ap₂, eq-eqb, le-leb, leb-true}
use Rattle.std.proofs.Math.Path.{ap}
use mathlib.Core.List.{List, [], ◌∷◌, map}
use Rattle.std.proofs.lemmas.Bool.{eqb-false}
use Rattle.std.proofs.Math.ListN.{length, take, get_or-map}
use Rattle.fields.specs.Bytes.{AllBytes, same_bytes, same_true, same_self}
use Rattle.fields.specs.Place.{clash, by_bool}
use Rattle.names.specs.declared.Elliptic.TheVariants.{Ed25519, Ecdsa}
use Rattle.names.specs.declared.Algorithm.{Algorithm}
use Rattle.names.specs.declared.Algorithm.TheVariants.{Elliptic as OnCurve, Rsa}
use Rattle.names.specs.declared.Curve.{Curve}
use Rattle.names.specs.Algorithms.{size_of}
use Rattle.mpint.specs.Mpint.{is_mpint}
use Rattle.format.specs.Format.{PublicBytes, PrivateBytes, PrivateFits, MayStand, standing, leading_zero, zero_length, zeros_asked, Key, key_blob, standing_entries, plain_image}
use Rattle.format.specs.Scalars.{mpint_standing, key_zeros}
use Rattle.reader_entries.specs.Entries.{no_key}
use Rattle.reader_entries.specs.Back.{KeyFits, AllFit}
use Rattle.reader_section.specs.declared.Kind.TheVariants.{Plain, Encrypted}
use Rattle.reader_image.specs.declared.Fields.{Fields}
use Rattle.reader_image.specs.Container.{keys_in, read_at}
use Rattle.reader_image.specs.Form.{rewritten, form_of}
use Rattle.reader_image.specs.Read.{KeysText, ImageText, plain_text, encrypted_text, image_text}
use Rattle.reader_image.specs.FormLaws.{form_stands, form_encrypted, keys_of}
use Rattle.buffer.specs.Puts.{splice, take-splice}
use Rattle.writer_reply.specs.Reply.{left, sized}
use Rattle.writer_again.specs.Rewrite.{rewrite_reply, rewrite_left}
use Rattle.writer_again.specs.Sized.{record_sized, record_left_lem, image_small}
use Rattle.claims.specs.Reading.{sized_held, sized-fits}

-- ---- which images are in the form

-- every accepted encrypted image is in the form
pub encrypted_in_form :
    (s : List ℕ) (all : AllBytes s) (f : Fields) → read_at s ≡ Ok f → f.section.kind ≡ Encrypted → form_of s f ≡ true
encrypted_in_form s all f e kind = go (image_text s all f e)
  where
    go : ImageText s all f e → form_of s f ≡ true
    go (plain_text plain p) = let o : Plain ≡ Encrypted = sym plain ∙ kind in cc
    go (encrypted_text encrypted p) = form_encrypted s f p encrypted

-- the key that i others stand before; where there is none, a key without bytes, which isn't ECDSA's
abbrev pub key_in : List ℕ → Fields → ℕ → Key
key_in s f i = get_or (keys_in s f) i no_key

-- its scalar's bytes without leading zeros
abbrev pub scalar_in : List ℕ → Fields → ℕ → List ℕ
scalar_in s f i = (key_in s f i).private.scalar

-- so many zeros may stand before the scalar of each key
abbrev pub EachMay : List ℕ → List Key → Type 0
EachMay [] [] = Unit {0}
EachMay [] (k ∷ keys) = ⊥
EachMay (z ∷ more) [] = ⊥
EachMay (z ∷ more) (k ∷ keys) = MayStand k.algorithm z k.private × EachMay more keys

-- the image is what the format writes of its keys, with so many zeros before the scalar of each, and as many may stand there
abbrev pub Stands : List ℕ → Fields → List ℕ → Type 0
Stands s f zs =
    (s ≡ plain_image f.section.checkint (map key_blob (keys_in s f)) (standing_entries zs (keys_in s f))) × EachMay zs (keys_in s f)

-- what breaks the form: more zeros stand before the scalar of some key than its first byte asks for, which is one from 0x80 on and else none;
-- or none stands where it asks for one
pub data Slip (s : List ℕ) (f : Fields) : Type 0 where
  needless :
      (i : ℕ) (k : Curve) → (key_in s f i).algorithm ≡ OnCurve (Ecdsa k) → (zs : List ℕ) → Stands s f zs
      → zero_length (leading_zero (scalar_in s f i)) < get_or zs i 0 → Slip s f
  missing :
      (i : ℕ) (k : Curve) → (key_in s f i).algorithm ≡ OnCurve (Ecdsa k) → (zs : List ℕ) → Stands s f zs → get_or zs i 0 ≡ 0
      → 0x80 ≤ get_or (scalar_in s f i) 0 0 → Slip s f

-- that a key's string, zeros and scalar, is RFC 4251's mpint, positive and minimal; only ECDSA's has to be
abbrev pub is_minimal : Algorithm → ℕ → PrivateBytes → Bool
is_minimal (OnCurve Ed25519) z x = true
is_minimal (OnCurve (Ecdsa k)) z x = is_mpint (standing z x.scalar)
is_minimal Rsa z x = true

abbrev pub all_minimal : List ℕ → List Key → Bool
all_minimal [] keys = true
all_minimal (z ∷ more) [] = true
all_minimal (z ∷ more) (k ∷ keys) = is_minimal k.algorithm z k.private && all_minimal more keys

-- ---- keys that fit

fit_each : (zs : List ℕ) (keys : List Key) → AllFit zs keys → EachMay zs keys
fit_each [] (k ∷ keys) fits = elim fits [ ]
fit_each (z ∷ zs) [] fits = elim fits [ ]
fit_each [] [] fits = tt
fit_each (z ∷ zs) (k ∷ keys) fits = (fits.0.may, fit_each zs keys fits.1)

-- also with other zeros, as many as may stand
fit_other : (zs ws : List ℕ) (keys : List Key) → AllFit zs keys → EachMay ws keys → AllFit ws keys
fit_other [] [] (k ∷ keys) fits may = elim fits [ ]
fit_other [] (w ∷ ws) (k ∷ keys) fits may = elim fits [ ]
fit_other (z ∷ zs) [] [] fits may = elim fits [ ]
fit_other (z ∷ zs) (w ∷ ws) [] fits may = elim fits [ ]
fit_other [] [] [] fits may = tt
fit_other [] (w ∷ ws) [] fits may = absurd may
fit_other (z ∷ zs) [] (k ∷ keys) fits may = absurd may
fit_other (z ∷ zs) (w ∷ ws) (k ∷ keys) fits may =
    (record { public = fits.0.public; private = fits.0.private; may = may.0; text = fits.0.text }, fit_other zs ws keys fits.1 may.1)

-- each of them fits
pub fit_at :
    (zs : List ℕ) (keys : List Key) → AllFit zs keys → (i : ℕ) → i < length keys
    → KeyFits (get_or keys i no_key).algorithm (get_or zs i 0) (get_or keys i no_key).public (get_or keys i no_key).private (get_or keys i no_key).comment
fit_at [] (k ∷ keys) fits i h = elim fits [ ]
fit_at (z ∷ zs) [] fits i h = elim fits [ ]
fit_at [] [] fits i h = absurd (omega arith)
fit_at (z ∷ zs) (k ∷ keys) fits zero h = fits.0
fit_at (z ∷ zs) (k ∷ keys) fits (suc i) h = fit_at zs keys fits.1 i (omega arith)

-- an ECDSA key is one of them
pub ecdsa_there : (keys : List Key) (i : ℕ) (k : Curve) → (get_or keys i no_key).algorithm ≡ OnCurve (Ecdsa k) → i < length keys
ecdsa_there [] i k q = clash (let o : OnCurve Ed25519 ≡ OnCurve (Ecdsa k) = q in cc)
ecdsa_there (x ∷ keys) zero k q = omega arith
ecdsa_there (x ∷ keys) (suc i) k q = omega (arith, ecdsa_there keys i k q)

-- its scalar has at most SIZE bytes and doesn't begin with a zero
pub ecdsa_fits :
    (a : Algorithm) (key : PublicBytes) (x : PrivateBytes) (k : Curve) → a ≡ OnCurve (Ecdsa k) → PrivateFits a key x
    → (length x.scalar ≤ size_of k) × (0 < get_or x.scalar 0 0)
ecdsa_fits a key x k q fits = let fit : PrivateFits (OnCurve (Ecdsa k)) key x = rw q at fits in fit.0

pub ecdsa_may :
    (a : Algorithm) (x : PrivateBytes) (k : Curve) → a ≡ OnCurve (Ecdsa k) → (zeros : ℕ) → MayStand a zeros x → zeros + length x.scalar ≤ size_of k + 1
ecdsa_may a x k q zeros may = let fit : MayStand (OnCurve (Ecdsa k)) zeros x = rw q at may in fit

-- ---- the zeros that stand, and those that the rule asks for

-- of one key they are the same exactly if its string is minimal
key_minimal :
    (a : Algorithm) (zeros : ℕ) (key : PublicBytes) (x : PrivateBytes) → PrivateFits a key x → MayStand a zeros x
    → eqb (zeros_asked a x) zeros ≡ is_minimal a zeros x
key_minimal (OnCurve Ed25519) zeros key x fits may = eq-eqb 0 zeros (sym may)
key_minimal (OnCurve (Ecdsa k)) zeros key x fits may = sym (mpint_standing zeros x.scalar fits.0.1)
key_minimal Rsa zeros key x fits may = eq-eqb 0 zeros (sym may)

pub keys_minimal : (zs : List ℕ) (keys : List Key) → AllFit zs keys → same_bytes (map key_zeros keys) zs ≡ all_minimal zs keys
keys_minimal [] (k ∷ keys) fits = elim fits [ ]
keys_minimal (z ∷ zs) [] fits = elim fits [ ]
keys_minimal [] [] fits = refl
keys_minimal (z ∷ zs) (k ∷ keys) fits =
    ap₂ ◌&&◌ (key_minimal k.algorithm z k.public k.private fits.0.private fits.0.may) (keys_minimal zs keys fits.1)

-- a key that isn't ECDSA's has nothing to be minimal
no_scalar : (a : Algorithm) (zeros : ℕ) (x : PrivateBytes) → ((k : Curve) → a ≡ OnCurve (Ecdsa k) → ⊥) → is_minimal a zeros x ≡ true
no_scalar (OnCurve Ed25519) z x other = refl
no_scalar (OnCurve (Ecdsa k)) z x other = absurd (other k refl)
no_scalar Rsa z x other = refl

no_scalars :
    (zs : List ℕ) (keys : List Key) → ((i : ℕ) (k : Curve) → (get_or keys i no_key).algorithm ≡ OnCurve (Ecdsa k) → ⊥) → all_minimal zs keys ≡ true
no_scalars [] keys other = refl
no_scalars (z ∷ zs) [] other = refl
no_scalars (z ∷ zs) (k ∷ keys) other =
    ap₂ ◌&&◌ (no_scalar k.algorithm z k.private (other 0)) (no_scalars zs keys (λ i. other (suc i)))

-- where they differ, they do so at some key
differ_at :
    (zs : List ℕ) (keys : List Key) → AllFit zs keys → same_bytes (map key_zeros keys) zs ≡ false
    → (i : ℕ) × (i < length keys) × (eqb (key_zeros (get_or keys i no_key)) (get_or zs i 0) ≡ false)
differ_at [] (k ∷ keys) fits e = elim fits [ ]
differ_at (z ∷ zs) [] fits e = elim fits [ ]
differ_at [] [] fits e = clash cc
differ_at (z ∷ zs) (k ∷ keys) fits e =
    by_bool (eqb (key_zeros k) z)
    (λ w. let more = differ_at zs keys fits.1 (rw w at e) in (suc more.0, omega (arith, more.1), more.2))
    (λ w. (0, omega arith, w))

-- and where they differ at some key, they differ
differ_by : (zs : List ℕ) (keys : List Key) (i : ℕ) → (key_zeros (get_or keys i no_key) ≡ get_or zs i 0 → ⊥) → same_bytes (map key_zeros keys) zs ≡ false
differ_by zs keys i other =
    by_bool (same_bytes (map key_zeros keys) zs)
    (λ w.
    let same : map key_zeros keys ≡ zs = same_true (map key_zeros keys) zs w in
    absurd (other (sym (get_or-map key_zeros keys i no_key) ∙ ap (λ (l : List ℕ). get_or l i 0) same)))
    (λ w. w)

-- the rule by an ECDSA key's scalar
rule_by : (a : Algorithm) (x : PrivateBytes) (k : Curve) → a ≡ OnCurve (Ecdsa k) → zeros_asked a x ≡ zero_length (leading_zero x.scalar)
rule_by a x k q = rw q

-- of a rule that asks for a zero or for none, and zeros that aren't those
slip_of :
    (s : List ℕ) (f : Fields) (i : ℕ) (k : Curve) → (key_in s f i).algorithm ≡ OnCurve (Ecdsa k) → (zs : List ℕ) → Stands s f zs → (zeros : ℕ)
    → get_or zs i 0 ≡ zeros → (b : Bool) → leading_zero (scalar_in s f i) ≡ b → eqb (zero_length b) zeros ≡ false → Slip s f
slip_of s f i k q zs z zero are true rule w = missing i k q zs z are (leb-true _ _ rule)
slip_of s f i k q zs z zero are false rule w = clash cc
slip_of s f i k q zs z (suc n) are true rule w =
    needless i k q zs z (rw (rule, are) (let other = eqb-false 1 (suc n) w in not_one n other))
  where
    not_one : (m : ℕ) → (◌≡◌ {A = ℕ} 1 (suc m) → ⊥) → 1 < suc m
    not_one zero other = absurd (other refl)
    not_one (suc m) other = omega arith
slip_of s f i k q zs z (suc n) are false rule w = needless i k q zs z (rw (rule, are) (omega arith))

slip_by :
    (s : List ℕ) (f : Fields) (i : ℕ) (a : Algorithm) → (key_in s f i).algorithm ≡ a → (zs : List ℕ) → Stands s f zs → MayStand a (get_or zs i 0) (key_in s f i).private
    → eqb (zeros_asked a (key_in s f i).private) (get_or zs i 0) ≡ false → Slip s f
slip_by s f i (OnCurve Ed25519) q zs z may w = absurd (eqb-false 0 (get_or zs i 0) w (sym may))
slip_by s f i (OnCurve (Ecdsa k)) q zs z may w = slip_of s f i k q zs z (get_or zs i 0) refl (leading_zero (scalar_in s f i)) refl w
slip_by s f i Rsa q zs z may w = absurd (eqb-false 0 (get_or zs i 0) w (sym may))

module _ (s : List ℕ) (all : AllBytes s) (f : Fields) (e : read_at s ≡ Ok f) (plain : f.section.kind ≡ Plain) where
  text : KeysText s f
  text = keys_of s all f e plain

  abbrev zeros_are : List ℕ
  zeros_are = text.zeros ∷ text.more_zeros

  -- keys that stand so fit
  pub stands_fit : (zs : List ℕ) → Stands s f zs → AllFit zs (keys_in s f)
  stands_fit zs z = fit_other zeros_are zs (keys_in s f) text.keys_fit z.1

  -- by the zeros that stand: those that the rule asks for
  form_by : (zs : List ℕ) → Stands s f zs → form_of s f ≡ same_bytes (map key_zeros (keys_in s f)) zs
  form_by zs z = form_stands s f zs z.0 (stands_fit zs z) plain

  -- the keys do stand so, with some zeros
  pub stands_some : (zs : List ℕ) × Stands s f zs
  stands_some = (zeros_are, (text.text, fit_each zeros_are (keys_in s f) text.keys_fit))

  -- which accepted plain images are in the form: those in which the string of every ECDSA key, zeros and scalar, is RFC 4251's mpint
  pub form_minimal : (zs : List ℕ) → Stands s f zs → form_of s f ≡ all_minimal zs (keys_in s f)
  form_minimal zs z = form_by zs z ∙ keys_minimal zs (keys_in s f) (stands_fit zs z)

  -- so all of keys none of which is ECDSA's
  pub others_in_form_lem : ((i : ℕ) (k : Curve) → (key_in s f i).algorithm ≡ OnCurve (Ecdsa k) → ⊥) → form_of s f ≡ true
  others_in_form_lem other = let z = stands_some in form_minimal z.0 z.1 ∙ no_scalars z.0 (keys_in s f) other

  -- in an accepted plain image that isn't in the form some key has one of the two slips
  pub form_fails : form_of s f ≡ false → Slip s f
  form_fails broken =
      let z = stands_some in
      let fits = stands_fit z.0 z.1 in
      let d = differ_at z.0 (keys_in s f) fits (sym (form_by z.0 z.1) ∙ broken) in
      let fit = fit_at z.0 (keys_in s f) fits d.0 d.1 in
      slip_by s f d.0 (key_in s f d.0).algorithm refl z.0 z.1 fit.may d.2

  -- and either slip, of any key, takes it out of the form
  pub slip_fails : Slip s f → form_of s f ≡ false
  slip_fails (needless i k q zs z more) =
      let rule = rule_by (key_in s f i).algorithm (key_in s f i).private k q in
      form_by zs z ∙ differ_by zs (keys_in s f) i (λ o. omega (arith, more, o, rule))
  slip_fails (missing i k q zs z none above) =
      let rule = rule_by (key_in s f i).algorithm (key_in s f i).private k q ∙ ap zero_length (le-leb _ _ above) in
      form_by zs z ∙ differ_by zs (keys_in s f) i (λ o. omega (arith, none, o, rule))

-- an accepted image of RSA keys alone is always in the form
pub rsa_in_form :
    (s : List ℕ) → AllBytes s → (f : Fields) → read_at s ≡ Ok f → ((i : ℕ) → i < f.header.count → (key_in s f i).algorithm ≡ Rsa) → form_of s f ≡ true
rsa_in_form s all f e rsa = go (image_text s all f e)
  where
    go : ImageText s all f e → form_of s f ≡ true
    go (plain_text kind p) =
        others_in_form_lem s all f e kind
        (λ i k q.
        let there : i < f.header.count = omega (arith, ecdsa_there (keys_in s f) i k q, p.counted) in
        clash (let o : Rsa ≡ OnCurve (Ecdsa k) = sym (rsa i there) ∙ q in cc))
    go (encrypted_text kind p) = form_encrypted s f p kind

-- an image that the format writes of keys, so many zeros before the scalar of each, and that is read back
pub keys_form :
    (s : List ℕ) (f : Fields) (n : ℕ) (zs : List ℕ) (keys : List Key) → f.section.kind ≡ Plain → f.section.checkint ≡ n → keys_in s f ≡ keys → AllFit zs keys
    → s ≡ plain_image n (map key_blob keys) (standing_entries zs keys) → form_of s f ≡ same_bytes (map key_zeros keys) zs
keys_form s f n zs keys plain checkint same fits text =
    form_stands s f zs (rw (same, checkint) text) (rw same fits) plain ∙ ap (λ (l : List Key). same_bytes (map key_zeros l) zs) same

-- ---- write after read

module _ (s : List ℕ) (all : AllBytes s) (f : Fields) (e : read_at s ≡ Ok f) where
  -- a rewrite is refused for size and room only
  pub rewrite_sized : (room : ℕ) → rewrite_reply s room ≡ sized (rewritten s f) room
  unfolding rewrite_reply
  rewrite_sized room = rw e (record_sized s all f e room)

  rewrite_left_lem : (old : List ℕ) → rewrite_left s old ≡ left (sized (rewritten s f) (length old)) (rewritten s f) old
  unfolding rewrite_left
  rewrite_left_lem old = rw e (record_left_lem s all f e old)

  -- in the form, writing the record into a buffer with room gives the image
  pub rewrite_in_form :
      (old : List ℕ) → form_of s f ≡ true → length s ≤ length old → (rewrite_reply s (length old) ≡ Ok (length s)) × (take (length s) (rewrite_left s old) ≡ s)
  unfolding form_of
  rewrite_in_form old form room =
      let same : rewritten s f ≡ s = same_true (rewritten s f) s form in
      let fit : 0 + length s ≤ length old = omega arith in
      let answer : sized (rewritten s f) (length old) ≡ Ok (length s) = rw same (sized-fits s (length old) (image_small s all f e) room) in
      let end : length s ≡ 0 + length s = omega arith in
      (rewrite_sized (length old) ∙ answer, rw (rewrite_left_lem old, answer, same) (ap (λ (i : ℕ). take i (splice old 0 s)) end ∙ take-splice old 0 s fit))

  -- what a rewrite that is accepted writes
  pub rewrite_written :
      (old : List ℕ) (k : ℕ) → rewrite_reply s (length old) ≡ Ok k → (length (rewritten s f) ≤ 65535) × (take k (rewrite_left s old) ≡ rewritten s f)
  rewrite_written old k w =
      let answer : sized (rewritten s f) (length old) ≡ Ok k = sym (rewrite_sized (length old)) ∙ w in
      let h = sized_held (rewritten s f) (length old) k answer in
      let fit : 0 + length (rewritten s f) ≤ length old = omega (arith, h.1) in
      let end : k ≡ 0 + length (rewritten s f) = omega (arith, h.2) in
      (h.0, rw (rewrite_left_lem old, answer, end) (take-splice old 0 (rewritten s f) fit))

  -- and where it gives the image, the image is in the form
  pub rewrite_gives :
      (old : List ℕ) (k : ℕ) → rewrite_reply s (length old) ≡ Ok k → take k (rewrite_left s old) ≡ s → form_of s f ≡ true
  unfolding form_of
  rewrite_gives old k w same =
      ap (λ (l : List ℕ). same_bytes (rewritten s f) l) (sym same ∙ (rewrite_written old k w).1) ∙ same_self (rewritten s f)
