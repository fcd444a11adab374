-- Scalars of any size: zeros in front are dropped, filled in and asked for by one rule, and what the writer makes of a scalar is RFC 4251's
-- mpint of its number.
use Rattle.std.specs.Prelude.{ℕ, zero, suc, ◌+◌, ◌-◌, ◌≤◌, ◌<◌, ◌≡◌, refl, Bool, true, false, List, [], ◌∷◌, map, eqb, ltb, leb, length, drop, get_or, replicate}
use Rattle.std.proofs.Common.{arith, sym, ◌∙◌, ap, ap₂, ltb-true, ltb-false, leb-true, leb-false, eq-eqb, ne_eqb, lt-ltb, le-ltb, length-append, length-drop, get_or-drop}
use Rattle.std.proofs.lemmas.List.{length-replicate}
use Rattle.fields.specs.Place.{by_bool}
use Rattle.names.specs.declared.Elliptic.{Elliptic}
use Rattle.names.specs.declared.Elliptic.TheVariants.{Ed25519, Ecdsa}
use Rattle.names.specs.declared.Algorithm.{Algorithm}
use Rattle.names.specs.declared.Algorithm.TheVariants.{Elliptic as OnCurve, Rsa}
use Rattle.names.specs.Algorithms.{size_of}
use Rattle.mpint.specs.Mpint.{value, is_mpint, zeros_before, significant}
use Rattle.mpint.specs.Values.{value_cons}
use Rattle.mpint.specs.Zeros.{mpint_bytes, zeros_le, zeros_found}
use Rattle.format.specs.Format.{PublicBytes, PrivateBytes, Key, filled_key, Entry, entry, of_scalar, private_length, standing, scalar_bytes, filled_to, scalar_filled, trimmed, filled, not_zero, leading_zero, zero_length, zeros_asked, minimal, MayStand, LengthAllowed, ScalarFits, PrivateFits, keypair, key_blob, standing_entry, standing_entries, written_entry, plain_image, written_image}

-- ---- zeros in front

pub standing-length : (zeros : ℕ) (x : List ℕ) → length (standing zeros x) ≡ zeros + length x
standing-length zeros x = length-append (replicate zeros 0) x ∙ ap (λ (n : ℕ). n + length x) (length-replicate zeros 0)

-- bytes that begin with another byte than zero have none
no_zeros : (x : List ℕ) → 0 < get_or x 0 0 → zeros_before x ≡ 0
unfolding zeros_before
no_zeros [] h = refl
no_zeros (zero ∷ x) h = absurd (omega arith)
no_zeros (suc n ∷ x) h = refl

pub some_bytes : (x : List ℕ) → 0 < get_or x 0 0 → 0 < length x
some_bytes [] h = h
some_bytes (y ∷ x) h = omega arith

zeros_standing : (zeros : ℕ) (x : List ℕ) → zeros_before (standing zeros x) ≡ zeros + zeros_before x
unfolding zeros_before
zeros_standing zero x = omega arith
zeros_standing (suc n) x = omega (arith, zeros_standing n x)

pub standing_zeros : (zeros : ℕ) (x : List ℕ) → 0 < get_or x 0 0 → zeros_before (standing zeros x) ≡ zeros
standing_zeros zeros x h = omega (arith, zeros_standing zeros x, no_zeros x h)

-- zeros in front don't count
pub significant-standing : (zeros : ℕ) (x : List ℕ) → significant (standing zeros x) ≡ significant x
unfolding significant zeros_before
significant-standing zero x = refl
significant-standing (suc n) x = significant-standing n x

pub significant_own : (x : List ℕ) → 0 < get_or x 0 0 → significant x ≡ x
unfolding significant
significant_own x h = ap (λ (i : ℕ). drop i x) (no_zeros x h)

-- bytes are their leading zeros and then the others
pub standing_again : (x : List ℕ) → standing (zeros_before x) (significant x) ≡ x
unfolding significant zeros_before
standing_again [] = refl
standing_again (zero ∷ x) = ap (λ (l : List ℕ). 0 ∷ l) (standing_again x)
standing_again (suc n ∷ x) = refl

pub significant-length : (x : List ℕ) → length (significant x) ≡ length x - zeros_before x
unfolding significant
significant-length x = length-drop (zeros_before x) x

pub significant_short : (x : List ℕ) → length (significant x) ≤ length x
significant_short x = omega (arith, significant-length x)

-- the first byte that counts isn't zero
pub significant_first : (x : List ℕ) → zeros_before x < length x → 0 < get_or (significant x) 0 0
unfolding significant
significant_first x h =
    let at : zeros_before x + 0 ≡ zeros_before x = omega arith in
    rw (get_or-drop (zeros_before x) x 0 0, at) (zeros_found x h)

-- ---- the writer's rule

-- a scalar after zeros is an mpint exactly if they are those that the rule asks for
pub mpint_standing : (zeros : ℕ) (x : List ℕ) → 0 < get_or x 0 0 → is_mpint (standing zeros x) ≡ eqb (zero_length (leading_zero x)) zeros
mpint_standing zero x h =
    mpint_bytes x ∙ rw (ne_eqb (get_or x 0 0) 0 (λ e. omega arith))
    (by_bool (leb 0x80 (get_or x 0 0))
    (λ w. rw w (le-ltb (get_or x 0 0) 0x80 (leb-true 0x80 (get_or x 0 0) w)))
    (λ w. rw w (lt-ltb (get_or x 0 0) 0x80 (leb-false 0x80 (get_or x 0 0) w))))
mpint_standing (suc zero) x h = mpint_bytes (0 ∷ x) ∙ told (leb 0x80 (get_or x 0 0))
  where
    told : (b : Bool) → b ≡ eqb (zero_length b) 1
    told true = refl
    told false = refl
mpint_standing (suc (suc n)) x h = mpint_bytes (standing (suc (suc n)) x) ∙ never (leading_zero x)
  where
    never : (b : Bool) → false ≡ eqb (zero_length b) (suc (suc n))
    never true = sym (ne_eqb 1 (suc (suc n)) (λ e. omega arith))
    never false = sym (ne_eqb 0 (suc (suc n)) (λ e. omega arith))

-- zeros don't change the number
pub value-standing : (zeros : ℕ) (x : List ℕ) → value (standing zeros x) ≡ value x
value-standing zero x = refl
value-standing (suc n) x = value_cons 0 (standing n x) ∙ omega (arith, value-standing n x)

-- what the writer writes of a scalar that isn't zero is an mpint, and of the scalar's number
pub minimal_mpint : (x : List ℕ) → zeros_before x < length x → is_mpint (minimal x) ≡ true
minimal_mpint x some =
    let asked = zero_length (leading_zero (significant x)) in
    mpint_standing asked (significant x) (significant_first x some) ∙ eq-eqb asked asked refl

pub minimal-value : (x : List ℕ) → value (minimal x) ≡ value x
minimal-value x =
    value-standing (zero_length (leading_zero (significant x))) (significant x)
    ∙ sym (value-standing (zeros_before x) (significant x)) ∙ ap value (standing_again x)

zero-length : (b : Bool) → zero_length b ≤ 1
zero-length true = omega arith
zero-length false = omega arith

-- the zero that the rule asks for may stand
pub rule_may : (a : Algorithm) (key : PublicBytes) (x : PrivateBytes) → PrivateFits a key x → MayStand a (zeros_asked a x) x
rule_may (OnCurve Ed25519) key x fits = refl
rule_may (OnCurve (Ecdsa k)) key x fits = omega (arith, zero-length (leading_zero x.scalar), fits.0.0)
rule_may Rsa key x fits = refl

-- ---- filled and trimmed

pub filled-length : (size : ℕ) (x : List ℕ) → length x ≤ size → length (filled_to size x) ≡ size
filled-length size x h = standing-length (size - length x) x ∙ omega arith

-- bytes that have their length are filled already
pub filled_own : (e : Elliptic) (x : List ℕ) → length x ≡ private_length e → scalar_filled e x ≡ x
filled_own Ed25519 x h = refl
filled_own (Ecdsa k) x h =
    let none : size_of k - length x ≡ 0 = omega arith in
    ap (λ (n : ℕ). standing n x) none

pub allowed_own : (e : Elliptic) (x : List ℕ) → length x ≡ private_length e → LengthAllowed e x
allowed_own Ed25519 x h = h
allowed_own (Ecdsa k) x h = omega arith

pub filled_private : (e : Elliptic) (x : List ℕ) → LengthAllowed e x → length (scalar_filled e x) ≡ private_length e
filled_private Ed25519 x h = h
filled_private (Ecdsa k) x h = filled-length (size_of k) x h

-- bytes that have it once they are filled could be filled
pub filled_allowed : (e : Elliptic) (x : List ℕ) → length (scalar_filled e x) ≡ private_length e → LengthAllowed e x
filled_allowed Ed25519 x h = h
filled_allowed (Ecdsa k) x h = omega (arith, standing-length (size_of k - length x) x)

pub filled_zero : (e : Elliptic) (x : List ℕ) → not_zero e (scalar_filled e x) ≡ not_zero e x
filled_zero Ed25519 x = refl
filled_zero (Ecdsa k) x =
    let n = size_of k - length x in
    rw (zeros_standing n x, standing-length n x)
    (by_bool (ltb (zeros_before x) (length x))
    (λ w. rw w (lt-ltb (n + zeros_before x) (n + length x) (omega (arith, ltb-true (zeros_before x) (length x) w))))
    (λ w. rw w (le-ltb (n + zeros_before x) (n + length x) (omega (arith, ltb-false (zeros_before x) (length x) w)))))

pub filled-trimmed : (a : Algorithm) (x : PrivateBytes) → trimmed a (filled a x) ≡ trimmed a x
filled-trimmed (OnCurve Ed25519) x = refl
filled-trimmed (OnCurve (Ecdsa k)) x = ap of_scalar (significant-standing (size_of k - length x.scalar) x.scalar)
filled-trimmed Rsa x = refl

-- bytes that have their length come back when they are trimmed and filled again
pub trimmed_back : (e : Elliptic) (x : List ℕ) → length x ≡ private_length e → scalar_filled e (scalar_bytes e x) ≡ x
trimmed_back Ed25519 x h = refl
trimmed_back (Ecdsa k) x h =
    let zeros : size_of k - length (significant x) ≡ zeros_before x = omega (arith, significant-length x, zeros_le x) in
    ap (λ (n : ℕ). standing n (significant x)) zeros ∙ standing_again x

-- a record's private bytes have no zeros to trim
pub trimmed_own : (a : Algorithm) (key : PublicBytes) (x : PrivateBytes) → PrivateFits a key x → trimmed a x ≡ x
trimmed_own (OnCurve Ed25519) key x fits = sym fits.1
trimmed_own (OnCurve (Ecdsa k)) key x fits = ap of_scalar (significant_own x.scalar fits.0.1) ∙ sym fits.1
trimmed_own Rsa key x fits = refl

pub trimmed-filled : (a : Algorithm) (key : PublicBytes) (x : PrivateBytes) → PrivateFits a key x → trimmed a (filled a x) ≡ x
trimmed-filled a key x fits = filled-trimmed a x ∙ trimmed_own a key x fits

-- private bytes of a length that is allowed, and not zero, fit once they are trimmed
pub trimmed_fits : (e : Elliptic) (x : List ℕ) → LengthAllowed e x → not_zero e x ≡ true → ScalarFits e (scalar_bytes e x)
trimmed_fits Ed25519 x h some = h
trimmed_fits (Ecdsa k) x h some = (omega (arith, significant_short x), significant_first x (ltb-true (zeros_before x) (length x) some))

-- and what fits is not zero, and has a length that is allowed
pub fits_allowed : (e : Elliptic) (x : List ℕ) → ScalarFits e x → LengthAllowed e x
fits_allowed Ed25519 x h = h
fits_allowed (Ecdsa k) x h = h.0

pub fits_some : (e : Elliptic) (x : List ℕ) → ScalarFits e x → not_zero e x ≡ true
fits_some Ed25519 x h = refl
fits_some (Ecdsa k) x h = lt-ltb (zeros_before x) (length x) (omega (arith, no_zeros x h.1, some_bytes x h.1))

-- ---- the image of keys whose scalars are filled

-- the zeros that the rule asks for before the scalar of each
abbrev pub key_zeros : Key → ℕ
key_zeros k = zeros_asked k.algorithm k.private

-- private bytes that fit, of every key
abbrev pub AllPrivate : List Key → Type 0
AllPrivate [] = Unit {0}
AllPrivate (k ∷ keys) = PrivateFits k.algorithm k.public k.private × AllPrivate keys

entry-filled : (k : Key) → written_entry (filled_key k) ≡ written_entry k
entry-filled k =
    ap (λ (y : PrivateBytes). entry (keypair k.algorithm (zeros_asked k.algorithm y) k.public y) k.comment)
    (filled-trimmed k.algorithm k.private)

entry_own : (k : Key) → PrivateFits k.algorithm k.public k.private → written_entry (filled_key k) ≡ standing_entry (key_zeros k) k
entry_own k fits =
    ap (λ (y : PrivateBytes). entry (keypair k.algorithm (zeros_asked k.algorithm y) k.public y) k.comment)
    (trimmed-filled k.algorithm k.public k.private fits)

-- a record's keys, as the writer writes them: so many zeros before each scalar as the rule asks for
pub written_entries : (keys : List Key) → AllPrivate keys → map written_entry keys ≡ standing_entries (map key_zeros keys) keys
written_entries [] fits = refl
written_entries (k ∷ keys) fits =
    ap₂ (λ (e : Entry) (l : List Entry). e ∷ l) (sym (entry-filled k) ∙ entry_own k fits.0) (written_entries keys fits.1)

-- zeros before a scalar don't show in its blob
pub blobs_filled : (keys : List Key) → map key_blob (map filled_key keys) ≡ map key_blob keys
blobs_filled [] = refl
blobs_filled (k ∷ keys) = ap (λ (l : List (List ℕ)). key_blob k ∷ l) (blobs_filled keys)

-- zeros in front change nothing of it
pub entries_filled : (keys : List Key) → map written_entry (map filled_key keys) ≡ map written_entry keys
entries_filled [] = refl
entries_filled (k ∷ keys) = ap₂ (λ (e : Entry) (l : List Entry). e ∷ l) (entry-filled k) (entries_filled keys)

pub written_filled : (n : ℕ) (keys : List Key) → written_image n (map filled_key keys) ≡ written_image n keys
unfolding written_image
written_filled n keys = ap₂ (plain_image n) (blobs_filled keys) (entries_filled keys)

-- of a record's private bytes it has the zeros that the rule asks for, and the bytes
pub written_own :
    (n : ℕ) (keys : List Key) → AllPrivate keys
    → written_image n (map filled_key keys) ≡ plain_image n (map key_blob keys) (standing_entries (map key_zeros keys) keys)
unfolding written_image
written_own n keys fits = ap₂ (plain_image n) (blobs_filled keys) (entries_filled keys ∙ written_entries keys fits)
