-- docs/RULES.md, 9.3: an entry that is handed the first half of a record that isn't what an accepted
-- header read of its image gives replies 1 before all else. So every field is compared: names, rounds, key count, bits and every place.
use Rattle.std.specs.Prelude.{ℕ, ◌≡◌, refl, Bool, true, false, ◌&&◌, List, eqb, Result, Ok, Err}
use Rattle.std.proofs.Common.{ap₂, eq-eqb, eqb-true}
use Rattle.fields.specs.Bytes.{both_true}
use Rattle.fields.specs.Fields.{part}
use Rattle.fields.specs.declared.Fault.{Fault}
use Rattle.fields.specs.declared.Part.{Part}
use Rattle.names.specs.Algorithms.{algorithm_code, same_algorithm, algorithm_same}
use Rattle.names_codes.specs.Codes.{cipher_code, kdf_code, cipher_code_same, kdf_code_same}
use Rattle.key_public.specs.declared.Public.{Public}
use Rattle.reader_header.specs.declared.Header.{Header}
use Rattle.reader_header.specs.Header.{on_header_read, header_at}

abbrev pub same_part : Part → Part → Bool
same_part a b = eqb a.start b.start && eqb a.length b.length

unfoldable pub same_public : Public → Public → Bool
same_public a b =
    same_part a.point b.point && same_part a.modulus b.modulus && same_part a.exponent b.exponent && eqb a.bits b.bits

unfoldable pub same_header : Header → Header → Bool
same_header a b =
    eqb (cipher_code a.cipher) (cipher_code b.cipher)
    && eqb (kdf_code a.kdf) (kdf_code b.kdf)
    && same_part a.salt b.salt
    && eqb a.rounds b.rounds
    && eqb a.count b.count
    && eqb (algorithm_code a.algorithm) (algorithm_code b.algorithm)
    && same_part a.blob b.blob
    && same_public a.public b.public
    && eqb a.section b.section

unfoldable pub is_header : List ℕ → Header → Bool
is_header s half = on_header_read (header_at s) (λ f. false) (λ h. same_header half h)

-- ---- laws: the comparisons say that all is equal, and no less

pub part_same : (a b : Part) → same_part a b ≡ true → a ≡ b
part_same a b e =
    let ok = both_true (eqb a.start b.start) _ e in
    let start : a.start ≡ b.start = eqb-true _ _ ok.0 in
    let length : a.length ≡ b.length = eqb-true _ _ ok.1 in
    ap₂ part start length

pub public_same : (a b : Public) → same_public a b ≡ true → a ≡ b
unfolding same_public
public_same a b e =
    let e₃ = both_true _ (eqb a.bits b.bits) e in
    let e₂ = both_true _ (same_part a.exponent b.exponent) e₃.0 in
    let e₁ = both_true _ (same_part a.modulus b.modulus) e₂.0 in
    let point : a.point ≡ b.point = part_same _ _ e₁.0 in
    let modulus : a.modulus ≡ b.modulus = part_same _ _ e₁.1 in
    let exponent : a.exponent ≡ b.exponent = part_same _ _ e₂.1 in
    let bits : a.bits ≡ b.bits = eqb-true _ _ e₃.1 in
    let whole : ◌≡◌ {A = Public} (record { point = a.point; modulus = a.modulus; exponent = a.exponent; bits = a.bits }) (record { point = b.point; modulus = b.modulus; exponent = b.exponent; bits = b.bits }) = cc in
    whole

pub header_same : (a b : Header) → same_header a b ≡ true → a ≡ b
unfolding same_header same_algorithm
header_same a b e =
    let e₈ = both_true _ (eqb a.section b.section) e in
    let e₇ = both_true _ (same_public a.public b.public) e₈.0 in
    let e₆ = both_true _ (same_part a.blob b.blob) e₇.0 in
    let e₅ = both_true _ (eqb (algorithm_code a.algorithm) (algorithm_code b.algorithm)) e₆.0 in
    let e₄ = both_true _ (eqb a.count b.count) e₅.0 in
    let e₃ = both_true _ (eqb a.rounds b.rounds) e₄.0 in
    let e₂ = both_true _ (same_part a.salt b.salt) e₃.0 in
    let e₁ = both_true _ (eqb (kdf_code a.kdf) (kdf_code b.kdf)) e₂.0 in
    let cipher : a.cipher ≡ b.cipher = cipher_code_same _ _ (eqb-true _ _ e₁.0) in
    let kdf : a.kdf ≡ b.kdf = kdf_code_same _ _ (eqb-true _ _ e₁.1) in
    let salt : a.salt ≡ b.salt = part_same _ _ e₂.1 in
    let rounds : a.rounds ≡ b.rounds = eqb-true _ _ e₃.1 in
    let count : a.count ≡ b.count = eqb-true _ _ e₄.1 in
    let algorithm : a.algorithm ≡ b.algorithm = algorithm_same _ _ e₅.1 in
    let blob : a.blob ≡ b.blob = part_same _ _ e₆.1 in
    let public : a.public ≡ b.public = public_same _ _ e₇.1 in
    let section : a.section ≡ b.section = eqb-true _ _ e₈.1 in
    let whole : ◌≡◌ {A = Header} (record { cipher = a.cipher; kdf = a.kdf; salt = a.salt; rounds = a.rounds; count = a.count; algorithm = a.algorithm; blob = a.blob; public = a.public; section = a.section }) (record { cipher = b.cipher; kdf = b.kdf; salt = b.salt; rounds = b.rounds; count = b.count; algorithm = b.algorithm; blob = b.blob; public = b.public; section = b.section }) = cc in
    whole

pub eqb_self : (n : ℕ) → eqb n n ≡ true
eqb_self n = eq-eqb n n refl

pub header_self : (a : Header) → same_header a a ≡ true
unfolding same_header same_public
header_self a = simp (eqb_self)

pub by_header : {P : Type 0} (w : Result Header Fault) → ((f : Fault) → w ≡ Err f → P) → ((h : Header) → w ≡ Ok h → P) → P
by_header (Err f) refused read = refused f refl
by_header (Ok h) refused read = read h refl

-- a half passes exactly if it is what an accepted header read gives
pub header_passes : (s : List ℕ) (h : Header) → header_at s ≡ Ok h → is_header s h ≡ true
unfolding is_header
header_passes s h e = rw (e, header_self h)
