-- docs/RULES.md, 6.6, 6.7 and 7.2: blob mpint e, mpint n; section mpint n, e, d, iqmp, p, q. The modulus has 1,024 to 8,192 bits, every other
-- number at most as many as that modulus. A size outside the range is 1, once all numbers of that blob or keypair are read, and belongs to
-- the first such number.
use Rattle.std.specs.Prelude.{ℕ, ◌-◌, List, [], ◌∷◌, cond, Ok, Err}
use Rattle.fields.specs.Fields.{fault, on_read, on_tested, view_of, Read, Tested}
use Rattle.fields.specs.declared.Cursor.{Cursor}
use Rattle.fields.specs.declared.Fault.{Fault}
use Rattle.fields.specs.declared.Part.{Part}
use Rattle.fields.specs.declared.Refusal.TheVariants.{Length}
use Rattle.mpint.specs.Mpint.{mpint_at, at_most, modulus_size, on_size}
use Rattle.key_rsa.specs.declared.Six.{Six}

-- by what was read
abbrev pub on_two : {R : Type 0} → Read (Part × Part) → (Fault → R) → (Part → Part → Cursor → R) → R
on_two (Err f) refused numbers = refused f
on_two (Ok ((a, b), c)) refused numbers = numbers a b c

abbrev pub on_six : {R : Type 0} → Read Six → (Fault → R) → (Six → Cursor → R) → R
on_six (Err f) refused numbers = refused f
on_six (Ok (x, c)) refused numbers = numbers x c

abbrev pub on_rsa_public : {R : Type 0} → Read (Part × Part × ℕ) → (Fault → R) → (Part → Part → ℕ → Cursor → R) → R
on_rsa_public (Err f) refused numbers = refused f
on_rsa_public (Ok ((n, e, k), c)) refused numbers = numbers n e k c

abbrev pub on_rsa_pair : {R : Type 0} → Read (Six × ℕ) → (Fault → R) → (Six → ℕ → Cursor → R) → R
on_rsa_pair (Err f) refused numbers = refused f
on_rsa_pair (Ok ((x, k), c)) refused numbers = numbers x k c

-- mpints, one after the other
unfoldable pub two_at : List ℕ → Cursor → Read (Part × Part)
two_at s c =
    on_read (mpint_at s c) Err (λ a d.
    on_read (mpint_at s d) Err (λ b e.
    Ok ((a, b), e)))

-- n, e, d, iqmp, p, q
unfoldable pub six_at : List ℕ → Cursor → Read Six
six_at s c =
    on_two (two_at s c) Err (λ n e c₁.
    on_two (two_at s c₁) Err (λ d iqmp c₂.
    on_two (two_at s c₂) Err (λ p q c₃.
    Ok (record { n = n; e = e; d = d; iqmp = iqmp; p = p; q = q }, c₃))))

-- a size outside is 1, at the number's field, whose four length bytes stand before the number
unfoldable pub outside : Part → Fault
outside number = fault Length (number.start - 4)

-- the first of some numbers that has more bits than the modulus
unfoldable pub others_at : List ℕ → Part → List Part → Tested
others_at s n [] = Ok tt
others_at s n (number ∷ more) =
    cond (at_most (view_of s number) (view_of s n)) (others_at s n more) (Err (outside number))

-- the numbers beside the modulus, in reading order
abbrev pub others_of : Six → List Part
others_of x = x.e ∷ x.d ∷ x.iqmp ∷ x.p ∷ x.q ∷ []

-- a blob's: e, then n
unfoldable pub rsa_public_at : List ℕ → Cursor → Read (Part × Part × ℕ)
rsa_public_at s c =
    on_two (two_at s c) Err (λ e n d.
    on_tested (others_at s n (e ∷ [])) Err
    (on_size (modulus_size (view_of s n)) (Err (outside n)) (λ k.
    Ok ((n, e, k), d))))

-- a keypair's: n first
unfoldable pub rsa_pair_at : List ℕ → Cursor → Read (Six × ℕ)
rsa_pair_at s c =
    on_six (six_at s c) Err (λ x d.
    on_size (modulus_size (view_of s x.n)) (Err (outside x.n)) (λ k.
    on_tested (others_at s x.n (others_of x)) Err
    (Ok ((x, k), d))))
