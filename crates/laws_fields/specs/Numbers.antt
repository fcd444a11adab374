-- docs/RULES.md, 7.2 and 7.5: where RSA's numbers refuse. An mpint's own refusal is at its field, a size's at the field of the
-- number that it belongs to; both lie in the blob or the section that is read.
use Rattle.std.specs.Prelude.{ℕ, ◌+◌, ◌≤◌, List, [], ◌∷◌, Ok, Err}
use Rattle.std.proofs.Common.{arith}
use Rattle.fields.specs.Fields.{string_at, view_of, Read}
use Rattle.fields.specs.Place.{by_read, by_bool, by_tested}
use Rattle.fields.specs.Rest.{Good}
use Rattle.fields.specs.declared.Cursor.{Cursor}
use Rattle.fields.specs.declared.Part.{Part}
use Rattle.mpint.specs.Mpint.{is_mpint, mpint_at, at_most, modulus_size}
use Rattle.key_rsa.specs.Rsa.{two_at, six_at, outside, others_at, others_of, rsa_public_at, rsa_pair_at}
use Rattle.laws_keys.specs.RsaRead.{by_two, by_six, by_size}
use Rattle.laws_fields.specs.Fields.{Lies, After, EndingLies, lies_after, after-after, good_after, string_lies, string_in}
use Rattle.key_rsa.specs.declared.Six.{Six}

-- a number's part, its four length bytes before it, in what is read at c
abbrev pub Stands : Cursor → Part → Type 0
Stands c p = (c.at + 4 ≤ p.start) × (p.start ≤ c.end)

abbrev pub AllStand : Cursor → List Part → Type 0
AllStand c [] = Unit {0}
AllStand c (p ∷ more) = Stands c p × AllStand c more

-- of each answer: refused, where the refusal is; read, where the numbers stand and the next place is
abbrev NumberLies : Cursor → Read Part → Type 0
NumberLies c (Err f) = Lies c f
NumberLies c (Ok (p, d)) = Stands c p × After c d

abbrev TwoLies : Cursor → Read (Part × Part) → Type 0
TwoLies c (Err f) = Lies c f
TwoLies c (Ok ((a, b), d)) = Stands c a × Stands c b × After c d

abbrev SixLies : Cursor → Read Six → Type 0
SixLies c (Err f) = Lies c f
SixLies c (Ok (x, d)) = Stands c x.n × AllStand c (others_of x) × After c d

abbrev pub RsaPublicLies : Cursor → Read (Part × Part × ℕ) → Type 0
RsaPublicLies c (Err f) = Lies c f
RsaPublicLies c (Ok ((n, e, k), d)) = After c d

abbrev pub RsaPairLies : Cursor → Read (Six × ℕ) → Type 0
RsaPairLies c (Err f) = Lies c f
RsaPairLies c (Ok ((x, k), d)) = After c d

stands_after : (c d : Cursor) (p : Part) → After c d → Stands d p → Stands c p
stands_after c d p a h = omega (arith, a, h)

outside_lies : (c : Cursor) (p : Part) → Stands c p → Lies c (outside p)
unfolding outside
outside_lies c p h = omega (arith, h)

mpint_lies : (s : List ℕ) (c : Cursor) → Good s c → NumberLies c (mpint_at s c)
unfolding mpint_at
mpint_lies s c good =
    by_read (string_at s c)
    (λ f w. rw w (rw w at (string_lies s c good)))
    (λ p d w.
    let i = string_in s c p d w in
    rw w
    (by_bool (is_mpint (view_of s p))
    (λ v. rw v (omega (arith, i), i.after))
    (λ v. rw v (omega (arith, good)))))

two_lies : (s : List ℕ) (c : Cursor) → Good s c → TwoLies c (two_at s c)
unfolding two_at
two_lies s c good =
    by_read (mpint_at s c)
    (λ f w. rw w (rw w at (mpint_lies s c good)))
    (λ a d w.
    let i = rw w at (mpint_lies s c good) in
    let next = mpint_lies s d (good_after s c d good i.1) in
    rw w
    (by_read (mpint_at s d)
    (λ f v. rw v (lies_after c d f i.1 (rw v at next)))
    (λ b e v. let j = rw v at next in rw v (i.0, stands_after c d b i.1 j.0, after-after c d e i.1 j.1))))

six_lies : (s : List ℕ) (c : Cursor) → Good s c → SixLies c (six_at s c)
unfolding six_at
six_lies s c good =
    by_two (two_at s c)
    (λ f w. rw w (rw w at (two_lies s c good)))
    (λ n e c₁ w.
    let i = rw w at (two_lies s c good) in
    let good₁ = good_after s c c₁ good i.2 in
    rw w
    (by_two (two_at s c₁)
    (λ f v. rw v (lies_after c c₁ f i.2 (rw v at (two_lies s c₁ good₁))))
    (λ d iqmp c₂ v.
    let j = rw v at (two_lies s c₁ good₁) in
    let a₂ = after-after c c₁ c₂ i.2 j.2 in
    let good₂ = good_after s c c₂ good a₂ in
    rw v
    (by_two (two_at s c₂)
    (λ f u. rw u (lies_after c c₂ f a₂ (rw u at (two_lies s c₂ good₂))))
    (λ p q c₃ u.
    let k = rw u at (two_lies s c₂ good₂) in
    rw u (
      i.0,
      (i.1, (stands_after c c₁ d i.2 j.0, (stands_after c c₁ iqmp i.2 j.1, (stands_after c c₂ p a₂ k.0, (stands_after c c₂ q a₂ k.1, tt))))),
      after-after c c₂ c₃ a₂ k.2,
    ))))))

others_lies : (s : List ℕ) (c : Cursor) (n : Part) (numbers : List Part) → AllStand c numbers → EndingLies c (others_at s n numbers)
unfolding others_at
others_lies s c n [] h = tt
others_lies s c n (p ∷ more) h =
    by_bool (at_most (view_of s p) (view_of s n))
    (λ w. rw w (others_lies s c n more h.1))
    (λ w. rw w (outside_lies c p h.0))

pub rsa_public_lies : (s : List ℕ) (c : Cursor) → Good s c → RsaPublicLies c (rsa_public_at s c)
unfolding rsa_public_at
rsa_public_lies s c good =
    by_two (two_at s c)
    (λ f w. rw w (rw w at (two_lies s c good)))
    (λ e n d w.
    let i = rw w at (two_lies s c good) in
    rw w
    (by_tested (others_at s n (e ∷ []))
    (λ f v. rw v (rw v at (others_lies s c n (e ∷ []) (i.0, tt))))
    (λ v.
    rw v
    (by_size (modulus_size (view_of s n))
    (λ u. rw u (outside_lies c n i.1))
    (λ k u. rw u i.2)))))

pub rsa_pair_lies : (s : List ℕ) (c : Cursor) → Good s c → RsaPairLies c (rsa_pair_at s c)
unfolding rsa_pair_at
rsa_pair_lies s c good =
    by_six (six_at s c)
    (λ f w. rw w (rw w at (six_lies s c good)))
    (λ x d w.
    let i = rw w at (six_lies s c good) in
    rw w
    (by_size (modulus_size (view_of s x.n))
    (λ v. rw v (outside_lies c x.n i.0))
    (λ k v.
    rw v
    (by_tested (others_at s x.n (others_of x))
    (λ f u. rw u (rw u at (others_lies s c x.n (others_of x) i.1)))
    (λ u. rw u i.2)))))
