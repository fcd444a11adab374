-- Laws of key material: bytes that fit are held, others are not; a scalar is filled with zeros; the marked example M16.
use Rattle.std.specs.Prelude.{ℕ, zero, suc, ◌+◌, ◌≤◌, ◌<◌, ◌^◌, ◌≡◌, refl, leb, take, replicate}
use Rattle.std.proofs.Common.{arith, sym, ◌∙◌, leb-true}
use Rattle.std.proofs.Math.Path.{ap}
use mathlib.Core.List.{List, [], ◌∷◌, ◌++◌}
use Rattle.std.proofs.Math.ListN.{length}
use Rattle.fields.specs.Fields.{part, view_of}
use Rattle.fields.specs.Place.{by_bool}
use Rattle.fields.specs.Room.{view_in, view_out}
use Rattle.buffer.specs.Puts.{splice, fits, placed, zeros, zeros-length, placed-fits, no_put, splice-length, take-splice}
use Rattle.names.specs.declared.Elliptic.{Elliptic}
use Rattle.names.specs.declared.Elliptic.TheVariants.{Ed25519, Ecdsa}
use Rattle.names.specs.Algorithms.{size_small}
use Rattle.format.specs.Format.{standing, scalar_filled}
use Rattle.format.specs.Scalars.{standing-length}
use Rattle.key_material.specs.Material.{public_of, private_of, mixed, derived_checkint, padded, zeros_missing, material_of}

-- ---- what a room of k bytes holds

module _ (k : ℕ) (bytes : List ℕ) where
  -- bytes that fit are held
  held : length bytes ≤ k → view_of (padded k bytes) (part 0 (length bytes)) ≡ bytes
  unfolding padded
  held h =
      let fit : 0 + length bytes ≤ length (zeros k) = omega (arith, zeros-length k) in
      let room : placed (zeros k) 0 bytes ≡ splice (zeros k) 0 bytes = placed-fits (zeros k) 0 bytes fit in
      let long : 0 + length bytes ≤ length (splice (zeros k) 0 bytes) = omega (arith, splice-length (zeros k) 0 bytes fit) in
      ap (λ (l : List ℕ). view_of l (part 0 (length bytes))) room ∙ view_in (splice (zeros k) 0 bytes) (part 0 (length bytes)) long
      ∙ take-splice (zeros k) 0 bytes fit

  -- bytes that don't are not
  not_held : k < length bytes → view_of (padded k bytes) (part 0 (length bytes)) ≡ []
  unfolding padded
  not_held h =
      let none = (no_put (zeros k) 0 bytes (omega (arith, zeros-length k))).1 in
      let short : length (zeros k) < 0 + length bytes = omega (arith, zeros-length k) in
      ap (λ (l : List ℕ). view_of l (part 0 (length bytes))) (sym none) ∙ (view_out (zeros k) (part 0 (length bytes)) short).0

module _ (a : Elliptic) (public private : List ℕ) where
  pub public_of_lem : length public ≤ 133 → public_of (material_of a public private) ≡ public
  unfolding public_of material_of
  public_of_lem = held 133 public

  pub public_of_long : 133 < length public → public_of (material_of a public private) ≡ []
  unfolding public_of material_of
  public_of_long = not_held 133 public

  pub private_of_lem : length private ≤ 66 → private_of (material_of a public private) ≡ private
  unfolding private_of material_of
  private_of_lem = held 66 private

  pub private_of_long : 66 < length private → private_of (material_of a public private) ≡ []
  unfolding private_of material_of
  private_of_long = not_held 66 private

-- ---- filled with zeros in front

pub filled_missing : (a : Elliptic) (private : List ℕ) → scalar_filled a private ≡ standing (zeros_missing a private) private
unfolding zeros_missing
filled_missing Ed25519 private = refl
filled_missing (Ecdsa k) private = refl

pub filled_size : (a : Elliptic) (private : List ℕ) → length (scalar_filled a private) ≡ zeros_missing a private + length private
filled_size a private = ap length (filled_missing a private) ∙ standing-length (zeros_missing a private) private

-- they are few, and none where the bytes are many: so a filled scalar is no longer than a slice can be
pub filled_bounded : (a : Elliptic) (private : List ℕ) → length private < 2 ^ 64 → zeros_missing a private + length private < 2 ^ 64
unfolding zeros_missing
filled_bounded Ed25519 private h = omega arith
filled_bounded (Ecdsa k) private h = omega (arith, size_small k)

take-zeros : (k n : ℕ) → n ≤ k → take n (zeros k) ≡ replicate n 0
unfolding zeros
take-zeros k zero h = refl
take-zeros zero (suc n) h = absurd (omega arith)
take-zeros (suc k) (suc n) h = ap (λ (l : List ℕ). 0 ∷ l) (take-zeros k n (omega arith))

-- bytes put after the first n zeros of a room, or put at its start with n zeros before them
splice-standing : (k n : ℕ) (bytes : List ℕ) → n + length bytes ≤ k → splice (zeros k) n bytes ≡ splice (zeros k) 0 (standing n bytes)
unfolding splice
splice-standing k n bytes fit =
    let long : 0 + length (standing n bytes) ≡ n + length bytes = omega (arith, standing-length n bytes) in
    rw (long, take-zeros k n (omega arith))

pub padded-standing : (k n : ℕ) (bytes : List ℕ) → placed (zeros k) n bytes ≡ padded k (standing n bytes)
unfolding padded placed fits
padded-standing k n bytes =
    let same : 0 + length (standing n bytes) ≡ n + length bytes = omega (arith, standing-length n bytes) in
    by_bool (leb (n + length bytes) (length (zeros k)))
    (λ w. rw (same, w) (splice-standing k n bytes (omega (arith, leb-true (n + length bytes) (length (zeros k)) w, zeros-length k))))
    (λ w. rw (same, w))

-- ---- M16: 66 private bytes, zero but the last two

pub derived_m16 : (a b : ℕ) → derived_checkint (replicate 64 0 ++ a ∷ b ∷ []) ≡ 0
unfolding derived_checkint mixed
derived_m16 a b = refl
