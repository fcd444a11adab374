-- 24 bits taken apart and put together again: into three bytes, and into four groups of 6.
use Rattle.std.specs.Prelude.{ℕ, ◌+◌, ◌*◌, ◌/◌, ◌%◌, ◌<◌, ◌≡◌, [], ◌∷◌}
use Rattle.std.proofs.Math.Nat.{div-add-mod, div-div-eq-div-mul}
use Rattle.std.proofs.Common.{mod-eq_of_lt, arith, sym, ◌∙◌}
use Rattle.armour_text.specs.Base64.{bits_of_bytes, bits_of_values, bytes_of_bits}

-- divided by 64 three times
joined : (n q₁ q₂ q₃ r₀ r₁ r₂ : ℕ) → 64 * q₁ + r₀ ≡ n → 64 * q₂ + r₁ ≡ q₁ → 64 * q₃ + r₂ ≡ q₂ → bits_of_values q₃ r₂ r₁ r₀ ≡ n
joined n q₁ q₂ q₃ r₀ r₁ r₂ e f g = omega arith

below : (n q₁ q₂ q₃ r₀ r₁ r₂ : ℕ) → 64 * q₁ + r₀ ≡ n → 64 * q₂ + r₁ ≡ q₁ → 64 * q₃ + r₂ ≡ q₂ → n < 16777216 → q₃ < 64
below n q₁ q₂ q₃ r₀ r₁ r₂ e f g h = omega arith

-- 24 bits are those of their four groups
pub groups_of : (n : ℕ) → n < 16777216 → bits_of_values (n / 262144 % 64) (n / 4096 % 64) (n / 64 % 64) (n % 64) ≡ n
groups_of n h =
    let q₁ : ℕ = n / 64 in
    let q₂ : ℕ = q₁ / 64 in
    let q₃ : ℕ = q₂ / 64 in
    let e₂ : n / 4096 ≡ q₂ = sym (div-div-eq-div-mul n 64 64) in
    let e₃ : n / 262144 ≡ q₃ = sym (div-div-eq-div-mul n 64 4096) ∙ sym (div-div-eq-div-mul q₁ 64 64) in
    let s = below n q₁ q₂ q₃ (n % 64) (q₁ % 64) (q₂ % 64) (div-add-mod n 64) (div-add-mod q₁ 64) (div-add-mod q₂ 64) h in
    rw (e₃, e₂, mod-eq_of_lt s) (joined n q₁ q₂ q₃ (n % 64) (q₁ % 64) (q₂ % 64) (div-add-mod n 64) (div-add-mod q₁ 64) (div-add-mod q₂ 64))

-- three bytes are those of their bits
pub bytes_of : (a b c : ℕ) → a < 256 → b < 256 → c < 256 → bytes_of_bits (bits_of_bytes a b c) ≡ a ∷ b ∷ c ∷ []
bytes_of a b c h k l =
    let e : bits_of_bytes a b c / 65536 % 256 ≡ a = omega arith in
    let f : bits_of_bytes a b c / 256 % 256 ≡ b = omega arith in
    let g : bits_of_bytes a b c % 256 ≡ c = omega arith in
    cc

-- and 24 bits those of their bytes
put_together : (n q₁ q₂ r₀ r₁ : ℕ) → 256 * q₁ + r₀ ≡ n → 256 * q₂ + r₁ ≡ q₁ → bits_of_bytes q₂ r₁ r₀ ≡ n
put_together n q₁ q₂ r₀ r₁ e f = omega arith

pub bits_of : (n : ℕ) → n < 16777216 → bits_of_bytes (n / 65536 % 256) (n / 256 % 256) (n % 256) ≡ n
bits_of n h =
    let q₁ : ℕ = n / 256 in
    let q₂ : ℕ = q₁ / 256 in
    let e : n / 65536 ≡ q₂ = sym (div-div-eq-div-mul n 256 256) in
    let s : n / 65536 < 256 = omega arith in
    rw (mod-eq_of_lt s, e) (put_together n q₁ q₂ (n % 256) (q₁ % 256) (div-add-mod n 256) (div-add-mod q₁ 256))

-- four groups are those of their bits
module _ (w x y z : ℕ) (hw : w < 64) (hx : x < 64) (hy : y < 64) (hz : z < 64) where
  pub group_0 : bits_of_values w x y z / 262144 % 64 ≡ w
  group_0 = omega arith

  pub group_1 : bits_of_values w x y z / 4096 % 64 ≡ x
  group_1 = omega arith

  pub group_2 : bits_of_values w x y z / 64 % 64 ≡ y
  group_2 = omega arith

  pub group_3 : bits_of_values w x y z % 64 ≡ z
  group_3 = omega arith
