-- How long an RSA key's blob and keypair are, by the lengths of its numbers.
use Rattle.std.specs.Prelude.{ℕ, ◌+◌, ◌≡◌, List, length}
use Rattle.std.proofs.Common.{◌∙◌, ap}
use Rattle.names.specs.declared.Algorithm.TheVariants.{Rsa}
use Rattle.format.specs.Format.{of_modulus, of_numbers, blob, written_pair}
use Rattle.format.proofs.Lengths.{blob-length, keypair-length}
use Rattle.writer_parts.specs.Sizes.{capped, capped_sum}

pub blob_size : (n e : List ℕ) → length (blob Rsa (of_modulus n e)) ≡ 19 + length e + length n
blob_size n e = blob-length (of_modulus n e) (of_numbers n n n n) Rsa tt

pub pair_size :
    (n e d iqmp p q : List ℕ)
    → length (written_pair Rsa (of_modulus n e) (of_numbers d iqmp p q))
    ≡ 35 + length n + length e + length d + length iqmp + length p + length q
pair_size n e d iqmp p q = keypair-length (of_modulus n e) (of_numbers d iqmp p q) Rsa tt

-- six lengths, added up one by one
pub six_added :
    (s₁ s₂ s₃ s₄ s₅ s₆ k n e d iqmp p q : ℕ) → s₁ ≡ capped (k + n) → s₂ ≡ capped (s₁ + e) → s₃ ≡ capped (s₂ + d) → s₄ ≡ capped (s₃ + iqmp)
    → s₅ ≡ capped (s₄ + p) → s₆ ≡ capped (s₅ + q) → s₆ ≡ capped (k + n + e + d + iqmp + p + q)
six_added s₁ s₂ s₃ s₄ s₅ s₆ k n e d iqmp p q e₁ e₂ e₃ e₄ e₅ e₆ =
    let two : s₂ ≡ capped (k + n + e) = e₂ ∙ ap (λ (m : ℕ). capped (m + e)) e₁ ∙ capped_sum (k + n) e in
    let three : s₃ ≡ capped (k + n + e + d) = e₃ ∙ ap (λ (m : ℕ). capped (m + d)) two ∙ capped_sum (k + n + e) d in
    let four : s₄ ≡ capped (k + n + e + d + iqmp) = e₄ ∙ ap (λ (m : ℕ). capped (m + iqmp)) three ∙ capped_sum (k + n + e + d) iqmp in
    let five : s₅ ≡ capped (k + n + e + d + iqmp + p) = e₅ ∙ ap (λ (m : ℕ). capped (m + p)) four ∙ capped_sum (k + n + e + d + iqmp) p in
    e₆ ∙ ap (λ (m : ℕ). capped (m + q)) five ∙ capped_sum (k + n + e + d + iqmp + p) q
