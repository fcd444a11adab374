-- docs/RULES.md, 4.3, 4.4, 6.1 and 6.3, rest on this: looking bytes up in a table of names, one definition and one law for every table.
use Rattle.std.specs.Prelude.{ℕ, ◌≡◌, refl, ◌⊎◌, Bool, true, false, cond, List, [], ◌∷◌}
use Rattle.std.proofs.Common.{sym, ◌∙◌, ap, inl, inr, ⊎_elim}
use Rattle.fields.specs.Bytes.{same_bytes, same_true}

module _ {A R : Type 0} (name : A → List ℕ) (known : A → R) (unknown : R) where
  -- the first of the things whose name the bytes are
  abbrev pub look_up : List A → List ℕ → R
  look_up [] b = unknown
  look_up (a ∷ rows) b = cond (same_bytes b (name a)) (known a) (look_up rows b)

  -- what is found has that name
  pub found : (rows : List A) (b : List ℕ) → (look_up rows b ≡ unknown) ⊎ ((a : A) × (b ≡ name a) × (look_up rows b ≡ known a))
  found [] b = inl refl
  found (a ∷ rows) b = go (same_bytes b (name a)) (same_true b (name a)) (found rows b)
    where
      go :
          (t : Bool) → (t ≡ true → b ≡ name a)
          → (look_up rows b ≡ unknown) ⊎ ((x : A) × (b ≡ name x) × (look_up rows b ≡ known x))
          → (cond t (known a) (look_up rows b) ≡ unknown) ⊎ ((x : A) × (b ≡ name x) × (cond t (known a) (look_up rows b) ≡ known x))
      go true h more = inr (a, h refl, refl)
      go false h more = more

  -- so where `known` loses nothing and is never `unknown`, bytes that are known are the name
  pub named : (rows : List A) (b : List ℕ) (a : A) → (known a ≡ unknown → ⊥) → ((x : A) → known x ≡ known a → x ≡ a) → look_up rows b ≡ known a → b ≡ name a
  named rows b a differ same e =
      ⊎_elim (λ u. absurd (differ (sym e ∙ u)))
      (λ k. k.1 ∙ ap name (same k.0 (sym k.2 ∙ e)))
      (found rows b)
