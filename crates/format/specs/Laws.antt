-- Of the law that an image says in which form its scalars stand: which forms are meant.
use Rattle.std.specs.Prelude.{ℕ, ◌<◌, List, [], ◌∷◌, length}
use Rattle.format.specs.Format.{Key, MayStand}

-- scalars that may stand so, and are short
abbrev pub AllMay : List ℕ → List Key → Type 0
AllMay [] [] = Unit {0}
AllMay [] (k ∷ keys) = ⊥
AllMay (z ∷ zs) [] = ⊥
AllMay (z ∷ zs) (k ∷ keys) = (length k.private.scalar < 67) × MayStand k.algorithm z k.private × AllMay zs keys
