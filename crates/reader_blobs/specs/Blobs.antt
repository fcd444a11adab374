-- docs/RULES.md, 4.6 and 7.3: what reading the public blobs finds, one after the other, each whole with its own refusals before the next.
use Rattle.std.specs.Prelude.{ℕ, zero, suc, ◌-◌, ◌≡◌, refl, List, [], ◌∷◌, Result, Ok, Err}
use Rattle.std.proofs.Common.{arith}
use Rattle.fields.specs.Fields.{within, on_read, string_at, view_of, Read}
use Rattle.fields.specs.declared.Cursor.{Cursor}
use Rattle.fields.specs.declared.Fault.{Fault}
use Rattle.fields.specs.declared.Part.{Part}
use Rattle.names.specs.declared.Algorithm.{Algorithm}
use Rattle.key_public.specs.declared.Public.{Public}
use Rattle.key_public.specs.Keys.{on_blob, blob_at}

-- by what was read
abbrev pub on_blob_field : {R : Type 0} → Read (Algorithm × Part × Public) → (Fault → R) → (Algorithm → Part → Public → Cursor → R) → R
on_blob_field (Err f) refused read = refused f
on_blob_field (Ok ((a, p, key), c)) refused read = read a p key c

abbrev pub on_blobs : {R : Type 0} → Result Cursor Fault → (Fault → R) → (Cursor → R) → R
on_blobs (Err f) refused read = refused f
on_blobs (Ok c) refused read = read c

-- 4.6: public blob, a string; within it name, key fields, end, else 6.
unfoldable pub blob_field_at : List ℕ → Cursor → Read (Algorithm × Part × Public)
blob_field_at s c =
    on_read (string_at s c) Err (λ p d.
    on_blob (blob_at s (within p)) Err (λ a key.
    Ok ((a, p, key), d)))

-- so many of them: the place after the last
unfoldable pub blobs_at : List ℕ → Cursor → ℕ → Result Cursor Fault
blobs_at s c zero = Ok c
blobs_at s c (suc n) = on_blob_field (blob_field_at s c) Err (λ a p key d. blobs_at s d n)

-- and what they hold
unfoldable pub blob_bytes : List ℕ → Cursor → ℕ → List (List ℕ)
blob_bytes s c zero = []
blob_bytes s c (suc n) = on_blob_field (blob_field_at s c) (λ f. []) (λ a p key d. view_of s p ∷ blob_bytes s d n)

-- ---- laws: by the number that is left to read, as the code counts it

pub blobs_none : (s : List ℕ) (c : Cursor) → blobs_at s c 0 ≡ Ok c
unfolding blobs_at
blobs_none s c = refl

pub blobs_more : (s : List ℕ) (c : Cursor) (n : ℕ) → (n ≡ 0 → ⊥) → blobs_at s c n ≡ on_blob_field (blob_field_at s c) Err (λ a p key d. blobs_at s d (n - 1))
unfolding blobs_at
blobs_more s c zero h = absurd (h refl)
blobs_more s c (suc n) h = let less : suc n - 1 ≡ n = omega arith in rw less
