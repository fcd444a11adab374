-- docs/RULES.md, 10.2 and 10.9: the keys that a caller hands in are taken as they are, a record's with their scalars filled.
use Rattle.std.specs.Prelude.{ℕ, ◌+◌, ◌≡◌, refl, Bool, true, false, List, [], ◌∷◌, map}
use Rattle.std.proofs.Common.{sym, ◌∙◌, ap}
use Rattle.names.specs.declared.Elliptic.{Elliptic}
use Rattle.names.specs.declared.Algorithm.TheVariants.{Elliptic as OnCurve, Rsa}
use Rattle.format.specs.Format.{PublicBytes, PrivateBytes, Key, key_of, of_point, of_scalar, of_modulus, of_numbers, filled_key}
use Rattle.writer_curve.specs.Taken.{scalar_taken}
use Rattle.writer_table.specs.Table.{part_bytes, comment_at, algorithm_at, key_at}

abbrev pub key_taken : Bool → Key → Key
key_taken true k = filled_key k
key_taken false k = k

abbrev pub keys_taken : Bool → List Key → List Key
keys_taken true keys = map filled_key keys
keys_taken false keys = keys

pub taken_none : (filling : Bool) → keys_taken filling [] ≡ []
taken_none true = refl
taken_none false = refl

pub taken_more : (filling : Bool) (k : Key) (keys : List Key) → keys_taken filling (k ∷ keys) ≡ key_taken filling k ∷ keys_taken filling keys
taken_more true k keys = refl
taken_more false k keys = refl

-- ---- a key of a table, by its kind

module _ (text table : List ℕ) (j : ℕ) where
  pub key_curve :
      (e : Elliptic) → algorithm_at table j ≡ OnCurve e
      → key_at text table j ≡ key_of (OnCurve e) (of_point (part_bytes text table (j + 1))) (of_scalar (part_bytes text table (j + 3))) (comment_at text table j)
  unfolding key_at
  key_curve e w = rw w

  pub key_rsa :
      algorithm_at table j ≡ Rsa
      → key_at text table j
      ≡ key_of Rsa (of_modulus (part_bytes text table (j + 7)) (part_bytes text table (j + 9)))
      (of_numbers (part_bytes text table (j + 11)) (part_bytes text table (j + 13)) (part_bytes text table (j + 15)) (part_bytes text table (j + 17)))
      (comment_at text table j)
  unfolding key_at
  key_rsa w = rw w

-- taken, only a scalar is another, and of RSA nothing
module _ (filling : Bool) (text table : List ℕ) (j : ℕ) where
  pub taken_curve :
      (e : Elliptic) → algorithm_at table j ≡ OnCurve e
      → key_taken filling (key_at text table j)
      ≡ key_of (OnCurve e) (of_point (part_bytes text table (j + 1))) (of_scalar (scalar_taken filling e (part_bytes text table (j + 3)))) (comment_at text table j)
  taken_curve e w = ap (key_taken filling) (key_curve text table j e w) ∙ by_mode filling
    where
      by_mode :
          (b : Bool) → key_taken b (key_of (OnCurve e) (of_point (part_bytes text table (j + 1))) (of_scalar (part_bytes text table (j + 3))) (comment_at text table j))
          ≡ key_of (OnCurve e) (of_point (part_bytes text table (j + 1))) (of_scalar (scalar_taken b e (part_bytes text table (j + 3)))) (comment_at text table j)
      by_mode true = refl
      by_mode false = refl

  pub taken_rsa : algorithm_at table j ≡ Rsa → key_taken filling (key_at text table j) ≡ key_at text table j
  taken_rsa w = ap (key_taken filling) (key_rsa text table j w) ∙ by_mode filling ∙ sym (key_rsa text table j w)
    where
      by_mode : {key : PublicBytes} {x : PrivateBytes} {comment : List ℕ} (b : Bool) → key_taken b (key_of Rsa key x comment) ≡ key_of Rsa key x comment
      by_mode true = refl
      by_mode false = refl

pub taken_comment : (filling : Bool) (k : Key) → (key_taken filling k).comment ≡ k.comment
taken_comment true k = refl
taken_comment false k = refl

pub key_comment : (text table : List ℕ) (j : ℕ) → (key_at text table j).comment ≡ comment_at text table j
unfolding key_at
key_comment text table j = refl
