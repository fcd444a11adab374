-- Laws of a table: its rows one by one, as the code goes; numbers past its end; its check.
use Rattle.std.specs.Prelude.{ℕ, zero, suc, ◌+◌, ◌-◌, ◌*◌, ◌≤◌, ◌<◌, ◌^◌, ◌≡◌, refl, Bool, true, false, List, [], ◌∷◌, ltb, length, get_or, Ok, None}
use Rattle.std.proofs.Common.{arith, sym, ◌∙◌, ap, ne_eqb, ltb-true, ltb-false}
use Rattle.std.specs.List.{list_all, range_with_len}
use Rattle.fields.specs.Place.{by_bool, clash}
use Rattle.fields.specs.declared.Refusal.TheVariants.{Length, AlgorithmUnknown}
use Rattle.names_codes.specs.Codes.{algorithm_coded}
use Rattle.writer_reply.specs.Reply.{refused}
use Rattle.writer_parts.specs.Checks.{passed, Checking, checking_nothing, checking_unless}
use Rattle.writer_parts.specs.Sizes.{capped, capped_small, capped_large}
use Rattle.writer_table.specs.Table.{rows_from, rows, code_known, every, table_fits, table_checked}

less_one : (n : ℕ) → suc n - 1 ≡ n
less_one n = omega arith

pub rows_none : (j n : ℕ) → n ≡ 0 → rows_from j n ≡ []
unfolding rows_from
rows_none j n e = rw e

-- as the code counts
pub rows_more : (j n : ℕ) → (n ≡ 0 → ⊥) → rows_from j n ≡ j ∷ rows_from (j + 19) (n - 1)
unfolding rows_from
rows_more j zero h = absurd (h refl)
rows_more j (suc n) h = rw (less_one n)

-- what holds of all rows, one by one
module _ (holds : ℕ → Bool) (j n : ℕ) where
  pub every_none : n ≡ 0 → every holds (rows_from j n) ≡ true
  unfolding every
  every_none e = rw (rows_none j n e)

  pub every_not : (n ≡ 0 → ⊥) → holds j ≡ false → every holds (rows_from j n) ≡ false
  unfolding every
  every_not h e = rw (rows_more j n h, e)

  pub every_more : (n ≡ 0 → ⊥) → holds j ≡ true → every holds (rows_from j n) ≡ every holds (rows_from (j + 19) (n - 1))
  unfolding every
  every_more h e = rw (rows_more j n h, e)

-- the rows by their numbers, each 19 numbers after the one before
pub rows_numbered : (holds : ℕ → Bool) (i n : ℕ) → list_all (λ k. holds (19 * k)) (range_with_len i n) ≡ every holds (rows_from (19 * i) n)
unfolding every rows_from
rows_numbered holds i zero = refl
rows_numbered holds i (suc n) =
    let next : 19 * (i + 1) ≡ 19 * i + 19 = omega arith in
    rw (rows_numbered holds (i + 1) n, next)

-- a table has no numbers past its end
pub past_end : (table : List ℕ) (i : ℕ) → length table ≤ i → get_or table i 0 ≡ 0
past_end [] i h = refl
past_end (x ∷ table) zero h = absurd (omega arith)
past_end (x ∷ table) (suc i) h = past_end table i (omega arith)

-- so a capped place is as good
pub number_capped : (table : List ℕ) (i : ℕ) → length table < 2 ^ 63 → get_or table (capped i) 0 ≡ get_or table i 0
number_capped table i short =
    by_bool (ltb i (2 ^ 63))
    (λ w. ap (λ (k : ℕ). get_or table k 0) (capped_small i (ltb-true i (2 ^ 63) w)))
    (λ w.
    let long = ltb-false i (2 ^ 63) w in
    past_end table (capped i) (omega (arith, capped_large i long)) ∙ sym (past_end table i (omega (arith, long))))

-- a code above 255 names nothing
pub code_large : (code : ℕ) → 255 < code → algorithm_coded code ≡ None
unfolding algorithm_coded
code_large code h =
    rw (
      ne_eqb code 0 (λ e. omega arith),
      ne_eqb code 1 (λ e. omega arith),
      ne_eqb code 2 (λ e. omega arith),
      ne_eqb code 3 (λ e. omega arith),
      ne_eqb code 4 (λ e. omega arith),
    )

-- ---- the check of a table

module _ (text table : List ℕ) where
  pub checking_table : Checking (table_checked text table)
  unfolding table_checked
  checking_table =
      checking_unless (table_fits text table) Length
      (checking_unless (every (code_known table) (rows table)) AlgorithmUnknown
      checking_nothing)

  -- a table that passes it fits
  pub passed_fits : (n : ℕ) → table_checked text table passed ≡ Ok n → table_fits text table ≡ true
  unfolding table_checked
  passed_fits n e =
      by_bool (table_fits text table)
      (λ w. w)
      (λ w. let g : refused Length ≡ Ok n = rw w at e in clash cc)
