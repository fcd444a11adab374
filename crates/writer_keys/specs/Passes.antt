-- The keys of a table as the two passes put them, one by one, and the lengths that are added up for them.
use Rattle.std.specs.Prelude.{ℕ, ◌+◌, ◌-◌, ◌*◌, ◌≤◌, ◌<◌, ◌≡◌, List, [], ◌∷◌, ◌++◌, map}
use Rattle.std.proofs.Common.{ap, sym, ◌∙◌, append-nil, arith}
use Rattle.fields.specs.Bytes.{string, join}
use Rattle.format.specs.Format.{Key, key_blob, written_entry, blob_fields, entry_fields}
use Rattle.buffer.specs.Puts.{IsPut, nothing_put}
use Rattle.buffer.specs.Runs.{Left, IsRun, start, step, runs, finish}
use Rattle.writer_parts.specs.Sizes.{capped, capped_small, capped_again, capped_sum, capped_sum_last}
use Rattle.writer_table.specs.Table.{rows_from, key_at}
use Rattle.writer_table.specs.Rows.{rows_none, rows_more}

-- n keys of a table, whose numbers begin at j
abbrev pub keys_from : List ℕ → List ℕ → ℕ → ℕ → List Key
keys_from text table j n = map (key_at text table) (rows_from j n)

pub keys_none : (text table : List ℕ) (j n : ℕ) → n ≡ 0 → keys_from text table j n ≡ []
keys_none text table j n e = ap (map (key_at text table)) (rows_none j n e)

-- as the code counts
pub keys_more :
    (text table : List ℕ) (j n : ℕ) → (n ≡ 0 → ⊥) → keys_from text table j n ≡ key_at text table j ∷ keys_from text table (j + 19) (n - 1)
keys_more text table j n h = ap (map (key_at text table)) (rows_more j n h)

-- the keys from the one numbered i on: it and the others, or none
pub keys_next :
    (text table : List ℕ) (i n : ℕ) → i < n
    → keys_from text table (19 * i) (n - i) ≡ key_at text table (19 * i) ∷ keys_from text table (19 * (i + 1)) (n - (i + 1))
keys_next text table i n h =
    let place : 19 * (i + 1) ≡ 19 * i + 19 = omega arith in
    let others : n - (i + 1) ≡ n - i - 1 = omega arith in
    rw (place, others) (keys_more text table (19 * i) (n - i) (λ e. omega arith))

pub keys_end : (text table : List ℕ) (i n : ℕ) → n ≤ i → keys_from text table (19 * i) (n - i) ≡ []
keys_end text table i n h = keys_none text table (19 * i) (n - i) (omega arith)

pub keys_all : (text table : List ℕ) (n : ℕ) → keys_from text table (19 * 0) (n - 0) ≡ keys_from text table 0 n
keys_all text table n = let all : n - 0 ≡ n = omega arith in rw all

-- ---- runs

-- the fields of the blobs and of the entries
abbrev pub blobs_of : List Key → List (List ℕ)
blobs_of keys = blob_fields (map key_blob keys)

abbrev pub entries_of : List Key → List (List ℕ)
entries_of keys = entry_fields (map written_entry keys)

-- of no keys nothing is put
pub none_put : (old : List ℕ) (at : ℕ) → IsRun old at [] at old
none_put old at h = nothing_put old at

-- what is left, in one run
pub rest_of :
    {old : List ℕ} {a : ℕ} {fields more : List (List ℕ)} {at : ℕ} {out : List ℕ} {r : ℕ} {out' : List ℕ}
    → Left old a fields more at out → IsRun out at (join more) r out' → IsPut old a (join fields) r out'
rest_of {old} {a} {fields} {more} {at} {out} l p =
    let m : Left old a fields (more ++ []) at out = rw append-nil l in
    finish (runs more m p)

-- one key more, and the others
pub blobs_more :
    (old : List ℕ) (at : ℕ) (k : Key) (keys : List Key) (p : ℕ) (mid : List ℕ) (r : ℕ) (out : List ℕ) → IsPut old at (string (key_blob k)) p mid
    → IsRun mid p (join (blobs_of keys)) r out → IsRun old at (join (blobs_of (k ∷ keys))) r out
blobs_more old at k keys p mid r out put rest h = rest_of (step (start {fields = string (key_blob k) ∷ blobs_of keys} h) put) rest

pub entries_more :
    (old : List ℕ) (at : ℕ) (k : Key) (keys : List Key) (a : ℕ) (one : List ℕ) (p : ℕ) (mid : List ℕ) (r : ℕ) (out : List ℕ)
    → IsPut old at (written_entry k).pair a one → IsPut one a (string k.comment) p mid → IsRun mid p (join (entries_of keys)) r out
    → IsRun old at (join (entries_of (k ∷ keys))) r out
entries_more old at k keys a one p mid r out pair put rest h =
    rest_of (step (step (start {fields = (written_entry k).pair ∷ string k.comment ∷ entries_of keys} h) pair) put) rest

-- ---- lengths, added up one by one

-- of what is added up, and more that is left
pub record Summed (sum rest whole : ℕ) : Type 0 where
  pub limited : capped sum ≡ sum
  pub left : capped (sum + rest) ≡ capped whole

pub summed_none : (whole : ℕ) → Summed 0 whole whole
summed_none whole = record { limited = capped_small 0 (omega arith); left = ap capped (omega arith) }

pub summed_all : {sum whole : ℕ} → Summed sum 0 whole → sum ≡ capped whole
summed_all {sum} {whole} s = let all : sum + 0 ≡ sum = omega arith in
    sym s.limited ∙ ap capped (sym all) ∙ s.left

-- one more
pub summed_more : {sum whole : ℕ} (one more s r : ℕ) → s ≡ capped one → r ≡ capped (sum + s) → Summed sum (one + more) whole → Summed r more whole
summed_more {sum} {whole} one more s r es er h =
    let turned : sum + s + more ≡ sum + more + s = omega arith in
    let back : sum + more + one ≡ sum + (one + more) = omega arith in
    record {
      limited = ap capped er ∙ capped_again (sum + s) ∙ sym er;
      left =
          ap (λ (n : ℕ). capped (n + more)) er ∙ capped_sum (sum + s) more ∙ ap capped turned ∙ ap (λ (n : ℕ). capped (sum + more + n)) es
          ∙ capped_sum_last (sum + more) one ∙ ap capped back ∙ h.left;
    }
