-- Checks of several keys, one by one, and the reply once they are made.
use Rattle.std.specs.Prelude.{ℕ, zero, suc, ◌+◌, ◌-◌, ◌%◌, ◌/◌, ◌≡◌, refl, Bool, true, false, ◌&&◌, List, [], ◌∷◌, map, eqb, length, Ok, Err}
use Rattle.std.proofs.Common.{sym, ◌∙◌, ap}
use Rattle.std.proofs.Math.Dec.{leb}
use Rattle.fields.specs.Bytes.{both_true}
use Rattle.fields.specs.Place.{clash}
use Rattle.fields.specs.declared.Fault.{Fault}
use Rattle.fields.specs.declared.Refusal.TheVariants.{CharacterEncoding}
use Rattle.utf8.specs.Utf8.{utf8}
use Rattle.format.specs.Format.{Key, alone, written_image, filled_key}
use Rattle.format.specs.Scalars.{written_filled}
use Rattle.writer_reply.specs.Reply.{unless, sized, Written}
use Rattle.writer_parts.specs.Checks.{passed, Checking, checking_nothing, checking_unless, checking_key, key_checked}
use Rattle.writer_plain.specs.Plain.{keys_checked, keys_reply}
use Rattle.writer_table.specs.Table.{rows_from, rows, row_is_within, key_at, keys_named, every, table_fits, table_checked}
use Rattle.writer_table.specs.Rows.{checking_table, passed_fits}
use Rattle.writer_rows.specs.Taken.{key_taken, keys_taken, taken_none, taken_more}
use Rattle.writer_keys.specs.Named.{named_keys, named_reply}
use Rattle.writer_keys.specs.Passes.{keys_from, keys_none, keys_more}

-- by what was answered
by_written : {C : Type 0} (w : Written) → ((f : Fault) → w ≡ Err f → C) → ((n : ℕ) → w ≡ Ok n → C) → C
by_written (Err f) refused accepted = refused f refl
by_written (Ok n) refused accepted = accepted n refl

never : {C : Type 0} (f : Fault) (n : ℕ) → Err f ≡ Ok n → C
never f n e = clash cc

-- one check, and another after it
checking_then : {first second : Written → Written} → Checking first → Checking second → Checking (λ next. first (second next))
checking_then {first} {second} a b =
    record {
      refuses =
          λ f next e.
          by_written (first passed)
          (λ g w. a.refuses g (second next) w ∙ sym (a.refuses g (second passed) w) ∙ e)
          (λ n w. a.passes n (second next) w ∙ b.refuses f next (sym (a.passes n (second passed) w) ∙ e));
      passes =
          λ m next e.
          by_written (first passed)
          (λ g w. never g m (sym (a.refuses g (second passed) w) ∙ e))
          (λ n w. a.passes n (second next) w ∙ b.passes m next (sym (a.passes n (second passed) w) ∙ e));
    }

-- a key with its comment
checking_one : (k : Key) → Checking (λ next. key_checked k.algorithm k.public k.private (unless (utf8 k.comment) CharacterEncoding next))
checking_one k =
    checking_then (checking_key k.algorithm k.public k.private) (checking_unless (utf8 k.comment) CharacterEncoding checking_nothing)

-- all of them
pub checking_keys : (keys : List Key) → Checking (keys_checked keys)
unfolding keys_checked
checking_keys [] = checking_nothing
checking_keys (k ∷ keys) = checking_then (checking_one k) (checking_keys keys)

-- the first refusal is the list's, and after a key that passes it goes by the others
module _ (k : Key) (keys : List Key) where
  pub first_refused : (f : Fault) → keys_checked (alone k) passed ≡ Err f → keys_checked (k ∷ keys) passed ≡ Err f
  unfolding keys_checked
  first_refused f e = (checking_one k).refuses f (keys_checked keys passed) e

  pub first_passed : (n : ℕ) → keys_checked (alone k) passed ≡ Ok n → keys_checked (k ∷ keys) passed ≡ keys_checked keys passed
  unfolding keys_checked
  first_passed n e = (checking_one k).passes n (keys_checked keys passed) e

-- the same of the keys of a table
module _ (filling : Bool) (text table : List ℕ) (j n : ℕ) where
  pub checked_none : n ≡ 0 → keys_checked (keys_taken filling (keys_from text table j n)) passed ≡ passed
  unfolding keys_checked
  checked_none e = rw (keys_none text table j n e, taken_none filling)

  pub checked_refused :
      (f : Fault) → (n ≡ 0 → ⊥) → keys_checked (alone (key_taken filling (key_at text table j))) passed ≡ Err f
      → keys_checked (keys_taken filling (keys_from text table j n)) passed ≡ Err f
  checked_refused f h e =
      rw (keys_more text table j n h, taken_more filling (key_at text table j) (keys_from text table (j + 19) (n - 1)))
      (first_refused (key_taken filling (key_at text table j)) (keys_taken filling (keys_from text table (j + 19) (n - 1))) f e)

  pub checked_passed :
      (m : ℕ) → (n ≡ 0 → ⊥) → keys_checked (alone (key_taken filling (key_at text table j))) passed ≡ Ok m
      → keys_checked (keys_taken filling (keys_from text table j n)) passed ≡ keys_checked (keys_taken filling (keys_from text table (j + 19) (n - 1))) passed
  checked_passed m h e =
      rw (keys_more text table j n h, taken_more filling (key_at text table j) (keys_from text table (j + 19) (n - 1)))
      (first_passed (key_taken filling (key_at text table j)) (keys_taken filling (keys_from text table (j + 19) (n - 1))) m e)

-- ---- how many keys there are

rows_count : (j n : ℕ) → length (rows_from j n) ≡ n
unfolding rows_from
rows_count j zero = refl
rows_count j (suc n) = ap suc (rows_count (j + 19) n)

map_count : {A B : Type 0} (f : A → B) (l : List A) → length (map f l) ≡ length l
map_count f [] = refl
map_count f (x ∷ l) = ap suc (map_count f l)

pub keys_count : (text table : List ℕ) (j n : ℕ) → length (map (key_at text table) (rows_from j n)) ≡ n
keys_count text table j n = map_count (key_at text table) (rows_from j n) ∙ rows_count j n

pub count_mapped : {B : Type 0} (f : Key → B) (keys : List Key) → length (map f keys) ≡ length keys
count_mapped f keys = map_count f keys

taken_count : (filling : Bool) (keys : List Key) → length (keys_taken filling keys) ≡ length keys
taken_count true keys = map_count filled_key keys
taken_count false keys = refl

named_count : (filling : Bool) (text table : List ℕ) → length (named_keys filling text table) ≡ length table / 19
unfolding keys_named
named_count filling text table = taken_count filling (keys_named text table) ∙ keys_count text table 0 (length table / 19)

-- ---- the reply

module _ (filling : Bool) (text table : List ℕ) where
  -- zeros in front change nothing of what is written
  pub written_named : (n : ℕ) → written_image n (named_keys filling text table) ≡ written_image n (keys_named text table)
  written_named n = go filling
    where
      go : (b : Bool) → written_image n (keys_taken b (keys_named text table)) ≡ written_image n (keys_named text table)
      go true = written_filled n (keys_named text table)
      go false = refl

  count_fits : table_fits text table ≡ true → (leb 1 (length table / 19) && leb (length table / 19) 16) ≡ true
  unfolding table_fits
  count_fits fits =
      let shape = (both_true (eqb (length table % 19) 0 && (leb 1 (length table / 19) && leb (length table / 19) 16)) (every (row_is_within text table) (rows table)) fits).0 in
      (both_true (eqb (length table % 19) 0) _ shape).1

  -- a table that is refused
  pub named_refused : (f : Fault) (n room : ℕ) → table_checked text table passed ≡ Err f → named_reply filling text table n room ≡ Err f
  unfolding named_reply
  named_refused f n room e = (checking_table text table).refuses f (keys_reply (named_keys filling text table) n room) e

  -- one that isn't
  pub named_passed :
      (m n room : ℕ) → table_checked text table passed ≡ Ok m
      → named_reply filling text table n room ≡ keys_checked (named_keys filling text table) (sized (written_image n (named_keys filling text table)) room)
  unfolding named_reply keys_reply
  named_passed m n room e =
      (checking_table text table).passes m (keys_reply (named_keys filling text table) n room) e
      ∙ rw (named_count filling text table, count_fits (passed_fits text table m e))
