-- The 19 numbers that a table has for a key; the table that is made of them names the keys, and passes its check.
use Rattle.std.specs.Prelude.{ℕ, ◌+◌, ◌*◌, ◌/◌, ◌%◌, ◌≤◌, ◌≡◌, Bool, true, ◌&&◌, get_or, Some}
use Rattle.std.proofs.Common.{add_assoc, arith, ◌∙◌, length-append, get_or-append-add}
use Rattle.std.proofs.Math.Path.{refl, sym, ap, ap₂}
use mathlib.Core.List.{List, [], ◌∷◌, ◌++◌, map, append_assoc}
use borrow.Author.Tests.{le-leb, leb-true, leb-false, eq-eqb}
use Rattle.std.proofs.Math.Dec.{leb}
use Rattle.std.proofs.Math.ListN.{length}
use Rattle.std.proofs.Math.Seq.{get_or-append_seam}
use Rattle.fields.specs.Bytes.{join}
use Rattle.fields.specs.Fields.{part, view_of}
use Rattle.fields.specs.Place.{by_bool}
use Rattle.fields.specs.Rest.{view_absent}
use Rattle.fields.specs.Room.{view_out}
use Rattle.fields.specs.declared.Part.{Part}
use Rattle.names.specs.Algorithms.{algorithm_code}
use Rattle.names.specs.declared.Elliptic.{Elliptic}
use Rattle.names.specs.declared.Algorithm.{Algorithm}
use Rattle.names.specs.declared.Algorithm.TheVariants.{Elliptic as OnCurve, Rsa}
use Rattle.names_codes.specs.Codes.{algorithm_coded, algorithm_coded_lem}
use Rattle.format.specs.Format.{Key, key_of, of_point, of_scalar, of_modulus, of_numbers, filled_key}
use Rattle.key_public.specs.Keys.{public_bytes}
use Rattle.key_pairs.specs.Pairs.{private_bytes}
use Rattle.reader_entries.specs.declared.KeyFields.{KeyFields}
use Rattle.writer_plain.specs.Plain.{keys_reply, keys_left}
use Rattle.writer_table.specs.Table.{rows_from, part_at, part_bytes, code_known, algorithm_at, key_at, keys_named, part_within, row_is_within, every, table_fits, table_checked}
use Rattle.writer_rows.specs.Taken.{key_curve, key_rsa}
use Rattle.writer_keys.specs.Named.{named_reply, named_left}
use Rattle.writer_listed.specs.Listed.{kept_part, key_in}
use Rattle.writer_reply.specs.Reply.{Written}

unfoldable pub row_of : List ℕ → KeyFields → List ℕ
row_of s k =
    algorithm_code k.algorithm
    ∷ (kept_part s k.public.point).start
    ∷ (kept_part s k.public.point).length
    ∷ (kept_part s k.private.scalar).start
    ∷ (kept_part s k.private.scalar).length
    ∷ (kept_part s k.comment).start
    ∷ (kept_part s k.comment).length
    ∷ (kept_part s k.public.modulus).start
    ∷ (kept_part s k.public.modulus).length
    ∷ (kept_part s k.public.exponent).start
    ∷ (kept_part s k.public.exponent).length
    ∷ (kept_part s k.private.d).start
    ∷ (kept_part s k.private.d).length
    ∷ (kept_part s k.private.iqmp).start
    ∷ (kept_part s k.private.iqmp).length
    ∷ (kept_part s k.private.p).start
    ∷ (kept_part s k.private.p).length
    ∷ (kept_part s k.private.q).start
    ∷ (kept_part s k.private.q).length
    ∷ []

unfoldable pub table_of : List ℕ → List KeyFields → List ℕ
table_of s keys = join (map (row_of s) keys)

-- ---- parts that are kept

module _ (s : List ℕ) (p : Part) where
  pub kept_within : (kept_part s p).start + (kept_part s p).length ≤ length s
  unfolding kept_part
  kept_within =
      by_bool (leb (p.start + p.length) (length s))
      (λ w. rw w (leb-true (p.start + p.length) (length s) w))
      (λ w. rw w (omega arith))

  kept_bytes : view_of s (kept_part s p) ≡ view_of s p
  unfolding kept_part
  kept_bytes =
      by_bool (leb (p.start + p.length) (length s))
      (λ w. rw w refl)
      (λ w. rw w (view_absent s ∙ sym (view_out s p (leb-false (p.start + p.length) (length s) w)).0))

  -- one that lies within is itself
  pub kept_own : p.start + p.length ≤ length s → kept_part s p ≡ p
  unfolding kept_part
  kept_own h = rw (le-leb _ _ h)

-- ---- a key by its kind

module _ (s : List ℕ) (k : KeyFields) where
  in_curve :
      (e : Elliptic) → k.algorithm ≡ OnCurve e
      → key_in s k ≡ key_of (OnCurve e) (of_point (view_of s k.public.point)) (of_scalar (view_of s k.private.scalar)) (view_of s k.comment)
  unfolding key_in public_bytes private_bytes
  in_curve e w = rw w

  in_rsa :
      k.algorithm ≡ Rsa
      → key_in s k
      ≡ key_of Rsa (of_modulus (view_of s k.public.modulus) (view_of s k.public.exponent))
      (of_numbers (view_of s k.private.d) (view_of s k.private.iqmp) (view_of s k.private.p) (view_of s k.private.q)) (view_of s k.comment)
  unfolding key_in public_bytes private_bytes
  in_rsa w = rw w

-- ---- a row within a table

module _ (s before more : List ℕ) (k : KeyFields) where
  abbrev table : List ℕ
  table = before ++ (row_of s k ++ more)

  code_there : get_or table (length before) 0 ≡ algorithm_code k.algorithm
  unfolding row_of
  code_there = get_or-append_seam before (algorithm_code k.algorithm) _ 0

  part_there : (i : ℕ) (p : Part) → part_at (row_of s k ++ more) i ≡ kept_part s p → part_at table (length before + i) ≡ kept_part s p
  part_there i p e =
      let second : get_or table (length before + i + 1) 0 ≡ get_or (row_of s k ++ more) (i + 1) 0 =
      ap (λ (n : ℕ). get_or table n 0) (add_assoc (length before) i 1) ∙ get_or-append-add before (row_of s k ++ more) (i + 1) 0 in
      ap₂ (λ (a b : ℕ). part a b) (get_or-append-add before (row_of s k ++ more) i 0) second ∙ e

  -- its bytes are the part's, and it lies within the image
  bytes_there : (i : ℕ) (p : Part) → part_at (row_of s k ++ more) i ≡ kept_part s p → part_bytes s table (length before + i) ≡ view_of s p
  bytes_there i p e = ap (view_of s) (part_there i p e) ∙ kept_bytes s p

  within_there : (i : ℕ) (p : Part) → part_at (row_of s k ++ more) i ≡ kept_part s p → part_within s table (length before + i) ≡ true
  unfolding part_within
  within_there i p e =
      ap (λ (q : Part). leb (q.start + q.length) (length s)) (part_there i p e) ∙ le-leb _ _ (kept_within s p)

  row_code : algorithm_coded (get_or table (length before) 0) ≡ Some k.algorithm
  row_code = ap algorithm_coded code_there ∙ algorithm_coded_lem k.algorithm

  row_known : code_known table (length before) ≡ true
  unfolding code_known
  row_known = rw row_code

  row_algorithm : algorithm_at table (length before) ≡ k.algorithm
  unfolding algorithm_at
  row_algorithm = rw row_code

  row_within : row_is_within s table (length before) ≡ true
  unfolding row_is_within row_of
  row_within =
      rw (
        within_there 1 k.public.point refl,
        within_there 3 k.private.scalar refl,
        within_there 5 k.comment refl,
        within_there 7 k.public.modulus refl,
        within_there 9 k.public.exponent refl,
        within_there 11 k.private.d refl,
        within_there 13 k.private.iqmp refl,
        within_there 15 k.private.p refl,
        within_there 17 k.private.q refl,
      )

  row_key : key_at s table (length before) ≡ key_in s k
  unfolding row_of
  row_key = by_kind k.algorithm refl
    where
      by_kind : (a : Algorithm) → k.algorithm ≡ a → key_at s table (length before) ≡ key_in s k
      by_kind (OnCurve e) w =
          key_curve s table (length before) e (row_algorithm ∙ w)
          ∙ rw (bytes_there 1 k.public.point refl, bytes_there 3 k.private.scalar refl, bytes_there 5 k.comment refl)
          (sym (in_curve s k e w))
      by_kind Rsa w =
          key_rsa s table (length before) (row_algorithm ∙ w)
          ∙ rw (
            bytes_there 5 k.comment refl,
            bytes_there 7 k.public.modulus refl,
            bytes_there 9 k.public.exponent refl,
            bytes_there 11 k.private.d refl,
            bytes_there 13 k.private.iqmp refl,
            bytes_there 15 k.private.p refl,
            bytes_there 17 k.private.q refl,
          )
          (sym (in_rsa s k w))

-- ---- a table of rows

row_length : (s : List ℕ) (k : KeyFields) → length (row_of s k) ≡ 19
unfolding row_of
row_length s k = refl

pub table-length : (s : List ℕ) (keys : List KeyFields) → length (table_of s keys) ≡ length keys * 19
unfolding table_of
table-length s [] = refl
table-length s (k ∷ keys) =
    length-append (row_of s k) (join (map (row_of s) keys)) ∙ omega (arith, row_length s k, table-length s keys)

module _ (s : List ℕ) where
  -- past a row the others stand as after what is before it
  after_row :
      {A : Type 0} (told : List ℕ → ℕ → A) (before : List ℕ) (k : KeyFields) (keys : List KeyFields)
      → told (before ++ table_of s (k ∷ keys)) (length before + 19) ≡ told ((before ++ row_of s k) ++ table_of s keys) (length (before ++ row_of s k))
  unfolding table_of
  after_row told before k keys =
      ap₂ told (sym (append_assoc before (row_of s k) (join (map (row_of s) keys))))
      (sym (length-append before (row_of s k) ∙ ap (λ (n : ℕ). length before + n) (row_length s k)))

  keys_there :
      (before : List ℕ) (keys : List KeyFields)
      → map (key_at s (before ++ table_of s keys)) (rows_from (length before) (length keys)) ≡ map (key_in s) keys
  unfolding rows_from table_of
  keys_there before [] = refl
  keys_there before (k ∷ keys) =
      ap₂ (λ (x : Key) (l : List Key). x ∷ l) (row_key s before (table_of s keys) k)
      (after_row (λ t j. map (key_at s t) (rows_from j (length keys))) before k keys ∙ keys_there (before ++ row_of s k) keys)

  -- what holds of each row holds of all
  every_there :
      (holds : List ℕ → ℕ → Bool) → ((before more : List ℕ) (k : KeyFields) → holds (before ++ (row_of s k ++ more)) (length before) ≡ true)
      → (before : List ℕ) (keys : List KeyFields) → every (holds (before ++ table_of s keys)) (rows_from (length before) (length keys)) ≡ true
  unfolding rows_from every table_of
  every_there holds each before [] = refl
  every_there holds each before (k ∷ keys) =
      ap₂ (λ (x y : Bool). x && y) (each before (table_of s keys) k)
      (after_row (λ t j. every (holds t) (rows_from j (length keys))) before k keys ∙ every_there holds each (before ++ row_of s k) keys)

  module _ (keys : List KeyFields) where
    rows_count : length (table_of s keys) / 19 ≡ length keys
    rows_count = omega (arith, table-length s keys)

    -- the table names the keys
    table_named : keys_named s (table_of s keys) ≡ map (key_in s) keys
    unfolding keys_named
    table_named = rw rows_count (keys_there [] keys)

    -- and passes its check
    table_passes : 1 ≤ length keys → length keys ≤ 16 → (next : Written) → table_checked s (table_of s keys) next ≡ next
    unfolding table_checked table_fits
    table_passes some few next =
        let whole : length (table_of s keys) % 19 ≡ 0 = omega (arith, table-length s keys) in
        rw (
          rows_count,
          eq-eqb _ _ whole,
          le-leb _ _ some,
          le-leb _ _ few,
          every_there (row_is_within s) (row_within s) [] keys,
          every_there code_known (row_known s) [] keys,
        )

    -- so the writer of a table answers what a write of these keys does
    pub table_reply :
        1 ≤ length keys → length keys ≤ 16 → (n room : ℕ)
        → named_reply true s (table_of s keys) n room ≡ keys_reply (map filled_key (map (key_in s) keys)) n room
    unfolding named_reply
    table_reply some few n room =
        table_passes some few (keys_reply (map filled_key (keys_named s (table_of s keys))) n room)
        ∙ ap (λ (l : List Key). keys_reply (map filled_key l) n room) table_named

    pub table_left :
        1 ≤ length keys → length keys ≤ 16 → (n : ℕ) (old : List ℕ)
        → named_left true s (table_of s keys) n old ≡ keys_left (map filled_key (map (key_in s) keys)) n old
    unfolding named_left keys_left
    table_left some few n old = rw (table_reply some few n (length old), table_named)
