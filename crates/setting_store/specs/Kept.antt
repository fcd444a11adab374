-- What a move keeps: a place that passes both tests says what it said, in version 2, and a second move leaves it. Rests on the laws of what is
-- packed.
use Rattle.std.specs.Prelude.{ℕ, zero, suc, ◌/◌, ◌<◌, ◌^◌, ◌≡◌, Bool, true, List, ◌++◌, ltb}
use Rattle.std.proofs.Common.{arith, sym, ◌∙◌, append_assoc, eq-eqb, ne_eqb, ltb-true, ltb-false}
use Rattle.std.proofs.Math.Path.{refl, ap}
use Rattle.fields.specs.Bytes.{uint32, both_true}
use Rattle.fields.specs.Place.{by_bool}
use Rattle.setting_record.specs.Bits.{version_in, kind_in, is_version, is_kind, unit, is_known, milliseconds_in, answer_of}
use Rattle.setting_record.specs.Packing.{bits, writable, pack_of}
use Rattle.setting_record.specs.Record.{record_at}
use Rattle.setting_record.specs.Laws.{version_two, PackedAs, pack_as, packed_kind, packed_used, packed_milliseconds}
use Rattle.setting_record.specs.Places.{record_of}
use Rattle.setting_store.specs.Store.{place_answer}
use Rattle.setting_store.specs.Move.{known, fitting, all_places, moved_record, moved_places}
use Rattle.setting_store.specs.Moved.{moved_length}

-- ---- one place

pub used_says : (n : ℕ) → (n ≡ 0 → ⊥) → place_answer n ≡ answer_of n
unfolding place_answer
used_says n u = rw (ne_eqb n 0 u)

-- m is what a place of n is moved to
pub record MovedTo (n m : ℕ) : Type 0 where
  pub says : place_answer m ≡ place_answer n
  pub unused : n ≡ 0 → m ≡ 0
  pub version : (n ≡ 0 → ⊥) → version_in m ≡ 2
  pub small : m < 2 ^ 32
  pub still_known : known m ≡ true
  pub still_fitting : fitting m ≡ true
  pub again : moved_record m ≡ m

pub unused_moved : (n : ℕ) → n ≡ 0 → MovedTo n (moved_record n)
unfolding moved_record
unused_moved n e =
    let z : n ≡ 0 = e in
    rw (eq-eqb n 0 e)
    (record {
      says = ap place_answer (sym z);
      unused = λ u. refl;
      version = λ u. absurd (u z);
      small = omega arith;
      still_known = refl;
      still_fitting = refl;
      again = refl;
    })

module _ (n : ℕ) (used : n ≡ 0 → ⊥) (k : is_known n ≡ true) (f : writable 2 (milliseconds_in n) ≡ true) where
  pub m : ℕ
  m = bits 2 (kind_in n) (milliseconds_in n / unit 2)

  kind_is : is_kind (kind_in n) ≡ true
  unfolding is_known
  kind_is = (both_true (is_version (version_in n)) (is_kind (kind_in n)) k).1

  pub packed_from : PackedAs 2 (kind_in n) (milliseconds_in n) m
  unfolding m
  packed_from = record { version = version_two.1; kind = kind_is; delay = f; is = refl }

  pub moved_is : moved_record n ≡ m
  unfolding moved_record m
  moved_is = rw (ne_eqb n 0 used, pack_as 2 (kind_in n) (milliseconds_in n) version_two.1 kind_is f)

  pub m_used : m ≡ 0 → ⊥
  m_used e = let h = packed_used 2 _ _ m packed_from in absurd (omega arith)

  -- the record that it is moved to is moved to itself
  pub m_again : moved_record m ≡ m
  unfolding moved_record m
  m_again =
      let same : pack_of 2 (kind_in m) (milliseconds_in m) ≡ pack_of 2 (kind_in n) (milliseconds_in n) =
      ap (λ (x : ℕ). pack_of 2 x (milliseconds_in m)) (packed_kind 2 _ _ m packed_from) ∙ ap (pack_of 2 (kind_in n)) (packed_milliseconds 2 _ _ m packed_from) in
      rw (ne_eqb m 0 m_used, same, pack_as 2 (kind_in n) (milliseconds_in n) version_two.1 kind_is f)

-- ---- all places

pub every_place : (test : ℕ → Bool) (n : ℕ) (s : List ℕ) → all_places test n s ≡ true → (d : ℕ) → d < n → test (record_at s d) ≡ true
unfolding all_places
every_place test zero s e d h = absurd (omega arith)
every_place test (suc n) s e d h =
    let b = both_true (all_places test n s) (test (record_at s n)) e in
    by_bool (ltb d n)
    (λ l. every_place test n s b.0 d (ltb-true d n l))
    (λ l. let q : d ≡ n = omega (arith, ltb-false d n l) in rw q b.1)

pub all_places_lem : (test : ℕ → Bool) (n : ℕ) (s : List ℕ) → ((d : ℕ) → d < n → test (record_at s d) ≡ true) → all_places test n s ≡ true
unfolding all_places
all_places_lem test zero s h = refl
all_places_lem test (suc n) s h = rw (all_places_lem test n s (λ d l. h d (omega arith)), h n (omega arith))

-- each of the moved places holds its moved record
pub moved_place :
    (n : ℕ) (s t : List ℕ) → ((d : ℕ) → d < n → moved_record (record_at s d) < 2 ^ 32) → (d : ℕ) → d < n
    → record_at (moved_places n s ++ t) d ≡ moved_record (record_at s d)
unfolding moved_places
moved_place zero s t small d h = absurd (omega arith)
moved_place (suc n) s t small d h =
    let p = moved_places n s in
    let u = uint32 (moved_record (record_at s n)) in
    by_bool (ltb d n)
    (λ l. rw (append_assoc p u t) (moved_place n s (u ++ t) (λ e k. small e (omega arith)) d (ltb-true d n l)))
    (λ l. let q : d ≡ n = omega (arith, ltb-false d n l) in rw q (record_of p (moved_record (record_at s n)) t n (moved_length n s) (small n (omega arith))))

-- stores whose places move to the same are moved to the same
pub moved_same :
    (n : ℕ) (s t : List ℕ) → ((d : ℕ) → d < n → moved_record (record_at s d) ≡ moved_record (record_at t d)) → moved_places n s ≡ moved_places n t
unfolding moved_places
moved_same zero s t h = refl
moved_same (suc n) s t h = rw (moved_same n s t (λ d l. h d (omega arith)), h n (omega arith))
