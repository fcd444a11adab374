-- What a move keeps of a place that passes both tests: what it said, in version 2, and a second move leaves it. Rests on `used_says`.
use Rattle.std.specs.Prelude.{ℕ, ◌≡◌, true, eqb}
use Rattle.std.proofs.Common.{sym, ◌∙◌, ne_eqb, eqb-true}
use Rattle.std.proofs.Math.Path.{ap}
use Rattle.std.proofs.lemmas.Bool.{eqb-false}
use Rattle.fields.specs.Place.{by_bool}
use Rattle.setting_record.specs.Bits.{is_known, milliseconds_in}
use Rattle.setting_record.specs.Packing.{writable}
use Rattle.setting_record.specs.Laws.{known-says, packed_version, packed_fits, packed_known, packed_milliseconds, packed_says}
use Rattle.setting_store.specs.Move.{known, fitting, moved_record}
use Rattle.setting_store.specs.Kept.{used_says, MovedTo, unused_moved, m, packed_from, moved_is, m_used, m_again}

module _ (n : ℕ) (used : n ≡ 0 → ⊥) (k : is_known n ≡ true) (f : writable 2 (milliseconds_in n) ≡ true) where
  used_moved : MovedTo n (m n used k f)
  used_moved =
      record {
        says = used_says (m n used k f) (m_used n used k f) ∙ packed_says 2 _ _ (m n used k f) (packed_from n used k f) ∙ sym (known-says n k) ∙ sym (used_says n used);
        unused = λ e. absurd (used e);
        version = λ u. packed_version 2 _ _ (m n used k f) (packed_from n used k f);
        small = packed_fits 2 _ _ (m n used k f) (packed_from n used k f);
        still_known = rw (ne_eqb (m n used k f) 0 (m_used n used k f)) (packed_known 2 _ _ (m n used k f) (packed_from n used k f));
        still_fitting = rw (ne_eqb (m n used k f) 0 (m_used n used k f)) (ap (writable 2) (packed_milliseconds 2 _ _ (m n used k f) (packed_from n used k f)) ∙ f);
        again = m_again n used k f;
      }

pub place_moved : (n : ℕ) → known n ≡ true → fitting n ≡ true → MovedTo n (moved_record n)
place_moved n k f =
    by_bool (eqb n 0)
    (λ e. unused_moved n (eqb-true n 0 e))
    (λ e.
    let used = eqb-false n 0 e in
    let k' : is_known n ≡ true = rw e at k in
    let f' : writable 2 (milliseconds_in n) ≡ true = rw e at f in
    rw (moved_is n used k' f') (used_moved n used k' f'))
