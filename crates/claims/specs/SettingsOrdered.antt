-- docs/RULES.md, 18.2, 18.3 and 18.5 to 18.7: the conditions of what reads, writes and moves settings, as lists in the rules' order, each with its
-- number. The reply is the first that holds, for every input; where none does it is 0, and the length.
use Rattle.std.specs.Prelude.{ℕ, ◌≡◌, refl, Bool, cond, not, ◌&&◌, ◌||◌, List, [], ◌∷◌, eqb, leb, ltb, length, Ok}
use Rattle.fields.specs.Place.{by_bool}
use Rattle.fields.specs.declared.Refusal.TheVariants.{Length, AlgorithmUnknown, Size}
use Rattle.writer_reply.specs.Reply.{told, refused, unless}
use Rattle.setting_record.specs.Bits.{version_in, kind_in, is_version, is_kind, is_known, answer_of, told_setting}
use Rattle.setting_record.specs.Packing.{writable, pack_of, on_packed}
use Rattle.setting_record.specs.Record.{record_at, read_reply, packed_reply, write_reply}
use Rattle.setting_store.specs.Store.{place_answer, get_reply, put_reply}
use Rattle.setting_store.specs.Move.{known, fitting, all_places, move_reply}
use Rattle.claims.specs.Ordered.{Condition, says, first, then_first, not_both, above, done_first}

-- ---- the lists

-- another version 4; another kind 4
abbrev pub record_conditions : ℕ → ℕ → List Condition → List Condition
record_conditions version kind more = says (not (is_version version)) 4 ∷ says (ltb 4 kind) 4 ∷ more

-- what can't be written 11
abbrev pub pack_conditions : ℕ → ℕ → ℕ → List Condition
pack_conditions version kind ms = record_conditions version kind (says (not (writable version ms)) 11 ∷ [])

-- a length other than 4 is 1
abbrev pub read_setting_conditions : List ℕ → List Condition
read_setting_conditions s = says (not (eqb (length s) 4)) 1 ∷ record_conditions (version_in (record_at s 0)) (kind_in (record_at s 0)) []

abbrev pub write_setting_conditions : ℕ → ℕ → ℕ → List ℕ → List Condition
write_setting_conditions version kind ms old = says (not (eqb (length old) 4)) 1 ∷ pack_conditions version kind ms

-- a device above 31, or a store of another length, is 1
abbrev pub has_no_place : List ℕ → ℕ → Bool
has_no_place s device = ltb 31 device || not (eqb (length s) 128)

abbrev pub store_get_conditions : List ℕ → ℕ → List Condition
store_get_conditions s device =
    says (has_no_place s device) 1
    ∷ cond (eqb (record_at s device) 0) [] (record_conditions (version_in (record_at s device)) (kind_in (record_at s device)) [])

abbrev pub store_put_conditions : List ℕ → ℕ → ℕ → ℕ → ℕ → List Condition
store_put_conditions s device version kind ms = says (has_no_place s device) 1 ∷ pack_conditions version kind ms

-- the length 1; then a used place of another version or kind 4, over all; then one that doesn't fit 11, over all
abbrev pub store_move_conditions : List ℕ → List Condition
store_move_conditions s =
    says (not (eqb (length s) 128)) 1 ∷ says (not (all_places known 32 s)) 4 ∷ says (not (all_places fitting 32 s)) 11 ∷ []

-- ---- the claims

pack_first : (v k ms size : ℕ) → told (on_packed (pack_of v k ms) refused (λ n. Ok size)) ≡ first (pack_conditions v k ms) size
unfolding pack_of told first
pack_first v k ms size =
    rw (above 4 k)
    (by_bool (is_version v)
    (λ a. by_bool (is_kind k)
    (λ b. by_bool (writable v ms) (λ c. rw (a, b, c)) (λ c. rw (a, b, c)))
    (λ b. rw (a, b)))
    (λ a. rw a))

pub write_setting_first : (v k ms : ℕ) (old : List ℕ) → told (write_reply v k ms old) ≡ first (write_setting_conditions v k ms old) 4
unfolding packed_reply
write_setting_first v k ms old =
    let l = eqb (length old) 4 in
    then_first (not l) l refl Length refl _ (pack_conditions v k ms) 4 (pack_first v k ms 4)

no_place : (s : List ℕ) (d : ℕ) → has_no_place s d ≡ not (leb d 31 && eqb (length s) 128)
no_place s d = rw (above 31 d) (not_both (leb d 31) (eqb (length s) 128))

pub store_put_first : (s : List ℕ) (d v k ms : ℕ) → told (put_reply s d v k ms) ≡ first (store_put_conditions s d v k ms) 128
unfolding packed_reply
store_put_first s d v k ms =
    then_first (has_no_place s d) (leb d 31 && eqb (length s) 128) (no_place s d) Length refl _ (pack_conditions v k ms) 128 (pack_first v k ms 128)

pub store_move_first : (s : List ℕ) → told (move_reply s) ≡ first (store_move_conditions s) 128
unfolding move_reply
store_move_first s =
    let l = eqb (length s) 128 in
    let a = all_places known 32 s in
    let b = all_places fitting 32 s in
    let last = says (not b) 11 ∷ [] in
    let done = Ok 128 in
    then_first (not l) l refl Length refl (unless a AlgorithmUnknown (unless b Size done)) (says (not a) 4 ∷ last) 128
    (then_first (not a) a refl AlgorithmUnknown refl (unless b Size done) last 128
    (then_first (not b) b refl Size refl done [] 128 (done_first 128)))

-- what a record says, by its number alone
says_first : (n : ℕ) → (told_setting (answer_of n)).number ≡ (first (record_conditions (version_in n) (kind_in n) []) 0).number
unfolding answer_of is_known told_setting first
says_first n =
    rw (above 4 (kind_in n))
    (by_bool (is_version (version_in n))
    (λ a. by_bool (is_kind (kind_in n)) (λ b. rw (a, b)) (λ b. rw (a, b)))
    (λ a. rw a))

pub read_setting_first : (s : List ℕ) → (told_setting (read_reply s)).number ≡ (first (read_setting_conditions s) 0).number
unfolding read_reply told_setting first
read_setting_first s = by_bool (eqb (length s) 4) (λ l. rw l (says_first (record_at s 0))) (λ l. rw l)

pub store_get_first : (s : List ℕ) (d : ℕ) → (told_setting (get_reply s d)).number ≡ (first (store_get_conditions s d) 0).number
unfolding get_reply place_answer told_setting first
store_get_first s d =
    rw (no_place s d)
    (by_bool (leb d 31 && eqb (length s) 128)
    (λ l. rw l (by_bool (eqb (record_at s d) 0) (λ z. rw z) (λ z. rw z (says_first (record_at s d)))))
    (λ l. rw l))
