-- docs/RULES.md, 16.8, of the store of settings, and of whatever meets the promise of a put or of a move (Refusals; of the functions themselves
-- Entries). A get's contract is `get_reply`. A device that was put has what was put, and every other what it had. A move changes no answer for any
-- device and leaves every used place in version 2, or changes nothing; a second move changes nothing more. Unused is a place whose number is 0,
-- which is four zero bytes (`unused_zeros`, `zeros_unused`, setting_record/Places).
use Rattle.std.specs.Prelude.{ℕ, ◌+◌, ◌*◌, ◌≤◌, ◌<◌, ◌≡◌, refl, true, false, List, [], eqb, leb, ltb, length, get_or, Result, Ok, Err, Option, Some}
use Rattle.std.proofs.Common.{arith, sym, ◌∙◌, ap, append-nil, eq-eqb, eqb-true, le-leb, leb-true, ltb-true, ltb-false}
use Rattle.fields.specs.declared.Refusal.{Refusal}
use Rattle.fields.specs.Bytes.{both_true}
use Rattle.fields.specs.Place.{clash, by_bool}
use Rattle.fields.specs.Refusals.{never_zero}
use Rattle.fields.specs.Rest.{length-uint32}
use Rattle.fields.specs.declared.Fault.{Fault}
use Rattle.fields.specs.declared.Refusal.TheVariants.{Length, AlgorithmUnknown, Size}
use Rattle.buffer.specs.Puts.{splice-length}
use Rattle.writer_reply.specs.Reply.{told, Written}
use Rattle.setting_record.specs.Bits.{version_in, is_version, unit, setting, told_setting}
use Rattle.setting_record.specs.Record.{record_at}
use Rattle.setting_record.specs.Laws.{packed_fits, packed_used, packed_says}
use Rattle.setting_record.specs.Places.{record_put, record_other, byte_before, byte_after}
use Rattle.setting_store.specs.Store.{has_place, place_answer, get_reply, put_reply}
use Rattle.setting_store.specs.Move.{known, fitting, all_places, moved_record, moved_places, move_reply, move_left}
use Rattle.setting_store.specs.Moved.{moved_length}
use Rattle.setting_store.specs.Kept.{used_says, MovedTo, every_place, all_places_lem, moved_place, moved_same}
use Rattle.setting_store.proofs.Kept.{place_moved}
use Rattle.c_reply.specs.Replies.{reply_of}
use Rattle.c_reply.specs.declared.Reply.{Reply}
use Rattle.c_settings.specs.Settings.{setting_of}
use Rattle.claims.specs.Reading.{held}
use Rattle.claims.specs.Refusals.{store_put, store_move, Promise, refused_keeps, saltorchard_store_put, saltorchard_store_move, PromiseC}
use Rattle.claims.specs.Settings.{Put, Whole, accepted, accepts, is_whole}
use Rattle.setting_record.specs.declared.Setting.{Setting}

-- by what was answered, with the equation in hand
by_written : {P : Type 0} (w : Written) → ((g : Fault) → w ≡ Err g → P) → ((n : ℕ) → w ≡ Ok n → P) → P
by_written (Err g) refused done = refused g refl
by_written (Ok n) refused done = done n refl

-- ---- what get answers of two stores of the right length

get_at : (s : List ℕ) (d : ℕ) → length s ≡ 128 → d ≤ 31 → get_reply s d ≡ place_answer (record_at s d)
unfolding get_reply
get_at s d l h = rw (le-leb _ _ h, eq-eqb _ _ l)

get_same :
    (s t : List ℕ) (d : ℕ) → length s ≡ 128 → length t ≡ 128 → (d ≤ 31 → place_answer (record_at s d) ≡ place_answer (record_at t d))
    → get_reply s d ≡ get_reply t d
unfolding get_reply
get_same s t d ls lt same =
    by_bool (leb d 31)
    (λ h. get_at s d ls (leb-true _ _ h) ∙ same (leb-true _ _ h) ∙ sym (get_at t d lt (leb-true _ _ h)))
    (λ h. rw h)

-- ---- a put

module _ (s : List ℕ) (d v k ms : ℕ) (r : Written) (out : List ℕ) (p : Promise (store_put d v k ms) s r out) where
  -- a device that there is, a version and a kind that there are, and a delay that is whole and fits are put
  pub put_accepts : length s ≡ 128 → d ≤ 31 → is_version v ≡ true → k ≤ 4 → Whole (unit v) ms → r ≡ Ok 128
  put_accepts l h a b w =
      let place : has_place s d ≡ true = rw (le-leb _ _ h, eq-eqb _ _ l) in
      p.0 ∙ accepts (has_place s d) v k ms 128 place a (le-leb _ _ b) (is_whole v ms w)

  module _ (n : ℕ) (e : r ≡ Ok n) where
    put : Put (has_place s d) v k ms (4 * d) s out
    put = accepted (has_place s d) v k ms 128 (4 * d) s r out n (p.0, p.1) e

    device : d ≤ 31
    device = leb-true _ _ (both_true (leb d 31) (eqb (length s) 128) put.fits).0

    whole : length s ≡ 128
    whole = eqb-true _ _ (both_true (leb d 31) (eqb (length s) 128) put.fits).1

    inside : 4 * d + 4 ≤ length s
    inside = omega (arith, device, whole)

    as_long : length out ≡ 128
    as_long = ap length put.left ∙ splice-length s (4 * d) _ (omega (arith, length-uint32 put.number, inside)) ∙ whole

    there : record_at out d ≡ put.number
    there = ap (λ (x : List ℕ). record_at x d) put.left ∙ record_put s d put.number inside (packed_fits v k ms _ put.packed)

    -- the device has what was put
    pub got_put : (t : Result (Option Setting) Refusal) → t ≡ get_reply out d → t ≡ Ok (Some (setting k ms))
    got_put t f =
        let used : put.number ≡ 0 → ⊥ = λ z. absurd (omega (arith, z, packed_used v k ms _ put.packed)) in
        f ∙ get_at out d as_long device ∙ ap place_answer there ∙ used_says put.number used ∙ packed_says v k ms _ put.packed

    -- every byte outside of its place is what it was
    pub put_bytes : (i : ℕ) → ((4 * d ≤ i) × (i < 4 * d + 4) → ⊥) → get_or out i 0 ≡ get_or s i 0
    put_bytes i outside =
        ap (λ (x : List ℕ). get_or x i 0) put.left
        ∙ by_bool (ltb i (4 * d))
        (λ b. byte_before s d put.number inside i (ltb-true _ _ b))
        (λ b.
        let lo = ltb-false _ _ b in
        by_bool (ltb i (4 * d + 4))
        (λ c. absurd (outside (lo, ltb-true _ _ c)))
        (λ c. byte_after s d put.number inside i (ltb-false _ _ c)))

    elsewhere : (e : ℕ) → (e ≡ d → ⊥) → get_reply out e ≡ get_reply s e
    elsewhere e apart =
        get_same out s e as_long whole
        (λ h. ap place_answer (ap (λ (x : List ℕ). record_at x e) put.left ∙ record_other s d put.number inside e apart (omega (arith, whole))))

  -- every other device has what it had, whether the put is accepted or not
  pub got_other : (e : ℕ) → (e ≡ d → ⊥) → (t u : Result (Option Setting) Refusal) → t ≡ get_reply s e → u ≡ get_reply out e → u ≡ t
  got_other e apart t u before after =
      by_written r
      (λ g w. after ∙ ap (λ (x : List ℕ). get_reply x e) (refused_keeps (store_put d v k ms) s r out g p w) ∙ sym before)
      (λ n w. after ∙ elsewhere n w e apart ∙ sym before)

-- ---- a move

-- an accepted one: the store has its length, and every place passes both tests
passed :
    (s : List ℕ) (n : ℕ) → move_reply s ≡ Ok n
    → (length s ≡ 128) × (all_places known 32 s ≡ true) × (all_places fitting 32 s ≡ true)
unfolding move_reply
passed s n e =
    let a = held (eqb (length s) 128) Length _ n e in
    let b = held (all_places known 32 s) AlgorithmUnknown _ n a.1 in
    let c = held (all_places fitting 32 s) Size _ n b.1 in
    (eqb-true _ _ a.0, b.0, c.0)

passes_all :
    (s : List ℕ) → length s ≡ 128 → all_places known 32 s ≡ true → all_places fitting 32 s ≡ true
    → (move_reply s ≡ Ok 128) × (move_left s ≡ moved_places 32 s)
unfolding move_reply move_left
passes_all s l k f = rw (eq-eqb _ _ l, k, f) (refl, refl)

module _ (s : List ℕ) (r : Written) (out : List ℕ) (p : Promise store_move s r out) where
  module _ (n : ℕ) (e : r ≡ Ok n) where
    q : (length s ≡ 128) × (all_places known 32 s ≡ true) × (all_places fitting 32 s ≡ true)
    q = passed s n (sym p.0 ∙ e)

    left : out ≡ moved_places 32 s
    left = p.1 ∙ (passes_all s q.0 q.1 q.2).1

    as_long_moved : length out ≡ 128
    as_long_moved = ap length left ∙ moved_length 32 s

    one : (d : ℕ) → d < 32 → MovedTo (record_at s d) (moved_record (record_at s d))
    one d h = place_moved (record_at s d) (every_place known 32 s q.1 d h) (every_place fitting 32 s q.2 d h)

    holds : (d : ℕ) → d < 32 → record_at out d ≡ moved_record (record_at s d)
    holds d h =
        ap (λ (x : List ℕ). record_at x d) (left ∙ sym (append-nil (moved_places 32 s)))
        ∙ moved_place 32 s [] (λ c k. (one c k).small) d h

    to : (d : ℕ) → d < 32 → MovedTo (record_at s d) (record_at out d)
    to d h = rw (holds d h) (one d h)

    -- every used place is in version 2, and every unused one is still unused
    pub moved_version : (d : ℕ) → d ≤ 31 → (record_at s d ≡ 0 → ⊥) → version_in (record_at out d) ≡ 2
    moved_version d h used = (to d (omega arith)).version used

    pub moved_unused : (d : ℕ) → d ≤ 31 → record_at s d ≡ 0 → record_at out d ≡ 0
    moved_unused d h z = (to d (omega arith)).unused z

    -- a second move is accepted, and changes nothing more
    pub moved_twice : (r₂ : Written) (out₂ : List ℕ) → Promise store_move out r₂ out₂ → (r₂ ≡ Ok 128) × (out₂ ≡ out)
    moved_twice r₂ out₂ p₂ =
        let again = passes_all out as_long_moved
        (all_places_lem known 32 out (λ d h. (to d h).still_known))
        (all_places_lem fitting 32 out (λ d h. (to d h).still_fitting)) in
        let same = moved_same 32 out s (λ d h. (to d h).again ∙ holds d h) in
        (p₂.0 ∙ again.0, p₂.1 ∙ again.1 ∙ same ∙ sym left)

  -- no answer changes, for any device number, whether the move is accepted or not
  pub moved_answers : (d : ℕ) (t u : Result (Option Setting) Refusal) → t ≡ get_reply s d → u ≡ get_reply out d → u ≡ t
  moved_answers d t u before after =
      by_written r
      (λ g w. after ∙ ap (λ (x : List ℕ). get_reply x d) (refused_keeps store_move s r out g p w) ∙ sym before)
      (λ n w. after ∙ get_same out s d (as_long_moved n w) (q n w).0 (λ h. (to n w d (omega arith)).says) ∙ sym before)

-- ---- for C

-- in numbers, the answer that a put or a move gives; so all of the above holds of what it leaves
pub store_put_c :
    (s : List ℕ) (d v k ms : ℕ) (r : Reply) (out : List ℕ) → PromiseC (saltorchard_store_put d v k ms) s r out
    → (w : Written) × (r ≡ reply_of w) × Promise (store_put d v k ms) s w out
store_put_c s d v k ms r out p = (put_reply s d v k ms, p.0, (refl, p.1, refl))

pub store_move_c :
    (s : List ℕ) (r : Reply) (out : List ℕ) → PromiseC saltorchard_store_move s r out → (w : Written) × (r ≡ reply_of w) × Promise store_move s w out
store_move_c s r out p = (move_reply s, p.0, (refl, p.1, refl))

-- so the numbers of every device stay in a move
pub moved_answers_c :
    (s : List ℕ) (r : Reply) (out : List ℕ) → PromiseC saltorchard_store_move s r out → (d : ℕ)
    → setting_of (get_reply out d) ≡ setting_of (get_reply s d)
moved_answers_c s r out p d = let c = store_move_c s r out p in ap setting_of (moved_answers s c.0 out c.2 d _ _ refl refl)

-- and those of a device that was put are what was put
accepted_c : (w : Written) → (reply_of w).number ≡ 0 → (n : ℕ) × (w ≡ Ok n)
unfolding reply_of told
accepted_c (Err g) e = let q : true ≡ false = sym (eq-eqb _ _ e) ∙ never_zero g.why in clash cc
accepted_c (Ok n) e = (n, refl)

pub got_put_c :
    (s : List ℕ) (d v k ms : ℕ) (r : Reply) (out : List ℕ) → PromiseC (saltorchard_store_put d v k ms) s r out → r.number ≡ 0
    → setting_of (get_reply out d) ≡ record { number = 0; used = 1; kind = k; milliseconds = ms }
unfolding setting_of told_setting
got_put_c s d v k ms r out p e =
    let c = store_put_c s d v k ms r out p in
    let n = accepted_c c.0 (ap (λ (x : Reply). x.number) (sym c.1) ∙ e) in
    rw (got_put s d v k ms c.0 out c.2 n.0 n.1 _ refl)
