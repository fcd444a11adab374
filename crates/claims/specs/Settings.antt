-- docs/RULES.md, 16.8, of a setting's record by itself, and of whatever meets the promise of its write (Refusals; of the function itself Entries). A
-- read's contract is `read_reply`. A delay is written exactly if it is a whole number of the version's unit that fits 24 bits; what is written is
-- read back as the same kind and milliseconds; two records of one version that say the same are the same bytes.
use Rattle.std.specs.Prelude.{ℕ, zero, suc, ◌*◌, ◌/◌, ◌≤◌, ◌<◌, ◌^◌, ◌≡◌, refl, Bool, true, false, List, eqb, length, Result, Ok, Err, Option, Some}
use Rattle.std.proofs.Common.{mul-one, arith, sym, ◌∙◌, ap, eq-eqb, eqb-true, le-leb, leb-true}
use Rattle.std.proofs.Math.Seq.{slice}
use Rattle.fields.specs.declared.Refusal.{Refusal}
use Rattle.fields.specs.Bytes.{AllBytes, uint32}
use Rattle.fields.specs.Place.{clash, by_bool}
use Rattle.fields.specs.Rest.{rest-whole, length-uint32}
use Rattle.fields.specs.declared.Refusal.TheVariants.{Length}
use Rattle.names.specs.Algorithms.{algorithm_code}
use Rattle.names.specs.declared.Algorithm.{Algorithm}
use Rattle.names.specs.declared.Algorithm.TheVariants.{Elliptic as OnCurve, Rsa}
use Rattle.names.specs.declared.Curve.TheVariants.{Nistp256, Nistp384, Nistp521}
use Rattle.names.specs.declared.Elliptic.TheVariants.{Ed25519, Ecdsa}
use Rattle.buffer.specs.Puts.{splice, splice-length}
use Rattle.writer_reply.specs.Reply.{refused, Written}
use Rattle.setting_record.specs.declared.Setting.{Setting}
use Rattle.setting_record.specs.Bits.{version_in, is_version, is_kind, unit, setting, answer_of}
use Rattle.setting_record.specs.Packing.{writable, pack_of, on_packed}
use Rattle.setting_record.specs.Record.{record_at, read_reply, packed_reply, packed_left, write_reply}
use Rattle.setting_record.specs.Laws.{version_one, version_two, writable_whole, writable_fits, whole_writable, PackedAs, packed_as, pack_as, packed_version, packed_fits, packed_says, same_record}
use Rattle.setting_record.specs.Places.{record_bytes, record_put}
use Rattle.c_reply.specs.Replies.{reply_of}
use Rattle.c_reply.specs.declared.Reply.{Reply}
use Rattle.claims.specs.Refusals.{write_setting, Promise, saltorchard_write_setting, PromiseC}

-- ---- kinds

-- the kinds are the algorithms, by their codes
pub algorithm_kind : (a : Algorithm) → is_kind (algorithm_code a) ≡ true
algorithm_kind (OnCurve Ed25519) = refl
algorithm_kind (OnCurve (Ecdsa Nistp256)) = refl
algorithm_kind (OnCurve (Ecdsa Nistp384)) = refl
algorithm_kind (OnCurve (Ecdsa Nistp521)) = refl
algorithm_kind Rsa = refl

pub record Coded (k : ℕ) : Type 0 where
  pub algorithm : Algorithm
  pub code : algorithm_code algorithm ≡ k

pub kind_coded : (k : ℕ) → is_kind k ≡ true → Coded k
kind_coded zero e = record { algorithm = OnCurve Ed25519; code = refl }
kind_coded (suc zero) e = record { algorithm = OnCurve (Ecdsa Nistp256); code = refl }
kind_coded (suc (suc zero)) e = record { algorithm = OnCurve (Ecdsa Nistp384); code = refl }
kind_coded (suc (suc (suc zero))) e = record { algorithm = OnCurve (Ecdsa Nistp521); code = refl }
kind_coded (suc (suc (suc (suc zero)))) e = record { algorithm = Rsa; code = refl }
kind_coded (suc (suc (suc (suc (suc k))))) e = let h = leb-true (suc (suc (suc (suc (suc k))))) 4 e in absurd (omega arith)

-- ---- what a write or a put accepts

-- a whole number of a unit, which fits 24 bits
pub record Whole (one ms : ℕ) : Type 0 where
  pub delay : ℕ
  pub is : ms ≡ delay * one
  pub fits : delay < 2 ^ 24

pub whole_is : (v ms : ℕ) → writable v ms ≡ true → Whole (unit v) ms
whole_is v ms e = record { delay = ms / unit v; is = sym (writable_whole v ms e); fits = writable_fits v ms e }

pub is_whole : (v ms : ℕ) → Whole (unit v) ms → writable v ms ≡ true
is_whole v ms w = ap (writable v) w.is ∙ whole_writable v w.delay w.fits

-- an accepted one: all fits, and n is the record that it puts at its place
pub record Put (ok : Bool) (v k ms at : ℕ) (old out : List ℕ) : Type 0 where
  pub fits : ok ≡ true
  pub number : ℕ
  pub packed : PackedAs v k ms number
  pub left : out ≡ splice old at (uint32 number)

pub accepted :
    (ok : Bool) (v k ms size at : ℕ) (old : List ℕ) (r : Written) (out : List ℕ) (n : ℕ)
    → (r ≡ packed_reply ok (pack_of v k ms) size) × (out ≡ packed_left ok (pack_of v k ms) at old) → r ≡ Ok n → Put ok v k ms at old out
unfolding packed_reply packed_left
accepted false v k ms size at old r out n p e = let q : refused Length ≡ Ok n = sym p.0 ∙ e in clash cc
accepted true v k ms size at old r out n p e = go (pack_of v k ms) refl p.0 p.1
  where
    go :
        (w : Result ℕ Refusal) → pack_of v k ms ≡ w → r ≡ on_packed w refused (λ m. Ok size) → out ≡ on_packed w (λ why. old) (λ m. splice old at (uint32 m))
        → Put true v k ms at old out
    go (Err why) f x y = let q : refused why ≡ Ok n = sym x ∙ e in clash cc
    go (Ok m) f x y = record { fits = refl; number = m; packed = packed_as v k ms m f; left = y }

pub accepts :
    (ok : Bool) (v k ms size : ℕ) → ok ≡ true → is_version v ≡ true → is_kind k ≡ true → writable v ms ≡ true
    → packed_reply ok (pack_of v k ms) size ≡ Ok size
unfolding packed_reply
accepts ok v k ms size e a b c = rw (e, pack_as v k ms a b c)

-- ---- a record by itself

module _ (v k ms : ℕ) (old : List ℕ) (r : Written) (out : List ℕ) (p : Promise (write_setting v k ms) old r out) where
  whole_written : is_version v ≡ true → length old ≡ 4 → k ≤ 4 → Whole (unit v) ms → r ≡ Ok 4
  whole_written a l h w = p.0 ∙ accepts (eqb (length old) 4) v k ms 4 (eq-eqb _ _ l) a (le-leb _ _ h) (is_whole v ms w)

  module _ (n : ℕ) (e : r ≡ Ok n) where
    wrote : Put (eqb (length old) 4) v k ms 0 old out
    wrote = accepted (eqb (length old) 4) v k ms 4 0 old r out n (p.0, p.1) e

    four_bytes : length old ≡ 4
    four_bytes = eqb-true _ _ wrote.fits

    as_long : length out ≡ 4
    as_long = ap length wrote.left ∙ splice-length old 0 _ (omega (arith, length-uint32 wrote.number, four_bytes)) ∙ four_bytes

    there : record_at out 0 ≡ wrote.number
    there = ap (λ (x : List ℕ). record_at x 0) wrote.left ∙ record_put old 0 wrote.number (omega (arith, four_bytes)) (packed_fits v k ms _ wrote.packed)

    written_whole : (length old ≡ 4) × (k ≤ 4) × Whole (unit v) ms
    written_whole = (four_bytes, leb-true k 4 wrote.packed.kind, whole_is v ms wrote.packed.delay)

    -- what was written is read back, as the version that it was written in
    pub written_read : (t : Result (Option Setting) Refusal) → t ≡ read_reply out → t ≡ Ok (Some (setting k ms))
    unfolding read_reply
    written_read t f = f ∙ rw (eq-eqb _ _ as_long, there) (packed_says v k ms _ wrote.packed)

    pub written_version : version_in (record_at out 0) ≡ v
    written_version = rw there (packed_version v k ms _ wrote.packed)

-- ---- exactly if

module _ (k ms : ℕ) (old : List ℕ) (r : Written) (out : List ℕ) where
  -- version 1: a whole number of seconds that fits 24 bits
  pub seconds_written : Promise (write_setting 1 k ms) old r out → length old ≡ 4 → k ≤ 4 → Whole 1000 ms → r ≡ Ok 4
  seconds_written p l h w = whole_written 1 k ms old r out p version_one.1 l h (rw version_one.0 w)

  pub written_seconds : Promise (write_setting 1 k ms) old r out → (n : ℕ) → r ≡ Ok n → (length old ≡ 4) × (k ≤ 4) × Whole 1000 ms
  written_seconds p n e = rw version_one.0 at (written_whole 1 k ms old r out p n e)

  -- version 2: what fits 24 bits
  pub milliseconds_written : Promise (write_setting 2 k ms) old r out → length old ≡ 4 → k ≤ 4 → ms < 2 ^ 24 → r ≡ Ok 4
  milliseconds_written p l h w =
      whole_written 2 k ms old r out p version_two.1 l h (rw version_two.0 (record { delay = ms; is = sym (mul-one ms); fits = w }))

  pub written_milliseconds : Promise (write_setting 2 k ms) old r out → (n : ℕ) → r ≡ Ok n → (length old ≡ 4) × (k ≤ 4) × (ms < 2 ^ 24)
  written_milliseconds p n e =
      let w = written_whole 2 k ms old r out p n e in
      let one = rw version_two.0 at w.2 in
      (w.0, w.1, omega (arith, one.is, one.fits))

-- ---- the same bytes

read_record : (s : List ℕ) (x : Setting) → read_reply s ≡ Ok (Some x) → (length s ≡ 4) × (answer_of (record_at s 0) ≡ Ok (Some x))
unfolding read_reply
read_record s x e =
    by_bool (eqb (length s) 4)
    (λ l. (eqb-true _ _ l, rw l at e))
    (λ l. let q : Err Length ≡ Ok (Some x) = rw l at e in clash cc)

record_is : (s : List ℕ) → AllBytes s → length s ≡ 4 → s ≡ uint32 (record_at s 0)
record_is s all l = sym (rest-whole s) ∙ ap (λ (e : ℕ). slice 0 e s) l ∙ record_bytes s all 0 (omega arith)

-- two records of one version that are read as the same are the same bytes
pub same_bytes :
    (s t : List ℕ) (x : Setting) → AllBytes s → AllBytes t → version_in (record_at s 0) ≡ version_in (record_at t 0)
    → read_reply s ≡ Ok (Some x) → read_reply t ≡ Ok (Some x) → s ≡ t
same_bytes s t x all-s all-t v e f =
    let a = read_record s x e in
    let b = read_record t x f in
    record_is s all-s a.0 ∙ ap uint32 (same_record (record_at s 0) (record_at t 0) x a.1 b.1 v) ∙ sym (record_is t all-t b.0)

-- ---- for C

-- in numbers, the answer that the write gives; so all of the above holds of what it leaves
pub write_setting_c :
    (v k ms : ℕ) (old : List ℕ) (r : Reply) (out : List ℕ) → PromiseC (saltorchard_write_setting v k ms) old r out
    → (w : Written) × (r ≡ reply_of w) × Promise (write_setting v k ms) old w out
write_setting_c v k ms old r out p = (write_reply v k ms old, p.0, (refl, p.1, refl))
