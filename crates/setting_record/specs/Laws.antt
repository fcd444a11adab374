-- A record's bits, taken apart and put together: what is packed says what it was packed from, and a record is fixed by its version and what
-- it says. Rests on arithmetic alone.
use Rattle.std.specs.Prelude.{ℕ, ◌*◌, ◌/◌, ◌%◌, ◌<◌, ◌^◌, ◌≡◌, refl, true, eqb, ltb, Ok, Some}
use Rattle.std.proofs.Common.{div-add-mod', arith, sym, ◌∙◌, ap, eqb-true, leb-true, lt-ltb, ltb-true}
use Rattle.std.proofs.Math.Nat.{mul-mod_left, mul-div_left}
use Rattle.fields.specs.Bytes.{both_true}
use Rattle.fields.specs.Place.{by_bool, clash}
use Rattle.setting_record.specs.declared.Setting.{Setting}
use Rattle.setting_record.specs.Bits.{version_in, kind_in, delay_in, is_version, is_kind, unit, is_known, milliseconds_in, setting, answer_of}
use Rattle.setting_record.specs.Packing.{bits, writable, pack_of}

-- ---- the bits

module _ (v k d : ℕ) (hv : v < 16) (hk : k < 16) (hd : d < 16777216) where
  pub bits_version : version_in (bits v k d) ≡ v
  bits_version = omega arith

  pub bits_kind : kind_in (bits v k d) ≡ k
  bits_kind = omega arith

  pub bits_delay : delay_in (bits v k d) ≡ d
  bits_delay = omega arith

  pub bits_fit : bits v k d < 2 ^ 32
  bits_fit = omega arith

pub bits_of : (n : ℕ) → bits (version_in n) (kind_in n) (delay_in n) ≡ n
bits_of n = omega arith

-- ---- versions

pub by_version : {P : Type 0} (v : ℕ) → is_version v ≡ true → (v ≡ 1 → P) → (v ≡ 2 → P) → P
unfolding is_version
by_version v e one two =
    by_bool (eqb v 1)
    (λ a. one (eqb-true v 1 a))
    (λ a. two (eqb-true v 2 (rw a at e)))

pub version_one : (unit 1 ≡ 1000) × (is_version 1 ≡ true)
unfolding unit is_version
version_one = (refl, refl)

pub version_two : (unit 2 ≡ 1) × (is_version 2 ≡ true)
unfolding unit is_version
version_two = (refl, refl)

pub by_unit : {P : Type 0} (v : ℕ) → (unit v ≡ 1000 → P) → (unit v ≡ 1 → P) → P
unfolding unit
by_unit v seconds milliseconds = by_bool (eqb v 1) (λ a. seconds (rw a)) (λ a. milliseconds (rw a))

pub unit_positive : (v : ℕ) → 0 < unit v
unit_positive v = by_unit v (λ e. omega arith) (λ e. omega arith)

-- ---- delays

module _ (v ms : ℕ) (e : writable v ms ≡ true) where
  both : (eqb (ms % unit v) 0 ≡ true) × (ltb (ms / unit v) 16777216 ≡ true)
  unfolding writable
  both = both_true _ _ e

  pub writable_whole : ms / unit v * unit v ≡ ms
  writable_whole = let z : ms % unit v ≡ 0 = eqb-true _ _ both.0 in omega (arith, div-add-mod' ms (unit v))

  pub writable_fits : ms / unit v < 16777216
  writable_fits = ltb-true _ _ both.1

pub whole_writable : (v d : ℕ) → d < 16777216 → writable v (d * unit v) ≡ true
unfolding writable
whole_writable v d h = simp (mul-mod_left d (unit v), mul-div_left d (unit_positive v), lt-ltb _ _ h)

-- ---- what is packed

-- n is the record of a version, a kind and milliseconds
pub record PackedAs (v k ms n : ℕ) : Type 0 where
  pub version : is_version v ≡ true
  pub kind : is_kind k ≡ true
  pub delay : writable v ms ≡ true
  pub is : n ≡ bits v k (ms / unit v)

pub packed_as : (v k ms n : ℕ) → pack_of v k ms ≡ Ok n → PackedAs v k ms n
unfolding pack_of
packed_as v k ms n e =
    by_bool (is_version v)
    (λ a. by_bool (is_kind k)
    (λ b. by_bool (writable v ms)
    (λ c. record { version = a; kind = b; delay = c; is = let q = rw (a, b, c) at e in cc })
    (λ c. let q = rw (a, b, c) at e in clash cc))
    (λ b. let q = rw (a, b) at e in clash cc))
    (λ a. let q = rw a at e in clash cc)

pub pack_as : (v k ms : ℕ) → is_version v ≡ true → is_kind k ≡ true → writable v ms ≡ true → pack_of v k ms ≡ Ok (bits v k (ms / unit v))
unfolding pack_of
pack_as v k ms a b c = rw (a, b, c)

-- what a record says that is known
pub known-says : (n : ℕ) → is_known n ≡ true → answer_of n ≡ Ok (Some (setting (kind_in n) (milliseconds_in n)))
unfolding answer_of
known-says n e = rw e

module _ (v k ms n : ℕ) (p : PackedAs v k ms n) where
  version_small : (0 < v) × (v < 16)
  version_small = by_version v p.version (λ e. omega arith) (λ e. omega arith)

  kind_small : k < 16
  kind_small = omega (arith, leb-true k 4 p.kind)

  pub packed_version : version_in n ≡ v
  packed_version = rw p.is (bits_version v k _ version_small.1 kind_small (writable_fits v ms p.delay))

  pub packed_kind : kind_in n ≡ k
  packed_kind = rw p.is (bits_kind v k _ version_small.1 kind_small (writable_fits v ms p.delay))

  pub packed_delay : delay_in n ≡ ms / unit v
  packed_delay = rw p.is (bits_delay v k _ version_small.1 kind_small (writable_fits v ms p.delay))

  pub packed_fits : n < 2 ^ 32
  packed_fits = rw p.is (bits_fit v k _ version_small.1 kind_small (writable_fits v ms p.delay))

  -- no record is four zero bytes
  pub packed_used : 0 < n
  packed_used = let h = version_small.0 in let e = p.is in omega arith

  pub packed_known : is_known n ≡ true
  unfolding is_known
  packed_known = simp (packed_version, packed_kind, p.version, p.kind)

  pub packed_milliseconds : milliseconds_in n ≡ ms
  unfolding milliseconds_in
  packed_milliseconds = rw (packed_version, packed_delay) (writable_whole v ms p.delay)

  -- what is packed says what it was packed from
  pub packed_says : answer_of n ≡ Ok (Some (setting k ms))
  packed_says =
      known-says n packed_known
      ∙ ap (λ (x : ℕ). Ok (Some (setting x (milliseconds_in n)))) packed_kind
      ∙ ap (λ (x : ℕ). Ok (Some (setting k x))) packed_milliseconds

-- ---- what is said

-- a record that says a setting is known, and has its kind and milliseconds
pub record Says (n : ℕ) (s : Setting) : Type 0 where
  pub known : is_known n ≡ true
  pub kind : kind_in n ≡ s.kind
  pub milliseconds : milliseconds_in n ≡ s.milliseconds

pub says : (n : ℕ) (s : Setting) → answer_of n ≡ Ok (Some s) → Says n s
unfolding answer_of
says n s e =
    by_bool (is_known n)
    (λ k. let q : Ok (Some (setting (kind_in n) (milliseconds_in n))) ≡ Ok (Some s) = rw k at e in record { known = k; kind = cc; milliseconds = cc })
    (λ k. let q = rw k at e in clash cc)

-- two records of one version that say the same are the same
pub same_record : (n m : ℕ) (s : Setting) → answer_of n ≡ Ok (Some s) → answer_of m ≡ Ok (Some s) → version_in n ≡ version_in m → n ≡ m
unfolding milliseconds_in
same_record n m s e f v =
    let a = says n s e in
    let b = says m s f in
    let k : kind_in n ≡ kind_in m = a.kind ∙ sym b.kind in
    let u = unit (version_in m) in
    let p : delay_in n * u ≡ delay_in m * u = rw v at a.milliseconds ∙ sym b.milliseconds in
    let above = unit_positive (version_in m) in
    let d : delay_in n ≡ delay_in m = sym (mul-div_left (delay_in n) above) ∙ ap (λ (x : ℕ). x / u) p ∙ mul-div_left (delay_in m) above in
    sym (bits_of n) ∙ rw (v, k, d) (bits_of m)
