-- `setting_store::all_pass` meets its contract: the places before the device pass. Rests on the callees' contracts and on `every_place`.
use native.Mathlib.Numerals.{add-one}
use Rattle.std.proofs.Common.{ℕ, ◌<◌, ◌≡◌, Bool, true, false, List, refl, sym, arith}
use Rattle.fields.specs.Place.{by_bool}
use Rattle.setting_record.specs.Record.{record_at}
use Rattle.setting_store.specs.Move.{all_places}
use Rattle.setting_store.specs.Kept.{every_place}
use Rattle.setting_store.proofs.all_pass.Goals as goal

-- one that doesn't pass is enough
one_fails : (test : ℕ → Bool) (n : ℕ) (s : List ℕ) (d : ℕ) → d < n → test (record_at s d) ≡ false → false ≡ all_places test n s
one_fails test n s d h e =
    by_bool (all_places test n s)
    (λ t. let all = every_place test n s t d h in cc)
    (λ f. sym f)

pub loop-device-init : goal.loop-device-init
unfolding all_places
loop-device-init g c = λ test same. refl

pub loop-device-preserved : goal.loop-device-preserved
unfolding all_places
loop-device-preserved g c = λ test same.
    let d = c.loop-device.device in
    let s = c.args.store.now in
    let b : all_places test d s ≡ true = sym (c.loop-device.invariant test same) in
    let t : test (record_at s d) ≡ true = let a = same _ _ c.passes.ensures in cc (c.record_at.ensures, c.if-not-passes.false) in
    rw (add-one _, b, t) refl

pub returns-then-not-passes : goal.returns-then-not-passes
returns-then-not-passes g c = λ test same.
    let d = c.loop-device.device in
    let s = c.args.store.now in
    let t : test (record_at s d) ≡ false = let a = same _ _ c.passes.ensures in cc (c.record_at.ensures, c.if-not-passes.true) in
    one_fails test 32 s d c.loop-device-test.true t

pub returns : goal.returns
returns g c = λ test same.
    let e : c.loop-device.device ≡ 32 = omega arith in
    rw e at (c.loop-device.invariant test same)
