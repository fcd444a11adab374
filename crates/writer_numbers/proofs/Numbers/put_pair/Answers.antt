-- `Numbers::put_pair` meets its contract: where there is room for them, name and numbers, put one after the other, are the keypair; else
-- nothing is put. Rests on the laws of runs and of capped lengths.
use Prim.Native.Nat.{◌<◌, ◌^◌}
use native.Mathlib.Omega.{arith}
use mathlib.Core.Path.{sym, ◌∙◌}
use lib.ListN.{length}
use Rattle.names.specs.declared.Algorithm.TheVariants.{Rsa}
use Rattle.format.specs.Format.{keypair, written_pair}
use Rattle.buffer.specs.Runs.{start, step, finish}
use Rattle.writer_parts.specs.Sizes.{not_put, room_for}
use Rattle.writer_numbers.specs.Numbers.{public_numbers, private_numbers}
use Rattle.writer_numbers.proofs.Numbers.put_pair.Goals as goal

pub returns-then-not-has_room : goal.returns-then-not-has_room
returns-then-not-has_room c = let a = c.args in
    let six = a.self.now in
    let pair = written_pair Rsa (public_numbers six) (private_numbers six) in
    let short : length a.out.now < 2 ^ 63 = omega arith in
    not_put a.out.now a.at _ pair short c.pair_length.ensures (sym c.has_room.ensures ∙ c.if-not-has_room.true)

pub returns : goal.returns
unfolding keypair
returns c = let a = c.args in
    let six = a.self.now in
    let pair = written_pair Rsa (public_numbers six) (private_numbers six) in
    let short : length a.out.now < 2 ^ 63 = omega arith in
    let room = room_for a.out.now a.at _ pair short c.pair_length.ensures (sym c.has_room.ensures ∙ c.if-not-has_room.false) in
    let public = step (step (step (start room) c.put_algorithm-at_n.ensures) c.put_string-at_e.ensures) c.put_string-at_d.ensures in
    let two = step (step public c.put_string-at_iqmp.ensures) c.put_string-at_p.ensures in
    finish (step (step two c.put_string-at_q.ensures) c.put_string.ensures)
