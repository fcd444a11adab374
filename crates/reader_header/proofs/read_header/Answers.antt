-- `reader_header::read_header` meets its contract: there is a key (`keys_some`). Rests on the callees' contracts.
use Rattle.std.proofs.Common.{arith, sym, ◌∙◌}
use Rattle.reader_header.specs.Place.{count_place_lem, keys_some}
use Rattle.reader_header.proofs.read_header.Goals as goal

pub overflow_sub-n : goal.overflow_sub-n
overflow_sub-n c =
    let place = count_place_lem _ _ _ _ _ (sym c.read_count.ensures ∙ c.in_ok-n.was) in
    omega (arith, keys_some c.in_ok-cipher.cipher c.in_ok-n.n place.allowed)
