-- `key_pairs::scalar_in` meets its contract: a scalar's string isn't empty, so it is within the image, which keeps the sums in bounds.
-- Rests on the callees' contracts.
use Rattle.std.proofs.Common.{◌≡◌, sym, ◌∙◌, ap, true, arith}
use Rattle.fields.specs.Fields.{view_of}
use Rattle.fields.specs.Rest.{view_length}
use Rattle.mpint.specs.Mpint.{zeros_before}
use Rattle.mpint.specs.Zeros.{zeros_le}
use Rattle.key_pairs.specs.Pairs.{is_scalar, significant_part}
use Rattle.key_pairs.specs.Scalar.{scalar_within}
use Rattle.key_pairs.proofs.scalar_in.Goals as goal
use Rattle.key_pairs.proofs.scalar_in.Goals.{Then-is_scalar}

-- the bytes that were looked at are the string's, and they are a scalar's
scalar : (c : Then-is_scalar) → is_scalar c.args.size (view_of c.args.image.now c.args.stored) ≡ true
scalar c = ap (is_scalar c.args.size) (sym c.view-bytes.ensures.0) ∙ sym c.is_scalar.ensures ∙ c.if-is_scalar.true

pub overflow_add-scalar : goal.overflow_add-scalar
overflow_add-scalar c = let a = c.args in
    let inside = scalar_within a.image.now a.stored a.size (scalar (goal.at.overflow_add-scalar c).Then-is_scalar) in
    let long = view_length a.image.now a.stored inside in
    let some = zeros_le (view_of a.image.now a.stored) in
    let zeros = c.zeros_before-zeros.ensures ∙ ap zeros_before c.view-bytes.ensures.0 in
    omega (arith, inside, long, some, zeros)

pub overflow_sub-scalar : goal.overflow_sub-scalar
overflow_sub-scalar c = omega (arith, c.zeros_before-zeros.ensures, zeros_le c.view-bytes.result.now)

pub returns-then-is_scalar : goal.returns-then-is_scalar
unfolding significant_part
returns-then-is_scalar c = rw (scalar (goal.at.returns-then-is_scalar c).Then-is_scalar, c.zeros_before-zeros.ensures, c.view-bytes.ensures.0)
