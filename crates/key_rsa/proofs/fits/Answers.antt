-- `key_rsa::fits` meets its contract: a part has no more bytes than its length says, and bytes that the modulus's bits fill are within them.
-- Rests on the law `short_fits` of bits, and on `at_most`.
use Rattle.std.proofs.Common.{ℕ, ◌+◌, ◌≤◌, List, leb, length, arith}
use borrow.Author.Tests.{leb-true, leb-false}
use Rattle.fields.specs.Fields.{view_of}
use Rattle.fields.specs.Place.{by_bool}
use Rattle.fields.specs.Rest.{view_length}
use Rattle.fields.specs.Room.{view_out}
use Rattle.fields.specs.declared.Part.{Part}
use Rattle.mpint.specs.Laws.{size_inside}
use Rattle.mpint.specs.Zeros.{short_fits}
use Rattle.key_rsa.specs.Rsa.{others_at}
use Rattle.key_rsa.proofs.fits.Goals as goal
use Rattle.key_rsa.proofs.fits.Goals.{then-number-bits-via-then-number-bits, then-number-bits-via-else-number-bits+then-at_most}

-- a part has at most as many bytes as its length says, and none where it isn't within the image
part-most : (s : List ℕ) (p : Part) → length (view_of s p) ≤ p.length
part-most s p =
    by_bool (leb (p.start + p.length) (length s))
    (λ w. omega (arith, view_length s p (leb-true (p.start + p.length) (length s) w)))
    (λ w. rw (view_out s p (leb-false (p.start + p.length) (length s) w)).0 (omega arith))

pub returns-then-number-bits : goal.returns-then-number-bits
unfolding others_at
returns-then-number-bits c = let a = c.args in
    let s = a.image.now in
    elim c.then-number-bits.branch [
      | then-number-bits-via-then-number-bits w ↦
          let size = (size_inside (view_of s a.n) a.bits c.requires).1 in
          rw (short_fits (view_of s a.number) (view_of s a.n) (omega (arith, part-most s a.number, size, w.if-number-bits.true)))
      | then-number-bits-via-else-number-bits+then-at_most w ↦
          rw (← w.view-else-number-bits.ensures.0, ← w.view.ensures.0, ← w.at_most.ensures, w.if-at_most.true)
    ]
