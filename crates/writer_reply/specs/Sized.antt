-- A write whose parts were checked: by its image's length, it is refused for its size, for the room, or done.
use Rattle.std.specs.Prelude.{ℕ, ◌+◌, ◌≤◌, ◌<◌, ◌≡◌, refl, List, Ok}
use native.Mathlib.Omega.{arith}
use Rattle.std.proofs.Common.{◌∙◌, ap}
use borrow.Author.Tests.{le-leb, lt-leb}
use Rattle.std.proofs.Math.ListN.{length}
use Rattle.fields.specs.declared.Refusal.TheVariants.{Size, Room}
use Rattle.buffer.specs.Puts.{next_fits, placed-fits}
use Rattle.buffer.specs.Runs.{IsRun}
use Rattle.writer_reply.specs.Reply.{refused, sized, IsSized}

module _ (image old : List ℕ) where
  pub too_large : 65535 < length image → IsSized image old (refused Size) old
  unfolding sized
  too_large h = rw (lt-leb _ _ h) (refl, refl)

  pub no_room : length image ≤ 65535 → length old < length image → IsSized image old (refused Room) old
  unfolding sized
  no_room h k = rw (le-leb _ _ h, lt-leb _ _ k) (refl, refl)

  pub done : (r : ℕ) (out : List ℕ) → length image ≤ 65535 → length image ≤ length old → IsRun old 0 image r out → IsSized image old (Ok r) out
  unfolding sized
  done r out h k run =
      let fit : 0 + length image ≤ length old = omega arith in
      let p = run fit in
      let e : r ≡ length image = p.0 ∙ next_fits old 0 image fit ∙ omega arith in
      rw (le-leb _ _ h, le-leb _ _ k) (ap Ok e, p.1 ∙ placed-fits old 0 image fit)
