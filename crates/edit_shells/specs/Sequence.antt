-- docs/RULES.md, 12: what a buffer holds after any sequence of edits of a file, refused ones among them: by the keys that are left, by the
-- furthest end that was reached and by the bytes that were there before.
use Rattle.std.specs.Prelude.{ℕ, ◌+◌, ◌-◌, ◌≤◌, ◌≡◌, List, ◌++◌, length, drop}
use Rattle.format.specs.Format.{Key, written_image}
use Rattle.buffer.specs.Puts.{zeros}

-- what a buffer holds, of which `old` are the bytes before the first edit: the image of the keys, which ends at n, zeros from there to the
-- furthest end that an image had, and then what was there
pub record Holds (c : ℕ) (old : List ℕ) (keys : List Key) (n far : ℕ) (out : List ℕ) : Type 0 where
  pub size : n ≡ length (written_image c keys)
  pub small : n ≤ 65535
  pub reached : n ≤ far
  pub room : far ≤ length old
  pub whole : out ≡ written_image c keys ++ (zeros (far - n) ++ drop far old)

-- the further of two ends
abbrev pub further : ℕ → ℕ → ℕ
further far n = far + (n - far)
