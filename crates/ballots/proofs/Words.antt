-- Sets of boxes in a word of 64 bits: no box from 64 on, and room for each box below that.
-- Relies on BoxesLaws. Cited by the attributes of `boxes::holds` and `boxes::with_box`.
use Rattle.std.specs.Prelude.{ℕ, ◌+◌, ◌*◌, ◌%◌, ◌^◌, ◌≤◌, ◌<◌, ◌≡◌, false}
use Rattle.std.proofs.Common.{arith}
use Rattle.std.proofs.Math.Pow.{pow-lt}
use Rattle.ballots.specs.Boxes.{holds_box}
use Rattle.ballots.specs.BoxesLaws.{beyond_not_held, added_below}

pub no_far_box : (s k : ℕ) → s < 2 ^ 64 → 64 ≤ k → holds_box s k ≡ false
no_far_box s k word far = beyond_not_held 64 s k word far

-- a one shifted to a place below 64 keeps its bit
pub one_shifted : (k : ℕ) → k < 64 → 1 * 2 ^ k % 2 ^ 64 ≡ 2 ^ k
one_shifted k near = omega (arith, pow-lt near)

pub room_for_box : (s k : ℕ) → s < 2 ^ 64 → k < 64 → holds_box s k ≡ false → s + 2 ^ k < 2 ^ 64
room_for_box s k word near new = added_below 64 s k word near new
