-- At the loop's head, what is read from here with v is what is read from the start.
use Rattle.std.proofs.Common.{length, ◌≡◌}
use Rattle.lines.specs.Read.{more_digits}
use Rattle.lines.proofs.more_digits.Given as goal

abbrev pub invariant-loop-b : goal.invariant-loop-b
invariant-loop-b l = more_digits l.v l.rest ≡ more_digits l.first l.bytes

abbrev pub decreases-loop-b : goal.decreases-loop-b
decreases-loop-b l = length l.rest
