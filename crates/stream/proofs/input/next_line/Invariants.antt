-- `stream::input::next_line` stays within the bytes and ends: each turn that goes on has read more bytes of the line.
use Rattle.std.proofs.Common.{◌-◌, ◌≤◌, length}
use Rattle.stream.proofs.input.next_line.Given as goal

abbrev pub invariant-loop-length : goal.invariant-loop-length
invariant-loop-length g l = (l.from ≤ l.to) × (l.to ≤ length l.input)

abbrev pub decreases-loop-length : goal.decreases-loop-length
decreases-loop-length g l = length l.input - (l.to - l.from)
