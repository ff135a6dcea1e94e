-- At the loop's head the room used up and the length of what is left are the line's length.
use Rattle.std.proofs.Common.{length, drop, ◌≡◌, ◌+◌, ◌≤◌}
use Rattle.lines.specs.Text.{line_text}
use Rattle.lines.proofs.measure.Given as goal

abbrev pub invariant-loop-n : goal.invariant-loop-n
invariant-loop-n l =
    (l.room ≤ length l.out)
    × (length l.out + length (line_text (drop l.n-index l.numbers)) ≡ l.room + length (line_text l.numbers))
