-- At the loop's head the numbers before the place of the loop are read, and `left` are to come.
use Rattle.lines.proofs.Numbers.{ReadSoFar}
use Rattle.lines.proofs.read_numbers.Given as goal

abbrev pub invariant-loop-number : goal.invariant-loop-number
invariant-loop-number g l = ReadSoFar l.line l.number-index-end l.number-index l.left l.number-items l.bytes
