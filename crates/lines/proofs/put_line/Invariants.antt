-- At the loop's head the numbers behind those still to come are put.
use Rattle.lines.proofs.Fields.{PutBack}
use Rattle.lines.proofs.put_line.Given as goal

abbrev pub invariant-loop-left : goal.invariant-loop-left
invariant-loop-left l = PutBack l.numbers l.fn.out l.left-iterator.iter.iter.rest.now l.left-iterator.count l.at l.out
