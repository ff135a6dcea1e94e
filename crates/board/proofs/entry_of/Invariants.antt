-- `entry_of`: at the loop's head the walk has come to slot s.
use Rattle.board.proofs.Walk.{Walked}
use Rattle.board.proofs.entry_of.Given as goal

abbrev pub invariant-loop-s : goal.invariant-loop-s
invariant-loop-s l = Walked l.table l.link l.entry l.known l.s
