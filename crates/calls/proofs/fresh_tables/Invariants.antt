-- `fresh_tables`: the tables of the boxes below i are fresh.
use Rattle.calls.proofs.Fresh.{FreshSoFar}
use Rattle.calls.proofs.fresh_tables.Given as goal

abbrev pub invariant-loop-i : goal.invariant-loop-i
invariant-loop-i l = FreshSoFar l.boxes l.initial.tables l.i l.tables
