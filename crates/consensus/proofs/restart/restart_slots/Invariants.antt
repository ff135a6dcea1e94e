-- `restart::restart_slots`: the table is the definition at the slots passed.
use Rattle.std.proofs.Common.{◌≡◌}
use Rattle.consensus.specs.Step.{restart_slots}
use Rattle.consensus.proofs.restart.restart_slots.Given as goal

abbrev pub invariant-loop-s : goal.invariant-loop-s
invariant-loop-s l = l.table ≡ restart_slots l.s l.initial.table
