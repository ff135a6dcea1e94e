-- `restart::all_saved_kept`: what was found so far is the definition at the slots passed.
use Rattle.std.proofs.Common.{◌≡◌}
use Rattle.consensus.specs.Step.{all_saved_kept}
use Rattle.consensus.proofs.restart.all_saved_kept.Given as goal

abbrev pub invariant-loop-s : goal.invariant-loop-s
invariant-loop-s l = l.kept ≡ all_saved_kept l.s l.table
