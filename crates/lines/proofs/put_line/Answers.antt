-- The loop keeps its invariant: one more number and the byte after it are put. At the end all are.
use Rattle.std.proofs.Common.{ℕ, arith, length-set}
use Rattle.lines.proofs.Fields.{one_put, all_put}
use Rattle.lines.proofs.put_line.Goals as goal

pub loop-left-preserved : goal.loop-left-preserved
loop-left-preserved c =
    let step = c.in-Some.ensures.steps in
    rw step.2 (one_put _ _ _ _ _ _ c.loop-left.invariant _ _ c.end_byte.result _ _ step.0
    (cc) (omega (arith, c.put_number-at.ensures.start)) c.put_number-at.ensures.put (omega (arith, length-set {A = ℕ})))

pub returns : goal.returns
returns c = all_put _ _ _ _ _ _ c.loop-left.invariant c.in-None.ensures.steps.0.0
