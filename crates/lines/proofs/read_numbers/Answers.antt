-- The loop keeps its invariant: one more number and its end are read.
use Rattle.lines.proofs.Numbers.{number_is_read}
use Rattle.lines.proofs.read_numbers.Goals as goal

pub loop-number-preserved : goal.loop-number-preserved
loop-number-preserved g c =
    number_is_read _ _ _ _ _ _ c.loop-number.invariant c.loop-number-test.true _ _ c.in_ok-value.ensures _ _ c.in_ok-end.ensures.cases.0 (cc)
