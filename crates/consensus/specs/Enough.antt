-- Which reply sets are enough, in their two uses: to close a Collect and to close a Begin. Both are the majority.
-- Cited by well kept and by the step; proofs about votes use only that a set of each kind share a box.
use Rattle.std.specs.Prelude.{ℕ, Bool}
use Rattle.ballots.specs.Boxes.{is_majority}
use Rattle.consensus.specs.declared.Head.{Head}

unfoldable pub enough_to_collect : Head → ℕ → Bool
enough_to_collect h s = is_majority h.boxes s

unfoldable pub enough_to_begin : Head → ℕ → Bool
enough_to_begin h s = is_majority h.boxes s
