-- What a good head and a good table say: one to seven boxes, an index among them, and a table of the right length.
-- The test's clauses come from `consensus`; here is the way back. Cited by the laws of each kind's step and of the step on tables.
use Rattle.std.specs.Prelude.{ℕ, ◌≡◌, true, List, length}
use Rattle.std.proofs.Common.{lt-ltb, le-leb, eq-eqb}
use Rattle.ballots.specs.Ballot.{max_boxes}
use Rattle.consensus.specs.Layout.{table_size, head_of}
use Rattle.consensus.specs.Step.{table_ok}
pub use Rattle.consensus.specs.StepLaws.{HeadKept, TableKept, table_clauses}

pub clauses_table : (t : List ℕ) → TableKept t → table_ok t ≡ true
unfolding table_ok
clauses_table t k =
    simp (
      eq-eqb (length t) table_size k.whole,
      le-leb 1 (head_of t).boxes k.head_kept.some_boxes,
      le-leb (head_of t).boxes max_boxes k.head_kept.few_boxes,
      lt-ltb (head_of t).index (head_of t).boxes k.head_kept.index_below,
    )
