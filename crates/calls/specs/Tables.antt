-- The tables of all boxes of a replay, one after the other in one list.
-- Relies on the layout of a table. Cited by Call and by fresh_tables's contract.
use Rattle.std.specs.Prelude.{ℕ, zero, suc, ◌+◌, ◌*◌, List, [], ◌++◌, Bool, ◌&&◌, length, take, drop, leb, eqb, if◌then◌else◌}
use Rattle.ballots.specs.Ballot.{max_boxes}
use Rattle.consensus.specs.Layout.{table_size, fresh}

-- 1 to 7 boxes, and a table for each
unfoldable pub tables_ok : ℕ → List ℕ → Bool
tables_ok boxes tables = leb 1 boxes && leb boxes max_boxes && eqb (length tables) (boxes * table_size)

-- where the table of a box begins
abbrev pub table_start : ℕ → ℕ
table_start i = i * table_size

-- the table of box i
abbrev pub table_of : List ℕ → ℕ → List ℕ
table_of tables i = take table_size (drop (table_start i) tables)

-- the tables with t for the table of box i
abbrev pub with_table : List ℕ → ℕ → List ℕ → List ℕ
with_table tables i t = take (table_start i) tables ++ (t ++ drop (table_start i + table_size) tables)

-- the fresh tables of the first k boxes of N
unfoldable pub fresh_first : ℕ → ℕ → List ℕ
fresh_first boxes zero = []
fresh_first boxes (suc k) = fresh_first boxes k ++ fresh boxes k

-- "It keeps N fresh tables." What is no place for them stays as it was.
unfoldable pub fresh_tables : ℕ → List ℕ → List ℕ
fresh_tables boxes tables = if tables_ok boxes tables then fresh_first boxes boxes else tables
