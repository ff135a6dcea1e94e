-- Which case of the definitions the tests of on_record and call pick, with what the callees ensure.
-- Relies on specs/Call. Cited by the proofs of on_record and call.
use Prim.Native.Nat.{ℕ, ◌*◌, ◌<◌, ◌≤◌}
use mathlib.Core.Path.{◌≡◌, sym}
use mathlib.Core.Bool.{true, false}
use mathlib.Core.List.{List, ◌++◌}
use native.Mathlib.Omega.{arith}
use borrow.Author.Tests.{lt-ltb, le-ltb, ne_eqb}
use lib.ListN.{length, take, drop}
use lib.Seq.{drop-drop}
use Rattle.std.specs.Prelude.{Ok}
use Rattle.lines.specs.Text.{line_text}
use Rattle.lines.specs.Read.{read_record, reading_by_rules}
use Rattle.lines.specs.Write.{too_short, a_write, written_record, written_buffer}
use Rattle.consensus.specs.Layout.{table_size}
use Rattle.consensus.specs.Step.{step}
use Rattle.calls.specs.CallLaws.{answer_within}
use Rattle.calls.specs.Tables.{tables_ok, table_of, with_table}
use Rattle.calls.specs.Call.{bad_tables, bad_line, short_buffer, longest_answer, box_of, event_of, stepped, no_such_box, on_record, refuse, answer_line, call}

module _ (boxes : ℕ) (tables ns : List ℕ) where
  pub no_box : boxes ≤ box_of ns → on_record boxes tables ns ≡ no_such_box tables
  unfolding on_record
  no_box none = simp (le-ltb (box_of ns) boxes none)

  pub at_box : box_of ns < boxes → on_record boxes tables ns ≡ stepped tables (box_of ns) (step (table_of tables (box_of ns)) (event_of ns))
  unfolding on_record
  at_box here = simp (lt-ltb (box_of ns) boxes here)

-- the part of the tables that is lent is the box's table, and it comes back in its place
module _ (tables : List ℕ) (i count : ℕ) (all : count ≡ table_size) where
  pub lent_part : take count (drop (i * table_size) tables) ≡ table_of tables i
  lent_part = rw all

  pub put_back : (t : List ℕ) → take (i * table_size) tables ++ (t ++ drop count (drop (i * table_size) tables)) ≡ with_table tables i t
  put_back t = rw (all, drop-drop)

module _ (line : List ℕ) (boxes : ℕ) (tables out : List ℕ) where
  pub no_tables : tables_ok boxes tables ≡ false → call line boxes tables out ≡ refuse bad_tables tables out
  unfolding call
  no_tables bad = simp bad

  module _ (good : tables_ok boxes tables ≡ true) where
    pub no_record : ((read_record line).answer ≡ 8) → call line boxes tables out ≡ refuse bad_line tables out
    unfolding call
    no_record bad = simp (good, ne_eqb (read_record line).answer 0 (λ z. cc))

    pub no_room : (read_record line).answer ≡ 0 → length out < longest_answer → call line boxes tables out ≡ refuse short_buffer tables out
    unfolding call
    no_room read short = simp (good, read, lt-ltb (length out) longest_answer short)

    pub answers : (ns : List ℕ) → reading_by_rules (Ok ns) ≡ read_record line → longest_answer ≤ length out →
        call line boxes tables out ≡ answer_line (on_record boxes tables ns) out
    unfolding call
    answers ns read room = simp (good, sym read, le-ltb (length out) longest_answer room)

-- the line of a record's answer is written
module _ (boxes : ℕ) (tables ns out : List ℕ) (room : longest_answer ≤ length out) where
  fits : too_short (on_record boxes tables ns).numbers out ≡ false
  fits = le-ltb (length out) _ (omega (arith, answer_within boxes tables ns))

  pub line_written : (numbers : List ℕ) → numbers ≡ (on_record boxes tables ns).numbers →
      written_record numbers out ≡ a_write (length (line_text (on_record boxes tables ns).numbers))
  line_written numbers n = rw n (simp fits)

  pub line_stands : (numbers : List ℕ) → numbers ≡ (on_record boxes tables ns).numbers →
      written_buffer numbers out ≡ (answer_line (on_record boxes tables ns) out).out
  line_stands numbers n = rw n (simp fits)
