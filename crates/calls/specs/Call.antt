-- What one line of a replay does to the tables and to the buffer, and what the call returns.
-- Relies on the reading of lines, the step and the numbers of an answer. Cited by call's contract.
use Rattle.std.specs.Prelude.{ℕ, Result, Ok, Err, List, ◌++◌, not, length, drop, get_or, ltb, eqb, if◌then◌else◌}
use Rattle.lines.specs.Text.{line_text}
use Rattle.lines.specs.Read.{read_record}
use Rattle.consensus.specs.declared.Event.{Event}
use Rattle.consensus.specs.Answers.{BadEvent, numbers_of}
use Rattle.consensus.specs.Step.{Stepped, step}
use Rattle.calls.specs.declared.refusal.CallRefusal.{CallRefusal}
use Rattle.calls.specs.declared.refusal.CallRefusal.TheVariants.{BadTables, BadLine, ShortBuffer}
use Rattle.calls.specs.Tables.{tables_ok, table_of, with_table}

-- the answers of calls that do nothing
abbrev pub bad_tables : ℕ
bad_tables = 1

abbrev pub bad_line : ℕ
bad_line = 8

abbrev pub short_buffer : ℕ
short_buffer = 9

-- eight numbers of at most 20 digits, each with the byte after it: room for every answer's line
abbrev pub longest_answer : ℕ
longest_answer = 168

-- "records: box, then six event numbers"
abbrev pub box_of : List ℕ → ℕ
box_of ns = get_or ns 0 0

abbrev pub event_of : List ℕ → Event
event_of ns =
    record {
      kind = get_or ns 1 0;
      slot = record { 0 = get_or ns 2 0 };
      from = get_or ns 3 0;
      ballot = record { 0 = get_or ns 4 0 };
      second = record { 0 = get_or ns 5 0 };
      value = get_or ns 6 0;
    }

-- the tables after a record, and the answer's eight numbers
pub record Answered : Type 0 where
  pub tables : List ℕ
  pub numbers : List ℕ

-- the step's table in the place of the box's, "answer and the seven message numbers"
abbrev pub stepped : List ℕ → ℕ → Stepped → Answered
stepped tables i s = record { tables = with_table tables i s.table; numbers = numbers_of s.answer }

-- "Box not below N: answer 2 and seven zeros."
abbrev pub no_such_box : List ℕ → Answered
no_such_box tables = record { tables = tables; numbers = numbers_of BadEvent }

-- a record's event at its box
unfoldable pub on_record : ℕ → List ℕ → List ℕ → Answered
on_record boxes tables ns =
    if ltb (box_of ns) boxes then stepped tables (box_of ns) (step (table_of tables (box_of ns)) (event_of ns))
    else no_such_box tables

-- what a call gives: answer 0 and the length of the line that it wrote, or the refusal's number and 0
pub record Called : Type 0 where
  pub answer : ℕ
  pub length : ℕ

-- after a call: what it returns, the tables and the buffer
pub record AfterCall : Type 0 where
  pub called : Called
  pub tables : List ℕ
  pub out : List ℕ

-- the refusal's number and no length
abbrev pub refusal : ℕ → Called
refusal n = record { answer = n; length = 0 }

-- a refusal leaves all as it was
abbrev pub refuse : ℕ → List ℕ → List ℕ → AfterCall
refuse n tables out = record { called = refusal n; tables = tables; out = out }

-- answer 0 and the length of the answer's line
abbrev pub answered : ℕ → Called
answered n = record { answer = 0; length = n }

-- the answer's line at the front of the buffer; bytes after stay
abbrev pub answer_line : Answered → List ℕ → AfterCall
answer_line a out =
    record {
      called = answered (length (line_text a.numbers));
      tables = a.tables;
      out = line_text a.numbers ++ drop (length (line_text a.numbers)) out;
    }

-- 1: no place for the tables of 1 to 7 boxes; 8: the line is no record; 9: less room than the longest answer takes
unfoldable pub call : List ℕ → ℕ → List ℕ → List ℕ → AfterCall
call line boxes tables out =
    if not (tables_ok boxes tables) then refuse bad_tables tables out
    else if not (eqb (read_record line).answer 0) then refuse bad_line tables out
    else if ltb (length out) longest_answer then refuse short_buffer tables out
    else answer_line (on_record boxes tables (read_record line).numbers) out

-- what the rules call the outcome of a call
abbrev pub called_by_rules : Result ℕ CallRefusal → Called
called_by_rules (Ok n) = answered n
called_by_rules (Err BadTables) = refusal bad_tables
called_by_rules (Err BadLine) = refusal bad_line
called_by_rules (Err ShortBuffer) = refusal short_buffer
