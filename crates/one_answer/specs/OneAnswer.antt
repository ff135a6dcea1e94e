-- One answer for each contract: two answers that both meet a public function's contract are equal.
-- Each line states the contract with the very definitions that the function's `ensures` cites, or, of a trait's function, its law.
-- Relies on the definitions that the contracts cite. For the reader: nothing cites it.
use Rattle.std.specs.Prelude.{ℕ, ◌≡◌, Bool, Option, Result, Err, List, [], ◌∷◌}
use Rattle.std.proofs.Common.{sym, ◌∙◌}
use Rattle.std.specs.Int.Count.{ones}
use Rattle.ballots.specs.declared.Ballot.{Ballot}
use Rattle.ballots.specs.declared.Slot.{Slot}
use Rattle.ballots.specs.Ballot.{x_of, maker_of, is_ballot, next}
use Rattle.ballots.specs.Boxes.{holds_box, is_majority, with_box}
use Rattle.consensus.specs.declared.Event.{Event}
use Rattle.consensus.specs.declared.Message.{Message}
use Rattle.consensus.specs.declared.kind.Kind.{Kind}
use Rattle.consensus.specs.declared.kind.UnknownKind.{UnknownKind}
use Rattle.consensus.specs.declared.refusal.Refusal.{Refusal}
use Rattle.consensus.specs.Events.{kind_number, KindOf, event_from}
use Rattle.consensus.specs.Answers.{event_numbers, answer_number, answer_by_rules, refusal_by_rules, numbers_of}
use Rattle.consensus.specs.AnswersLaws.{answer_tells_result, one_kind_of}
use Rattle.consensus.specs.ErrorTexts.{refusal_text, unknown_kind_text}
use Rattle.consensus.specs.Step.{table_ok, agreed_at, step}
use Rattle.lines.specs.declared.error.BadLine.{BadLine}
use Rattle.lines.specs.declared.error.ShortBuffer.{ShortBuffer}
use Rattle.lines.specs.ErrorTexts.{bad_line_text, short_buffer_text}
use Rattle.lines.specs.Read.{read_record, reading_by_rules}
use Rattle.lines.specs.RecordLaws.{reading_tells_result}
use Rattle.lines.specs.Write.{written_record, written_buffer, written_by_rules}
use Rattle.lines.specs.WriteLaws.{written_tells_result}
use Rattle.board.specs.declared.Command.{Command}
use Rattle.board.specs.declared.Entry.{Entry}
use Rattle.board.specs.declared.refusal.BoardRefusal.{BoardRefusal}
use Rattle.board.specs.Command.{command_of}
use Rattle.board.specs.Board.{applied, board_of, answer_of, answer_by_rules as board_answer_by_rules, numbers_of as board_numbers_of}
use Rattle.board.specs.BoardLaws.{answer_tells_result as board_answer_tells_result}
use Rattle.board.specs.ErrorTexts.{refusal_text as board_refusal_text}
use Rattle.calls.specs.declared.refusal.CallRefusal.{CallRefusal}
use Rattle.calls.specs.declared.refusal.CallRefusal.TheVariants as call_refusal
use Rattle.calls.specs.UnlessZero.{unless_zero}
use Rattle.calls.specs.Header.{boxes_of}
use Rattle.calls.specs.FirstLine.{line_length}
use Rattle.calls.specs.Tables.{fresh_tables}
use Rattle.calls.specs.Call.{bad_line, call, called_by_rules}
use Rattle.calls.specs.CallLaws.{called_tells_result}
use Rattle.calls.specs.ErrorTexts.{refusal_text as call_refusal_text}

-- whatever meets the contract is one and the same
abbrev pub OneAnswer : {A : Type 0} → (A → Type 0) → Type 0
OneAnswer {A} Meets = (x y : A) → Meets x → Meets y → x ≡ y

-- a contract that says which value it is
pub fixed : {A : Type 0} (d : A) → OneAnswer (λ (r : A). r ≡ d)
fixed d x y is_x is_y = is_x ∙ sym is_y

-- a contract on what is returned and a contract on the lent memory at exit
both : {A B : Type 0} {P : A → Type 0} {Q : B → Type 0} → OneAnswer P → OneAnswer Q → OneAnswer (λ (r : A × B). P r.0 × Q r.1)
both returned lent x y meets_x meets_y = let r = returned x.0 y.0 meets_x.0 meets_y.0 in let l = lent x.1 y.1 meets_x.1 meets_y.1 in λ i. (r i, l i)

-- a contract that says which value it is and what the lent memory holds at exit
pub both_fixed : {A B : Type 0} (a : A) (b : B) → OneAnswer (λ (r : A × B). (r.0 ≡ a) × (r.1 ≡ b))
both_fixed a b = both {P = λ r. r ≡ a} {Q = λ r. r ≡ b} (fixed a) (fixed b)

-- a contract that says which answer of the rules it is, where the rules tell any two of the code's answers apart
pub fixed_by_rules : {A B : Type 0} (by_rules : A → B) → ((x y : A) → by_rules x ≡ by_rules y → x ≡ y) → (d : B) → OneAnswer (λ (r : A). by_rules r ≡ d)
fixed_by_rules by_rules tells d x y is_x is_y = tells x y (is_x ∙ sym is_y)

-- the same, with the lent memory at exit
pub both_fixed_by_rules :
    {A B C : Type 0} (by_rules : A → B) → ((x y : A) → by_rules x ≡ by_rules y → x ≡ y) → (d : B) (c : C) →
    OneAnswer (λ (r : A × C). (by_rules r.0 ≡ d) × (r.1 ≡ c))
both_fixed_by_rules by_rules tells d c = both {P = λ r. by_rules r ≡ d} {Q = λ r. r ≡ c} (fixed_by_rules by_rules tells d) (fixed c)

-- ---- ballots

pub x_of_has_one_answer : (b : Ballot) → OneAnswer (λ (r : ℕ). r ≡ x_of b.0)
x_of_has_one_answer b = fixed (x_of b.0)

pub maker_of_has_one_answer : (b : Ballot) → OneAnswer (λ (r : ℕ). r ≡ maker_of b.0)
maker_of_has_one_answer b = fixed (maker_of b.0)

pub is_ballot_has_one_answer : (boxes : ℕ) (b : Ballot) → OneAnswer (λ (r : Bool). r ≡ is_ballot boxes b.0)
is_ballot_has_one_answer boxes b = fixed (is_ballot boxes b.0)

pub next_ballot_has_one_answer : (promised : Ballot) (index : ℕ) → OneAnswer (λ (r : Option Ballot). r ≡ next promised.0 index)
next_ballot_has_one_answer promised index = fixed (next promised.0 index)

-- ---- ballots::boxes

pub count_has_one_answer : (set : ℕ) → OneAnswer (λ (r : ℕ). r ≡ ones set)
count_has_one_answer set = fixed (ones set)

pub is_majority_has_one_answer : (boxes set : ℕ) → OneAnswer (λ (r : Bool). r ≡ is_majority boxes set)
is_majority_has_one_answer boxes set = fixed (is_majority boxes set)

pub holds_has_one_answer : (set k : ℕ) → OneAnswer (λ (r : Bool). r ≡ holds_box set k)
holds_has_one_answer set k = fixed (holds_box set k)

pub with_box_has_one_answer : (set k : ℕ) → OneAnswer (λ (r : ℕ). r ≡ with_box set k)
with_box_has_one_answer set k = fixed (with_box set k)

-- ---- consensus

-- the kind of a number, or that there is none
pub kind_has_one_answer : (number : ℕ) → OneAnswer (KindOf number)
kind_has_one_answer = one_kind_of

-- the number of a kind
pub kind_number_has_one_answer : (kind : Kind) → OneAnswer (λ (r : ℕ). r ≡ kind_number kind)
kind_number_has_one_answer kind = fixed (kind_number kind)

-- the number of a refusal
pub refusal_number_has_one_answer : (refusal : Refusal) → OneAnswer (λ (r : ℕ). r ≡ answer_number (refusal_by_rules refusal))
refusal_number_has_one_answer refusal = fixed (answer_number (refusal_by_rules refusal))

-- the text of a refusal
pub refusal_text_has_one_answer : (refusal : Refusal) → OneAnswer (λ (r : List ℕ). r ≡ refusal_text refusal)
refusal_text_has_one_answer refusal = fixed (refusal_text refusal)

-- the text of a number that no kind has
pub unknown_kind_text_has_one_answer : (unknown : UnknownKind) → OneAnswer (λ (r : List ℕ). r ≡ unknown_kind_text unknown)
unknown_kind_text_has_one_answer unknown = fixed (unknown_kind_text unknown)

-- an event from its six numbers
pub event_has_one_answer : (numbers : List ℕ) → OneAnswer (λ (r : Event). r ≡ event_from numbers)
event_has_one_answer numbers = fixed (event_from numbers)

-- the six numbers of an event
pub event_numbers_has_one_answer : (event : Event) → OneAnswer (λ (r : List ℕ). r ≡ event_numbers event)
event_numbers_has_one_answer event = fixed (event_numbers event)

pub table_ok_has_one_answer : (table : List ℕ) → OneAnswer (λ (r : Bool). r ≡ table_ok table)
table_ok_has_one_answer table = fixed (table_ok table)

pub agreed_at_has_one_answer : (table : List ℕ) (slot : Slot) → OneAnswer (λ (r : ℕ). r ≡ agreed_at table slot.0)
agreed_at_has_one_answer table slot = fixed (agreed_at table slot.0)

-- the answer, and the table at exit
pub step_has_one_answer :
    (table : List ℕ) (event : Event) →
    OneAnswer (λ (r : Result (Option Message) Refusal × List ℕ). (answer_by_rules r.0 ≡ (step table event).answer) × (r.1 ≡ (step table event).table))
step_has_one_answer table event = both_fixed_by_rules answer_by_rules answer_tells_result (step table event).answer (step table event).table

-- ---- lines

-- the text of a line that is no record's
pub bad_line_text_has_one_answer : (line : BadLine) → OneAnswer (λ (r : List ℕ). r ≡ bad_line_text)
bad_line_text_has_one_answer line = fixed bad_line_text

-- the text of a buffer that is too short
pub short_buffer_text_has_one_answer : (buffer : ShortBuffer) → OneAnswer (λ (r : List ℕ). r ≡ short_buffer_text)
short_buffer_text_has_one_answer buffer = fixed short_buffer_text

pub read_record_has_one_answer : (line : List ℕ) → OneAnswer (λ (r : Result (List ℕ) BadLine). reading_by_rules r ≡ read_record line)
read_record_has_one_answer line = fixed_by_rules reading_by_rules reading_tells_result (read_record line)

-- `write_record` and `write_numbers`: the answer, and the buffer at exit
pub write_has_one_answer :
    (numbers out : List ℕ) →
    OneAnswer (λ (r : Result ℕ ShortBuffer × List ℕ). (written_by_rules r.0 ≡ written_record numbers out) × (r.1 ≡ written_buffer numbers out))
write_has_one_answer numbers out =
    both_fixed_by_rules written_by_rules written_tells_result (written_record numbers out) (written_buffer numbers out)

-- ---- board

pub command_of_has_one_answer : (value : ℕ) → OneAnswer (λ (r : Command). r ≡ command_of value)
command_of_has_one_answer value = fixed (command_of value)

pub applied_has_one_answer : (entry : Entry) (link value : ℕ) → OneAnswer (λ (r : Entry). r ≡ applied entry link value)
applied_has_one_answer entry link value = fixed (applied entry link value)

pub board_has_one_answer : (table : List ℕ) (link : ℕ) → OneAnswer (λ (r : Result Entry BoardRefusal). board_answer_by_rules r ≡ board_of table link)
board_has_one_answer table link = fixed_by_rules board_answer_by_rules board_answer_tells_result (board_of table link)

-- the number of a refusal
pub board_refusal_number_has_one_answer : (refusal : BoardRefusal) → OneAnswer (λ (r : ℕ). r ≡ answer_of (board_answer_by_rules (Err refusal)))
board_refusal_number_has_one_answer refusal = fixed (answer_of (board_answer_by_rules (Err refusal)))

-- the text of a refusal
pub board_refusal_text_has_one_answer : (refusal : BoardRefusal) → OneAnswer (λ (r : List ℕ). r ≡ board_refusal_text refusal)
board_refusal_text_has_one_answer refusal = fixed (board_refusal_text refusal)

-- `board::numbers_of`
pub board_numbers_of_has_one_answer : (answer : Result Entry BoardRefusal) → OneAnswer (λ (r : List ℕ). r ≡ board_numbers_of (board_answer_by_rules answer))
board_numbers_of_has_one_answer answer = fixed (board_numbers_of (board_answer_by_rules answer))

-- ---- calls

-- the refusal of a line that is no record
pub refused_line_has_one_answer : (line : BadLine) → OneAnswer (λ (r : CallRefusal). r ≡ call_refusal.BadLine)
refused_line_has_one_answer line = fixed call_refusal.BadLine

-- the refusal of a buffer that is too short
pub refused_buffer_has_one_answer : (buffer : ShortBuffer) → OneAnswer (λ (r : CallRefusal). r ≡ call_refusal.ShortBuffer)
refused_buffer_has_one_answer buffer = fixed call_refusal.ShortBuffer

-- the number of a refusal
pub call_refusal_number_has_one_answer : (refusal : CallRefusal) → OneAnswer (λ (r : ℕ). r ≡ (called_by_rules (Err refusal)).answer)
call_refusal_number_has_one_answer refusal = fixed (called_by_rules (Err refusal)).answer

-- the text of a refusal
pub call_refusal_text_has_one_answer : (refusal : CallRefusal) → OneAnswer (λ (r : List ℕ). r ≡ call_refusal_text refusal)
call_refusal_text_has_one_answer refusal = fixed (call_refusal_text refusal)

pub boxes_of_has_one_answer : (line : List ℕ) → OneAnswer (λ (r : Option ℕ). r ≡ unless_zero (boxes_of line))
boxes_of_has_one_answer line = fixed (unless_zero (boxes_of line))

pub line_length_has_one_answer : (bytes : List ℕ) → OneAnswer (λ (r : Option ℕ). r ≡ unless_zero (line_length bytes))
line_length_has_one_answer bytes = fixed (unless_zero (line_length bytes))

pub fresh_tables_has_one_answer : (boxes : ℕ) (tables : List ℕ) → OneAnswer (λ (r : List ℕ). r ≡ fresh_tables boxes tables)
fresh_tables_has_one_answer boxes tables = fixed (fresh_tables boxes tables)

-- what it returns, and the tables and the buffer at exit
pub call_has_one_answer :
    (line : List ℕ) (boxes : ℕ) (tables out : List ℕ) →
    OneAnswer (λ (r : Result ℕ CallRefusal × (List ℕ × List ℕ)).
    (called_by_rules r.0 ≡ (call line boxes tables out).called) × (r.1 ≡ ((call line boxes tables out).tables, (call line boxes tables out).out)))
call_has_one_answer line boxes tables out =
    both_fixed_by_rules called_by_rules called_tells_result (call line boxes tables out).called ((call line boxes tables out).tables, (call line boxes tables out).out)

pub bad_line_has_one_answer :
    (number : ℕ) (out : List ℕ) →
    OneAnswer (λ (r : Result ℕ ShortBuffer × List ℕ).
    (written_by_rules r.0 ≡ written_record (bad_line ∷ number ∷ []) out) × (r.1 ≡ written_buffer (bad_line ∷ number ∷ []) out))
bad_line_has_one_answer number out = write_has_one_answer (bad_line ∷ number ∷ []) out

-- `calls::numbers_of`
pub numbers_of_has_one_answer : (answer : Result (Option Message) Refusal) → OneAnswer (λ (r : List ℕ). r ≡ numbers_of (answer_by_rules answer))
numbers_of_has_one_answer answer = fixed (numbers_of (answer_by_rules answer))
