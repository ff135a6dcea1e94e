-- The laws of a call: an answer is eight numbers, a line that was written is within the buffer, and an outcome tells its result.
-- Relies on Call and on how long lines are. Cited by the proof of call, and for whoever calls it.
use Rattle.std.specs.Prelude.{ℕ, ◌≤◌, ◌≡◌, refl, not, Result, Ok, Err, List, ltb, eqb, if◌then◌else◌}
use Rattle.std.proofs.Common.{sym, ap, ◌∙◌, arith, ltb-false}
use Rattle.std.proofs.Math.ListN.{length}
use Rattle.lines.specs.ByTest.{by_test}
use Rattle.lines.specs.Text.{line_text}
use Rattle.lines.specs.TextLaws.{line_within}
use Rattle.lines.specs.Read.{read_record}
use Rattle.consensus.specs.Answers.{Answer, Quiet, Sends, BadTable, BadEvent, NotWellKept, NotAwaited, AlreadyAgreed, OtherAgreed, NoBallotLeft, numbers_of}
use Rattle.consensus.specs.Step.{step}
use Rattle.calls.specs.Tables.{tables_ok, table_of}
use Rattle.calls.specs.declared.refusal.CallRefusal.{CallRefusal}
use Rattle.calls.specs.declared.refusal.CallRefusal.TheVariants as refusal
use Rattle.calls.specs.Call.{bad_tables, bad_line, longest_answer, box_of, event_of, Answered, on_record, Called, AfterCall, call, called_by_rules}

pub eight_numbers : (a : Answer) → length (numbers_of a) ≡ 8
eight_numbers Quiet = refl
eight_numbers (Sends m) = refl
eight_numbers BadTable = refl
eight_numbers BadEvent = refl
eight_numbers NotWellKept = refl
eight_numbers NotAwaited = refl
eight_numbers AlreadyAgreed = refl
eight_numbers OtherAgreed = refl
eight_numbers NoBallotLeft = refl

module _ (boxes : ℕ) (tables ns : List ℕ) where
  pub record_has_eight : length (on_record boxes tables ns).numbers ≡ 8
  unfolding on_record
  record_has_eight =
      by_test (λ (a : Answered). length a.numbers ≡ 8) (ltb (box_of ns) boxes) _ _
      (λ _. eight_numbers (step (table_of tables (box_of ns)) (event_of ns)).answer) (λ _. refl)

  pub answer_within : length (line_text (on_record boxes tables ns).numbers) ≤ longest_answer
  answer_within = omega (arith, record_has_eight, line_within (on_record boxes tables ns).numbers)

-- what is written is within the buffer
pub length_within : (line : List ℕ) (boxes : ℕ) (tables out : List ℕ) → (call line boxes tables out).called.length ≤ length out
unfolding call
length_within line boxes tables out =
    by_test Within (not (tables_ok boxes tables)) _ _ (λ _. omega arith)
    (λ _. by_test Within (not (eqb (read_record line).answer 0)) _ _ (λ _. omega arith)
    (λ _. by_test Within (ltb (length out) longest_answer) _ _ (λ _. omega arith)
    (λ room. omega (arith, ltb-false (length out) longest_answer room, answer_within boxes tables (read_record line).numbers))))
  where
    Within : AfterCall → Type 0
    Within a = a.called.length ≤ length out

-- the result of `call` that a `Called` tells
result_of : Called → Result ℕ CallRefusal
result_of c =
    if eqb c.answer 0 then Ok c.length
    else if eqb c.answer bad_tables then Err refusal.BadTables
    else if eqb c.answer bad_line then Err refusal.BadLine
    else Err refusal.ShortBuffer

told : (r : Result ℕ CallRefusal) → result_of (called_by_rules r) ≡ r
unfolding result_of
told (Ok n) = refl
told (Err refusal.BadTables) = refl
told (Err refusal.BadLine) = refl
told (Err refusal.ShortBuffer) = refl

-- no two results of `call` are one outcome by the rules
pub called_tells_result : (x y : Result ℕ CallRefusal) → called_by_rules x ≡ called_by_rules y → x ≡ y
called_tells_result x y same = sym (told x) ∙ ap result_of same ∙ told y
