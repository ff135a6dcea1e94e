-- Laws of the definitions of the step on a table: how a table is laid out, what well kept and a rule-keeping event say,
-- that every event leaves well kept slots well kept, when each answer is given, and that each contract has one answer.
-- Relies on ballots and consensus; cited by proofs about runs.
pub mod ByTest
pub mod StoreLaws
pub mod LayoutLaws
pub mod KeptLaws
pub mod EventLaws
pub mod EventTests
pub mod HeadLaws
pub mod OutcomeLaws
pub mod ProposeKeeps
pub mod CollectKeeps
pub mod BeginKeeps
pub mod SuccessKeeps
pub mod OldRoundKeeps
pub mod AwaitedLaws
pub mod LastKeeps
pub mod AcceptKeeps
pub mod RestartKeeps
pub mod OnSlotKeeps
pub mod RefusalLaws
pub mod StepCases
pub mod StepKeeps
pub mod GivenWhen
pub mod SlotAnswers
pub mod AnswerLaws
pub mod SentLaws
