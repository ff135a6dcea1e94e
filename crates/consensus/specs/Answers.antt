-- The answers of the rules, their numbers, and the answer that each result of the code stands for.
-- Cited by the contracts of the step, by the cases, and by whoever turns an answer into numbers.
use Rattle.std.specs.Prelude.{ℕ, Option, Some, None, Result, Ok, Err, List, [], ◌∷◌, get_or, replicate}
use Rattle.consensus.specs.declared.Event.{Event}
use Rattle.consensus.specs.declared.Message.{Message}
use Rattle.consensus.specs.declared.refusal.Refusal.{Refusal}
use Rattle.consensus.specs.declared.refusal.Refusal.TheVariants as refusal

-- what a step answers, as the rules have it: nothing, one message, or one of the refusals 1 to 7
pub data Answer : Type 0 where
  Quiet : Answer
  Sends : (m : Message) → Answer
  BadTable : Answer
  BadEvent : Answer
  NotWellKept : Answer
  NotAwaited : Answer
  AlreadyAgreed : Answer
  OtherAgreed : Answer
  NoBallotLeft : Answer

-- the six numbers of an event: kind, slot, from, ballot, second, value
abbrev pub event_numbers : Event → List ℕ
event_numbers e = e.kind ∷ e.slot.0 ∷ e.from ∷ e.ballot.0 ∷ e.second.0 ∷ e.value ∷ []

-- "A message out is a destination and six numbers."
abbrev pub message_numbers : Message → List ℕ
message_numbers m = m.to ∷ event_numbers m.event

-- "No message is seven zeros."
abbrev pub no_message : List ℕ
no_message = replicate 7 0

-- "Every answer but 0 goes with no message."
abbrev pub numbers_of : Answer → List ℕ
numbers_of Quiet = 0 ∷ no_message
numbers_of (Sends m) = 0 ∷ message_numbers m
numbers_of BadTable = 1 ∷ no_message
numbers_of BadEvent = 2 ∷ no_message
numbers_of NotWellKept = 3 ∷ no_message
numbers_of NotAwaited = 4 ∷ no_message
numbers_of AlreadyAgreed = 5 ∷ no_message
numbers_of OtherAgreed = 6 ∷ no_message
numbers_of NoBallotLeft = 7 ∷ no_message

-- the answer's number alone
abbrev pub answer_number : Answer → ℕ
answer_number a = get_or (numbers_of a) 0 0

-- ---- the rules' answer for what the code gives, case by case: the contracts speak of the code's results through these

abbrev pub message_by_rules : Option Message → Answer
message_by_rules None = Quiet
message_by_rules (Some m) = Sends m

abbrev pub refusal_by_rules : Refusal → Answer
refusal_by_rules refusal.BadTable = BadTable
refusal_by_rules refusal.BadEvent = BadEvent
refusal_by_rules refusal.NotWellKept = NotWellKept
refusal_by_rules refusal.NotAwaited = NotAwaited
refusal_by_rules refusal.AlreadyAgreed = AlreadyAgreed
refusal_by_rules refusal.OtherAgreed = OtherAgreed
refusal_by_rules refusal.NoBallotLeft = NoBallotLeft

abbrev pub answer_by_rules : Result (Option Message) Refusal → Answer
answer_by_rules (Ok m) = message_by_rules m
answer_by_rules (Err e) = refusal_by_rules e
