-- The rules' table of answers as a definition: for each number, when exactly the step gives it, in the rules' words.
-- Relies on the tests of the step and on the ways of a call. Cited by SlotAnswers and AnswerLaws, which prove the table right.
use Rattle.std.specs.Prelude.{ℕ, ◌≤◌, ◌<◌, ◌≡◌, true, false, List, [], ◌∷◌, ◌≢◌, ◌⊎◌, length, get_or}
use Rattle.ballots.specs.Ballot.{max_boxes, max_x, next_x}
use Rattle.consensus.specs.declared.Room.{Room}
use Rattle.consensus.specs.declared.Event.{Event}
use Rattle.consensus.specs.Room.{promised, phase, own_ballot, lasts, accepts, agreed, collecting, begun}
use Rattle.consensus.specs.Layout.{slots, table_size, head_of, room_at}
use Rattle.consensus.specs.WellKept.{saved_kept, well_kept}
use Rattle.consensus.specs.Events.{propose, last, accept, success, old_round, restart, event_ok}
use Rattle.consensus.specs.Step.{table_ok}
use Rattle.step_laws.specs.AwaitedLaws.{Awaited}
use Rattle.step_laws.specs.StepCases.{PassesRules, ReachesSlot}

-- ---- 1, 2, 3: "the lowest of 1, 2, 3 that holds is given"

-- 1 "table not 706 long, N not 1 to 7, or index not below N"
pub data TableBreaksRules (t : List ℕ) : Type 0 where
  wrong_length : length t ≢ table_size → TableBreaksRules t
  no_boxes : (head_of t).boxes < 1 → TableBreaksRules t
  too_many_boxes : max_boxes < (head_of t).boxes → TableBreaksRules t
  index_not_below : (head_of t).boxes ≤ (head_of t).index → TableBreaksRules t

-- 2 "event breaks the section on events"
pub record EventBreaksRules (t : List ℕ) (e : Event) : Type 0 where
  pub good_table : table_ok t ≡ true
  pub event_breaks : event_ok (head_of t).boxes e ≡ false

-- "the event's slot not well kept; for Restart, any slot whose numbers 0 to 2 break their rules"
pub data NotKept (t : List ℕ) (e : Event) : Type 0 where
  slot_not_kept : e.kind ≢ restart → well_kept (head_of t) (room_at t e.slot.0) ≡ false → NotKept t e
  saved_not_kept : e.kind ≡ restart → (s : ℕ) → s < slots → saved_kept (head_of t) (room_at t s) ≡ false → NotKept t e

-- 3, where 1 and 2 are not given
pub record SlotBreaksRules (t : List ℕ) (e : Event) : Type 0 where
  pub passes : PassesRules t e
  pub not_kept : NotKept t e

-- ---- 4 to 7: what room r has for event e

-- "For phase 1 or 2 with own ballot b"
pub record RunsRound (r : Room) (e : Event) : Type 0 where
  pub in_phase : (phase r ≡ collecting) ⊎ (phase r ≡ begun)
  pub own_round : own_ballot r ≡ e.ballot.0

-- 4 "Last, Accept or OldRound not meeting its "for" clause; Success with the value already agreed"
pub data NotMet (r : Room) (e : Event) : Type 0 where
  last_not_met : e.kind ≡ last → ¬ Awaited r e collecting (lasts r) → NotMet r e
  accept_not_met : e.kind ≡ accept → ¬ Awaited r e begun (accepts r) → NotMet r e
  old_round_not_met : e.kind ≡ old_round → ¬ RunsRound r e → NotMet r e
  agreed_already : e.kind ≡ success → agreed r ≢ 0 → agreed r ≡ e.value → NotMet r e

-- 5 "Propose where a value is agreed"
pub record ProposesWhereAgreed (r : Room) (e : Event) : Type 0 where
  pub a_propose : e.kind ≡ propose
  pub some_agreed : agreed r ≢ 0

-- 6 "Success with another value than the agreed one"
pub record SuccessWithAnother (r : Room) (e : Event) : Type 0 where
  pub a_success : e.kind ≡ success
  pub some_agreed : agreed r ≢ 0
  pub another_value : agreed r ≢ e.value

-- 7 "Propose whose x would exceed 4,294,967,295", "5 before 7"
pub record ProposesPastMaxX (r : Room) (e : Event) : Type 0 where
  pub a_propose : e.kind ≡ propose
  pub nothing_agreed : agreed r ≡ 0
  pub no_x_left : max_x < next_x (promised r)

-- the event reaches its slot (1, 2 and 3 are not given), and the slot's room has this for it
pub record AtItsSlot (Has : Room → Event → Type 0) (t : List ℕ) (e : Event) : Type 0 where
  pub reaches : ReachesSlot t e
  pub has : Has (room_at t e.slot.0) e

-- ---- the table

-- 0 "none below holds"
pub record NoneBelowHolds (t : List ℕ) (e : Event) : Type 0 where
  pub not_1 : ¬ TableBreaksRules t
  pub not_2 : ¬ EventBreaksRules t e
  pub not_3 : ¬ SlotBreaksRules t e
  pub not_4 : ¬ AtItsSlot NotMet t e
  pub not_5 : ¬ AtItsSlot ProposesWhereAgreed t e
  pub not_6 : ¬ AtItsSlot SuccessWithAnother t e
  pub not_7 : ¬ AtItsSlot ProposesPastMaxX t e

-- the rows 0 to 7, "given exactly when"
abbrev pub answer_table : List ℕ → Event → List (Type 0)
answer_table t e =
    NoneBelowHolds t e
    ∷ TableBreaksRules t
    ∷ EventBreaksRules t e
    ∷ SlotBreaksRules t e
    ∷ AtItsSlot NotMet t e
    ∷ AtItsSlot ProposesWhereAgreed t e
    ∷ AtItsSlot SuccessWithAnother t e
    ∷ AtItsSlot ProposesPastMaxX t e
    ∷ []

-- row n; the step gives no other number
abbrev pub GivenWhen : List ℕ → Event → ℕ → Type 0
GivenWhen t e n = get_or (answer_table t e) n ⊥
