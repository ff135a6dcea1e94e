-- The starred cases of the rules, in one table under one statement: what each case gives is what the rules want of it.
-- A case calls a box's step with event after event, and writes each answer as the rules' eight numbers.
use Rattle.std.specs.Prelude.{ℕ, ◌≡◌, refl, List, [], ◌∷◌, map}
use Rattle.std.specs.Int.Count.{ones}
use Rattle.ballots.specs.Ballot.{is_ballot, none_or_ballot}
use Rattle.ballots.specs.Boxes.{holds_box, is_majority, with_box}
use Rattle.consensus.specs.declared.Room.{Room}
use Rattle.consensus.specs.declared.Event.{Event}
use Rattle.consensus.specs.Room.{collecting, vote, saved, round, room, no_vote, no_round}
use Rattle.consensus.specs.Layout.{fresh, with_room}
use Rattle.consensus.specs.Enough.{enough_to_collect, enough_to_begin}
use Rattle.consensus.specs.WellKept.{saved_kept, round_kept, idle_kept, running_kept, collecting_kept, begun_kept, phase_kept, well_kept}
use Rattle.consensus.specs.Events.{propose, collect, last, begin, accept, success, old_round, event, field_ok, second_ok, value_ok, maker_ok, kind_ok, fields_ok, event_ok}
use Rattle.consensus.specs.Answers.{no_message, numbers_of}
use Rattle.consensus.specs.OnSlot.{all_boxes, on_propose, on_collect, on_last, on_begin, on_accept, on_success, on_old_round, on_slot}
use Rattle.consensus.specs.Step.{table_ok, on_event, step}

-- what a case gives, and what the rules want
pub record Case : Type 0 where
  pub gives : List (List ℕ)
  pub wants : List (List ℕ)

abbrev pub CasesHold : List Case → Type 0
CasesHold cases = map (λ (c : Case). c.gives) cases ≡ map (λ (c : Case). c.wants) cases

-- a call and the eight numbers that it answers
pub record Call : Type 0 where
  pub event : Event
  pub answers : List ℕ

abbrev pub call : Event → List ℕ → Call
call e a = record { event = e; answers = a }

-- the answers to the calls on a table, one after the other
unfoldable pub answers_to : List ℕ → List Call → List (List ℕ)
unfolding step table_ok on_event on_slot on_propose on_collect on_last on_begin on_accept on_success on_old_round event_ok kind_ok fields_ok field_ok second_ok value_ok maker_ok well_kept saved_kept round_kept phase_kept idle_kept running_kept collecting_kept begun_kept enough_to_collect enough_to_begin is_ballot none_or_ballot holds_box is_majority with_box ones
answers_to t [] = []
answers_to t (c ∷ cs) = numbers_of (step t c.event).answer ∷ answers_to (step t c.event).table cs

-- the calls on a box of n with index i, all zero but for the room of slot 0
unfoldable pub calling : ℕ → ℕ → Room → List Call → Case
unfolding answers_to
calling n i r cs = record { gives = answers_to (with_room (fresh n i) 0 r) cs; wants = map (λ (c : Call). c.answers) cs }

-- a slot that has promised p, and nothing else
abbrev promises : ℕ → Room
promises p = room (saved p no_vote) no_round 0

-- a slot whose box is collecting under its own ballot b for value v
abbrev collects : ℕ → ℕ → Room
collects b v = room (saved b no_vote) (round collecting (vote b v) no_vote 0 0) 0

-- author 1, link 2, revision 0, ticket 7
abbrev pub command : ℕ
command = 283673999966215

-- K1 "the case above, step by step"
pub K1 : Case
unfolding calling
K1 =
    calling 1 0 (promises 0)
    (call (event propose 0 0 0 0 command) (0 ∷ 7 ∷ 2 ∷ 0 ∷ 0 ∷ 8 ∷ 0 ∷ 0 ∷ [])
    ∷ call (event collect 0 0 8 0 0) (0 ∷ 0 ∷ 3 ∷ 0 ∷ 0 ∷ 8 ∷ 0 ∷ 0 ∷ [])
    ∷ call (event last 0 0 8 0 0) (0 ∷ 7 ∷ 4 ∷ 0 ∷ 0 ∷ 8 ∷ 0 ∷ command ∷ [])
    ∷ call (event begin 0 0 8 0 command) (0 ∷ 0 ∷ 5 ∷ 0 ∷ 0 ∷ 8 ∷ 0 ∷ 0 ∷ [])
    ∷ call (event accept 0 0 8 0 0) (0 ∷ 7 ∷ 6 ∷ 0 ∷ 0 ∷ 0 ∷ 0 ∷ command ∷ [])
    ∷ call (event success 0 0 0 0 command) (4 ∷ no_message)
    ∷ [])

-- K2 "N 3, box 2, fresh: Propose gives ballot 10."
pub K2 : Case
unfolding calling
K2 = calling 3 2 (promises 0) (call (event propose 0 0 0 0 5) (0 ∷ all_boxes ∷ collect ∷ 0 ∷ 2 ∷ 10 ∷ 0 ∷ 0 ∷ []) ∷ [])

-- K3 "Box 0, promised 10: Propose gives 16."
pub K3 : Case
unfolding calling
K3 = calling 3 0 (promises 10) (call (event propose 0 0 0 0 5) (0 ∷ all_boxes ∷ collect ∷ 0 ∷ 0 ∷ 16 ∷ 0 ∷ 0 ∷ []) ∷ [])

-- K4 "Promised 16, Collect 10: OldRound to 2 with 10 and 16." K5 "Collect 16: Last."
pub K4-K5 : Case
unfolding calling
K4-K5 =
    calling 3 1 (promises 16)
    (call (event collect 0 2 10 0 0) (0 ∷ 2 ∷ old_round ∷ 0 ∷ 1 ∷ 10 ∷ 16 ∷ 0 ∷ [])
    ∷ call (event collect 0 0 16 0 0) (0 ∷ 0 ∷ last ∷ 0 ∷ 1 ∷ 16 ∷ 0 ∷ 0 ∷ [])
    ∷ [])

-- K6 "N 4: two Lasts begin nothing, the third does."
pub K6 : Case
unfolding calling
K6 =
    calling 4 0 (collects 8 5)
    (call (event last 0 0 8 0 0) (0 ∷ no_message)
    ∷ call (event last 0 1 8 0 0) (0 ∷ no_message)
    ∷ call (event last 0 2 8 0 0) (0 ∷ all_boxes ∷ begin ∷ 0 ∷ 0 ∷ 8 ∷ 0 ∷ 5 ∷ [])
    ∷ [])

-- K7 "N 3, ballot 16, Lasts with (0, 0) and (10, 9): Begin carries 9."
pub K7 : Case
unfolding calling
K7 =
    calling 3 0 (collects 16 5)
    (call (event last 0 0 16 0 0) (0 ∷ no_message)
    ∷ call (event last 0 2 16 10 9) (0 ∷ all_boxes ∷ begin ∷ 0 ∷ 0 ∷ 16 ∷ 0 ∷ 9 ∷ [])
    ∷ [])

-- K8 "N 7, box 6, promised 34359738366: Propose answers 7."
pub K8 : Case
unfolding calling
K8 = calling 7 6 (promises 34359738366) (call (event propose 0 0 0 0 5) (7 ∷ no_message) ∷ [])

-- K9 "Agreed 11, Success 9: answer 6."
pub K9 : Case
unfolding calling
K9 = calling 1 0 (room (saved 0 no_vote) no_round 11) (call (event success 0 0 0 0 9) (6 ∷ no_message) ∷ [])

abbrev pub starred_cases : List Case
starred_cases = K1 ∷ K2 ∷ K3 ∷ K4-K5 ∷ K6 ∷ K7 ∷ K8 ∷ K9 ∷ []

pub starred_cases_hold : CasesHold starred_cases
unfolding K1 K2 K3 K4-K5 K6 K7 K8 K9
starred_cases_hold = refl
