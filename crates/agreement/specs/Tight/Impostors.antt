-- Step functions that are wrong in one place each, under the sentence of the rules that they break.
-- Each is the rules' own definition but for that place. Cited by the Tight files, which show that none keeps the promises.
use Rattle.std.specs.Prelude.{ℕ, zero, suc, ◌+◌, ◌*◌, ◌-◌, max, Bool, not, ◌&&◌, ◌||◌, List, ltb, eqb, get_or, if◌then◌else◌}
use Rattle.std.specs.Int.Count.{ones}
use Rattle.ballots.specs.Ballot.{max_boxes, max_x, is_ballot, none_or_ballot}
use Rattle.ballots.specs.Boxes.{holds_box, is_majority, with_box}
use Rattle.consensus.specs.declared.Head.{Head}
use Rattle.consensus.specs.declared.Room.{Room}
use Rattle.consensus.specs.declared.Event.{Event}
use Rattle.consensus.specs.declared.Message.{Message}
use Rattle.consensus.specs.Room.{promised, own_ballot, own_value, accepts, agreed, saved, room}
use Rattle.consensus.specs.Layout.{slots, head_of, room_at, with_room}
use Rattle.consensus.specs.Enough.{enough_to_collect, enough_to_begin}
use Rattle.consensus.specs.WellKept.{saved_kept, round_kept, idle_kept, running_kept, collecting_kept, begun_kept, phase_kept, well_kept}
use Rattle.consensus.specs.Events.{propose, collect, begin, accept, old_round, restart, event, field_ok, second_ok, value_ok, maker_ok, kind_ok, fields_ok, event_ok}
use Rattle.consensus.specs.Answers.{Answer, Quiet, Sends, BadTable, BadEvent, NotWellKept, numbers_of, answer_number}
use Rattle.consensus.specs.OnSlot.{Outcome, Becomes, Refused, send, too_old, on_propose, on_collect, on_last, on_begin, on_accept, on_success, on_old_round, on_slot}
use Rattle.consensus.specs.Step.{Stepped, table_ok, refuse, settle, all_saved_kept, restart_slots, on_restart, step}
use Rattle.agreement.specs.Runs.{StepFunction}

-- ---- the step with another part

-- what an event does to its slot
abbrev pub SlotRule : Type 0
SlotRule = Head → Room → Event → Outcome

-- `step`, with another test of a slot and another rule for an event that names one; where it unfolds, so does all that a call computes
unfoldable pub step_keeping : (Head → Room → Bool) → SlotRule → StepFunction
unfolding table_ok all_saved_kept restart_slots on_restart on_slot on_propose on_collect on_last on_begin on_accept on_success on_old_round event_ok kind_ok fields_ok field_ok second_ok value_ok maker_ok well_kept saved_kept round_kept phase_kept idle_kept running_kept collecting_kept begun_kept enough_to_collect enough_to_begin is_ballot none_or_ballot holds_box is_majority with_box ones
step_keeping kept on t e =
    let h = head_of t in
    let r = room_at t e.slot.0 in
    let restarts = on_restart t in
    let settles = settle t e.slot.0 (on h r e) in
    if not (table_ok t) then refuse t BadTable
    else if not (event_ok h.boxes e) then refuse t BadEvent
    else if eqb e.kind restart then restarts
    else if kept h r then settles
    else refuse t NotWellKept

-- `step`, with another rule for an event that names a slot
abbrev pub step_with : SlotRule → StepFunction
step_with on = step_keeping well_kept on

-- the rules' slot rule, with another one for events of kind k
abbrev pub instead : ℕ → SlotRule → SlotRule
instead k on h r e = if eqb e.kind k then on h r e else on_slot h r e

-- ---- "These must not get through"

-- "a step that refuses all": with answer a, whichever it is
abbrev pub refuses_all : Answer → StepFunction
refuses_all a t e = refuse t a

-- "one that sends the same message always": the table as the step leaves it, and m
abbrev pub sends_always : Message → StepFunction
sends_always m t e = record { table = (step t e).table; answer = Sends m }

-- "one that leaves the table alone": the answer as the step gives it
abbrev pub leaves_table : StepFunction
leaves_table t e = record { table = t; answer = (step t e).answer }

-- the room with v agreed
abbrev agreeing : ℕ → Room → Room
agreeing v r = room r.saved r.round v

-- what becomes of the slot, changed; a refusal as it is
becoming : (Room → Room) → Outcome → Outcome
becoming change (Becomes r a) = Becomes (change r) a
becoming change (Refused a) = Refused a

-- "one that agrees at Propose and then acts out the votes": v is agreed at once and the Collect sent all the same.
-- So that the votes go on, a slot is well kept whatever it has agreed.
unfoldable pub agrees_at_propose : StepFunction
unfolding step_keeping becoming
agrees_at_propose =
    step_keeping (λ h r. well_kept h (agreeing 0 r)) (instead propose (λ h r e. becoming (agreeing e.value) (on_propose h r e)))

-- the slot's rule, which asks the box count for its two majorities alone, told another one
abbrev pub told : (ℕ → ℕ) → SlotRule
told count h r e = on_slot (record { boxes = count h.boxes; index = h.index }) r e

-- "a majority taken from an invented count": any function of the box count
unfoldable pub invents_count : (ℕ → ℕ) → StepFunction
unfolding step_keeping
invents_count count = step_with (told count)

-- ---- "Mistakes to shut out"

-- the room with promise p
abbrev promising : ℕ → Room → Room
promising p r = room (saved p r.saved.accepted) r.round (agreed r)

-- "Choosing the next ballot from numbers that a restart loses": from the own ballot; the promise rises to it and never falls
unfoldable pub next_from_own : StepFunction
unfolding step_keeping becoming
next_from_own =
    step_with (instead propose (λ h r e.
    becoming (λ (x : Room). promising (max (promised r) (promised x)) x) (on_propose h (promising (own_ballot r) r) e)))

-- the lowest box from k on that is not in the set s, of as many boxes as are left
lowest_out : ℕ → ℕ → ℕ → ℕ
lowest_out zero k s = k
lowest_out (suc left) k s = if holds_box s k then lowest_out left (suc k) s else k

-- the event as if box i had sent it
abbrev sent_by : ℕ → Event → Event
sent_by i e = event e.kind e.slot.0 i e.ballot.0 e.second.0 e.value

-- "Counting a repeated Accept twice": one of a box counted already counts for the lowest box that is not
unfoldable pub counts_twice : StepFunction
unfolding step_keeping lowest_out
counts_twice =
    step_with (instead accept (λ h r e.
    on_accept h r (if holds_box (accepts r) e.from then sent_by (lowest_out max_boxes 0 (accepts r)) e else e)))

-- "Answering Collect only when b is above promised"
unfoldable pub answers_above : StepFunction
unfolding step_keeping
answers_above =
    step_with (instead collect (λ h r e. if ltb (promised r) e.ballot.0 then on_collect h r e else too_old h r e))

-- ---- boards that say no after a while

-- the largest ballot that there is among n boxes
abbrev largest_ballot : ℕ → ℕ
largest_ballot n = 8 * max_x + (n - 1)

-- the first k slots of t, but for slot s, with the largest ballot promised
promised_all : ℕ → ℕ → List ℕ → List ℕ
promised_all zero s t = t
promised_all (suc k) s t =
    let u = promised_all k s t in
    let raised = with_room u k (promising (largest_ballot (head_of u).boxes) (room_at u k)) in
    if eqb k s then u else raised

-- the step, but an event of kind k that is answered 0 also promises the largest ballot in each slot but one
promises_at : ℕ → (Event → ℕ) → StepFunction
promises_at k but t e =
    let done = step_with on_slot t e in
    let promises : Stepped = record { table = promised_all slots (but e) done.table; answer = done.answer } in
    if eqb e.kind k && eqb (answer_number done.answer) 0 then promises else done

-- every Begin that is answered 0 promises the largest ballot in all other slots
unfoldable pub promises_at_begin : StepFunction
unfolding promises_at promised_all step_keeping
promises_at_begin = promises_at begin (λ e. e.slot.0)

-- and so does every Restart, in all slots
unfoldable pub promises_at_restart : StepFunction
unfolding promises_at promised_all step_keeping
promises_at_restart = promises_at restart (λ e. slots)

-- OldRound tells of the largest ballot instead of the promised one
unfoldable pub tells_largest : StepFunction
unfolding step_keeping
tells_largest =
    step_with (λ h r e.
    if (eqb e.kind collect || eqb e.kind begin) && ltb e.ballot.0 (promised r)
    then Becomes r (send h e e.from old_round e.ballot.0 (largest_ballot h.boxes) 0)
    else on_slot h r e)

-- ---- boards that leave something out

-- the kind of the message that an answer puts out, as its numbers show it
abbrev pub message_kind : Answer → ℕ
message_kind a = get_or (numbers_of a) 2 0

-- never sends a message of kind k, and is the step in all else
abbrev pub never_sends : ℕ → StepFunction
never_sends k t e =
    let done = step t e in
    record { table = done.table; answer = if eqb (message_kind done.answer) k then Quiet else done.answer }

-- an event of kind k changes nothing and is answered a
abbrev pub ignores : ℕ → Answer → StepFunction
ignores k a t e = if eqb e.kind k then refuse t a else step t e

-- the event with value v
abbrev valued : ℕ → Event → Event
valued v e = event e.kind e.slot.0 e.from e.ballot.0 e.second.0 v

-- drops the proposed value and proposes its own earlier one, where a round of its own is running
unfoldable pub keeps_own_value : StepFunction
unfolding step_keeping
keeps_own_value = step_with (instead propose (λ h r e. on_propose h r (if eqb (own_value r) 0 then e else valued (own_value r) e)))
