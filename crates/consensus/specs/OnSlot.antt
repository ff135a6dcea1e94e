-- What each kind of event does to its slot: one definition for each bullet of the rules' step.
-- h is the box's head, r the slot's room, e an event that keeps the rules. Cited by the step on tables.
use Rattle.std.specs.Prelude.{ℕ, max, Option, Result, Ok, Err, Bool, not, ◌&&◌, ltb, eqb, if◌then◌else◌}
use Rattle.ballots.specs.Ballot.{max_x, next_x, next_ballot}
use Rattle.ballots.specs.Boxes.{holds_box, with_box}
use Rattle.consensus.specs.declared.Head.{Head}
use Rattle.consensus.specs.declared.Vote.{Vote}
use Rattle.consensus.specs.declared.Room.{Room}
use Rattle.consensus.specs.declared.Event.{Event}
use Rattle.consensus.specs.declared.Message.{Message}
use Rattle.consensus.specs.declared.refusal.Refusal.{Refusal}
use Rattle.consensus.specs.Answers.{Answer, Quiet, Sends, NotAwaited, AlreadyAgreed, OtherAgreed, NoBallotLeft, message_by_rules, refusal_by_rules}
use Rattle.consensus.specs.Room.{promised, accepted_ballot, accepted_value, phase, own_ballot, own_value, best_ballot, lasts, accepts, agreed, idle, collecting, begun, vote, saved, round, room, no_vote, no_round}
use Rattle.consensus.specs.Enough.{enough_to_collect, enough_to_begin}
use Rattle.consensus.specs.Events.{propose, collect, last, begin, accept, success, old_round, event}

-- what an event does to its slot: new numbers and an answer, or a refusal that leaves all as it was
pub data Outcome : Type 0 where
  Becomes : (r : Room) (a : Answer) → Outcome
  Refused : (a : Answer) → Outcome

-- the rules' outcome for what the code gives, case by case: the contracts speak of the code's results through it
abbrev pub outcome_by_rules : Result (Room × Option Message) Refusal → Outcome
outcome_by_rules (Ok x) = Becomes x.0 (message_by_rules x.1)
outcome_by_rules (Err e) = Refused (refusal_by_rules e)

-- "7 for all boxes, the sender included"
abbrev pub all_boxes : ℕ
all_boxes = 7

-- a message about e's slot from this box: to, kind, ballot, second, value
abbrev pub send : Head → Event → ℕ → ℕ → ℕ → ℕ → ℕ → Answer
send h e to k b b₂ v = Sends (record { to = to; event = event k e.slot.0 h.index b b₂ v })

-- "OldRound to the sender with ballot b and second the promised ballot; table unchanged"
abbrev pub too_old : Head → Room → Event → Outcome
too_old h r e = Becomes r (send h e e.from old_round e.ballot.0 (promised r) 0)

-- "Propose v. x is promised divided by 8, rounded down, plus 1; b = 8x + own index. Promised and own ballot become b,
-- phase 1, own value v, numbers 6 to 9 zero. Collect b to all." 5 where a value is agreed, 7 where no x is left.
unfoldable pub on_propose : Head → Room → Event → Outcome
on_propose h r e =
    if not (eqb (agreed r) 0) then Refused AlreadyAgreed
    else if ltb max_x (next_x (promised r)) then Refused NoBallotLeft
    else let b = next_ballot (promised r) h.index in
    Becomes (room (saved b r.saved.accepted) (round collecting (vote b e.value) no_vote 0 0) (agreed r))
    (send h e all_boxes collect b 0 0)

-- "Collect b. If b is below promised: OldRound. Otherwise promised becomes b; Last to the sender with b, accepted ballot, accepted value."
unfoldable pub on_collect : Head → Room → Event → Outcome
on_collect h r e =
    if ltb e.ballot.0 (promised r) then too_old h r e
    else Becomes (room (saved e.ballot.0 r.saved.accepted) r.round (agreed r))
    (send h e e.from last e.ballot.0 (accepted_ballot r) (accepted_value r))

-- "For phase p with own ballot b and a sender not yet counted"
abbrev pub awaited : Room → Event → ℕ → ℕ → Bool
awaited r e p counted = eqb (phase r) p && eqb (own_ballot r) e.ballot.0 && not (holds_box counted e.from)

-- "if second exceeds best ballot, keep second and value as best"
abbrev pub better : Room → Event → Vote
better r e = if ltb (best_ballot r) e.second.0 then vote e.second.0 e.value else r.round.best

-- "own value becomes best value where best ballot is not zero"
abbrev pub to_begin : Room → Vote → ℕ
to_begin r best = if eqb best.ballot.0 0 then own_value r else best.value

-- the sender counted: the round goes on collecting
abbrev pub collects_on : Room → Vote → ℕ → Room
collects_on r best counted = room r.saved (round collecting r.round.own best counted (accepts r)) (agreed r)

-- "phase 2; numbers 6 to 9 zero; Begin b with own value to all"
abbrev pub begins : Head → Room → Event → ℕ → Outcome
begins h r e v =
    Becomes (room r.saved (round begun (vote (own_ballot r) v) no_vote 0 0) (agreed r))
    (send h e all_boxes begin (own_ballot r) 0 v)

-- "Last b. For phase 1 with own ballot b and a sender not yet counted: count it; ... If the counted are now a majority:
-- own value becomes best value where best ballot is not zero; phase 2; numbers 6 to 9 zero; Begin b with own value to all."
unfoldable pub on_last : Head → Room → Event → Outcome
on_last h r e =
    let counted = with_box (lasts r) e.from in
    let best = better r e in
    if not (awaited r e collecting (lasts r)) then Refused NotAwaited
    else if not (enough_to_collect h counted) then Becomes (collects_on r best counted) Quiet
    else begins h r e (to_begin r best)

-- "Begin b, v. If b is below promised, as for Collect. Otherwise promised and accepted ballot become b, accepted value v; Accept b to the sender."
unfoldable pub on_begin : Head → Room → Event → Outcome
on_begin h r e =
    if ltb e.ballot.0 (promised r) then too_old h r e
    else Becomes (room (saved e.ballot.0 (vote e.ballot.0 e.value)) r.round (agreed r))
    (send h e e.from accept e.ballot.0 0 0)

-- the sender counted: the round goes on
abbrev pub begun_on : Room → ℕ → Room
begun_on r counted = room r.saved (round begun r.round.own r.round.best (lasts r) counted) (agreed r)

-- "agreed value becomes own value, numbers 3 to 9 zero, Success with that value to all"
abbrev pub agrees : Head → Room → Event → Outcome
agrees h r e = Becomes (room r.saved no_round (own_value r)) (send h e all_boxes success 0 0 (own_value r))

-- "Accept b. For phase 2 with own ballot b and a sender not yet counted: count it. At a majority: agreed value becomes
-- own value, numbers 3 to 9 zero, Success with that value to all."
unfoldable pub on_accept : Head → Room → Event → Outcome
on_accept h r e =
    let counted = with_box (accepts r) e.from in
    if not (awaited r e begun (accepts r)) then Refused NotAwaited
    else if not (enough_to_begin h counted) then Becomes (begun_on r counted) Quiet
    else agrees h r e

-- "Success v. If nothing is agreed: agreed value becomes v, numbers 3 to 9 zero, no message." 4 where v is agreed already, 6 where another value is.
unfoldable pub on_success : Head → Room → Event → Outcome
on_success h r e =
    if eqb (agreed r) 0 then Becomes (room r.saved no_round e.value) Quiet
    else if eqb (agreed r) e.value then Refused NotAwaited
    else Refused OtherAgreed

-- "OldRound b, p. For phase 1 or 2 with own ballot b: promised becomes the larger of itself and p; numbers 3 to 9 zero; no message."
unfoldable pub on_old_round : Head → Room → Event → Outcome
on_old_round h r e =
    if not (eqb (phase r) idle) && eqb (own_ballot r) e.ballot.0
    then Becomes (room (saved (max (promised r) e.second.0) r.saved.accepted) no_round (agreed r)) Quiet
    else Refused NotAwaited

-- "Restart. Numbers 3 to 10 of every slot zero": what it leaves of one slot
abbrev pub restarted : Room → Room
restarted r = room r.saved no_round 0

-- each kind of event that names a slot
unfoldable pub on_slot : Head → Room → Event → Outcome
on_slot h r e =
    if eqb e.kind propose then on_propose h r e
    else if eqb e.kind collect then on_collect h r e
    else if eqb e.kind last then on_last h r e
    else if eqb e.kind begin then on_begin h r e
    else if eqb e.kind accept then on_accept h r e
    else if eqb e.kind success then on_success h r e
    else on_old_round h r e
