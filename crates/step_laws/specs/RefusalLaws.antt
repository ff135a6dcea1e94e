-- Which answers are refusals, and that a slot changes only under an answer 0: `Becomes` never goes with a refusal, `Refused` always does.
-- Relies on the definitions of each kind's step. Cited by the laws of the step on tables.
use Rattle.std.specs.Prelude.{◌≡◌, refl, Bool, true, false, not, ◌&&◌, ◌≢◌, eqb, ltb}
use Rattle.ballots.specs.Ballot.{max_x, next_x}
use Rattle.ballots.specs.Boxes.{with_box}
use Rattle.consensus.specs.declared.Head.{Head}
use Rattle.consensus.specs.declared.Room.{Room}
use Rattle.consensus.specs.declared.Event.{Event}
use Rattle.consensus.specs.declared.Message.{Message}
use Rattle.consensus.specs.Answers.{Answer, Quiet, Sends, BadTable, BadEvent, NotWellKept, NotAwaited, AlreadyAgreed, OtherAgreed, NoBallotLeft}
use Rattle.consensus.specs.Room.{promised, phase, own_ballot, lasts, accepts, agreed, idle, collecting, begun}
use Rattle.consensus.specs.Enough.{enough_to_collect, enough_to_begin}
use Rattle.consensus.specs.Events.{propose, collect, last, begin, accept, success}
use Rattle.consensus.specs.OnSlot.{Outcome, Becomes, Refused, awaited, on_propose, on_collect, on_last, on_begin, on_accept, on_success, on_old_round, on_slot}
use Rattle.step_laws.specs.ByTest.{by_either, by_answer}

-- every answer but 0
abbrev pub is_refusal : Answer → Bool
is_refusal Quiet = false
is_refusal (Sends m) = false
is_refusal BadTable = true
is_refusal BadEvent = true
is_refusal NotWellKept = true
is_refusal NotAwaited = true
is_refusal AlreadyAgreed = true
is_refusal OtherAgreed = true
is_refusal NoBallotLeft = true

pub neither_is_refusal : (a : Answer) → a ≢ Quiet → ((m : Message) → a ≢ Sends m) → is_refusal a ≡ true
neither_is_refusal Quiet loud silent = absurd (loud refl)
neither_is_refusal (Sends m) loud silent = absurd (silent m refl)
neither_is_refusal BadTable loud silent = refl
neither_is_refusal BadEvent loud silent = refl
neither_is_refusal NotWellKept loud silent = refl
neither_is_refusal NotAwaited loud silent = refl
neither_is_refusal AlreadyAgreed loud silent = refl
neither_is_refusal OtherAgreed loud silent = refl
neither_is_refusal NoBallotLeft loud silent = refl

-- the answer says whether the slot may change
abbrev pub answers_right : Outcome → Bool
answers_right (Becomes r a) = not (is_refusal a)
answers_right (Refused a) = is_refusal a

propose_answers_right : (h : Head) (r : Room) (e : Event) → answers_right (on_propose h r e) ≡ true
unfolding on_propose
propose_answers_right h r e =
    by_answer (eqb (agreed r) 0)
    (λ none. by_answer (ltb max_x (next_x (promised r))) (λ gone. simp (none, gone)) (λ left. simp (none, left)))
    (λ some. simp some)

collect_answers_right : (h : Head) (r : Room) (e : Event) → answers_right (on_collect h r e) ≡ true
unfolding on_collect
collect_answers_right h r e = by_answer (ltb e.ballot.0 (promised r)) (λ old. simp old) (λ fresh. simp fresh)

last_answers_right : (h : Head) (r : Room) (e : Event) → answers_right (on_last h r e) ≡ true
unfolding on_last
last_answers_right h r e =
    by_answer (awaited r e collecting (lasts r))
    (λ due. by_answer (enough_to_collect h (with_box (lasts r) e.from)) (λ enough. simp (due, enough)) (λ few. simp (due, few)))
    (λ not_due. simp not_due)

begin_answers_right : (h : Head) (r : Room) (e : Event) → answers_right (on_begin h r e) ≡ true
unfolding on_begin
begin_answers_right h r e = by_answer (ltb e.ballot.0 (promised r)) (λ old. simp old) (λ fresh. simp fresh)

accept_answers_right : (h : Head) (r : Room) (e : Event) → answers_right (on_accept h r e) ≡ true
unfolding on_accept
accept_answers_right h r e =
    by_answer (awaited r e begun (accepts r))
    (λ due. by_answer (enough_to_begin h (with_box (accepts r) e.from)) (λ enough. simp (due, enough)) (λ few. simp (due, few)))
    (λ not_due. simp not_due)

success_answers_right : (h : Head) (r : Room) (e : Event) → answers_right (on_success h r e) ≡ true
unfolding on_success
success_answers_right h r e =
    by_answer (eqb (agreed r) 0)
    (λ none. simp none)
    (λ some. by_answer (eqb (agreed r) e.value) (λ same. simp (some, same)) (λ other. simp (some, other)))

old_round_answers_right : (h : Head) (r : Room) (e : Event) → answers_right (on_old_round h r e) ≡ true
unfolding on_old_round
old_round_answers_right h r e =
    by_answer (not (eqb (phase r) idle) && eqb (own_ballot r) e.ballot.0) (λ ours. simp ours) (λ other. simp other)

-- what holds of each kind's outcome holds of the slot's
pub whatever_the_kind : (P : Outcome → Type 0) (h : Head) (r : Room) (e : Event) → P (on_propose h r e) → P (on_collect h r e)
    → P (on_last h r e) → P (on_begin h r e) → P (on_accept h r e) → P (on_success h r e) → P (on_old_round h r e) → P (on_slot h r e)
unfolding on_slot
whatever_the_kind P h r e of_propose of_collect of_last of_begin of_accept of_success of_old_round =
    by_either P (eqb e.kind propose) of_propose
    (by_either P (eqb e.kind collect) of_collect
    (by_either P (eqb e.kind last) of_last
    (by_either P (eqb e.kind begin) of_begin
    (by_either P (eqb e.kind accept) of_accept
    (by_either P (eqb e.kind success) of_success of_old_round)))))

pub on_slot_answers_right : (h : Head) (r : Room) (e : Event) → answers_right (on_slot h r e) ≡ true
on_slot_answers_right h r e =
    whatever_the_kind (λ (o : Outcome). answers_right o ≡ true) h r e
    (propose_answers_right h r e)
    (collect_answers_right h r e)
    (last_answers_right h r e)
    (begin_answers_right h r e)
    (accept_answers_right h r e)
    (success_answers_right h r e)
    (old_round_answers_right h r e)
