-- Answers 4 to 7 at the event's slot, both ways: what each says of the slot's room, and which answer each condition gives.
-- Relies on GivenWhen and the definitions of each kind's step. Cited by AnswerLaws.
use Rattle.std.specs.Prelude.{ℕ, ◌≤◌, ◌≡◌, Bool, true, false, not, ◌&&◌, ◌≢◌, ◌⊎◌, eqb, ltb}
use Rattle.std.proofs.Common.{sym, ◌∙◌, true≢false, inl, inr, arith, ltb-true, eqb-true, lt-ltb, eq-eqb, ne_eqb}
use Rattle.std.proofs.Math.Decide.{ℕ_discrete}
use Rattle.std.proofs.lemmas.Bool.{eqb-false, not-true}
use Rattle.ballots.specs.Ballot.{max_x, next_x}
use Rattle.ballots.specs.Boxes.{with_box}
use Rattle.consensus.specs.declared.Head.{Head}
use Rattle.consensus.specs.declared.Room.{Room}
use Rattle.consensus.specs.declared.Event.{Event}
use Rattle.consensus.specs.Answers.{Answer, Quiet, Sends, BadTable, BadEvent, NotWellKept, NotAwaited, AlreadyAgreed, OtherAgreed, NoBallotLeft}
use Rattle.consensus.specs.Room.{promised, phase, own_ballot, lasts, accepts, agreed, idle, collecting, begun}
use Rattle.consensus.specs.Enough.{enough_to_collect, enough_to_begin}
use Rattle.consensus.specs.WellKept.{well_kept}
use Rattle.consensus.specs.Events.{propose, last, accept, success, old_round, restart, event_ok}
use Rattle.consensus.specs.OnSlot.{Refused, awaited, on_propose, on_collect, on_last, on_begin, on_accept, on_success, on_old_round, on_slot}
use Rattle.step_laws.specs.ByTest.{by_answer, conjuncts, false_unless}
use Rattle.step_laws.specs.KeptLaws.{kept_clauses}
use Rattle.step_laws.specs.EventLaws.{event_cases}
use Rattle.step_laws.specs.EventLaws.EventCases.{a_propose, a_collect, a_last, a_begin, an_accept, a_success, an_old_round, a_restart}
use Rattle.step_laws.specs.AwaitedLaws.{Awaited, awaited_clauses, clauses_awaited}
use Rattle.step_laws.specs.StepCases.{answer_of}
use Rattle.step_laws.specs.GivenWhen.{RunsRound, NotMet, ProposesWhereAgreed, SuccessWithAnother, ProposesPastMaxX}
use Rattle.step_laws.specs.GivenWhen.NotMet.{last_not_met, accept_not_met, old_round_not_met, agreed_already}

-- ---- the "for" clauses as tests

not_awaited : (r : Room) (e : Event) (p counted : ℕ) → ¬ Awaited r e p counted → awaited r e p counted ≡ false
not_awaited r e p counted none = false_unless (awaited r e p counted) (λ due. none (awaited_clauses r e p counted due))

-- "For phase 1 or 2 with own ballot b"
abbrev runs_round : Room → Event → Bool
runs_round r e = not (eqb (phase r) idle) && eqb (own_ballot r) e.ballot.0

runs_round_clauses : (r : Room) (e : Event) → phase r ≤ begun → runs_round r e ≡ true → RunsRound r e
runs_round_clauses r e few ours =
    record {
      in_phase = running (eqb-false (phase r) idle (not-true (eqb (phase r) idle) (search conjuncts)));
      own_round = eqb-true (own_ballot r) e.ballot.0 (search conjuncts);
    }
  where
    running : phase r ≢ idle → (phase r ≡ collecting) ⊎ (phase r ≡ begun)
    running some =
        elim (ℕ_discrete (phase r) collecting) [
          | yes is ↦ inl is
          | no other ↦ inr (omega arith)
        ]

clauses_runs_round : (r : Room) (e : Event) → RunsRound r e → runs_round r e ≡ true
clauses_runs_round r e c = simp (ne_eqb (phase r) idle (running c.in_phase), eq-eqb (own_ballot r) e.ballot.0 c.own_round)
  where
    running : (phase r ≡ collecting) ⊎ (phase r ≡ begun) → phase r ≢ idle
    running (inl is) = omega arith
    running (inr is) = omega arith

-- ---- what each answer says of the room

abbrev pub SlotAnswers : Room → Event → Answer → Type 0
SlotAnswers r e Quiet = Unit {0}
SlotAnswers r e (Sends m) = Unit {0}
SlotAnswers r e BadTable = ⊥
SlotAnswers r e BadEvent = ⊥
SlotAnswers r e NotWellKept = ⊥
SlotAnswers r e NotAwaited = NotMet r e
SlotAnswers r e AlreadyAgreed = ProposesWhereAgreed r e
SlotAnswers r e OtherAgreed = SuccessWithAnother r e
SlotAnswers r e NoBallotLeft = ProposesPastMaxX r e

propose_answers : (h : Head) (r : Room) (e : Event) → e.kind ≡ propose → SlotAnswers r e (answer_of (on_propose h r e))
unfolding on_propose
propose_answers h r e k =
    by_answer (eqb (agreed r) 0)
    (λ none.
    by_answer (ltb max_x (next_x (promised r)))
    (λ gone. simp (none, gone) (record {
      a_propose = k;
      nothing_agreed = eqb-true (agreed r) 0 none;
      no_x_left = ltb-true max_x (next_x (promised r)) gone;
    }))
    (λ left. simp (none, left) tt))
    (λ some. simp some (record { a_propose = k; some_agreed = eqb-false (agreed r) 0 some }))

collect_answers : (h : Head) (r : Room) (e : Event) → SlotAnswers r e (answer_of (on_collect h r e))
unfolding on_collect
collect_answers h r e = by_answer (ltb e.ballot.0 (promised r)) (λ old. simp old tt) (λ fresh. simp fresh tt)

last_answers : (h : Head) (r : Room) (e : Event) → e.kind ≡ last → SlotAnswers r e (answer_of (on_last h r e))
unfolding on_last
last_answers h r e k =
    by_answer (awaited r e collecting (lasts r))
    (λ due. by_answer (enough_to_collect h (with_box (lasts r) e.from)) (λ enough. simp (due, enough) tt) (λ few. simp (due, few) tt))
    (λ not_due. simp not_due (last_not_met k (λ a. true≢false (sym (clauses_awaited r e collecting (lasts r) a) ∙ not_due))))

begin_answers : (h : Head) (r : Room) (e : Event) → SlotAnswers r e (answer_of (on_begin h r e))
unfolding on_begin
begin_answers h r e = by_answer (ltb e.ballot.0 (promised r)) (λ old. simp old tt) (λ fresh. simp fresh tt)

accept_answers : (h : Head) (r : Room) (e : Event) → e.kind ≡ accept → SlotAnswers r e (answer_of (on_accept h r e))
unfolding on_accept
accept_answers h r e k =
    by_answer (awaited r e begun (accepts r))
    (λ due. by_answer (enough_to_begin h (with_box (accepts r) e.from)) (λ enough. simp (due, enough) tt) (λ few. simp (due, few) tt))
    (λ not_due. simp not_due (accept_not_met k (λ a. true≢false (sym (clauses_awaited r e begun (accepts r) a) ∙ not_due))))

success_answers : (h : Head) (r : Room) (e : Event) → e.kind ≡ success → SlotAnswers r e (answer_of (on_success h r e))
unfolding on_success
success_answers h r e k =
    by_answer (eqb (agreed r) 0)
    (λ none. simp none tt)
    (λ some.
    by_answer (eqb (agreed r) e.value)
    (λ same. simp (some, same) (agreed_already k (eqb-false (agreed r) 0 some) (eqb-true (agreed r) e.value same)))
    (λ other. simp (some, other) (record {
      a_success = k;
      some_agreed = eqb-false (agreed r) 0 some;
      another_value = eqb-false (agreed r) e.value other;
    })))

old_round_answers : (h : Head) (r : Room) (e : Event) → e.kind ≡ old_round → SlotAnswers r e (answer_of (on_old_round h r e))
unfolding on_old_round
old_round_answers h r e k =
    by_answer (runs_round r e)
    (λ ours. simp ours tt)
    (λ other. simp other (old_round_not_met k (λ c. true≢false (sym (clauses_runs_round r e c) ∙ other))))

pub slot_answers : (h : Head) (r : Room) (e : Event) → event_ok h.boxes e ≡ true → e.kind ≢ restart
    → SlotAnswers r e (answer_of (on_slot h r e))
unfolding on_slot
slot_answers h r e ok other =
    elim (event_cases h.boxes e ok) [
      | a_propose k c ↦ simp k (propose_answers h r e k)
      | a_collect k c ↦ simp k (collect_answers h r e)
      | a_last k c ↦ simp k (last_answers h r e k)
      | a_begin k c ↦ simp k (begin_answers h r e)
      | an_accept k c ↦ simp k (accept_answers h r e k)
      | a_success k c ↦ simp k (success_answers h r e k)
      | an_old_round k c ↦ simp k (old_round_answers h r e k)
      | a_restart k c ↦ absurd (other k)
    ]

-- ---- which answer each condition gives

pub not_met_refused : (h : Head) (r : Room) (e : Event) → well_kept h r ≡ true → NotMet r e → on_slot h r e ≡ Refused NotAwaited
unfolding on_slot on_last on_accept on_success on_old_round
not_met_refused h r e kept (last_not_met k none) = simp (k, not_awaited r e collecting (lasts r) none)
not_met_refused h r e kept (accept_not_met k none) = simp (k, not_awaited r e begun (accepts r) none)
not_met_refused h r e kept (old_round_not_met k none) =
    let few = (kept_clauses h r kept).round_is_kept.phase_at_most_begun in
    simp (k, false_unless (runs_round r e) (λ ours. none (runs_round_clauses r e few ours)))
not_met_refused h r e kept (agreed_already k some same) = simp (k, ne_eqb (agreed r) 0 some, eq-eqb (agreed r) e.value same)

pub agreed_propose_refused : (h : Head) (r : Room) (e : Event) → ProposesWhereAgreed r e → on_slot h r e ≡ Refused AlreadyAgreed
unfolding on_slot on_propose
agreed_propose_refused h r e c = simp (c.a_propose, ne_eqb (agreed r) 0 c.some_agreed)

pub another_success_refused : (h : Head) (r : Room) (e : Event) → SuccessWithAnother r e → on_slot h r e ≡ Refused OtherAgreed
unfolding on_slot on_success
another_success_refused h r e c =
    simp (c.a_success, ne_eqb (agreed r) 0 c.some_agreed, ne_eqb (agreed r) e.value c.another_value)

pub past_max_refused : (h : Head) (r : Room) (e : Event) → ProposesPastMaxX r e → on_slot h r e ≡ Refused NoBallotLeft
unfolding on_slot on_propose
past_max_refused h r e c = simp (c.a_propose, c.nothing_agreed, lt-ltb max_x (next_x (promised r)) c.no_x_left)
