-- What a call puts out keeps the rules: the message is of the event's slot, from this box, to all boxes or to the sender.
-- Relies on the clauses of well kept and of events and on the law of each kind. Cited by proofs about runs.
use Rattle.std.specs.Prelude.{ℕ, ◌<◌, ◌≡◌, true, not, ◌&&◌, List, ◌≢◌, ◌⊎◌, ltb, eqb}
use Rattle.std.proofs.Math.Path.{refl}
use Rattle.std.proofs.Common.{sym, subst, ap, ◌∙◌, true≢false, arith}
use Rattle.std.proofs.Math.Logic.{inl, inr}
use borrow.Author.Tests.{ltb-true, ltb-false}
use Rattle.ballots.specs.Ballot.{max_x, next_x, is_ballot}
use Rattle.ballots.specs.Boxes.{with_box}
use Rattle.ballots.specs.BallotLaws.{none_or_ballot_cases, next_maker, next_is_ballot}
use Rattle.consensus.specs.declared.Head.{Head}
use Rattle.consensus.specs.declared.Room.{Room}
use Rattle.consensus.specs.declared.Event.{Event}
use Rattle.consensus.specs.declared.Message.{Message}
use Rattle.consensus.specs.Answers.{Answer, Quiet, Sends, BadTable, BadEvent, NotWellKept, NotAwaited, AlreadyAgreed, OtherAgreed, NoBallotLeft}
use Rattle.consensus.specs.Room.{promised, phase, own_ballot, lasts, accepts, agreed, idle, collecting, begun}
use Rattle.consensus.specs.Layout.{slots, head_of, room_at}
use Rattle.consensus.specs.Enough.{enough_to_collect, enough_to_begin}
use Rattle.consensus.specs.WellKept.{well_kept}
use Rattle.consensus.specs.Events.{propose, last, old_round, restart, event, event_ok}
use Rattle.consensus.specs.OnSlot.{Becomes, all_boxes, awaited, on_propose, on_collect, on_last, on_begin, on_accept, on_success, on_old_round, on_slot}
use Rattle.consensus.specs.Step.{Stepped, step}
use Rattle.step_laws.specs.ByTest.{by_answer}
use Rattle.step_laws.specs.HeadLaws.{HeadKept, table_clauses}
use Rattle.step_laws.specs.KeptLaws.{WellKept, RunningKept, kept_clauses}
use Rattle.step_laws.specs.EventLaws.{event_cases, CollectKept, LastKept, BeginKept, AcceptKept}
use Rattle.step_laws.specs.EventLaws.EventCases.{a_propose, a_collect, a_last, a_begin, an_accept, a_success, an_old_round, a_restart}
use Rattle.step_laws.specs.EventTests.{clauses_collect, clauses_last, clauses_begin, clauses_accept, clauses_success, clauses_old_round}
use Rattle.step_laws.specs.AwaitedLaws.{awaited_clauses}
use Rattle.step_laws.specs.LastKeeps.{last_keeps}
use Rattle.step_laws.specs.RefusalLaws.{is_refusal}
use Rattle.step_laws.specs.StepCases.{answer_of, ReachesSlot, step_at_restart, step_cases}
use Rattle.step_laws.specs.StepCases.StepCases.{refuses, restarts, settles}
use Rattle.step_laws.specs.StepKeeps.{step_answer_at_slot}

-- ---- the statement

-- m is a message that a box with head h may put out when it is called with e
pub record Sent (h : Head) (e : Event) (m : Message) : Type 0 where
  pub good_event : event_ok h.boxes m.event ≡ true
  pub same_slot : m.event.slot ≡ e.slot
  pub from_here : m.event.from ≡ h.index
  pub no_propose : m.event.kind ≢ propose
  pub no_restart : m.event.kind ≢ restart
  pub addressed : (m.to ≡ all_boxes) ⊎ (m.to ≡ e.from)

-- what an event may answer at its slot: a message as above, and none of 1, 2 and 3
abbrev pub MayAnswer : Head → Event → Answer → Type 0
MayAnswer h e Quiet = Unit {0}
MayAnswer h e (Sends m) = Sent h e m
MayAnswer h e BadTable = ⊥
MayAnswer h e BadEvent = ⊥
MayAnswer h e NotWellKept = ⊥
MayAnswer h e NotAwaited = Unit {0}
MayAnswer h e AlreadyAgreed = Unit {0}
MayAnswer h e OtherAgreed = Unit {0}
MayAnswer h e NoBallotLeft = Unit {0}

-- ---- one kind of event

module _ (h : Head) (r : Room) (e : Event) (good : HeadKept h) (k : WellKept h r) where
  propose_sends : e.slot.0 < slots → MayAnswer h e (answer_of (on_propose h r e))
  unfolding on_propose
  propose_sends below =
      by_answer (eqb (agreed r) 0)
      (λ none.
      by_answer (ltb max_x (next_x (promised r)))
      (λ gone. simp (none, gone) tt)
      (λ left. simp (none, left) (record {
        good_event = clauses_collect h.boxes _ refl (record {
          slot_below = below;
          from_below = good.index_below;
          some_ballot = next_is_ballot h.boxes (promised r) h.index good.index_below good.few_boxes (ltb-false max_x (next_x (promised r)) left);
          made_by_sender = next_maker (promised r) h.index (omega arith);
          no_second = refl;
          no_value = refl;
        });
        same_slot = refl;
        from_here = refl;
        no_propose = omega arith;
        no_restart = omega arith;
        addressed = inl refl;
      })))
      (λ some. simp some tt)

  -- a promise above a ballot is a ballot
  promised_above : (b : ℕ) → b < promised r → is_ballot h.boxes (promised r) ≡ true
  promised_above b above =
      elim (none_or_ballot_cases h.boxes (promised r) k.saved_is_kept.promised_or_none) [
        | inl none ↦ absurd (omega arith)
        | inr some ↦ some
      ]

  too_old_sent : e.slot.0 < slots → is_ballot h.boxes e.ballot.0 ≡ true → e.ballot.0 < promised r
      → Sent h e (record { to = e.from; event = event old_round e.slot.0 h.index e.ballot.0 (promised r) 0 })
  too_old_sent below some old =
      record {
        good_event = clauses_old_round h.boxes _ refl (record {
          slot_below = below;
          from_below = good.index_below;
          some_ballot = some;
          some_second = promised_above e.ballot.0 old;
          second_above_ballot = old;
          no_value = refl;
        });
        same_slot = refl;
        from_here = refl;
        no_propose = omega arith;
        no_restart = omega arith;
        addressed = inr refl;
      }

  collect_sends : CollectKept h.boxes e → MayAnswer h e (answer_of (on_collect h r e))
  unfolding on_collect
  collect_sends c =
      by_answer (ltb e.ballot.0 (promised r))
      (λ old. simp old (too_old_sent c.slot_below c.some_ballot (ltb-true e.ballot.0 (promised r) old)))
      (λ fresh. simp fresh (record {
        good_event = clauses_last h.boxes _ refl (record {
          slot_below = c.slot_below;
          from_below = good.index_below;
          some_ballot = c.some_ballot;
          second_or_none = k.saved_is_kept.accepted_or_none;
          second_at_most_ballot = omega (arith, ltb-false e.ballot.0 (promised r) fresh, k.saved_is_kept.accepted_at_most_promised);
          value_together = k.saved_is_kept.accepted_together;
        });
        same_slot = refl;
        from_here = refl;
        no_propose = omega arith;
        no_restart = omega arith;
        addressed = inr refl;
      }))

  -- the room that begins is well kept: so is what Begin carries
  last_sends : LastKept h.boxes e → e.kind ≡ last → event_ok h.boxes e ≡ true → well_kept h r ≡ true → MayAnswer h e (answer_of (on_last h r e))
  unfolding on_last
  last_sends c l ok kept =
      by_answer (awaited r e collecting (lasts r))
      (λ due.
      by_answer (enough_to_collect h (with_box (lasts r) e.from))
      (λ enough.
      let own : RunningKept h _ =
      (kept_clauses h _ (simp (due, enough) at (last_keeps h r e good l ok kept))).phase_is_kept.when_running (omega arith) in
      simp (due, enough) (record {
        good_event = clauses_begin h.boxes _ refl (record {
          slot_below = c.slot_below;
          from_below = good.index_below;
          some_ballot = own.own_is_ballot;
          made_by_sender = own.own_made_here;
          no_second = refl;
          some_value = own.own_value_is;
        });
        same_slot = refl;
        from_here = refl;
        no_propose = omega arith;
        no_restart = omega arith;
        addressed = inl refl;
      }))
      (λ few. simp (due, few) tt))
      (λ not_due. simp not_due tt)

  begin_sends : BeginKept h.boxes e → MayAnswer h e (answer_of (on_begin h r e))
  unfolding on_begin
  begin_sends c =
      by_answer (ltb e.ballot.0 (promised r))
      (λ old. simp old (too_old_sent c.slot_below c.some_ballot (ltb-true e.ballot.0 (promised r) old)))
      (λ fresh. simp fresh (record {
        good_event = clauses_accept h.boxes _ refl (record {
          slot_below = c.slot_below;
          from_below = good.index_below;
          some_ballot = c.some_ballot;
          no_second = refl;
          no_value = refl;
        });
        same_slot = refl;
        from_here = refl;
        no_propose = omega arith;
        no_restart = omega arith;
        addressed = inr refl;
      }))

  accept_sends : AcceptKept h.boxes e → MayAnswer h e (answer_of (on_accept h r e))
  unfolding on_accept
  accept_sends c =
      by_answer (awaited r e begun (accepts r))
      (λ due.
      let a = awaited_clauses r e begun (accepts r) due in
      by_answer (enough_to_begin h (with_box (accepts r) e.from))
      (λ enough. simp (due, enough) (record {
        good_event = clauses_success h.boxes _ refl (record {
          slot_below = c.slot_below;
          from_below = good.index_below;
          no_ballot = refl;
          no_second = refl;
          some_value = (k.phase_is_kept.when_running (omega (arith, a.in_phase))).own_value_is;
        });
        same_slot = refl;
        from_here = refl;
        no_propose = omega arith;
        no_restart = omega arith;
        addressed = inl refl;
      }))
      (λ few. simp (due, few) tt))
      (λ not_due. simp not_due tt)

success_sends : (h : Head) (r : Room) (e : Event) → MayAnswer h e (answer_of (on_success h r e))
unfolding on_success
success_sends h r e =
    by_answer (eqb (agreed r) 0)
    (λ none. simp none tt)
    (λ some. by_answer (eqb (agreed r) e.value) (λ same. simp (some, same) tt) (λ other. simp (some, other) tt))

old_round_sends : (h : Head) (r : Room) (e : Event) → MayAnswer h e (answer_of (on_old_round h r e))
unfolding on_old_round
old_round_sends h r e =
    by_answer (not (eqb (phase r) idle) && eqb (own_ballot r) e.ballot.0) (λ ours. simp ours tt) (λ other. simp other tt)

-- ---- any event that names a slot

pub on_slot_may_answer : (h : Head) (r : Room) (e : Event) → HeadKept h → event_ok h.boxes e ≡ true → e.kind ≢ restart → well_kept h r ≡ true
    → MayAnswer h e (answer_of (on_slot h r e))
unfolding on_slot
on_slot_may_answer h r e good ok other kept =
    let w = kept_clauses h r kept in
    elim (event_cases h.boxes e ok) [
      | a_propose k c ↦ simp k (propose_sends h r e good w c.slot_below)
      | a_collect k c ↦ simp k (collect_sends h r e good w c)
      | a_last k c ↦ simp k (last_sends h r e good w c k ok kept)
      | a_begin k c ↦ simp k (begin_sends h r e good w c)
      | an_accept k c ↦ simp k (accept_sends h r e good w c)
      | a_success k c ↦ simp k (success_sends h r e)
      | an_old_round k c ↦ simp k (old_round_sends h r e)
      | a_restart k c ↦ absurd (other k)
    ]

pub on_slot_sends : (h : Head) (r r' : Room) (e : Event) (m : Message) → HeadKept h → event_ok h.boxes e ≡ true → e.kind ≢ restart
    → well_kept h r ≡ true → on_slot h r e ≡ Becomes r' (Sends m) → Sent h e m
on_slot_sends h r r' e m good ok other kept becomes =
    subst (MayAnswer h e) (ap answer_of becomes) (on_slot_may_answer h r e good ok other kept)

-- ---- the step on a table

pub step_may_answer : (t : List ℕ) (e : Event) → ReachesSlot t e → MayAnswer (head_of t) e (step t e).answer
step_may_answer t e r =
    let good = (table_clauses t r.passes.good_table).head_kept in
    subst (MayAnswer (head_of t) e) (sym (step_answer_at_slot t e r))
    (on_slot_may_answer (head_of t) (room_at t e.slot.0) e good r.passes.good_event r.no_restart r.slot_kept)

pub step_sends : (t : List ℕ) (e : Event) (m : Message) → (step t e).answer ≡ Sends m → Sent (head_of t) e m
step_sends t e m sends =
    elim (step_cases t e) [
      | refuses a is eq ↦ absurd (true≢false (sym is ∙ sym (ap (λ (x : Stepped). is_refusal x.answer) eq) ∙ ap is_refusal sends))
      | restarts r ↦ absurd (let z : ◌≡◌ {A = ℕ} 0 1 = cc (sym sends ∙ ap (λ (x : Stepped). x.answer) (step_at_restart t e r)) in omega arith)
      | settles r ↦ subst (MayAnswer (head_of t) e) sends (step_may_answer t e r)
    ]
