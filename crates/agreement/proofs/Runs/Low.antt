-- Promises stay low: no promise, and no ballot in a message, has an x above the number of Proposes that the run answered with 0.
-- Relies on the clauses of well kept and the laws of the step. Cited by the promises.
use Rattle.std.specs.Prelude.{ℕ, ◌+◌, ◌≤◌, ◌<◌, ◌≡◌, Bool, true, not, ◌&&◌, ◌≢◌, List, ltb, get_or}
use Rattle.std.proofs.Common.{sym, ap, subst, subst₂, ◌∙◌, true≢false, arith, eq-eqb}
use Rattle.std.proofs.Math.Decide.{ℕ_discrete}
use Rattle.std.proofs.Math.Dec.{eqb}
use Rattle.ballots.specs.Ballot.{max_x, x_of, next_x}
use Rattle.ballots.specs.Boxes.{with_box}
use Rattle.consensus.specs.declared.Head.{Head}
use Rattle.consensus.specs.declared.Room.{Room}
use Rattle.consensus.specs.declared.Event.{Event}
use Rattle.consensus.specs.declared.Message.{Message}
use Rattle.consensus.specs.Room.{promised, phase, own_ballot, lasts, accepts, agreed, idle, collecting, begun}
use Rattle.consensus.specs.Layout.{slots, head_of, room_at}
use Rattle.consensus.specs.Enough.{enough_to_collect, enough_to_begin}
use Rattle.consensus.specs.Events.{propose, restart, event_ok}
use Rattle.consensus.specs.Answers.{Answer, Quiet, Sends, numbers_of}
use Rattle.consensus.specs.OnSlot.{Outcome, awaited, on_propose, on_collect, on_last, on_begin, on_accept, on_success, on_old_round, on_slot}
use Rattle.consensus.specs.Step.{Stepped, step}
use Rattle.step_laws.specs.ByTest.{by_either}
use Rattle.step_laws.specs.HeadLaws.{HeadKept, table_clauses}
use Rattle.step_laws.specs.KeptLaws.{WellKept, kept_clauses}
use Rattle.step_laws.specs.LayoutLaws.{room_at_fresh}
use Rattle.step_laws.specs.EventLaws.{names_a_slot, event_cases}
use Rattle.step_laws.specs.EventLaws.EventCases.{a_propose, a_collect, a_last, a_begin, an_accept, a_success, an_old_round, a_restart}
use Rattle.step_laws.specs.RefusalLaws.{is_refusal}
use Rattle.step_laws.specs.StepCases.{ReachesSlot, RestartsAll, room_after, answer_of, step_at_restart, step_cases}
use Rattle.step_laws.specs.StepCases.StepCases.{refuses, restarts, settles}
use Rattle.step_laws.specs.StepKeeps.{step_room_at_slot, step_answer_at_slot, step_keeps_other, step_restarts}
use Rattle.agreement.specs.Runs.{World, start, Among, answer_to, after, MayCall, Run, proposals, proposals_in, has_promised}
use Rattle.agreement.specs.Runs.Run.{still, ◌and_then◌}
use Rattle.agreement.specs.Runs.Keeps.{with_message_keeps, proposed_or_put_out}

-- ---- the statement

-- both ballots of an event have an x of at most c
record EventLow (c : ℕ) (e : Event) : Type 0 where
  ballot_low : x_of e.ballot.0 ≤ c
  second_low : x_of e.second.0 ≤ c

-- and so have all promises and all messages of a world
record WorldLow (c : ℕ) (w : World) : Type 0 where
  promises_low : (i s : ℕ) → s < slots → x_of (has_promised w i s) ≤ c
  parcels_low : (m : Message) → Among m w.parcels → EventLow c m.event

-- ---- one event on its slot

-- a room's promise, and the ballot and the second that an answer's numbers show: zero where it puts out nothing
record Low (c : ℕ) (r : Room) (a : Answer) : Type 0 where
  promise_low : x_of (promised r) ≤ c
  ballot_low : x_of (get_or (numbers_of a) 5 0) ≤ c
  second_low : x_of (get_or (numbers_of a) 6 0) ≤ c

own_at_most_promised : (h : Head) (r : Room) → WellKept h r → own_ballot r ≤ promised r
own_at_most_promised h r k =
    elim (ℕ_discrete (phase r) idle) [
      | yes rest ↦ omega (arith, (k.phase_is_kept.when_idle rest).no_own_ballot)
      | no running ↦ (k.phase_is_kept.when_running running).own_at_most_promised
    ]

module _ (h : Head) (r : Room) (e : Event) (c : ℕ) (is_propose : Bool) (good : HeadKept h) (k : WellKept h r) (low : x_of (promised r) ≤ c) (said : EventLow c e) where
  abbrev OutcomeLow : Outcome → Type 0
  OutcomeLow o = Low (c + proposals is_propose (answer_of o)) (room_after r o) (answer_of o)

  -- the one new ballot: its x is one above the promise's
  propose_low : is_propose ≡ true → OutcomeLow (on_propose h r e)
  unfolding on_propose
  propose_low is =
      by_either OutcomeLow (not (eqb (agreed r) 0)) (omega arith)
      (by_either OutcomeLow (ltb max_x (next_x (promised r))) (omega arith) (simp is (omega arith)))

  collect_low : OutcomeLow (on_collect h r e)
  unfolding on_collect
  collect_low = by_either OutcomeLow (ltb e.ballot.0 (promised r)) (omega arith) (omega arith)

  last_low : OutcomeLow (on_last h r e)
  unfolding on_last
  last_low =
      by_either OutcomeLow (not (awaited r e collecting (lasts r))) (omega arith)
      (by_either OutcomeLow (not (enough_to_collect h (with_box (lasts r) e.from))) (omega arith)
      (omega (arith, own_at_most_promised h r k)))

  begin_low : OutcomeLow (on_begin h r e)
  unfolding on_begin
  begin_low = by_either OutcomeLow (ltb e.ballot.0 (promised r)) (omega arith) (omega arith)

  accept_low : OutcomeLow (on_accept h r e)
  unfolding on_accept
  accept_low =
      by_either OutcomeLow (not (awaited r e begun (accepts r))) (omega arith)
      (by_either OutcomeLow (not (enough_to_begin h (with_box (accepts r) e.from))) (omega arith) (omega arith))

  success_low : OutcomeLow (on_success h r e)
  unfolding on_success
  success_low =
      by_either OutcomeLow (eqb (agreed r) 0) (omega arith)
      (by_either OutcomeLow (eqb (agreed r) e.value) (omega arith) (omega arith))

  old_round_low : OutcomeLow (on_old_round h r e)
  unfolding on_old_round
  old_round_low = by_either OutcomeLow (not (eqb (phase r) idle) && eqb (own_ballot r) e.ballot.0) (omega arith) (omega arith)

  on_slot_low : event_ok h.boxes e ≡ true → e.kind ≢ restart → (e.kind ≡ propose → is_propose ≡ true) → OutcomeLow (on_slot h r e)
  unfolding on_slot
  on_slot_low ok other is =
      elim (event_cases h.boxes e ok) [
        | a_propose kind x ↦ simp kind (propose_low (is kind))
        | a_collect kind x ↦ simp kind collect_low
        | a_last kind x ↦ simp kind last_low
        | a_begin kind x ↦ simp kind begin_low
        | an_accept kind x ↦ simp kind accept_low
        | a_success kind x ↦ simp kind success_low
        | an_old_round kind x ↦ simp kind old_round_low
        | a_restart kind x ↦ absurd (other kind)
      ]

-- ---- one call

-- what a step leaves in every slot and puts out
record SteppedLow (c : ℕ) (x : Stepped) : Type 0 where
  promises_low : (s : ℕ) → s < slots → x_of (promised (room_at x.table s)) ≤ c
  sends_low : (m : Message) → x.answer ≡ Sends m → EventLow c m.event

module _ (t : List ℕ) (e : Event) (c : ℕ) (low : (s : ℕ) → s < slots → x_of (promised (room_at t s)) ≤ c) where
  abbrev now : ℕ
  now = c + proposals (eqb e.kind propose) (step t e).answer

  refused_low : (a : Answer) → is_refusal a ≡ true → step t e ≡ record { table = t; answer = a } → SteppedLow now (step t e)
  refused_low a refusal same =
      record {
        promises_low = λ s below. omega (arith, low s below, ap (λ (x : Stepped). promised (room_at x.table s)) same);
        sends_low = λ m sends. absurd (true≢false (sym refusal ∙ ap is_refusal (sym (ap (λ (x : Stepped). x.answer) same) ∙ sends)));
      }

  restarted_low : RestartsAll t e → SteppedLow now (step t e)
  restarted_low r =
      let quiet : (step t e).answer ≡ Quiet = ap (λ (x : Stepped). x.answer) (step_at_restart t e r) in
      record {
        promises_low = λ s below.
            omega (arith, low s below, ap (λ (x : Room). promised x) (step_restarts t e r.a_restart quiet s below).room_restarted);
        sends_low = λ m sends. absurd (let z : ◌≡◌ {A = ℕ} 0 1 = cc (sym quiet ∙ sends) in omega arith);
      }

  settled_low : ReachesSlot t e → EventLow c e → SteppedLow now (step t e)
  settled_low r said =
      let below = names_a_slot (head_of t).boxes e r.passes.good_event r.no_restart in
      let here : Low now (room_at (step t e).table e.slot.0) (step t e).answer =
      subst₂ (λ (a : Answer) (x : Room). Low (c + proposals (eqb e.kind propose) a) x a)
      (sym (step_answer_at_slot t e r)) (sym (step_room_at_slot t e r))
      (on_slot_low (head_of t) (room_at t e.slot.0) e c (eqb e.kind propose)
      (table_clauses t r.passes.good_table).head_kept (kept_clauses (head_of t) (room_at t e.slot.0) r.slot_kept)
      (low e.slot.0 below) said r.passes.good_event r.no_restart (eq-eqb e.kind propose)) in
      record {
        promises_low = λ s at.
            elim (ℕ_discrete s e.slot.0) [
              | yes same ↦ subst (λ (x : ℕ). x_of (promised (room_at (step t e).table x)) ≤ now) (sym same) here.promise_low
              | no other ↦ omega (arith, low s at, ap (λ (x : Room). promised x) (step_keeps_other t e s r.no_restart other))
            ];
        sends_low = λ m sends.
            let sent = subst (Low now (room_at (step t e).table e.slot.0)) sends here in
            record { ballot_low = sent.ballot_low; second_low = sent.second_low };
      }

  step_low : (ReachesSlot t e → EventLow c e) → SteppedLow now (step t e)
  step_low said =
      elim (step_cases t e) [
        | refuses a refusal same ↦ refused_low a refusal same
        | restarts r ↦ restarted_low r
        | settles r ↦ settled_low r (said r)
      ]

-- a Propose has no ballots
called_low : (n : ℕ) (w : World) (i : ℕ) (e : Event) (c : ℕ) → WorldLow c w → MayCall n w i e → ReachesSlot (w.tables i) e → EventLow c e
called_low n w i e c k may r = proposed_or_put_out (EventLow c) n w i e may r (λ kind x. omega arith) k.parcels_low

call_low : (n : ℕ) (w : World) (i : ℕ) (e : Event) (c : ℕ) → WorldLow c w → MayCall n w i e
    → WorldLow (c + proposals (eqb e.kind propose) (answer_to step w i e)) (after step w i e)
call_low n w i e c k may =
    let stepped = step_low (w.tables i) e c (k.promises_low i) (called_low n w i e c k may) in
    let count = c + proposals (eqb e.kind propose) (answer_to step w i e) in
    record {
      promises_low = λ j s below.
          by_either (λ (t : List ℕ). x_of (promised (room_at t s)) ≤ count) (eqb j i) (stepped.promises_low s below)
          (omega (arith, k.promises_low j s below));
      parcels_low =
          with_message_keeps (λ (m : Message). EventLow count m.event) (answer_to step w i e) w.parcels stepped.sends_low
          (λ m among. let old = k.parcels_low m among in omega arith);
    }

-- ---- a run

start_low : (n : ℕ) → WorldLow 0 (start n)
start_low n =
    record {
      promises_low = λ i s below. omega (arith, ap (λ (r : Room). promised r) (room_at_fresh n i s));
      parcels_low = λ m none. absurd none;
    }

run_low : (n : ℕ) (w : World) (run : Run step n (start n) w) → WorldLow (proposals_in run) w
run_low n w still = start_low n
run_low n w (◌and_then◌ {u = u} {i = i} {e = e} run may) = call_low n u i e (proposals_in run) (run_low n u run) may

pub promises_stay_low : (n : ℕ) (w : World) (i s : ℕ) (run : Run step n (start n) w) → s < slots → x_of (has_promised w i s) ≤ proposals_in run
promises_stay_low n w i s run slot = (run_low n w run).promises_low i s slot
