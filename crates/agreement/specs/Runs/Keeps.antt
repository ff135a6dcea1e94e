-- Reachable worlds keep their tables: each box its head and every slot well kept, and every message put out keeps the rules.
-- So no call of a run answers 3, and a delivered one answers neither 1 nor 2. Relies on the laws of the step; cited by every proof about runs.
use Rattle.std.specs.Prelude.{ℕ, ◌≤◌, ◌<◌, ◌≡◌, refl, true, List, ◌∷◌, ◌≢◌, ◌⊎◌, eqb}
use Rattle.std.proofs.Common.{sym, ap, subst, ◌∙◌, inl, inr, ⊎_elim, arith, le_refl, eqb-true, eq-eqb, ne_eqb}
use Rattle.std.proofs.Math.Decide.{ℕ_discrete}
use Rattle.ballots.specs.Ballot.{max_boxes}
use Rattle.ballots.specs.BallotLaws.{zero_none_or_ballot}
use Rattle.consensus.specs.declared.Head.{Head}
use Rattle.consensus.specs.declared.Room.{Room}
use Rattle.consensus.specs.declared.Event.{Event}
use Rattle.consensus.specs.declared.Message.{Message}
use Rattle.consensus.specs.Room.{saved, no_vote}
use Rattle.consensus.specs.Layout.{slots, head_of, room_at, fresh}
use Rattle.consensus.specs.WellKept.{well_kept}
use Rattle.consensus.specs.Events.{propose, restart, event_ok}
use Rattle.consensus.specs.Step.{Stepped, table_ok, step}
use Rattle.consensus.specs.Answers.{Answer, Quiet, Sends, BadTable, BadEvent, NotWellKept, NotAwaited, AlreadyAgreed, OtherAgreed, NoBallotLeft, answer_number}
use Rattle.step_laws.specs.ByTest.{by_test, by_answer}
use Rattle.step_laws.specs.LayoutLaws.{fresh_room, length_fresh, room_at_fresh}
use Rattle.step_laws.specs.HeadLaws.{HeadKept, table_clauses, clauses_table}
use Rattle.step_laws.specs.KeptLaws.{SavedKept, kept_clauses, clauses_kept, clauses_saved, both_zero}
use Rattle.step_laws.specs.OutcomeLaws.{idle_room_kept}
use Rattle.step_laws.specs.RestartKeeps.{all_saved_kept_if_each}
use Rattle.step_laws.specs.EventLaws.{ProposeKept, propose_clauses, names_a_slot}
use Rattle.step_laws.specs.StepCases.{PassesRules, ReachesSlot, RestartsAll, step_at_restart, step_bad_event}
use Rattle.step_laws.specs.StepKeeps.{step_keeps_length, step_keeps_head, step_keeps_well_kept}
use Rattle.step_laws.specs.SentLaws.{Sent, MayAnswer, step_may_answer, step_sends}
use Rattle.agreement.specs.Runs.{World, start, Among, Delivered, with_message, with_table, answer_to, after, MayCall, Run}
use Rattle.agreement.specs.Runs.Run.{still, ◌and_then◌}

-- ---- the statement

-- the head of box i of n
abbrev pub head_in : ℕ → ℕ → Head
head_in n i = record { boxes = n; index = i }

pub record BoxKept (n i : ℕ) (t : List ℕ) : Type 0 where
  pub good_table : table_ok t ≡ true
  pub head_is : head_of t ≡ head_in n i
  pub slots_kept : (s : ℕ) → s < slots → well_kept (head_of t) (room_at t s) ≡ true

pub record ParcelKept (n : ℕ) (m : Message) : Type 0 where
  pub good_event : event_ok n m.event ≡ true
  pub from_below : m.event.from < n
  pub no_propose : m.event.kind ≢ propose
  pub no_restart : m.event.kind ≢ restart

pub record RunKept (n : ℕ) (w : World) : Type 0 where
  pub boxes_kept : (i : ℕ) → i < n → BoxKept n i (w.tables i)
  pub parcels_kept : (m : Message) → Among m w.parcels → ParcelKept n m

-- ---- the start

fresh_saved_kept : (h : Head) → SavedKept h (saved 0 no_vote)
fresh_saved_kept h =
    record {
      promised_or_none = zero_none_or_ballot h.boxes;
      accepted_or_none = zero_none_or_ballot h.boxes;
      accepted_at_most_promised = le_refl 0;
      accepted_together = both_zero;
    }

fresh_kept : (n i : ℕ) → 1 ≤ n → n ≤ max_boxes → i < n → BoxKept n i (fresh n i)
fresh_kept n i some few box =
    record {
      good_table = clauses_table (fresh n i) (record {
        whole = length_fresh n i;
        head_kept = record { some_boxes = some; few_boxes = few; index_below = box };
      });
      head_is = refl;
      slots_kept = λ s below.
          subst (λ (r : Room). well_kept (head_in n i) r ≡ true) (sym (room_at_fresh n i s))
          (clauses_kept (head_in n i) fresh_room (idle_room_kept (head_in n i) (saved 0 no_vote) 0 (fresh_saved_kept (head_in n i))));
    }

pub start_kept : (n : ℕ) → 1 ≤ n → n ≤ max_boxes → RunKept n (start n)
start_kept n some few = record { boxes_kept = λ i box. fresh_kept n i some few box; parcels_kept = λ m none. absurd none }

-- ---- one call

step_keeps_box : (n i : ℕ) (t : List ℕ) (e : Event) → BoxKept n i t → BoxKept n i (step t e).table
step_keeps_box n i t e k =
    let c = table_clauses t k.good_table in
    record {
      good_table = clauses_table (step t e).table (record {
        whole = step_keeps_length t e ∙ c.whole;
        head_kept = subst HeadKept (sym (step_keeps_head t e)) c.head_kept;
      });
      head_is = step_keeps_head t e ∙ k.head_is;
      slots_kept = λ s below.
          subst (λ (h : Head). well_kept h (room_at (step t e).table s) ≡ true) (sym (step_keeps_head t e))
          (step_keeps_well_kept t e s below (k.slots_kept s below));
    }

-- a message that a kept box puts out
sent_kept : (n i : ℕ) (h : Head) (e : Event) (m : Message) → i < n → h ≡ head_in n i → Sent h e m → ParcelKept n m
sent_kept n i h e m box head sent =
    record {
      good_event = subst (λ (x : Head). event_ok x.boxes m.event ≡ true) head sent.good_event;
      from_below = omega (arith, sent.from_here ∙ ap (λ (x : Head). x.index) head);
      no_propose = sent.no_propose;
      no_restart = sent.no_restart;
    }

-- the messages after an answer are those before, with the one that it puts out if it does
by_message : (P : List Message → Type 0) (a : Answer) (ps : List Message) → P ps → ((m : Message) → a ≡ Sends m → P (m ∷ ps)) → P (with_message a ps)
by_message P Quiet ps none one = none
by_message P (Sends m) ps none one = one m refl
by_message P BadTable ps none one = none
by_message P BadEvent ps none one = none
by_message P NotWellKept ps none one = none
by_message P NotAwaited ps none one = none
by_message P AlreadyAgreed ps none one = none
by_message P OtherAgreed ps none one = none
by_message P NoBallotLeft ps none one = none

pub with_message_keeps : (P : Message → Type 0) (a : Answer) (ps : List Message) → ((m : Message) → a ≡ Sends m → P m)
    → ((m : Message) → Among m ps → P m) → (m : Message) → Among m (with_message a ps) → P m
with_message_keeps P a ps new old =
    by_message (λ qs. (m : Message) → Among m qs → P m) a ps old (λ x sends m. ⊎_elim (λ same. subst P (sym same) (new x sends)) (old m))

pub with_message_adds : (m : Message) (a : Answer) (ps : List Message) → Among m ps → Among m (with_message a ps)
with_message_adds m a ps among = by_message (Among m) a ps among (λ x sends. inr among)

-- after a call the called box has the new table, and every other box its own
pub table_here : (tables : ℕ → List ℕ) (i : ℕ) (t : List ℕ) → with_table tables i t i ≡ t
table_here tables i t = simp (eq-eqb i i refl)

pub table_elsewhere : (tables : ℕ → List ℕ) (i j : ℕ) (t : List ℕ) → j ≢ i → with_table tables i t j ≡ tables j
table_elsewhere tables i j t other = simp (ne_eqb j i other)

pub call_keeps : (n : ℕ) (w : World) (i : ℕ) (e : Event) → RunKept n w → MayCall n w i e → RunKept n (after step w i e)
call_keeps n w i e k may =
    let box = k.boxes_kept i may.a_box in
    record {
      boxes_kept = λ j below.
          by_test (BoxKept n j) (eqb j i) (step (w.tables i) e).table (w.tables j)
          (λ same.
          subst (λ (x : ℕ). BoxKept n x (step (w.tables i) e).table) (sym (eqb-true j i same))
          (step_keeps_box n i (w.tables i) e box))
          (λ other. k.boxes_kept j below);
      parcels_kept =
          with_message_keeps (ParcelKept n) (answer_to step w i e) w.parcels
          (λ m sends. sent_kept n i (head_of (w.tables i)) e m may.a_box box.head_is (step_sends (w.tables i) e m sends))
          k.parcels_kept;
    }

-- ---- a run

pub run_keeps : (n : ℕ) (w u : World) → RunKept n w → Run step n w u → RunKept n u
run_keeps n w u k still = k
run_keeps n w u k (◌and_then◌ {u = v} {i = i} {e = e} run may) = call_keeps n v i e (run_keeps n w v k run) may

pub reachable_kept : (n : ℕ) (w : World) → 1 ≤ n → n ≤ max_boxes → Run step n (start n) w → RunKept n w
reachable_kept n w some few run = run_keeps n (start n) w (start_kept n some few) run

-- ---- what a call may answer

passes_rules : (n i : ℕ) (t : List ℕ) (e : Event) → BoxKept n i t → event_ok n e ≡ true → PassesRules t e
passes_rules n i t e k ok =
    record {
      good_table = k.good_table;
      good_event = subst (λ (h : Head). event_ok h.boxes e ≡ true) (sym k.head_is) ok;
    }

-- a kept box, called with an event that names a slot and keeps the rules, comes to its slot
pub reaches_slot : (n i : ℕ) (t : List ℕ) (e : Event) → BoxKept n i t → event_ok n e ≡ true → e.kind ≢ restart → ReachesSlot t e
reaches_slot n i t e k ok other =
    record {
      passes = passes_rules n i t e k ok;
      no_restart = other;
      slot_kept = k.slots_kept e.slot.0 (names_a_slot n e ok other);
    }

-- none of 1, 2 and 3
abbrev pub PastThree : ℕ → Type 0
PastThree a = (a ≡ 0) ⊎ (3 < a)

past_three : (h : Head) (e : Event) (a : Answer) → MayAnswer h e a → PastThree (answer_number a)
past_three h e Quiet may = inl refl
past_three h e (Sends m) may = inl refl
past_three h e BadTable may = absurd may
past_three h e BadEvent may = absurd may
past_three h e NotWellKept may = absurd may
past_three h e NotAwaited may = inr (omega arith)
past_three h e AlreadyAgreed may = inr (omega arith)
past_three h e OtherAgreed may = inr (omega arith)
past_three h e NoBallotLeft may = inr (omega arith)

pub restarts_all : (n i : ℕ) (t : List ℕ) (e : Event) → BoxKept n i t → event_ok n e ≡ true → e.kind ≡ restart → RestartsAll t e
restarts_all n i t e k ok is =
    record {
      passes = passes_rules n i t e k ok;
      a_restart = is;
      all_kept = all_saved_kept_if_each slots t
          (λ s below. clauses_saved (head_of t) (room_at t s) (kept_clauses (head_of t) (room_at t s) (k.slots_kept s below)).saved_is_kept);
    }

-- a kept box answers none of 1, 2 and 3 to an event that keeps the rules
pub kept_answers : (n i : ℕ) (t : List ℕ) (e : Event) → BoxKept n i t → event_ok n e ≡ true → PastThree (answer_number (step t e).answer)
kept_answers n i t e k ok =
    elim (ℕ_discrete e.kind restart) [
      | yes is ↦ inl (ap (λ (x : Stepped). answer_number x.answer) (step_at_restart t e (restarts_all n i t e k ok is)))
      | no other ↦ past_three (head_of t) e (step t e).answer (step_may_answer t e (reaches_slot n i t e k ok other))
    ]

pub call_never_answers_3 : (n : ℕ) (w : World) (i : ℕ) (e : Event) → RunKept n w → MayCall n w i e → answer_number (answer_to step w i e) ≢ 3
call_never_answers_3 n w i e k may three =
    let box = k.boxes_kept i may.a_box in
    by_answer (event_ok (head_of (w.tables i)).boxes e)
    (λ ok.
    elim (kept_answers n i (w.tables i) e box (subst (λ (h : Head). event_ok h.boxes e ≡ true) box.head_is ok)) [
      | inl none ↦ omega arith
      | inr past ↦ omega arith
    ])
    (λ bad. omega (arith, ap (λ (x : Stepped). answer_number x.answer) (step_bad_event (w.tables i) e box.good_table bad)))

-- an event that comes to its slot is a Propose that keeps the rules, or was put out: what holds of those holds of it
pub proposed_or_put_out : (P : Event → Type 0) (n : ℕ) (w : World) (i : ℕ) (e : Event) → MayCall n w i e → ReachesSlot (w.tables i) e
    → (e.kind ≡ propose → ProposeKept (head_of (w.tables i)).boxes e → P e) → ((m : Message) → Among m w.parcels → P m.event) → P e
proposed_or_put_out P n w i e may r of_propose of_parcels =
    ⊎_elim
    (⊎_elim (λ kind. of_propose kind (propose_clauses _ e kind r.passes.good_event)) (λ kind. absurd (r.no_restart kind)))
    (λ delivered. subst P delivered.carried (of_parcels delivered.message delivered.put_out))
    may.source

-- what is delivered keeps the rules
pub delivered_ok : (n : ℕ) (w : World) (i : ℕ) (e : Event) → RunKept n w → Delivered w i e → event_ok n e ≡ true
delivered_ok n w i e k d = subst (λ (x : Event). event_ok n x ≡ true) d.carried (k.parcels_kept d.message d.put_out).good_event

pub delivered_answers : (n : ℕ) (w : World) (i : ℕ) (e : Event) → RunKept n w → i < n → Delivered w i e → PastThree (answer_number (answer_to step w i e))
delivered_answers n w i e k box d = kept_answers n i (w.tables i) e (k.boxes_kept i box) (delivered_ok n w i e k d)
