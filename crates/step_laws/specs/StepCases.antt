-- What a call of the step comes to: a refusal before any slot is changed, every slot restarted, or the event's slot settled.
-- Relies on the laws of layout, head and refusals. Cited by StepKeeps and by proofs about runs.
use Rattle.std.specs.Prelude.{ℕ, ◌<◌, ◌≡◌, refl, true, false, List, ◌≢◌, length}
use Rattle.std.proofs.Common.{sym, ◌∙◌, true≢false, eq-eqb, ne_eqb}
use Rattle.std.proofs.Math.Decide.{ℕ_discrete}
use Rattle.std.proofs.lemmas.Bool.{not-true}
use Rattle.consensus.specs.declared.Room.{Room}
use Rattle.consensus.specs.declared.Event.{Event}
use Rattle.consensus.specs.Answers.{Answer, Quiet, BadTable, BadEvent, NotWellKept}
use Rattle.consensus.specs.Layout.{slots, table_size, head_of, room_at}
use Rattle.consensus.specs.WellKept.{well_kept}
use Rattle.consensus.specs.Events.{restart, event_ok}
use Rattle.consensus.specs.OnSlot.{Outcome, Becomes, Refused, on_slot}
use Rattle.consensus.specs.Step.{table_ok, refuse, settle, all_saved_kept, restart_slots, on_restart, on_event, step}
use Rattle.step_laws.specs.ByTest.{by_answer}
use Rattle.step_laws.specs.LayoutLaws.{length_with_room, head_of_with_room, room_at_with_room, room_at_other}
use Rattle.step_laws.specs.RefusalLaws.{is_refusal, answers_right}

-- ---- an outcome settled at slot s

-- the slot's room after the outcome
abbrev pub room_after : Room → Outcome → Room
room_after r (Becomes r' a) = r'
room_after r (Refused a) = r

abbrev pub answer_of : Outcome → Answer
answer_of (Becomes r a) = a
answer_of (Refused a) = a

pub settle_length : (t : List ℕ) (s : ℕ) (o : Outcome) → length (settle t s o).table ≡ length t
settle_length t s (Becomes r a) = length_with_room t s r
settle_length t s (Refused a) = refl

pub settle_head : (t : List ℕ) (s : ℕ) (o : Outcome) → head_of (settle t s o).table ≡ head_of t
settle_head t s (Becomes r a) = head_of_with_room t s r
settle_head t s (Refused a) = refl

pub settle_room : (t : List ℕ) (s : ℕ) (o : Outcome) → length t ≡ table_size → s < slots → room_at (settle t s o).table s ≡ room_after (room_at t s) o
settle_room t s (Becomes r a) whole below = room_at_with_room t s r whole below
settle_room t s (Refused a) whole below = refl

pub settle_other : (t : List ℕ) (s s' : ℕ) (o : Outcome) → s ≢ s' → room_at (settle t s o).table s' ≡ room_at t s'
settle_other t s s' (Becomes r a) other = room_at_other t s s' r other
settle_other t s s' (Refused a) other = refl

pub settle_answer : (t : List ℕ) (s : ℕ) (o : Outcome) → (settle t s o).answer ≡ answer_of o
settle_answer t s (Becomes r a) = refl
settle_answer t s (Refused a) = refl

pub settle_refused : (t : List ℕ) (s : ℕ) (o : Outcome) → answers_right o ≡ true → is_refusal (settle t s o).answer ≡ true → (settle t s o).table ≡ t
settle_refused t s (Becomes r a) right refusal = absurd (true≢false (sym refusal ∙ not-true (is_refusal a) right))
settle_refused t s (Refused a) right refusal = refl

-- ---- the ways of a call

-- what the event does to its slot of t
abbrev pub outcome_of : List ℕ → Event → Outcome
outcome_of t e = on_slot (head_of t) (room_at t e.slot.0) e

-- answers 1 and 2 are not given
pub record PassesRules (t : List ℕ) (e : Event) : Type 0 where
  pub good_table : table_ok t ≡ true
  pub good_event : event_ok (head_of t).boxes e ≡ true

-- nor is 3, for an event that names a slot
pub record ReachesSlot (t : List ℕ) (e : Event) : Type 0 where
  pub passes : PassesRules t e
  pub no_restart : e.kind ≢ restart
  pub slot_kept : well_kept (head_of t) (room_at t e.slot.0) ≡ true

-- nor for Restart
pub record RestartsAll (t : List ℕ) (e : Event) : Type 0 where
  pub passes : PassesRules t e
  pub a_restart : e.kind ≡ restart
  pub all_kept : all_saved_kept slots t ≡ true

pub step_bad_table : (t : List ℕ) (e : Event) → table_ok t ≡ false → step t e ≡ refuse t BadTable
unfolding step
step_bad_table t e bad = simp bad

pub step_bad_event : (t : List ℕ) (e : Event) → table_ok t ≡ true → event_ok (head_of t).boxes e ≡ false → step t e ≡ refuse t BadEvent
unfolding step
step_bad_event t e good bad = simp (good, bad)

pub step_not_well_kept : (t : List ℕ) (e : Event) → PassesRules t e → e.kind ≢ restart → well_kept (head_of t) (room_at t e.slot.0) ≡ false
    → step t e ≡ refuse t NotWellKept
unfolding step on_event
step_not_well_kept t e p other broken = simp (p.good_table, p.good_event, ne_eqb e.kind restart other, broken)

pub step_not_saved_kept : (t : List ℕ) (e : Event) → PassesRules t e → e.kind ≡ restart → all_saved_kept slots t ≡ false
    → step t e ≡ refuse t NotWellKept
unfolding step on_restart
step_not_saved_kept t e p k broken = simp (p.good_table, p.good_event, eq-eqb e.kind restart k, broken)

pub step_at_restart : (t : List ℕ) (e : Event) → RestartsAll t e → step t e ≡ record { table = restart_slots slots t; answer = Quiet }
unfolding step on_restart
step_at_restart t e r = simp (r.passes.good_table, r.passes.good_event, eq-eqb e.kind restart r.a_restart, r.all_kept)

pub step_at_slot : (t : List ℕ) (e : Event) → ReachesSlot t e → step t e ≡ settle t e.slot.0 (outcome_of t e)
unfolding step on_event
step_at_slot t e r = simp (r.passes.good_table, r.passes.good_event, ne_eqb e.kind restart r.no_restart, r.slot_kept)

-- each way of a call with what leads there
pub data CallCases (t : List ℕ) (e : Event) : Type 0 where
  table_broken : table_ok t ≡ false → CallCases t e
  event_broken : table_ok t ≡ true → event_ok (head_of t).boxes e ≡ false → CallCases t e
  slot_broken : PassesRules t e → e.kind ≢ restart → well_kept (head_of t) (room_at t e.slot.0) ≡ false → CallCases t e
  saved_broken : PassesRules t e → e.kind ≡ restart → all_saved_kept slots t ≡ false → CallCases t e
  restarts_all : RestartsAll t e → CallCases t e
  reaches_slot : ReachesSlot t e → CallCases t e

pub call_cases : (t : List ℕ) (e : Event) → CallCases t e
call_cases t e =
    by_answer (table_ok t)
    (λ good.
    by_answer (event_ok (head_of t).boxes e)
    (λ ok. passed (record { good_table = good; good_event = ok }))
    (event_broken good))
    table_broken
  where
    passed : PassesRules t e → CallCases t e
    passed p =
        elim (ℕ_discrete e.kind restart) [
          | yes k ↦
              by_answer (all_saved_kept slots t)
              (λ kept. restarts_all (record { passes = p; a_restart = k; all_kept = kept }))
              (saved_broken p k)
          | no other ↦
              by_answer (well_kept (head_of t) (room_at t e.slot.0))
              (λ kept. reaches_slot (record { passes = p; no_restart = other; slot_kept = kept }))
              (slot_broken p other)
        ]

-- the same with the refusals in one
pub data StepCases (t : List ℕ) (e : Event) : Type 0 where
  refuses : (a : Answer) → is_refusal a ≡ true → step t e ≡ refuse t a → StepCases t e
  restarts : RestartsAll t e → StepCases t e
  settles : ReachesSlot t e → StepCases t e

pub step_cases : (t : List ℕ) (e : Event) → StepCases t e
step_cases t e =
    elim (call_cases t e) [
      | table_broken bad ↦ refuses BadTable refl (step_bad_table t e bad)
      | event_broken good bad ↦ refuses BadEvent refl (step_bad_event t e good bad)
      | slot_broken p other bad ↦ refuses NotWellKept refl (step_not_well_kept t e p other bad)
      | saved_broken p k bad ↦ refuses NotWellKept refl (step_not_saved_kept t e p k bad)
      | restarts_all r ↦ restarts r
      | reaches_slot r ↦ settles r
    ]
