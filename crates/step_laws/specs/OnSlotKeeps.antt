-- Every event that keeps the rules, forged or not, leaves a well kept slot well kept.
-- Relies on the law of each kind. Cited by the laws of the step on tables and by proofs about runs.
use Rattle.std.specs.Prelude.{◌≡◌, true, ◌≢◌}
use Rattle.consensus.specs.declared.Head.{Head}
use Rattle.consensus.specs.declared.Room.{Room}
use Rattle.consensus.specs.declared.Event.{Event}
use Rattle.consensus.specs.Answers.{Answer}
use Rattle.consensus.specs.WellKept.{well_kept}
use Rattle.consensus.specs.Events.{restart, event_ok}
use Rattle.consensus.specs.OnSlot.{Becomes, on_slot}
use Rattle.step_laws.specs.HeadLaws.{HeadKept}
use Rattle.step_laws.specs.EventLaws.{event_cases}
use Rattle.step_laws.specs.EventLaws.EventCases.{a_propose, a_collect, a_last, a_begin, an_accept, a_success, an_old_round, a_restart}
use Rattle.step_laws.specs.OutcomeLaws.{Keeps, becomes_kept}
use Rattle.step_laws.specs.ProposeKeeps.{propose_keeps}
use Rattle.step_laws.specs.CollectKeeps.{collect_keeps}
use Rattle.step_laws.specs.LastKeeps.{last_keeps}
use Rattle.step_laws.specs.BeginKeeps.{begin_keeps}
use Rattle.step_laws.specs.AcceptKeeps.{accept_keeps}
use Rattle.step_laws.specs.SuccessKeeps.{success_keeps}
use Rattle.step_laws.specs.OldRoundKeeps.{old_round_keeps}

pub on_slot_keeps : (h : Head) (r : Room) (e : Event) → HeadKept h → event_ok h.boxes e ≡ true → e.kind ≢ restart → well_kept h r ≡ true
    → Keeps h (on_slot h r e)
unfolding on_slot
on_slot_keeps h r e good ok other kept =
    elim (event_cases h.boxes e ok) [
      | a_propose k c ↦ simp k (propose_keeps h r e good k ok kept)
      | a_collect k c ↦ simp k (collect_keeps h r e k ok kept)
      | a_last k c ↦ simp k (last_keeps h r e good k ok kept)
      | a_begin k c ↦ simp k (begin_keeps h r e k ok kept)
      | an_accept k c ↦ simp k (accept_keeps h r e good k ok kept)
      | a_success k c ↦ simp k (success_keeps h r e kept)
      | an_old_round k c ↦ simp k (old_round_keeps h r e k ok kept)
      | a_restart k c ↦ absurd (other k)
    ]

pub on_slot_keeps_well_kept : (h : Head) (r r' : Room) (e : Event) (a : Answer) → HeadKept h → event_ok h.boxes e ≡ true → e.kind ≢ restart
    → well_kept h r ≡ true → on_slot h r e ≡ Becomes r' a → well_kept h r' ≡ true
on_slot_keeps_well_kept h r r' e a good ok other kept = becomes_kept h (on_slot h r e) r' a (on_slot_keeps h r e good ok other kept)
