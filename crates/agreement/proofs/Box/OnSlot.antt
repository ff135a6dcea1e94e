-- Whatever the kind, what an event does to its slot is a few moves of the ledger.
-- Relies on the law of each kind. Cited by the laws of runs.
use Rattle.std.specs.Prelude.{◌≢◌}
use Rattle.consensus.specs.declared.Head.{Head}
use Rattle.consensus.specs.declared.Room.{Room}
use Rattle.consensus.specs.declared.Event.{Event}
use Rattle.consensus.specs.Events.{restart}
use Rattle.consensus.specs.OnSlot.{on_slot}
use Rattle.step_laws.specs.EventLaws.{event_cases}
use Rattle.step_laws.specs.EventLaws.EventCases.{a_propose, a_collect, a_last, a_begin, an_accept, a_success, an_old_round, a_restart}
use Rattle.agreement.specs.Ledger.{Ledger}
use Rattle.agreement.specs.Box.{Situation, Told}
use Rattle.agreement.proofs.Box.Propose.{propose_told}
use Rattle.agreement.proofs.Box.Collect.{collect_told}
use Rattle.agreement.proofs.Box.Last.{last_told}
use Rattle.agreement.proofs.Box.Begin.{begin_told}
use Rattle.agreement.proofs.Box.Accept.{accept_told}
use Rattle.agreement.proofs.Box.Success.{success_told, old_round_told}

pub on_slot_told : (h : Head) (r : Room) (e : Event) (l : Ledger) → e.kind ≢ restart → Situation h r e l → Told h r e l (on_slot h r e)
unfolding on_slot
on_slot_told h r e l other here =
    elim (event_cases h.boxes e here.good_event) [
      | a_propose k c ↦ simp k (propose_told h r e l k here)
      | a_collect k c ↦ simp k (collect_told h r e l k here)
      | a_last k c ↦ simp k (last_told h r e l k here)
      | a_begin k c ↦ simp k (begin_told h r e l k here)
      | an_accept k c ↦ simp k (accept_told h r e l k here)
      | a_success k c ↦ simp k (success_told h r e l k here)
      | an_old_round k c ↦ simp k (old_round_told h r e l here)
      | a_restart k c ↦ absurd (other k)
    ]
