-- What a call of the step with another slot rule comes to: a refusal, every slot restarted, or the event's slot settled by that rule.
-- Relies on the ways of a call, in which the slot rule has no part. Cited by Tight.
use Rattle.std.specs.Prelude.{ℕ, ◌≡◌, true, not, List, eqb, if◌then◌else◌}
use Rattle.std.proofs.Math.Path.{refl}
use Rattle.std.proofs.Common.{◌∙◌}
use borrow.Author.Tests.{eq-eqb, ne_eqb}
use Rattle.consensus.specs.declared.Event.{Event}
use Rattle.consensus.specs.Answers.{Answer, Quiet, BadTable, BadEvent, NotWellKept}
use Rattle.consensus.specs.Layout.{slots, head_of, room_at}
use Rattle.consensus.specs.WellKept.{well_kept}
use Rattle.consensus.specs.Events.{restart, event_ok}
use Rattle.consensus.specs.Step.{Stepped, table_ok, refuse, settle, restart_slots, on_restart}
use Rattle.step_laws.specs.RefusalLaws.{is_refusal}
use Rattle.step_laws.specs.StepCases.{ReachesSlot, RestartsAll, call_cases}
use Rattle.step_laws.specs.StepCases.CallCases.{table_broken, event_broken, slot_broken, saved_broken, restarts_all, reaches_slot}
use Rattle.agreement.specs.Tight.Impostors.{SlotRule, step_keeping, step_with}

module _ (on : SlotRule) (t : List ℕ) (e : Event) where
  -- what the call comes to where every test passes
  abbrev pub settled : Stepped
  settled = settle t e.slot.0 (on (head_of t) (room_at t e.slot.0) e)

  pub data Ways : Type 0 where
    refuses : (a : Answer) → is_refusal a ≡ true → step_with on t e ≡ refuse t a → Ways
    restarts : RestartsAll t e → step_with on t e ≡ record { table = restart_slots slots t; answer = Quiet } → Ways
    settles : ReachesSlot t e → step_with on t e ≡ settled → Ways

  -- `step_keeping` unfolds with all that a call computes; what follows wants its tests shut
  goes_by_tests :
      step_with on t e ≡ (
      if not (table_ok t) then refuse t BadTable
      else if not (event_ok (head_of t).boxes e) then refuse t BadEvent
      else if eqb e.kind restart then on_restart t
      else if well_kept (head_of t) (room_at t e.slot.0) then settled
      else refuse t NotWellKept)
  unfolding step_keeping
  goes_by_tests = refl

  pub call_ways : Ways
  unfolding on_restart
  call_ways =
      elim (call_cases t e) [
        | table_broken bad ↦ refuses BadTable refl (goes_by_tests ∙ simp bad)
        | event_broken good bad ↦ refuses BadEvent refl (goes_by_tests ∙ simp (good, bad))
        | slot_broken p other bad ↦
            refuses NotWellKept refl (goes_by_tests ∙ simp (p.good_table, p.good_event, ne_eqb e.kind restart other, bad))
        | saved_broken p k bad ↦ refuses NotWellKept refl (goes_by_tests ∙ simp (p.good_table, p.good_event, eq-eqb e.kind restart k, bad))
        | restarts_all r ↦
            restarts r (goes_by_tests ∙ simp (r.passes.good_table, r.passes.good_event, eq-eqb e.kind restart r.a_restart, r.all_kept))
        | reaches_slot r ↦
            settles r (goes_by_tests ∙ simp (r.passes.good_table, r.passes.good_event, ne_eqb e.kind restart r.no_restart, r.slot_kept))
      ]
