-- Success leaves a well kept slot well kept: where nothing is agreed, it drops the round.
-- Relies on the clauses of well kept. Cited by the laws of the step on tables.
use Rattle.std.specs.Prelude.{◌≡◌, true, eqb}
use Rattle.consensus.specs.declared.Head.{Head}
use Rattle.consensus.specs.declared.Room.{Room}
use Rattle.consensus.specs.declared.Event.{Event}
use Rattle.consensus.specs.Room.{agreed}
use Rattle.consensus.specs.WellKept.{well_kept}
use Rattle.consensus.specs.OnSlot.{on_success}
use Rattle.step_laws.specs.ByTest.{by_answer}
use Rattle.step_laws.specs.KeptLaws.{kept_clauses, clauses_kept}
use Rattle.step_laws.specs.OutcomeLaws.{Keeps, idle_room_kept}

pub success_keeps : (h : Head) (r : Room) (e : Event) → well_kept h r ≡ true → Keeps h (on_success h r e)
unfolding on_success
success_keeps h r e kept =
    by_answer (eqb (agreed r) 0)
    (λ none. simp none (clauses_kept h _ (idle_room_kept h r.saved e.value (kept_clauses h r kept).saved_is_kept)))
    (λ some.
    by_answer (eqb (agreed r) e.value)
    (λ same. simp (some, same) tt)
    (λ other. simp (some, other) tt))
