-- Collect leaves a well kept slot well kept: at most it raises the promise.
-- Relies on the clauses of well kept and of events. Cited by the laws of the step on tables.
use Rattle.std.specs.Prelude.{◌≤◌, ◌≡◌, true, ltb}
use Rattle.std.proofs.Common.{arith, ltb-false}
use Rattle.ballots.specs.BallotLaws.{ballot_none_or_ballot}
use Rattle.consensus.specs.declared.Head.{Head}
use Rattle.consensus.specs.declared.Room.{Room}
use Rattle.consensus.specs.declared.Event.{Event}
use Rattle.consensus.specs.Room.{promised, agreed, saved, room}
use Rattle.consensus.specs.WellKept.{well_kept}
use Rattle.consensus.specs.Events.{collect, event_ok}
use Rattle.consensus.specs.OnSlot.{on_collect}
use Rattle.step_laws.specs.ByTest.{by_answer}
use Rattle.step_laws.specs.KeptLaws.{WellKept, kept_clauses, clauses_kept}
use Rattle.step_laws.specs.EventLaws.{CollectKept, collect_clauses}
use Rattle.step_laws.specs.OutcomeLaws.{Keeps, raised_room_kept}

promise_kept : (h : Head) (r : Room) (e : Event) → CollectKept h.boxes e → promised r ≤ e.ballot.0 → WellKept h r
    → WellKept h (room (saved e.ballot.0 r.saved.accepted) r.round (agreed r))
promise_kept h r e c raised k =
    raised_room_kept h r (saved e.ballot.0 r.saved.accepted) k
    (record {
      promised_or_none = ballot_none_or_ballot h.boxes e.ballot.0 c.some_ballot;
      accepted_or_none = k.saved_is_kept.accepted_or_none;
      accepted_at_most_promised = omega arith;
      accepted_together = k.saved_is_kept.accepted_together;
    })
    raised

pub collect_keeps : (h : Head) (r : Room) (e : Event) → e.kind ≡ collect → event_ok h.boxes e ≡ true → well_kept h r ≡ true
    → Keeps h (on_collect h r e)
unfolding on_collect
collect_keeps h r e k ok kept =
    by_answer (ltb e.ballot.0 (promised r))
    (λ old. simp old kept)
    (λ fresh.
    let raised = ltb-false e.ballot.0 (promised r) fresh in
    simp fresh (clauses_kept h _ (promise_kept h r e (collect_clauses h.boxes e k ok) raised (kept_clauses h r kept))))
