-- Accept leaves a well kept slot well kept: it counts the sender while the counted are too few, and then drops the round.
-- Relies on the clauses of well kept and of events. Cited by the laws of the step on tables.
use Rattle.std.specs.Prelude.{◌≡◌, true, false}
use Rattle.std.proofs.Common.{le_refl, arith}
use Rattle.ballots.specs.Boxes.{with_box}
use Rattle.consensus.specs.declared.Head.{Head}
use Rattle.consensus.specs.declared.Room.{Room}
use Rattle.consensus.specs.declared.Event.{Event}
use Rattle.consensus.specs.Room.{promised, agreed, own_value, lasts, accepts, begun, round, room}
use Rattle.consensus.specs.Enough.{enough_to_begin}
use Rattle.consensus.specs.WellKept.{well_kept}
use Rattle.consensus.specs.Events.{accept, event_ok}
use Rattle.consensus.specs.OnSlot.{awaited, on_accept}
use Rattle.step_laws.specs.ByTest.{by_answer}
use Rattle.step_laws.specs.HeadLaws.{HeadKept}
use Rattle.step_laws.specs.KeptLaws.{RunningKept, BegunKept, WellKept, kept_clauses, clauses_kept}
use Rattle.step_laws.specs.EventLaws.{AcceptKept, accept_clauses}
use Rattle.step_laws.specs.AwaitedLaws.{Awaited, awaited_clauses, counted_are_boxes}
use Rattle.step_laws.specs.OutcomeLaws.{Keeps, still_running, idle_room_kept}

counted_kept : (h : Head) (r : Room) (e : Event) → HeadKept h → AcceptKept h.boxes e → WellKept h r → Awaited r e begun (accepts r)
    → enough_to_begin h (with_box (accepts r) e.from) ≡ false
    → WellKept h (room r.saved (round begun r.round.own r.round.best (lasts r) (with_box (accepts r) e.from)) (agreed r))
counted_kept h r e good c k a few =
    let running : RunningKept h r = k.phase_is_kept.when_running (omega (arith, a.in_phase)) in
    let begun_round : BegunKept h r.round = k.phase_is_kept.when_begun a.in_phase in
    record {
      saved_is_kept = k.saved_is_kept;
      round_is_kept = record {
        own_or_none = k.round_is_kept.own_or_none;
        best_or_none = k.round_is_kept.best_or_none;
        lasts_are_boxes = k.round_is_kept.lasts_are_boxes;
        accepts_are_boxes = counted_are_boxes h (accepts r) e.from good k.round_is_kept.accepts_are_boxes c.from_below;
        phase_at_most_begun = omega arith;
      };
      phase_is_kept = record {
        when_idle = λ p. absurd (omega arith);
        when_running = λ p.
            still_running h r r.saved begun (own_value r) r.round.best (lasts r) (with_box (accepts r) e.from)
            running (le_refl (promised r)) running.own_value_is;
        when_collecting = λ p. absurd (omega arith);
        when_begun = λ p. record {
          no_best_ballot = begun_round.no_best_ballot;
          no_best_value = begun_round.no_best_value;
          no_lasts = begun_round.no_lasts;
          accepts_not_enough = few;
        };
      };
    }

pub accept_keeps : (h : Head) (r : Room) (e : Event) → HeadKept h → e.kind ≡ accept → event_ok h.boxes e ≡ true → well_kept h r ≡ true
    → Keeps h (on_accept h r e)
unfolding on_accept
accept_keeps h r e good k ok kept =
    let c = accept_clauses h.boxes e k ok in
    let w = kept_clauses h r kept in
    by_answer (awaited r e begun (accepts r))
    (λ due.
    let a = awaited_clauses r e begun (accepts r) due in
    by_answer (enough_to_begin h (with_box (accepts r) e.from))
    (λ enough. simp (due, enough) (clauses_kept h _ (idle_room_kept h r.saved (own_value r) w.saved_is_kept)))
    (λ few. simp (due, few) (clauses_kept h _ (counted_kept h r e good c w a few))))
    (λ not_due. simp not_due tt)
