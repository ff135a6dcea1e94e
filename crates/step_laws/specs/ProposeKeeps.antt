-- Propose leaves a well kept slot well kept: its ballot is this box's next, above all that the slot has promised.
-- Relies on the clauses of well kept and the laws of the next ballot. Cited by the laws of the step on tables.
use Rattle.std.specs.Prelude.{ℕ, ◌≤◌, ◌≡◌, refl, true, ◌≢◌, ltb, eqb}
use Rattle.std.proofs.Common.{arith, eqb-true, ltb-false}
use Rattle.ballots.specs.Ballot.{max_x, next_x, next_ballot, is_ballot}
use Rattle.ballots.specs.BallotLaws.{zero_none_or_ballot, ballot_none_or_ballot, next_maker, next_above, next_is_ballot}
use Rattle.consensus.specs.declared.Head.{Head}
use Rattle.consensus.specs.declared.Room.{Room}
use Rattle.consensus.specs.declared.Event.{Event}
use Rattle.consensus.specs.Room.{promised, agreed, collecting, vote, saved, round, room, no_vote}
use Rattle.consensus.specs.WellKept.{well_kept}
use Rattle.consensus.specs.Events.{propose, event_ok}
use Rattle.consensus.specs.OnSlot.{on_propose}
use Rattle.step_laws.specs.ByTest.{by_answer}
use Rattle.step_laws.specs.HeadLaws.{HeadKept}
use Rattle.step_laws.specs.KeptLaws.{SavedKept, WellKept, both_zero, kept_clauses, clauses_kept}
use Rattle.step_laws.specs.EventLaws.{propose_clauses}
use Rattle.step_laws.specs.OutcomeLaws.{Keeps, none_are_boxes, none_enough_to_collect}

-- the slot where this box collects under b for v
abbrev proposed : Room → ℕ → ℕ → Room
proposed r b v = room (saved b r.saved.accepted) (round collecting (vote b v) no_vote 0 0) (agreed r)

proposed_kept : (h : Head) (r : Room) (v : ℕ) → HeadKept h → SavedKept h r.saved → agreed r ≡ 0 → next_x (promised r) ≤ max_x → v ≢ 0
    → WellKept h (proposed r (next_ballot (promised r) h.index) v)
proposed_kept h r v good k none left some =
    let b = next_ballot (promised r) h.index in
    let made : is_ballot h.boxes b ≡ true = next_is_ballot h.boxes (promised r) h.index good.index_below good.few_boxes left in
    record {
      saved_is_kept = record {
        promised_or_none = ballot_none_or_ballot h.boxes b made;
        accepted_or_none = k.accepted_or_none;
        accepted_at_most_promised = omega (arith, next_above (promised r) h.index, k.accepted_at_most_promised);
        accepted_together = k.accepted_together;
      };
      round_is_kept = record {
        own_or_none = ballot_none_or_ballot h.boxes b made;
        best_or_none = zero_none_or_ballot h.boxes;
        lasts_are_boxes = none_are_boxes h;
        accepts_are_boxes = none_are_boxes h;
        phase_at_most_begun = omega arith;
      };
      phase_is_kept = record {
        when_idle = λ p. absurd (omega arith);
        when_running = λ p. record {
          own_is_ballot = made;
          own_made_here = next_maker (promised r) h.index (omega arith);
          own_at_most_promised = omega arith;
          own_value_is = some;
          nothing_agreed = none;
        };
        when_collecting = λ p. record {
          best_at_most_own = omega arith;
          best_together = both_zero;
          no_accepts = refl;
          lasts_not_enough = none_enough_to_collect h;
        };
        when_begun = λ p. absurd (omega arith);
      };
    }

pub propose_keeps : (h : Head) (r : Room) (e : Event) → HeadKept h → e.kind ≡ propose → event_ok h.boxes e ≡ true → well_kept h r ≡ true
    → Keeps h (on_propose h r e)
unfolding on_propose
propose_keeps h r e good k ok kept =
    let some_value = (propose_clauses h.boxes e k ok).some_value in
    let saved_is_kept = (kept_clauses h r kept).saved_is_kept in
    by_answer (eqb (agreed r) 0)
    (λ none.
    by_answer (ltb max_x (next_x (promised r)))
    (λ gone. simp (none, gone) tt)
    (λ left.
    let x_left = ltb-false max_x (next_x (promised r)) left in
    simp (none, left) (clauses_kept h _ (proposed_kept h r e.value good saved_is_kept (eqb-true (agreed r) 0 none) x_left some_value))))
    (λ some. simp some tt)
