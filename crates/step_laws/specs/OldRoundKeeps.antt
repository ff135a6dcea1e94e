-- OldRound leaves a well kept slot well kept: it raises the promise to a ballot and drops the round.
-- Relies on the clauses of well kept and of events. Cited by the laws of the step on tables.
use Rattle.std.specs.Prelude.{ℕ, max, ◌≡◌, true, not, ◌&&◌, eqb}
use Rattle.std.proofs.Math.Nat.{le-max_left, max-eq_left, max-eq_right}
use Rattle.std.proofs.Common.{le_trans, arith}
use Rattle.std.proofs.Math.Decide.{dec_le}
use Rattle.ballots.specs.Ballot.{none_or_ballot}
use Rattle.ballots.specs.BallotLaws.{ballot_none_or_ballot}
use Rattle.consensus.specs.declared.Head.{Head}
use Rattle.consensus.specs.declared.Room.{Room}
use Rattle.consensus.specs.declared.Event.{Event}
use Rattle.consensus.specs.Room.{promised, agreed, phase, own_ballot, idle, saved}
use Rattle.consensus.specs.WellKept.{well_kept}
use Rattle.consensus.specs.Events.{old_round, event_ok}
use Rattle.consensus.specs.OnSlot.{on_old_round}
use Rattle.step_laws.specs.ByTest.{by_answer}
use Rattle.step_laws.specs.KeptLaws.{SavedKept, kept_clauses, clauses_kept}
use Rattle.step_laws.specs.EventLaws.{OldRoundKept, old_round_clauses}
use Rattle.step_laws.specs.OutcomeLaws.{Keeps, idle_room_kept}

-- the larger of two is one of them
larger_or_none : (n a b : ℕ) → none_or_ballot n a ≡ true → none_or_ballot n b ≡ true → none_or_ballot n (max a b) ≡ true
larger_or_none n a b ka kb =
    elim (dec_le a b) [
      | yes up ↦ rw (max-eq_right up) kb
      | no down ↦ rw (max-eq_left {n = a} {m = b} (omega arith)) ka
    ]

older_promise_kept : (h : Head) (r : Room) (e : Event) → OldRoundKept h.boxes e → SavedKept h r.saved
    → SavedKept h (saved (max (promised r) e.second.0) r.saved.accepted)
older_promise_kept h r e c k =
    let second = ballot_none_or_ballot h.boxes e.second.0 c.some_second in
    record {
      promised_or_none = larger_or_none h.boxes (promised r) e.second.0 k.promised_or_none second;
      accepted_or_none = k.accepted_or_none;
      accepted_at_most_promised = le_trans k.accepted_at_most_promised (le-max_left (promised r) e.second.0);
      accepted_together = k.accepted_together;
    }

pub old_round_keeps : (h : Head) (r : Room) (e : Event) → e.kind ≡ old_round → event_ok h.boxes e ≡ true → well_kept h r ≡ true
    → Keeps h (on_old_round h r e)
unfolding on_old_round
old_round_keeps h r e k ok kept =
    by_answer (not (eqb (phase r) idle) && eqb (own_ballot r) e.ballot.0)
    (λ ours.
    let raised = older_promise_kept h r e (old_round_clauses h.boxes e k ok) (kept_clauses h r kept).saved_is_kept in
    simp ours (clauses_kept h _ (idle_room_kept h (saved (max (promised r) e.second.0) r.saved.accepted) (agreed r) raised)))
    (λ other. simp other tt)
