-- When an outcome keeps its slot well kept, and the rooms that several kinds of events leave: a promise raised, a round dropped.
-- Relies on the clauses of well kept. Cited by the laws of each kind's step.
use Rattle.std.specs.Prelude.{ℕ, ◌^◌, ◌≤◌, ◌<◌, ◌≡◌, refl, true, false, ◌≢◌}
use Rattle.std.proofs.Common.{subst, le_trans, arith, pow_pos}
use Rattle.ballots.specs.BallotLaws.{zero_none_or_ballot}
use Rattle.ballots.proofs.MajorityLaws.{none_is_no_majority}
use Rattle.consensus.specs.declared.Head.{Head}
use Rattle.consensus.specs.declared.Vote.{Vote}
use Rattle.consensus.specs.declared.Saved.{Saved}
use Rattle.consensus.specs.declared.Room.{Room}
use Rattle.consensus.specs.Answers.{Answer}
use Rattle.consensus.specs.OnSlot.{Outcome, Becomes, Refused}
use Rattle.consensus.specs.Room.{promised, phase, own_ballot, own_value, lasts, accepts, agreed, vote, round, room, no_round}
use Rattle.consensus.specs.Enough.{enough_to_collect, enough_to_begin}
use Rattle.consensus.specs.WellKept.{well_kept}
use Rattle.step_laws.specs.KeptLaws.{SavedKept, RoundKept, RunningKept, WellKept}

-- ---- outcomes

-- what becomes of the slot is well kept; a refusal leaves it as it was
abbrev pub Keeps : Head → Outcome → Type 0
Keeps h (Becomes r a) = well_kept h r ≡ true
Keeps h (Refused a) = Unit {0}

pub becomes_kept : (h : Head) (o : Outcome) (r : Room) (a : Answer) → Keeps h o → o ≡ Becomes r a → well_kept h r ≡ true
becomes_kept h o r a keeps e = subst (Keeps h) e keeps

-- ---- no box is counted yet

pub none_are_boxes : (h : Head) → 0 < 2 ^ h.boxes
none_are_boxes h = pow_pos h.boxes

pub none_enough_to_collect : (h : Head) → enough_to_collect h 0 ≡ false
unfolding enough_to_collect
none_enough_to_collect h = none_is_no_majority h.boxes

pub none_enough_to_begin : (h : Head) → enough_to_begin h 0 ≡ false
unfolding enough_to_begin
none_enough_to_begin h = none_is_no_majority h.boxes

-- ---- a round dropped

no_round_kept : (h : Head) → RoundKept h no_round
no_round_kept h =
    record {
      own_or_none = zero_none_or_ballot h.boxes;
      best_or_none = zero_none_or_ballot h.boxes;
      lasts_are_boxes = none_are_boxes h;
      accepts_are_boxes = none_are_boxes h;
      phase_at_most_begun = omega arith;
    }

-- whatever is agreed
pub idle_room_kept : (h : Head) (s : Saved) (v : ℕ) → SavedKept h s → WellKept h (room s no_round v)
idle_room_kept h s v k =
    record {
      saved_is_kept = k;
      round_is_kept = no_round_kept h;
      phase_is_kept = record {
        when_idle = λ p. omega arith;
        when_running = λ p. absurd (p refl);
        when_collecting = λ p. absurd (omega arith);
        when_begun = λ p. absurd (omega arith);
      };
    }

-- ---- a round that goes on

-- the own ballot stands, the promise has not sunk, and there is a value
pub still_running : (h : Head) (r : Room) (s : Saved) (p v : ℕ) (best : Vote) (ls acs : ℕ) → RunningKept h r → promised r ≤ s.promised.0
    → v ≢ 0 → RunningKept h (room s (round p (vote (own_ballot r) v) best ls acs) (agreed r))
still_running h r s p v best ls acs k raised some =
    record {
      own_is_ballot = k.own_is_ballot;
      own_made_here = k.own_made_here;
      own_at_most_promised = le_trans k.own_at_most_promised raised;
      own_value_is = some;
      nothing_agreed = k.nothing_agreed;
    }

-- a promise raised, the round as it was
pub raised_room_kept : (h : Head) (r : Room) (s : Saved) → WellKept h r → SavedKept h s → promised r ≤ s.promised.0
    → WellKept h (room s r.round (agreed r))
raised_room_kept h r s k kept raised =
    record {
      saved_is_kept = kept;
      round_is_kept = k.round_is_kept;
      phase_is_kept = record {
        when_idle = k.phase_is_kept.when_idle;
        when_running = λ p.
            let d = k.phase_is_kept.when_running p in
            still_running h r s (phase r) (own_value r) r.round.best (lasts r) (accepts r) d raised d.own_value_is;
        when_collecting = k.phase_is_kept.when_collecting;
        when_begun = k.phase_is_kept.when_begun;
      };
    }
