-- When a slot is well kept, clause by clause as the rules have it.
-- Cited by the step, which refuses a slot that is not.
use Rattle.std.specs.Prelude.{ℕ, ◌^◌, Bool, not, ◌&&◌, leb, ltb, eqb, if◌then◌else◌}
use Rattle.ballots.specs.Ballot.{is_ballot, none_or_ballot, maker_of}
use Rattle.consensus.specs.declared.Head.{Head}
use Rattle.consensus.specs.declared.Room.{Room}
use Rattle.consensus.specs.Room.{promised, accepted_ballot, accepted_value, phase, own_ballot, own_value, best_ballot, best_value, lasts, accepts, agreed, idle, collecting, begun}
use Rattle.consensus.specs.Enough.{enough_to_collect, enough_to_begin}

-- "zero exactly if"
abbrev pub zero_with : ℕ → ℕ → Bool
zero_with a b = if eqb a 0 then eqb b 0 else not (eqb b 0)

-- "below 2^N": no box of the set is at N or above
abbrev pub set_ok : Head → ℕ → Bool
set_ok h s = ltb s (2 ^ h.boxes)

-- numbers 0 to 2: "0 zero or a ballot; 1 is zero or a ballot and at most 0; 2 is zero exactly if 1 is"
unfoldable pub saved_kept : Head → Room → Bool
saved_kept h r =
    none_or_ballot h.boxes (promised r)
    && none_or_ballot h.boxes (accepted_ballot r)
    && leb (accepted_ballot r) (promised r)
    && zero_with (accepted_value r) (accepted_ballot r)

-- "4 and 6 are each zero or a ballot; 8 and 9 are below 2^N; phase is at most 2"
unfoldable pub round_kept : Head → Room → Bool
round_kept h r =
    none_or_ballot h.boxes (own_ballot r)
    && none_or_ballot h.boxes (best_ballot r)
    && set_ok h (lasts r)
    && set_ok h (accepts r)
    && leb (phase r) begun

-- "Phase 0: 4 to 9 are zero."
unfoldable pub idle_kept : Room → Bool
idle_kept r =
    eqb (own_ballot r) 0 && eqb (own_value r) 0 && eqb (best_ballot r) 0
    && eqb (best_value r) 0 && eqb (lasts r) 0 && eqb (accepts r) 0

-- "Phase 1 or 2: own ballot made by this box, at most promised; own value not zero; agreed value zero."
unfoldable pub running_kept : Head → Room → Bool
running_kept h r =
    is_ballot h.boxes (own_ballot r) && eqb (maker_of (own_ballot r)) h.index
    && leb (own_ballot r) (promised r)
    && not (eqb (own_value r) 0) && eqb (agreed r) 0

-- "Phase 1: best ballot at most own ballot; best value zero exactly if best ballot is; 9 zero; 8 no majority."
unfoldable pub collecting_kept : Head → Room → Bool
collecting_kept h r =
    leb (best_ballot r) (own_ballot r) && zero_with (best_value r) (best_ballot r)
    && eqb (accepts r) 0 && not (enough_to_collect h (lasts r))

-- "Phase 2: 6 to 8 zero; 9 no majority."
unfoldable pub begun_kept : Head → Room → Bool
begun_kept h r =
    eqb (best_ballot r) 0 && eqb (best_value r) 0 && eqb (lasts r) 0
    && not (enough_to_begin h (accepts r))

unfoldable pub phase_kept : Head → Room → Bool
phase_kept h r =
    if eqb (phase r) idle then idle_kept r
    else if eqb (phase r) collecting then running_kept h r && collecting_kept h r
    else running_kept h r && begun_kept h r

unfoldable pub well_kept : Head → Room → Bool
well_kept h r = saved_kept h r && round_kept h r && phase_kept h r
