-- A slot's eleven numbers by name, and a room from its numbers in the rules' order.
-- Cited by every definition that speaks of a slot.
use Rattle.std.specs.Prelude.{ℕ, List, [], ◌∷◌}
use Rattle.ballots.specs.declared.Ballot.{Ballot}
use Rattle.consensus.specs.declared.Vote.{Vote}
use Rattle.consensus.specs.declared.Saved.{Saved}
use Rattle.consensus.specs.declared.Round.{Round}
use Rattle.consensus.specs.declared.Room.{Room}
use Rattle.consensus.specs.declared.phase.Phase.{Phase}
use Rattle.consensus.specs.declared.phase.Phase.TheVariants.{Idle, Collecting, Begun}

-- "0 promised ballot; 1 accepted ballot; 2 accepted value;
abbrev pub promised : Room → ℕ
promised r = r.saved.promised.0

abbrev pub accepted_ballot : Room → ℕ
accepted_ballot r = r.saved.accepted.ballot.0

abbrev pub accepted_value : Room → ℕ
accepted_value r = r.saved.accepted.value

-- 3 phase (0 idle, 1 collecting, 2 begun); 4 own ballot; 5 own value;
abbrev pub phase : Room → ℕ
phase r = r.round.phase

abbrev pub own_ballot : Room → ℕ
own_ballot r = r.round.own.ballot.0

abbrev pub own_value : Room → ℕ
own_value r = r.round.own.value

-- 6 best ballot; 7 best value;
abbrev pub best_ballot : Room → ℕ
best_ballot r = r.round.best.ballot.0

abbrev pub best_value : Room → ℕ
best_value r = r.round.best.value

-- 8 boxes that sent Last; 9 boxes that sent Accept; 10 agreed value."
abbrev pub lasts : Room → ℕ
lasts r = r.round.lasts

abbrev pub accepts : Room → ℕ
accepts r = r.round.accepts

abbrev pub agreed : Room → ℕ
agreed r = r.agreed

abbrev pub idle : ℕ
idle = 0

abbrev pub collecting : ℕ
collecting = 1

abbrev pub begun : ℕ
begun = 2

-- the number of each phase
abbrev pub phase_number : Phase → ℕ
phase_number Idle = idle
phase_number Collecting = collecting
phase_number Begun = begun

abbrev pub ballot : ℕ → Ballot
ballot b = record { 0 = b }

abbrev pub vote : ℕ → ℕ → Vote
vote b v = record { ballot = ballot b; value = v }

abbrev pub saved : ℕ → Vote → Saved
saved p a = record { promised = ballot p; accepted = a }

abbrev pub round : ℕ → Vote → Vote → ℕ → ℕ → Round
round p own best ls acs = record { phase = p; own = own; best = best; lasts = ls; accepts = acs }

abbrev pub room : Saved → Round → ℕ → Room
room s r v = record { saved = s; round = r; agreed = v }

-- "Zero means none."
abbrev pub no_vote : Vote
no_vote = vote 0 0

-- numbers 3 to 9 zero
abbrev pub no_round : Round
no_round = round idle no_vote no_vote 0 0

-- the room of eleven numbers, number k of the rules given by n k
abbrev pub room_of : (ℕ → ℕ) → Room
room_of n =
    room (saved (n 0) (vote (n 1) (n 2)))
    (round (n 3) (vote (n 4) (n 5)) (vote (n 6) (n 7)) (n 8) (n 9))
    (n 10)

-- its eleven numbers in the rules' order
abbrev pub numbers_in : Room → List ℕ
numbers_in r =
    promised r ∷ accepted_ballot r ∷ accepted_value r ∷ phase r ∷ own_ballot r ∷ own_value r
    ∷ best_ballot r ∷ best_value r ∷ lasts r ∷ accepts r ∷ agreed r ∷ []
