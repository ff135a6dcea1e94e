-- What Propose does in each of its cases, by what `next` gives.
-- Cited by the attribute of `on_slot::propose::on_propose`.
use Rattle.std.specs.Prelude.{ℕ, ◌≡◌, ◌≢◌, ◌<◌, Some, None}
use Rattle.std.proofs.Common.{ne_eqb, le-ltb, lt-ltb}
use Rattle.ballots.specs.declared.Ballot.{Ballot}
use Rattle.ballots.specs.Ballot.{max_boxes, next}
use Rattle.ballots.specs.BallotLaws.{made_is_next, none_has_no_x}
use Rattle.consensus.specs.declared.Head.{Head}
use Rattle.consensus.specs.declared.Room.{Room}
use Rattle.consensus.specs.declared.Event.{Event}
use Rattle.consensus.specs.Answers.{AlreadyAgreed, NoBallotLeft}
use Rattle.consensus.specs.Room.{agreed, collecting, vote, saved, round, room, no_vote}
use Rattle.consensus.specs.Events.{collect}
use Rattle.consensus.specs.OnSlot.{Outcome, Becomes, Refused, all_boxes, send, on_propose}

-- what a Propose of ballot b leaves and sends
abbrev pub opens : Head → Room → Event → ℕ → Outcome
opens h r e b = Becomes (room (saved b r.saved.accepted) (round collecting (vote b e.value) no_vote 0 0) (agreed r)) (send h e all_boxes collect b 0 0)

pub agreed_already : (h : Head) (r : Room) (e : Event) → r.agreed ≢ 0 → on_propose h r e ≡ Refused AlreadyAgreed
unfolding on_propose
agreed_already h r e some = simp (ne_eqb _ _ some)

pub no_ballot_left : (h : Head) (r : Room) (e : Event) → r.agreed ≡ 0 → h.index < max_boxes
    → next r.saved.promised.0 h.index ≡ None → on_propose h r e ≡ Refused NoBallotLeft
unfolding on_propose
no_ballot_left h r e free below none = simp (free, lt-ltb _ _ (none_has_no_x _ _ below none))

pub opens_a_round : (h : Head) (r : Room) (e : Event) (b : Ballot) → r.agreed ≡ 0 → h.index < max_boxes
    → next r.saved.promised.0 h.index ≡ Some b → on_propose h r e ≡ opens h r e b.0
unfolding on_propose
opens_a_round h r e b free below made =
    let m = made_is_next _ _ b below made in
    simp (free, le-ltb _ _ m.0, m.1)
