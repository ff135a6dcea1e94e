-- How a box keeps the ledger of a slot: what its room says has been said in the ledger, and so has what its messages say.
-- Relies on Ledger and Majorities. Cited by the laws of each kind of event and by the laws of runs.
use Rattle.std.specs.Prelude.{ℕ, ◌≡◌, true, ◌≢◌, ◌⊎◌, eqb, cond}
use Rattle.ballots.specs.Ballot.{maker_of}
use Rattle.consensus.specs.declared.Head.{Head}
use Rattle.consensus.specs.declared.Round.{Round}
use Rattle.consensus.specs.declared.Room.{Room}
use Rattle.consensus.specs.declared.Event.{Event}
use Rattle.consensus.specs.declared.Message.{Message}
use Rattle.consensus.specs.Answers.{Answer, Quiet, Sends, BadTable, BadEvent, NotWellKept, NotAwaited, AlreadyAgreed, OtherAgreed, NoBallotLeft}
use Rattle.consensus.specs.OnSlot.{Outcome}
use Rattle.consensus.specs.Room.{promised, accepted_ballot, accepted_value, phase, agreed, collecting, begun as begun_phase}
use Rattle.consensus.specs.WellKept.{well_kept}
use Rattle.consensus.specs.Events.{propose, collect, last, begin, accept, success, event_ok}
use Rattle.step_laws.specs.HeadLaws.{HeadKept}
use Rattle.step_laws.specs.StepCases.{room_after, answer_of}
use Rattle.agreement.specs.Ledger.{Lasting, Ledger, Said, opened, proposed, reported, begun, voted, Report, Moves, ChosenValue}
use Rattle.agreement.specs.Ledger.Kept.{Kept}
use Rattle.agreement.specs.Majorities.{In, CollectSet, BeginSet}

-- the saved numbers of a room
abbrev pub lasting_of : Room → Lasting
lasting_of r = record { promise = promised r; ballot = accepted_ballot r; value = accepted_value r }

-- enough of n boxes voted for v at some ballot
abbrev pub Agreed : ℕ → Ledger → ℕ → Type 0
Agreed n l v = ChosenValue ℕ In (BeginSet n) l v

-- a round that collects: the own ballot is opened for the own value, nothing is begun there, the counted have reported,
-- and best is the highest of their reports
pub record CollectingTold (l : Ledger) (q : Round) : Type 0 where
  pub own_opened : Said (opened q.own.ballot.0) l
  pub own_proposed : Said (proposed q.own.value) l
  pub none_begun : (w : ℕ) → ¬ Said (begun q.own.ballot.0 w) l
  pub counted_reported : (a : ℕ) → In a q.lasts → Report l a q.own.ballot.0 q.best.ballot.0
  pub best_reported : q.best.ballot.0 ≢ 0 → (a : ℕ) × Said (reported a q.own.ballot.0 q.best.ballot.0 q.best.value) l

-- a round that is begun: the own value is begun at the own ballot, and the counted have voted there
pub record BegunTold (l : Ledger) (q : Round) : Type 0 where
  pub own_begun : Said (begun q.own.ballot.0 q.own.value) l
  pub counted_voted : (a : ℕ) → In a q.accepts → Said (voted a q.own.ballot.0) l

-- the room of box i, one of n
pub record RoomTold (n i : ℕ) (l : Ledger) (r : Room) : Type 0 where
  pub saved_lasts : l.box i ≡ lasting_of r
  pub collecting_told : phase r ≡ collecting → CollectingTold l r.round
  pub begun_told : phase r ≡ begun_phase → BegunTold l r.round
  pub agreed_told : agreed r ≢ 0 → Agreed n l (agreed r)

-- what an event of kind k says was said
abbrev pub ToldBy : ℕ → Ledger → ℕ → Event → Type 0
ToldBy n l k e =
    cond (eqb k collect) (Said (opened e.ballot.0) l)
    (cond (eqb k last) (Said (reported e.from e.ballot.0 e.second.0 e.value) l)
    (cond (eqb k begin) (Said (begun e.ballot.0 e.value) l)
    (cond (eqb k accept) (Said (voted e.from e.ballot.0) l)
    (cond (eqb k success) (Agreed n l e.value)
    (Unit {0})))))

abbrev pub EventTold : ℕ → Ledger → Event → Type 0
EventTold n l e = ToldBy n l e.kind e

abbrev pub AnswerTold : ℕ → Ledger → Answer → Type 0
AnswerTold n l Quiet = Unit {0}
AnswerTold n l (Sends m) = EventTold n l m.event
AnswerTold n l BadTable = Unit {0}
AnswerTold n l BadEvent = Unit {0}
AnswerTold n l NotWellKept = Unit {0}
AnswerTold n l NotAwaited = Unit {0}
AnswerTold n l AlreadyAgreed = Unit {0}
AnswerTold n l OtherAgreed = Unit {0}
AnswerTold n l NoBallotLeft = Unit {0}

-- moves of box i, one of n
abbrev pub MovesOf : ℕ → ℕ → Ledger → Ledger → Type 0
MovesOf n i l l' = Moves maker_of ℕ In (CollectSet n) i l l'

-- the outcome proposes v: only a Propose of v that changes its slot does
abbrev pub Proposes : Event → Outcome → ℕ → Type 0
Proposes e o v = (e.kind ≡ propose) × (e.value ≡ v) × ((m : Message) × (answer_of o ≡ Sends m))

-- an outcome at box i is a few moves, after which its room and its answer are told again
pub record OutcomeTold (n i : ℕ) (l : Ledger) (r : Room) (e : Event) (o : Outcome) : Type 0 where
  pub next : Ledger
  pub moved : MovesOf n i l next
  pub room_told : RoomTold n i next (room_after r o)
  pub answer_told : AnswerTold n next (answer_of o)
  pub proposals : (v : ℕ) → Said (proposed v) next → Said (proposed v) l ⊎ Proposes e o v

-- what holds where box h .index, one of h.boxes, is called with e about a slot whose room is r and whose ledger is l
pub record Situation (h : Head) (r : Room) (e : Event) (l : Ledger) : Type 0 where
  pub head_kept : HeadKept h
  pub good_event : event_ok h.boxes e ≡ true
  pub room_kept : well_kept h r ≡ true
  pub ledger_kept : Kept maker_of ℕ In (CollectSet h.boxes) l
  pub room_told : RoomTold h.boxes h.index l r
  pub event_told : EventTold h.boxes l e

-- what is to be shown of each kind
abbrev pub Told : Head → Room → Event → Ledger → Outcome → Type 0
Told h r e l o = OutcomeTold h.boxes h.index l r e o
