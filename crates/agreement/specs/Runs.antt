-- Runs of boxes: worlds, the calls that may be made in them, and what can be seen of a box.
-- Over any step function, so that the promises can be asked of a wrong one too. Cited by every promise.
use Rattle.std.specs.Prelude.{ℕ, ◌+◌, ◌<◌, ◌≡◌, Bool, ◌&&◌, ◌⊎◌, List, [], ◌∷◌, eqb, if◌then◌else◌}
use Rattle.consensus.specs.declared.Vote.{Vote}
use Rattle.consensus.specs.declared.Saved.{Saved}
use Rattle.consensus.specs.declared.Event.{Event}
use Rattle.consensus.specs.declared.Message.{Message}
use Rattle.consensus.specs.Room.{agreed}
use Rattle.consensus.specs.Layout.{slots, fresh, room_at}
use Rattle.consensus.specs.Events.{propose, restart}
use Rattle.consensus.specs.Answers.{Answer, Quiet, Sends, BadTable, BadEvent, NotWellKept, NotAwaited, AlreadyAgreed, OtherAgreed, NoBallotLeft, answer_number}
use Rattle.consensus.specs.OnSlot.{all_boxes}
use Rattle.consensus.specs.Step.{Stepped}
pub mod Keeps

-- a box's table and an event give the new table and an answer
abbrev pub StepFunction : Type 0
StepFunction = List ℕ → Event → Stepped

-- a table for each box, and every message ever put out: messages stay, so that late, lost and repeated are all there
pub record World : Type 0 where
  pub tables : ℕ → List ℕ
  pub parcels : List Message

-- all boxes fresh, with the same box count and each its own index
abbrev pub start : ℕ → World
start n = record { tables = λ i. fresh n i; parcels = [] }

-- m is among the messages
abbrev pub Among : Message → List Message → Type 0
Among m [] = ⊥
Among m (p ∷ ps) = (m ≡ p) ⊎ Among m ps

-- from outside comes any Propose or Restart, with any fields
abbrev pub Outside : Event → Type 0
Outside e = (e.kind ≡ propose) ⊎ (e.kind ≡ restart)

-- delivered is a message that an earlier call put out, to this box or to all
pub record Delivered (w : World) (i : ℕ) (e : Event) : Type 0 where
  pub message : Message
  pub put_out : Among message w.parcels
  pub carried : message.event ≡ e
  pub addressed : (message.to ≡ i) ⊎ (message.to ≡ all_boxes)

-- the messages with the one that an answer puts out
abbrev pub with_message : Answer → List Message → List Message
with_message Quiet ps = ps
with_message (Sends m) ps = m ∷ ps
with_message BadTable ps = ps
with_message BadEvent ps = ps
with_message NotWellKept ps = ps
with_message NotAwaited ps = ps
with_message AlreadyAgreed ps = ps
with_message OtherAgreed ps = ps
with_message NoBallotLeft ps = ps

-- t at box i, and the other boxes as they were
abbrev pub with_table : (ℕ → List ℕ) → ℕ → List ℕ → ℕ → List ℕ
with_table tables i t j = if eqb j i then t else tables j

module _ (f : StepFunction) where
  -- what a call with e at box i answers, and the world after it
  abbrev pub answer_to : World → ℕ → Event → Answer
  answer_to w i e = (f (w.tables i) e).answer

  abbrev pub after : World → ℕ → Event → World
  after w i e = record {
    tables = with_table w.tables i (f (w.tables i) e).table;
    parcels = with_message (answer_to w i e) w.parcels;
  }

-- a call that a run of n boxes may make in world w: with e at box i, from outside or delivered
pub record MayCall (n : ℕ) (w : World) (i : ℕ) (e : Event) : Type 0 where
  pub a_box : i < n
  pub source : Outside e ⊎ Delivered w i e

infixl 10 ◌and_then◌
-- a run of n boxes from one world to another, call after call
pub data Run (f : StepFunction) (n : ℕ) (w : World) : World → Type 0 where
  still : Run f n w w
  ◌and_then◌ : {u : World} {i : ℕ} {e : Event} → Run f n w u → MayCall n u i e → Run f n w (after f u i e)

-- the call with e at box i in world w is a Propose of v for slot s, and answers 0
pub record ProposesFor (f : StepFunction) (w : World) (i : ℕ) (e : Event) (s v : ℕ) : Type 0 where
  pub a_propose : e.kind ≡ propose
  pub for_slot : e.slot.0 ≡ s
  pub its_value : e.value ≡ v
  pub answered : answer_number (answer_to f w i e) ≡ 0

-- some call of the run proposed v for slot s
abbrev pub ProposedIn : {f : StepFunction} {n : ℕ} {w u : World} → Run f n w u → ℕ → ℕ → Type 0
ProposedIn still s v = ⊥
ProposedIn {f} (◌and_then◌ {u = u} {i = i} {e = e} run may) s v = ProposedIn run s v ⊎ ProposesFor f u i e s v

-- 1 for a Propose that answers 0, and 0 for any other call
abbrev pub proposals : Bool → Answer → ℕ
proposals is_propose a = if is_propose && eqb (answer_number a) 0 then 1 else 0

-- how many calls of the run were Proposes that answered 0
abbrev pub proposals_in : {f : StepFunction} {n : ℕ} {w u : World} → Run f n w u → ℕ
proposals_in still = 0
proposals_in {f} (◌and_then◌ {u = u} {i = i} {e = e} run may) = proposals_in run + proposals (eqb e.kind propose) (answer_to f u i e)

-- the call with e at box i in world w is a Restart of box j, and answers 0
pub record RestartsBox (f : StepFunction) (w : World) (i : ℕ) (e : Event) (j : ℕ) : Type 0 where
  pub a_restart : e.kind ≡ restart
  pub this_box : i ≡ j
  pub answered : answer_number (answer_to f w i e) ≡ 0

-- some call of the run restarted box j
abbrev pub RestartedIn : {f : StepFunction} {n : ℕ} {w u : World} → Run f n w u → ℕ → Type 0
RestartedIn still j = ⊥
RestartedIn {f} (◌and_then◌ {u = u} {i = i} {e = e} run may) j = RestartedIn run j ⊎ RestartsBox f u i e j

-- every call of the run was at a box of a set
abbrev pub CalledOnly : {f : StepFunction} {n : ℕ} {w u : World} → (ℕ → Type 0) → Run f n w u → Type 0
CalledOnly boxes still = Unit {0}
CalledOnly boxes (◌and_then◌ {i = i} run may) = CalledOnly boxes run × boxes i

-- what a box says of a slot: its agreed value, zero for nothing
abbrev pub says : World → ℕ → ℕ → ℕ
says w i s = agreed (room_at (w.tables i) s)

-- what a box has saved of a slot: numbers 0 to 2, its promise and what it has accepted
abbrev pub has_saved : World → ℕ → ℕ → Saved
has_saved w i s = (room_at (w.tables i) s).saved

abbrev pub has_promised : World → ℕ → ℕ → ℕ
has_promised w i s = (has_saved w i s).promised.0

abbrev pub has_accepted : World → ℕ → ℕ → Vote
has_accepted w i s = (has_saved w i s).accepted

-- the call with e at box i answers 0, keeps numbers 0 to 2 of every slot there and leaves the box saying nothing
pub record Forgets (f : StepFunction) (w : World) (i : ℕ) (e : Event) : Type 0 where
  pub answered : answer_number (answer_to f w i e) ≡ 0
  pub keeps_saved : (s : ℕ) → s < slots → has_saved (after f w i e) i s ≡ has_saved w i s
  pub says_nothing : (s : ℕ) → s < slots → says (after f w i e) i s ≡ 0
