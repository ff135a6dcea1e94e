-- Finishing: what a majority that has promised nothing as high as a new ballot does, call by call.
-- The statement only, over any step function; cited by the promises.
use Rattle.std.specs.Prelude.{ℕ, ◌≤◌, ◌<◌, ◌≡◌, ◌≢◌, ◌⊎◌, List, [], ◌∷◌, ◌++◌, map, length}
use Rattle.ballots.specs.Ballot.{max_boxes, max_x, next_x, next_ballot}
use Rattle.ballots.specs.Boxes.{smallest_majority}
use Rattle.consensus.specs.declared.Event.{Event}
use Rattle.consensus.specs.declared.Message.{Message}
use Rattle.consensus.specs.Layout.{slots}
use Rattle.consensus.specs.Events.{propose, collect, last, begin, accept, success, event}
use Rattle.consensus.specs.OnSlot.{all_boxes}
use Rattle.consensus.specs.Answers.{answer_number}
use Rattle.agreement.specs.Runs.{StepFunction, World, start, Among, MayCall, Run, answer_to, after, says, has_promised, has_accepted}
pub mod Calls
pub mod Asks
pub mod Counts

-- q is one of the boxes listed
abbrev pub Listed : ℕ → List ℕ → Type 0
Listed q [] = ⊥
Listed q (p ∷ ps) = (q ≡ p) ⊎ Listed q ps

-- no box is listed twice
abbrev pub Distinct : List ℕ → Type 0
Distinct [] = Unit {0}
Distinct (q ∷ qs) = (Listed q qs → ⊥) × Distinct qs

-- a majority of the smallest size, of n boxes: none is listed twice, and none could be left out
pub record JustEnough (n : ℕ) (boxes : List ℕ) : Type 0 where
  pub smallest : length boxes ≡ smallest_majority n
  pub distinct : Distinct boxes
  pub all_below : (q : ℕ) → Listed q boxes → q < n

-- the same boxes in an order of their own: as many, distinct, and each of them listed
pub record OrderOf (boxes order : List ℕ) : Type 0 where
  pub as_many : length order ≡ length boxes
  pub distinct : Distinct order
  pub all_listed : (q : ℕ) → Listed q boxes → Listed q order
  pub only_listed : (q : ℕ) → Listed q order → Listed q boxes

-- e on its way to box i
abbrev pub parcel : ℕ → Event → Message
parcel i e = record { to = i; event = e }

-- who is called with which kind of event from whom
pub record Turn : Type 0 where
  pub box : ℕ
  pub kind : ℕ
  pub from : ℕ

abbrev pub turn : ℕ → ℕ → ℕ → Turn
turn i k q = record { box = i; kind = k; from = q }

-- the call with e at box i may be made, is about slot s and ballot b, answers 0, and finds nothing agreed at box p
pub record TakesTurn (f : StepFunction) (n p s b : ℕ) (w : World) (i : ℕ) (e : Event) : Type 0 where
  pub may : MayCall n w i e
  pub of_slot : e.slot.0 ≡ s
  pub of_ballot : e.ballot.0 ≡ b
  pub answered : answer_number (answer_to f w i e) ≡ 0
  pub nothing_agreed : says w p s ≡ 0

-- the calls turn by turn, from one world to another
pub data Turns (f : StepFunction) (n p s b : ℕ) : World → List Turn → World → Type 0 where
  none : {w : World} → Turns f n p s b w [] w
  next :
      {w u : World} {i : ℕ} {ts : List Turn} (e : Event) → TakesTurn f n p s b w i e →
      Turns f n p s b (after f w i e) ts u → Turns f n p s b w (turn i e.kind e.from ∷ ts) u

-- Propose v for slot s
abbrev pub proposal : ℕ → ℕ → Event
proposal s v = event propose s 0 0 0 v

-- M Collects, M Lasts, M Begins and M Accepts between p and the boxes, each of the four in an order of its own
abbrev pub replies : ℕ → List ℕ → List ℕ → List ℕ → List ℕ → List Turn
replies p q₁ q₂ q₃ q₄ =
    map (λ q. turn q collect p) q₁
    ++ map (λ q. turn p last q) q₂
    ++ map (λ q. turn q begin p) q₃
    ++ map (λ q. turn p accept q) q₄

-- the premises: p has nothing agreed for the slot and an x left, and the boxes, a majority of the smallest size,
-- have each promised nothing as high as p's next ballot
pub record MayFinish (n : ℕ) (w : World) (p s v : ℕ) (boxes : List ℕ) : Type 0 where
  pub a_box : p < n
  pub a_slot : s < slots
  pub a_value : v ≢ 0
  pub nothing_agreed : says w p s ≡ 0
  pub x_left : next_x (has_promised w p s) ≤ max_x
  pub just_enough : JustEnough n boxes
  pub nothing_as_high : (q : ℕ) → Listed q boxes → has_promised w q s < next_ballot (has_promised w p s) p

-- u is the accepted value of the highest accepted ballot for slot s among the boxes, or v where none of them has accepted one
pub record HighestAccepted (w : World) (s : ℕ) (boxes : List ℕ) (v u : ℕ) : Type 0 where
  pub none_accepted : ((q : ℕ) → Listed q boxes → (has_accepted w q s).ballot.0 ≡ 0) → u ≡ v
  pub highest :
      (q : ℕ) → Listed q boxes → (has_accepted w q s).ballot.0 ≢ 0 →
      ((r : ℕ) → Listed r boxes → (has_accepted w r s).ballot.0 ≤ (has_accepted w q s).ballot.0) → u ≡ (has_accepted w q s).value

-- Propose answers 0, and so does each of the 4M calls after it, each with a message of the new ballot; p has the slot agreed after the
-- last and after none before, with the value that the boxes' accepted ones ask for, and Success with it has been put out to all
pub record Finishes (f : StepFunction) (n : ℕ) (w : World) (p s v : ℕ) (boxes q₁ q₂ q₃ q₄ : List ℕ) : Type 0 where
  pub proposed : answer_number (answer_to f w p (proposal s v)) ≡ 0
  pub end : World
  pub turns : Turns f n p s (next_ballot (has_promised w p s) p) (after f w p (proposal s v)) (replies p q₁ q₂ q₃ q₄) end
  pub agreed : says end p s ≢ 0
  pub agreed_value : HighestAccepted w s boxes v (says end p s)
  pub told_to_all : Among (parcel all_boxes (event success s p 0 0 (says end p s))) end.parcels

-- "then Propose followed by M Collects, M Lasts, M Begins and M Accepts between it and those M agrees a value on exactly the call numbered 4M + 1"
pub record FinishesAll (f : StepFunction) : Type 0 where
  pub finishes :
      (n : ℕ) (w : World) (p s v : ℕ) (boxes q₁ q₂ q₃ q₄ : List ℕ) → 1 ≤ n → n ≤ max_boxes → Run f n (start n) w → MayFinish n w p s v boxes →
      OrderOf boxes q₁ → OrderOf boxes q₂ → OrderOf boxes q₃ → OrderOf boxes q₄ → Finishes f n w p s v boxes q₁ q₂ q₃ q₄
