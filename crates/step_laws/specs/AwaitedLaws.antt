-- What it says that a reply is awaited, and that counting its sender leaves a set of boxes.
-- Relies on the laws of sets of boxes. Cited by the laws of Last and Accept and by proofs about runs.
use Rattle.std.specs.Prelude.{ℕ, ◌^◌, ◌<◌, ◌≡◌, true, false}
use Rattle.std.proofs.Common.{arith, eqb-true, eq-eqb}
use Rattle.std.proofs.lemmas.Bool.{not-true}
use Rattle.ballots.specs.Boxes.{holds_box, with_box}
use Rattle.ballots.specs.BoxesLaws.{with_box_below}
use Rattle.consensus.specs.declared.Head.{Head}
use Rattle.consensus.specs.declared.Room.{Room}
use Rattle.consensus.specs.declared.Event.{Event}
use Rattle.consensus.specs.Room.{phase, own_ballot}
use Rattle.consensus.specs.OnSlot.{awaited}
use Rattle.step_laws.specs.ByTest.{conjuncts}
use Rattle.step_laws.specs.HeadLaws.{HeadKept}

-- "For phase p with own ballot b and a sender not yet counted"
pub record Awaited (r : Room) (e : Event) (p counted : ℕ) : Type 0 where
  pub in_phase : phase r ≡ p
  pub own_round : own_ballot r ≡ e.ballot.0
  pub not_counted : holds_box counted e.from ≡ false

pub awaited_clauses : (r : Room) (e : Event) (p counted : ℕ) → awaited r e p counted ≡ true → Awaited r e p counted
awaited_clauses r e p counted ok =
    record {
      in_phase = eqb-true (phase r) p (search conjuncts);
      own_round = eqb-true (own_ballot r) e.ballot.0 (search conjuncts);
      not_counted = not-true (holds_box counted e.from) (search conjuncts);
    }

pub clauses_awaited : (r : Room) (e : Event) (p counted : ℕ) → Awaited r e p counted → awaited r e p counted ≡ true
clauses_awaited r e p counted a =
    simp (eq-eqb (phase r) p a.in_phase, eq-eqb (own_ballot r) e.ballot.0 a.own_round, a.not_counted)

pub counted_are_boxes : (h : Head) (s k : ℕ) → HeadKept h → s < 2 ^ h.boxes → k < h.boxes → with_box s k < 2 ^ h.boxes
counted_are_boxes h s k good below box = with_box_below h.boxes s k below box (omega arith)
