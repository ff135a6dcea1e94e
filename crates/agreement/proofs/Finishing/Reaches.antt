-- Agreement is reached: from the start of n boxes, 1 to 7, there is a run after which any box has any value agreed for any slot.
-- So no promise about agreed values is kept only because none is ever agreed. Relies on All; cited by the promises and by Tight.
use Rattle.std.specs.Prelude.{ℕ, zero, suc, ◌≤◌, ◌<◌, ◌≡◌, refl, List, [], ◌∷◌, ◌≢◌, length}
use Rattle.std.proofs.Common.{ap, ◌∙◌, inl, inr, arith}
use Rattle.ballots.specs.Ballot.{max_boxes}
use Rattle.ballots.specs.Boxes.{smallest_majority}
use Rattle.consensus.specs.declared.Room.{Room}
use Rattle.consensus.specs.Room.{promised, accepted_ballot, agreed}
use Rattle.consensus.specs.Layout.{slots, fresh, room_at}
use Rattle.consensus.specs.Step.{step}
use Rattle.step_laws.specs.LayoutLaws.{fresh_room, room_at_fresh}
use Rattle.agreement.specs.Runs.{StepFunction, World, start, Run, after, says, has_promised}
use Rattle.agreement.specs.Runs.Run.{still, ◌and_then◌}
use Rattle.agreement.specs.Finishing.{Listed, Distinct, JustEnough, OrderOf, Turn, Turns, proposal, MayFinish, Finishes, FinishesAll}
use Rattle.agreement.specs.Finishing.Turns.{none, next}
use Rattle.agreement.proofs.Finishing.All.{finishes_all}

-- ---- the first m boxes

abbrev pub first_boxes : ℕ → List ℕ
first_boxes zero = []
first_boxes (suc m) = m ∷ first_boxes m

pub first_below : (m q : ℕ) → Listed q (first_boxes m) → q < m
first_below zero q listed = absurd listed
first_below (suc m) q (inl same) = omega arith
first_below (suc m) q (inr listed) = omega (arith, first_below m q listed)

first_distinct : (m : ℕ) → Distinct (first_boxes m)
first_distinct zero = tt
first_distinct (suc m) = ((λ listed. omega (arith, first_below m m listed)), first_distinct m)

first_many : (m : ℕ) → length (first_boxes m) ≡ m
first_many zero = refl
first_many (suc m) = ap suc (first_many m)

-- a list of distinct boxes is an order of itself
pub same_order : (boxes : List ℕ) → Distinct boxes → OrderOf boxes boxes
same_order boxes distinct =
    record { as_many = refl; distinct = distinct; all_listed = λ q listed. listed; only_listed = λ q listed. listed }

-- ---- turns are a run

pub turns_run : (f : StepFunction) (n p s b : ℕ) (w u v : World) (ts : List Turn) → Run f n w u → Turns f n p s b u ts v → Run f n w v
turns_run f n p s b w u v ts run none = run
turns_run f n p s b w u v ts run (next {i = i} {ts = rest} e takes turns) =
    turns_run f n p s b w (after f u i e) v rest (◌and_then◌ run takes.may) turns

-- ---- boxes that are fresh

-- a box and a smallest majority of boxes whose tables are fresh
pub record Fresh (n : ℕ) (w : World) (p : ℕ) (boxes : List ℕ) : Type 0 where
  pub a_box : p < n
  pub just_enough : JustEnough n boxes
  pub box_fresh : w.tables p ≡ fresh n p
  pub boxes_fresh : (q : ℕ) → Listed q boxes → w.tables q ≡ fresh n q

module _ (n : ℕ) (w : World) (s : ℕ) where
  room_of_fresh : (q : ℕ) → w.tables q ≡ fresh n q → room_at (w.tables q) s ≡ fresh_room
  room_of_fresh q is = ap (λ (t : List ℕ). room_at t s) is ∙ room_at_fresh n q s

  fresh_may_finish : (p v : ℕ) (boxes : List ℕ) → s < slots → v ≢ 0 → Fresh n w p boxes → MayFinish n w p s v boxes
  fresh_may_finish p v boxes slot value are =
      let none_promised : (q : ℕ) → w.tables q ≡ fresh n q → has_promised w q s ≡ 0 = λ q is. ap promised (room_of_fresh q is) in
      record {
        a_box = are.a_box;
        a_slot = slot;
        a_value = value;
        nothing_agreed = ap (λ (r : Room). agreed r) (room_of_fresh p are.box_fresh);
        x_left = omega (arith, none_promised p are.box_fresh);
        just_enough = are.just_enough;
        nothing_as_high = λ q listed. omega (arith, none_promised q (are.boxes_fresh q listed));
      }

-- the box proposes v to them, and they agree v
pub fresh_finish : (f : StepFunction) → FinishesAll f → (n : ℕ) (w : World) (p s v : ℕ) (boxes : List ℕ) → 1 ≤ n → n ≤ max_boxes → s < slots → v ≢ 0
    → Run f n (start n) w → Fresh n w p boxes → Finishes f n w p s v boxes boxes boxes boxes boxes
fresh_finish f finishes n w p s v boxes some few slot value run are =
    let order = same_order boxes are.just_enough.distinct in
    finishes.finishes n w p s v boxes boxes boxes boxes boxes some few run (fresh_may_finish n w s p v boxes slot value are) order order order order

pub fresh_agree : (f : StepFunction) → FinishesAll f → (n : ℕ) (w : World) (p s v : ℕ) (boxes : List ℕ) → 1 ≤ n → n ≤ max_boxes → s < slots → v ≢ 0
    → Run f n (start n) w → Fresh n w p boxes → (end : World) × Run f n w end × (says end p s ≡ v)
fresh_agree f finishes n w p s v boxes some few slot value run are =
    let done = fresh_finish f finishes n w p s v boxes some few slot value run are in (
      done.end,
      turns_run f n p s _ w (after f w p (proposal s v)) done.end _
          (◌and_then◌ still (record { a_box = are.a_box; source = inl (inl refl) })) done.turns,
      done.agreed_value.none_accepted (λ q listed. ap accepted_ballot (room_of_fresh n w s q (are.boxes_fresh q listed))),
    )

-- ---- at the start

pub all_fresh : (n p : ℕ) → 1 ≤ n → p < n → Fresh n (start n) p (first_boxes (smallest_majority n))
all_fresh n p some box =
    record {
      a_box = box;
      just_enough = record {
        smallest = first_many (smallest_majority n);
        distinct = first_distinct (smallest_majority n);
        all_below = λ q listed. omega (arith, first_below (smallest_majority n) q listed);
      };
      box_fresh = refl;
      boxes_fresh = λ q listed. refl;
    }

-- any box, any slot, whatever value is proposed
pub reaches_agreement : (n p s v : ℕ) → 1 ≤ n → n ≤ max_boxes → p < n → s < slots → v ≢ 0 → (end : World) × Run step n (start n) end × (says end p s ≡ v)
reaches_agreement n p s v some few box slot value =
    fresh_agree step finishes_all n (start n) p s v (first_boxes (smallest_majority n)) some few slot value still (all_fresh n p some box)
