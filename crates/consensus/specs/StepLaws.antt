-- What the tests of the step tell: the parts of a table that is not refused, and the slot that an event names.
-- Cited by the proof of the step and by the laws of the step.
use Rattle.std.specs.Prelude.{ℕ, zero, suc, ◌-◌, ◌≤◌, ◌<◌, ◌≡◌, refl, Bool, true, false, ◌&&◌, List, [], ltb, length, get_or}
use Rattle.std.proofs.Math.Bool.{and-eq-true_iff}
use Rattle.std.proofs.Common.{arith, eqb-true, leb-true, ltb-true}
use Rattle.ballots.specs.Ballot.{max_boxes}
use Rattle.consensus.specs.declared.Head.{Head}
use Rattle.consensus.specs.declared.Event.{Event}
use Rattle.consensus.specs.Layout.{slots, table_size, head_of}
use Rattle.consensus.specs.Events.{restart, used, field_ok, kind_ok, fields_ok, event_ok}
use Rattle.consensus.specs.Step.{table_ok}

-- "N (1 to 7)", "the box's own index (0 to N-1)"
pub record HeadKept (h : Head) : Type 0 where
  pub some_boxes : 1 ≤ h.boxes
  pub few_boxes : h.boxes ≤ max_boxes
  pub index_below : h.index < h.boxes

pub record TableKept (t : List ℕ) : Type 0 where
  pub whole : length t ≡ table_size
  pub head_kept : HeadKept (head_of t)

pub table_clauses : (t : List ℕ) → table_ok t ≡ true → TableKept t
unfolding table_ok
table_clauses t e =
    let a = (and-eq-true_iff _ _).0 e in
    let b = (and-eq-true_iff _ _).0 a.0 in
    let c = (and-eq-true_iff _ _).0 b.0 in
    record {
      whole = eqb-true _ _ c.0;
      head_kept = record {
        some_boxes = leb-true _ _ c.1;
        few_boxes = leb-true _ _ b.1;
        index_below = ltb-true _ _ a.1;
      };
    }

-- every row of the table but the last uses the slot
uses_slot : (row : ℕ) → row < 7 → get_or (get_or used row []) 0 0 ≡ 1
uses_slot zero h = refl
uses_slot (suc zero) h = refl
uses_slot (suc (suc zero)) h = refl
uses_slot (suc (suc (suc zero))) h = refl
uses_slot (suc (suc (suc (suc zero)))) h = refl
uses_slot (suc (suc (suc (suc (suc zero))))) h = refl
uses_slot (suc (suc (suc (suc (suc (suc zero)))))) h = refl
uses_slot (suc (suc (suc (suc (suc (suc (suc row))))))) h = absurd (omega arith)

-- the first of five tests that all pass
first_of_five : (a b c d f : Bool) → a && b && c && d && f ≡ true → a ≡ true
first_of_five true b c d f e = refl
first_of_five false b c d f e = e

-- every kind but Restart names a slot
pub names_a_slot : (n : ℕ) (e : Event) → event_ok n e ≡ true → (e.kind ≡ restart → ⊥) → e.slot.0 < slots
unfolding event_ok kind_ok fields_ok field_ok
names_a_slot n e ok other =
    let parts = (and-eq-true_iff _ _).0 ((and-eq-true_iff _ _).0 ok).0 in
    let kind = (and-eq-true_iff _ _).0 parts.0 in
    let from_one : 1 ≤ e.kind = leb-true _ _ kind.0 in
    let to_last : e.kind ≤ 8 = leb-true _ _ kind.1 in
    let field : field_ok e.kind 0 e.slot.0 (ltb e.slot.0 slots) ≡ true = first_of_five _ _ _ _ _ parts.1 in
    ltb-true _ _ (simp (uses_slot (e.kind - 1) (omega arith)) at field)
