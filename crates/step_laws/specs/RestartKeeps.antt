-- Restart leaves every slot well kept whose numbers 0 to 2 keep their rules, and its test says so of each slot.
-- Relies on the clauses of well kept. Cited by the laws of the step on tables.
use Rattle.std.specs.Prelude.{ℕ, zero, suc, ◌<◌, ◌≡◌, refl, true, false, List}
use Rattle.std.proofs.Common.{subst, true≢false, not-suc-le-zero, arith}
use Rattle.std.proofs.Math.Bool.{and-true}
use Rattle.std.proofs.Math.Decide.{ℕ_discrete}
use Rattle.consensus.specs.declared.Head.{Head}
use Rattle.consensus.specs.declared.Room.{Room}
use Rattle.consensus.specs.Layout.{head_of, room_at}
use Rattle.consensus.specs.WellKept.{saved_kept, well_kept}
use Rattle.consensus.specs.OnSlot.{restarted}
use Rattle.consensus.specs.Step.{all_saved_kept}
use Rattle.step_laws.specs.ByTest.{by_answer, and_left, and_right}
use Rattle.step_laws.specs.KeptLaws.{saved_clauses, clauses_kept}
use Rattle.step_laws.specs.OutcomeLaws.{idle_room_kept}

-- "Numbers 3 to 10 of every slot zero"
pub restarted_kept : (h : Head) (r : Room) → saved_kept h r ≡ true → well_kept h (restarted r) ≡ true
restarted_kept h r k = clauses_kept h (restarted r) (idle_room_kept h r.saved 0 (saved_clauses h r k))

-- ---- numbers 0 to 2 of each of the first k slots

pub all_saved_kept_if_each : (k : ℕ) (t : List ℕ) → ((s : ℕ) → s < k → saved_kept (head_of t) (room_at t s) ≡ true) → all_saved_kept k t ≡ true
unfolding all_saved_kept
all_saved_kept_if_each zero t each = refl
all_saved_kept_if_each (suc k) t each = simp (all_saved_kept_if_each k t (λ s below. each s (omega arith)), each k (omega arith))

pub each_saved_kept : (k : ℕ) (t : List ℕ) (s : ℕ) → all_saved_kept k t ≡ true → s < k → saved_kept (head_of t) (room_at t s) ≡ true
unfolding all_saved_kept
each_saved_kept zero t s all below = absurd (not-suc-le-zero below)
each_saved_kept (suc k) t s all below =
    elim (ℕ_discrete k s) [
      | yes same ↦
          subst (λ (x : ℕ). saved_kept (head_of t) (room_at t x) ≡ true) same
          (and_right (all_saved_kept k t) (saved_kept (head_of t) (room_at t k)) all)
      | no other ↦
          each_saved_kept k t s (and_left (all_saved_kept k t) (saved_kept (head_of t) (room_at t k)) all) (omega arith)
    ]

-- one of the first k slots whose numbers 0 to 2 break their rules
pub record SomeSavedBroken (k : ℕ) (t : List ℕ) : Type 0 where
  pub slot : ℕ
  pub slot_below : slot < k
  pub saved_broken : saved_kept (head_of t) (room_at t slot) ≡ false

pub some_saved_broken : (k : ℕ) (t : List ℕ) → all_saved_kept k t ≡ false → SomeSavedBroken k t
unfolding all_saved_kept
some_saved_broken zero t not_all = absurd (true≢false not_all)
some_saved_broken (suc k) t not_all =
    by_answer (saved_kept (head_of t) (room_at t k))
    (λ kept.
    let earlier = some_saved_broken k t (simp (kept, and-true) at not_all) in
    record { slot = earlier.slot; slot_below = omega arith; saved_broken = earlier.saved_broken })
    (λ broken. record { slot = k; slot_below = omega arith; saved_broken = broken })
