-- The walk over the slots: at each slot, applying what is left of the run to the entry so far gives the known prefix's entry.
-- Relies on specs/Board. Cited by the proof of `entry_of`.
use Rattle.std.specs.Prelude.{if◌then◌else◌}
use Prim.Native.Nat.{ℕ, suc, ◌+◌, ◌-◌, ◌≤◌, ◌<◌}
use mathlib.Core.Path.{◌≡◌, refl, sym, ◌∙◌}
use mathlib.Core.Bool.{Bool, true, false, not, ◌&&◌}
use mathlib.Core.List.{List, [], ◌∷◌}
use native.Mathlib.Numerals.{add-one}
use native.Mathlib.Omega.{arith}
use lib.Dec.{eqb}
use Rattle.consensus.specs.Layout.{slots}
use Rattle.consensus.specs.Step.{agreed_at}
use Rattle.board.specs.declared.Entry.{Entry}
use Rattle.board.specs.Board.{free, applied, applied_all, run_from, known_prefix, entry_of}

-- the run's rest while every slot so far is agreed, and nothing after a gap
abbrev pub rest_from : (ℕ → ℕ) → Bool → ℕ → ℕ → List ℕ
rest_from agreed known left s = if known then run_from left s agreed else []

pub record Walked (table : List ℕ) (link : ℕ) (e : Entry) (known : Bool) (s : ℕ) : Type 0 where
  pub within : s ≤ slots
  pub same_end : applied_all e link (rest_from (agreed_at table) known (slots - s) s) ≡ entry_of (known_prefix table) link

pub walk_starts : (table : List ℕ) (link : ℕ) → Walked table link free true 0
walk_starts table link = record { within = omega arith; same_end = refl }

-- no slot is left: the entry is the last
nothing_left : (agreed : ℕ → ℕ) (link s : ℕ) (e : Entry) (known : Bool) → applied_all e link (rest_from agreed known 0 s) ≡ e
unfolding run_from
nothing_left agreed link s e true = refl
nothing_left agreed link s e false = refl

pub walk_ends : (table : List ℕ) (link : ℕ) (e : Entry) (known : Bool) (s : ℕ) → slots ≤ s → Walked table link e known s → e ≡ entry_of (known_prefix table) link
walk_ends table link e known s past w =
    let all : slots - s ≡ 0 = omega arith in
    sym (nothing_left (agreed_at table) link s e known) ∙ (rw all at w.same_end)

-- the value of slot s is applied exactly if it is the next of the run
next_of_run :
    (agreed : ℕ → ℕ) (link left s : ℕ) (e : Entry) (known : Bool) →
    applied_all (if known && not (eqb (agreed s) 0) then applied e link (agreed s) else e) link
    (rest_from agreed (known && not (eqb (agreed s) 0)) left (suc s))
    ≡ applied_all e link (rest_from agreed known (suc left) s)
unfolding run_from
next_of_run agreed link left s e false = refl
next_of_run agreed link left s e true = by_gap (eqb (agreed s) 0)
  where
    by_gap :
        (gap : Bool) →
        applied_all (if not gap then applied e link (agreed s) else e) link (rest_from agreed (not gap) left (suc s))
        ≡ applied_all e link (if gap then [] else agreed s ∷ run_from left (suc s) agreed)
    by_gap true = refl
    by_gap false = refl

module _ (table : List ℕ) (link value : ℕ) (e after : Entry) (known : Bool) (s : ℕ) where
  slot_walked :
      s < slots → value ≡ agreed_at table s →
      after ≡ (if known && not (eqb value 0) then applied e link value else e) →
      Walked table link e known s → Walked table link after (known && not (eqb value 0)) (s + 1)
  slot_walked below read made w =
      let one_less : slots - s ≡ suc (slots - suc s) = omega arith in
      record {
        within = omega arith;
        same_end = rw (made, read, add-one) (next_of_run (agreed_at table) link (slots - suc s) s e known ∙ (rw one_less at w.same_end));
      }

  -- while every slot so far is agreed its value is applied
  pub slot_counted :
      (known && not (eqb value 0)) ≡ true → after ≡ applied e link value → s < slots → value ≡ agreed_at table s →
      Walked table link e known s → Walked table link after (known && not (eqb value 0)) (s + 1)
  slot_counted counts made below read w = slot_walked below read (rw counts made) w

  -- from the first gap on none is
  pub slot_passed :
      (known && not (eqb value 0)) ≡ false → after ≡ e → s < slots → value ≡ agreed_at table s →
      Walked table link e known s → Walked table link after (known && not (eqb value 0)) (s + 1)
  slot_passed gap same below read w = slot_walked below read (rw gap same) w
