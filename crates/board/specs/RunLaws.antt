-- The known prefix is the longest run: each of its values is agreed in its slot, and the slot after it has agreed nothing.
-- Relies on Board. Cited by whoever reads the known prefix slot by slot.
use Rattle.std.specs.Prelude.{ℕ, zero, suc, ◌+◌, ◌≤◌, ◌<◌, ◌≡◌, refl, Bool, true, false, List, [], ◌∷◌, eqb, length, get_or, if◌then◌else◌}
use Rattle.std.proofs.Common.{sym, ap, ◌∙◌, zero-add, arith, eqb-true}
use Rattle.std.proofs.lemmas.Bool.{eqb-false}
use Rattle.consensus.specs.Layout.{slots}
use Rattle.board.specs.Board.{run_from, agreed_run}

-- `run` is the longest run of agreed slots among the `left` slots from `slot` on
pub record LongestFrom (agreed : ℕ → ℕ) (slot left : ℕ) (run : List ℕ) : Type 0 where
  pub within : length run ≤ left
  pub holds_agreed : (i : ℕ) → i < length run → (get_or run i 0 ≡ agreed (slot + i)) × (agreed (slot + i) ≡ 0 → ⊥)
  pub ends_at_gap : length run < left → agreed (slot + length run) ≡ 0

run_is_longest_from : (agreed : ℕ → ℕ) (left slot : ℕ) → LongestFrom agreed slot left (run_from left slot agreed)
unfolding run_from
run_is_longest_from agreed zero slot =
    record { within = omega arith; holds_agreed = λ i h. absurd (omega arith); ends_at_gap = λ h. absurd (omega arith) }
run_is_longest_from agreed (suc left) slot =
    by_gap (run_is_longest_from agreed left (suc slot)) (eqb (agreed slot) 0) refl
  where
    -- the slots of a run that starts one slot later
    moved : (i : ℕ) → agreed (suc slot + i) ≡ agreed (slot + suc i)
    moved i = ap agreed (omega arith)

    here : agreed slot ≡ agreed (slot + 0)
    here = ap agreed (omega arith)

    first_or_later :
        (run : List ℕ) → (agreed slot ≡ 0 → ⊥) → LongestFrom agreed (suc slot) left run →
        (i : ℕ) → i < suc (length run) → (get_or (agreed slot ∷ run) i 0 ≡ agreed (slot + i)) × (agreed (slot + i) ≡ 0 → ⊥)
    first_or_later run some rest zero h = (here, λ z. some (here ∙ z))
    first_or_later run some rest (suc i) h =
        let later = rest.holds_agreed i (omega arith) in
        (later.0 ∙ moved i, λ z. later.1 (moved i ∙ z))

    by_gap :
        LongestFrom agreed (suc slot) left (run_from left (suc slot) agreed) →
        (gap : Bool) → eqb (agreed slot) 0 ≡ gap →
        LongestFrom agreed slot (suc left) (if gap then [] else agreed slot ∷ run_from left (suc slot) agreed)
    by_gap rest true e =
        record {
          within = omega arith;
          holds_agreed = λ i h. absurd (omega arith);
          ends_at_gap = λ h. sym here ∙ eqb-true (agreed slot) 0 e;
        }
    by_gap rest false e =
        record {
          within = omega (arith, rest.within);
          holds_agreed = first_or_later (run_from left (suc slot) agreed) (eqb-false (agreed slot) 0 e) rest;
          ends_at_gap = λ h. sym (moved (length (run_from left (suc slot) agreed))) ∙ rest.ends_at_gap (omega arith);
        }

pub run_is_longest : (agreed : ℕ → ℕ) → LongestFrom agreed 0 slots (agreed_run agreed)
run_is_longest agreed = run_is_longest_from agreed slots 0

-- each value of the known prefix is what its slot has agreed
pub known_value_is_agreed : (agreed : ℕ → ℕ) (i : ℕ) → i < length (agreed_run agreed) → get_or (agreed_run agreed) i 0 ≡ agreed i
known_value_is_agreed agreed i below = ((run_is_longest agreed).holds_agreed i below).0 ∙ ap agreed (zero-add i)
