-- Told of too few boxes, two groups without a common box agree on two values. Every count that is too low, for every number of boxes, by one table
-- of runs that computes. Relies on Replays. Cited by Tight.
use Prim.Native.Nat.{ℕ, zero, suc, ◌+◌, ◌*◌, ◌/◌, ◌<◌}
use Rattle.std.specs.Prelude.{◌≡◌, Bool, true, ◌&&◌, List, [], ◌∷◌, ◌++◌, eqb, if◌then◌else◌}
use Rattle.std.proofs.Math.Path.{refl, subst, subst⁻¹, fun_ext}
use Rattle.std.proofs.Common.{sym, ap, arith, eqb-true}
use Rattle.std.proofs.Math.Bool.{and-eq-true_iff}
use Rattle.std.proofs.Math.Decide.{ℕ_discrete}
use Rattle.ballots.specs.Ballot.{max_boxes}
use Rattle.ballots.specs.Boxes.{smallest_majority}
use Rattle.step_laws.specs.ByTest.{by_test}
use Rattle.agreement.specs.Promises.{Count, Promises}
use Rattle.agreement.specs.Tight.Impostors.{invents_count}
use Rattle.agreement.proofs.Tight.Replays.{collected, agreed_by, Replay, disagree, disagreement_breaks}

-- the m boxes from k on
abbrev boxes_from : ℕ → ℕ → List ℕ
boxes_from zero k = []
boxes_from (suc m) k = k ∷ boxes_from m (suc k)

-- of n boxes the first m agree 1 by themselves, and the next m agree 2
abbrev two_groups : ℕ → ℕ → Replay
two_groups n m =
    record {
      boxes = n;
      first = collected 0 (boxes_from m 0) 8 1 ++ agreed_by 0 (boxes_from m 0) 8 1;
      later = collected m (boxes_from m m) (8 + m) 2 ++ agreed_by m (boxes_from m m) (8 + m) 2;
      one = 0;
      other = m;
    }

-- the count with c at n
abbrev with_count : (ℕ → ℕ) → ℕ → ℕ → ℕ → ℕ
with_count count n c k = if eqb k n then c else count k

with_its_own : (count : ℕ → ℕ) (n : ℕ) → with_count count n (count n) ≡ count
with_its_own count n =
    fun_ext (λ k. by_test (λ (x : ℕ). x ≡ count k) (eqb k n) (count n) (count k) (λ same. ap count (sym (eqb-true k n same))) (λ other. refl))

-- all numbers below k pass
all_pass_below : ℕ → (ℕ → Bool) → Bool
all_pass_below zero passes = true
all_pass_below (suc k) passes = all_pass_below k passes && passes k

pass_below : (k : ℕ) (passes : ℕ → Bool) (i : ℕ) → all_pass_below k passes ≡ true → i < k → passes i ≡ true
unfolding all_pass_below
pass_below zero passes i all below = absurd (omega arith)
pass_below (suc k) passes i all below =
    let parts = (and-eq-true_iff (all_pass_below k passes) (passes k)).0 all in
    elim (ℕ_discrete i k) [
      | yes same ↦ subst⁻¹ (λ (x : ℕ). passes x ≡ true) same parts.1
      | no other ↦ pass_below k passes i parts.0 (omega arith)
    ]

module _ (count : ℕ → ℕ) where
  -- told that n boxes are c
  two_agree : ℕ → ℕ → Bool
  unfolding disagree invents_count
  two_agree n c = disagree (invents_count (with_count count n c)) (two_groups n (smallest_majority c))

  -- for every n from 1 to 7 and every c whose smallest majority is less than n's
  abbrev too_few : ℕ → Bool
  too_few n = all_pass_below (2 * (n / 2)) (two_agree n)

  every_too_few : all_pass_below (suc max_boxes) too_few ≡ true
  unfolding all_pass_below two_agree
  every_too_few = refl

  pub told_of_fewer_breaks : (n : ℕ) → Count n → smallest_majority (count n) < smallest_majority n → ¬ Promises (invents_count count)
  unfolding two_agree
  told_of_fewer_breaks n counted fewer =
      let for_n = pass_below (suc max_boxes) too_few n every_too_few (omega (arith, counted.few)) in
      let shown = pass_below (2 * (n / 2)) (two_agree n) (count n) for_n (omega arith) in
      subst (λ (c : ℕ → ℕ). ¬ Promises (invents_count c)) (with_its_own count n)
      (disagreement_breaks (invents_count (with_count count n (count n))) (two_groups n (smallest_majority (count n))) shown)
