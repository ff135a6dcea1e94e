-- Laws of majorities, over the number of boxes n: any two of them share a box, how many boxes make one, and the sets at either end.
-- Relies on Boxes and BoxesLaws. Cited by the crates above.
use Rattle.std.specs.Prelude.{ℕ, zero, suc, ◌+◌, ◌-◌, ◌*◌, ◌/◌, ◌%◌, ◌^◌, ◌≤◌, ◌<◌, ◌≡◌, true, false, leb}
use Rattle.std.proofs.Common.{sym, ap, ◌∙◌, pow-suc, arith, ltb-true, lt-ltb, le-ltb, le-leb}
use Rattle.std.proofs.Math.Decide.{dec_le}
use Rattle.std.specs.Int.Count.{ones, ones_step, ones-ones}
use Rattle.std.proofs.lemmas.Nat.{ones-le}
use Rattle.std.proofs.lemmas.Bool.{lt-leb}
use Rattle.ballots.specs.Boxes.{holds_box, is_majority, with_box, smallest_majority}
use Rattle.ballots.specs.BoxesLaws.{upper_box, lowest_holds, with_box_of_held}

-- a box below n that a and b both hold
pub record Shared (n a b : ℕ) : Type 0 where
  pub box : ℕ
  pub box_below : box < n
  pub left_holds : holds_box a box ≡ true
  pub right_holds : holds_box b box ≡ true

-- a box that the halves share is the next box of the sets
shared_above : (n a b : ℕ) → Shared n (a / 2) (b / 2) → Shared (suc n) a b
shared_above n a b h =
    record {
      box = suc h.box;
      box_below = omega arith;
      left_holds = upper_box a h.box ∙ h.left_holds;
      right_holds = upper_box b h.box ∙ h.right_holds;
    }

-- two sets of n boxes with more than n members between them share one
pub crowded_meet : (n a b : ℕ) → a < 2 ^ n → b < 2 ^ n → n < ones a + ones b → Shared n a b
crowded_meet zero a b below_a below_b crowded = absurd (omega (arith, ones-le 0 a below_a, ones-le 0 b below_b))
crowded_meet (suc n) a b below_a below_b crowded =
    elim (dec_le 2 (a % 2 + b % 2)) [
      | yes both ↦
          record {
            box = zero;
            box_below = omega arith;
            left_holds = lowest_holds a (omega arith);
            right_holds = lowest_holds b (omega arith);
          }
      | no one ↦
          shared_above n a b
          (crowded_meet n (a / 2) (b / 2) (omega (arith, pow-suc 2 n)) (omega (arith, pow-suc 2 n)) (omega (arith, ones_step a, ones_step b)))
    ]

-- ---- how many boxes make a majority

pub majority_count : (n s : ℕ) → is_majority n s ≡ true → n < 2 * ones s
unfolding is_majority
majority_count n s e = omega (arith, ltb-true)

pub enough_is_majority : (n s : ℕ) → smallest_majority n ≤ ones s → is_majority n s ≡ true
unfolding is_majority
enough_is_majority n s enough = omega (arith, lt-ltb)

pub fewer_is_no_majority : (n s : ℕ) → ones s < smallest_majority n → is_majority n s ≡ false
unfolding is_majority
fewer_is_no_majority n s fewer = omega (arith, le-ltb)

pub majority_is : (n s : ℕ) → is_majority n s ≡ leb (smallest_majority n) (ones s)
majority_is n s =
    elim (dec_le (smallest_majority n) (ones s)) [
      | yes enough ↦ enough_is_majority n s enough ∙ sym (le-leb (smallest_majority n) (ones s) enough)
      | no fewer ↦ fewer_is_no_majority n s (omega arith) ∙ sym (lt-leb (smallest_majority n) (ones s) (omega arith))
    ]

-- ---- majorities meet, and the sets at either end

pub majorities_meet : (n a b : ℕ) → a < 2 ^ n → b < 2 ^ n → is_majority n a ≡ true → is_majority n b ≡ true → Shared n a b
majorities_meet n a b below_a below_b major_a major_b =
    crowded_meet n a b below_a below_b (omega (arith, majority_count n a major_a, majority_count n b major_b))

pub counted_box_changes_nothing : (n s k : ℕ) → holds_box s k ≡ true → is_majority n (with_box s k) ≡ is_majority n s
counted_box_changes_nothing n s k held = ap (is_majority n) (with_box_of_held s k held)

pub none_is_no_majority : (n : ℕ) → is_majority n 0 ≡ false
none_is_no_majority n = fewer_is_no_majority n 0 (omega (arith, ones-le 0 0 (omega arith)))

pub all_is_majority : (n : ℕ) → 1 ≤ n → is_majority n (2 ^ n - 1) ≡ true
all_is_majority n some = enough_is_majority n (2 ^ n - 1) (omega (arith, ones-ones n))
