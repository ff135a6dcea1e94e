-- Laws of sets of boxes: membership taken digit by digit, the set with one box more, its count and its bound, and subsets.
-- Relies on Boxes and the library's count of ones. Cited by the proofs of `holds` and `with_box`, by MajorityLaws, and by the crates above.
use Rattle.std.specs.Prelude.{ℕ, zero, suc, ◌+◌, ◌/◌, ◌%◌, ◌^◌, ◌≤◌, ◌<◌, ◌≡◌, refl, Bool, true, false, ◌≢◌, eqb}
use Rattle.std.proofs.Common.{sym, ap, ◌∙◌, true≢false, pow-suc, div-one, not-suc-le-zero, lt_of_lt_of_le, lt_of_not-le, arith, pow_pos, pow_mono, eqb-true, eq-eqb, le-leb}
use Rattle.std.proofs.Math.Bool.{or-true}
use Rattle.std.proofs.Math.Nat.{pow-succ', div-div-eq-div-mul, div-eq_of_lt, zero-div, add-div_right}
use Rattle.std.proofs.Math.Decide.{dec_lt, ℕ_discrete}
use Rattle.std.specs.Int.Count.{ones, ones_step}
use Rattle.std.proofs.lemmas.Nat.{ones-le}
use Rattle.std.proofs.lemmas.Bool.{eqb-false, lt-leb}
use Rattle.ballots.specs.Boxes.{holds_box, with_box}

-- ---- membership, digit by digit

-- a digit that is not 1 is 0
digit_zero : (x : ℕ) → eqb (x % 2) 1 ≡ false → x % 2 ≡ 0
digit_zero x e = omega (arith, eqb-false (x % 2) 1 e)

-- box 0 is the lowest digit
lowest_box : (s : ℕ) → holds_box s zero ≡ eqb (s % 2) 1
unfolding holds_box
lowest_box s = ap (λ (x : ℕ). eqb (x % 2) 1) (div-one s)

-- box k + 1 of a set is box k of its half
pub upper_box : (s k : ℕ) → holds_box s (suc k) ≡ holds_box (s / 2) k
unfolding holds_box
upper_box s k = ap (λ (x : ℕ). eqb (x % 2) 1) (ap (λ (x : ℕ). s / x) (pow-succ' 2 k) ∙ sym (div-div-eq-div-mul s 2 (2 ^ k)))

lowest_held : (s : ℕ) → holds_box s zero ≡ true → s % 2 ≡ 1
lowest_held s e = eqb-true (s % 2) 1 (sym (lowest_box s) ∙ e)

lowest_not_held : (s : ℕ) → holds_box s zero ≡ false → s % 2 ≡ 0
lowest_not_held s e = digit_zero s (sym (lowest_box s) ∙ e)

pub lowest_holds : (s : ℕ) → s % 2 ≡ 1 → holds_box s zero ≡ true
lowest_holds s e = lowest_box s ∙ eq-eqb (s % 2) 1 e

pub zero_holds_none : (k : ℕ) → holds_box 0 k ≡ false
unfolding holds_box
zero_holds_none k = ap (λ (x : ℕ). eqb (x % 2) 1) (zero-div (2 ^ k))

-- a set below 2 ^ n has no box from n on
pub beyond_not_held : (n s k : ℕ) → s < 2 ^ n → n ≤ k → holds_box s k ≡ false
unfolding holds_box
beyond_not_held n s k below far = ap (λ (x : ℕ). eqb (x % 2) 1) (div-eq_of_lt (lt_of_lt_of_le below (pow_mono far)))

pub held_below : (n s k : ℕ) → s < 2 ^ n → holds_box s k ≡ true → k < n
held_below n s k below e = lt_of_not-le (λ far. true≢false (sym e ∙ beyond_not_held n s k below far))

-- ---- the sum that puts in a box which is not there

added_held : (s k : ℕ) → holds_box s k ≡ false → holds_box (s + 2 ^ k) k ≡ true
unfolding holds_box
added_held s k e =
    eq-eqb ((s + 2 ^ k) / 2 ^ k % 2) 1 (omega (arith, digit_zero (s / 2 ^ k) e, add-div_right s (pow_pos k)))

-- the half of the sum is the sum for the half
half_of_added : (s k : ℕ) → (s + 2 ^ suc k) / 2 ≡ s / 2 + 2 ^ k
half_of_added s k = omega (arith, pow-suc 2 k)

added_others : (s k j : ℕ) → holds_box s k ≡ false → j ≢ k → holds_box (s + 2 ^ k) j ≡ holds_box s j
added_others s zero zero e other = absurd (other refl)
added_others s zero (suc j) e other =
    let half : (s + 2 ^ 0) / 2 ≡ s / 2 = omega (arith, lowest_not_held s e) in
    upper_box (s + 2 ^ 0) j ∙ ap (λ (x : ℕ). holds_box x j) half ∙ sym (upper_box s j)
added_others s (suc k) zero e other =
    let lowest : (s + 2 ^ suc k) % 2 ≡ s % 2 = omega (arith, pow-suc 2 k) in
    lowest_box (s + 2 ^ suc k) ∙ ap (λ (x : ℕ). eqb x 1) lowest ∙ sym (lowest_box s)
added_others s (suc k) (suc j) e other =
    upper_box (s + 2 ^ suc k) j ∙ ap (λ (x : ℕ). holds_box x j) (half_of_added s k)
    ∙ added_others (s / 2) k j (sym (upper_box s k) ∙ e) (λ same. other (ap suc same))
    ∙ sym (upper_box s j)

added_count : (s k : ℕ) → holds_box s k ≡ false → ones (s + 2 ^ k) ≡ ones s + 1
added_count s zero e =
    let half : ones ((s + 1) / 2) ≡ ones (s / 2) = ap ones (omega (arith, lowest_not_held s e)) in
    omega (arith, ones_step s, ones_step (s + 1), lowest_not_held s e)
added_count s (suc k) e =
    let half : ones ((s + 2 ^ suc k) / 2) ≡ ones (s / 2 + 2 ^ k) = ap ones (half_of_added s k) in
    let more : ones (s / 2 + 2 ^ k) ≡ ones (s / 2) + 1 = added_count (s / 2) k (sym (upper_box s k) ∙ e) in
    omega (arith, ones_step s, ones_step (s + 2 ^ suc k), pow-suc 2 k)

pub added_below : (n s k : ℕ) → s < 2 ^ n → k < n → holds_box s k ≡ false → s + 2 ^ k < 2 ^ n
added_below zero s k below box e = absurd (not-suc-le-zero box)
added_below (suc n) s zero below box e = omega (arith, pow-suc 2 n, lowest_not_held s e)
added_below (suc n) s (suc k) below box e =
    let half : s / 2 + 2 ^ k < 2 ^ n = added_below n (s / 2) k (omega (arith, pow-suc 2 n)) (omega arith) (sym (upper_box s k) ∙ e) in
    omega (arith, pow-suc 2 n, pow-suc 2 k)

-- ---- the set with one box more

pub with_box_of_held : (s k : ℕ) → holds_box s k ≡ true → with_box s k ≡ s
unfolding with_box
with_box_of_held s k e = simp e

pub with_box_of_far : (s k : ℕ) → 64 ≤ k → with_box s k ≡ s
unfolding with_box
with_box_of_far s k far = simp (le-leb 64 k far, or-true)

pub with_box_of_new : (s k : ℕ) → k < 64 → holds_box s k ≡ false → with_box s k ≡ s + 2 ^ k
unfolding with_box
with_box_of_new s k near e = simp (e, lt-leb 64 k near)

-- a set with box k below 64 is the set itself, which has box k, or the sum
by_held : (P : ℕ → Type 0) (s k : ℕ) → k < 64 → (holds_box s k ≡ true → P s) → (holds_box s k ≡ false → P (s + 2 ^ k)) → P (with_box s k)
by_held P s k near held new = go (holds_box s k) refl
  where
    go : (t : Bool) → holds_box s k ≡ t → P (with_box s k)
    go true e = rw (with_box_of_held s k e) (held e)
    go false e = rw (with_box_of_new s k near e) (new e)

pub with_box_holds : (s k : ℕ) → k < 64 → holds_box (with_box s k) k ≡ true
with_box_holds s k near = by_held (λ (t : ℕ). holds_box t k ≡ true) s k near (λ e. e) (added_held s k)

pub with_box_others : (s k j : ℕ) → j ≢ k → holds_box (with_box s k) j ≡ holds_box s j
with_box_others s k j other =
    elim (dec_lt k 64) [
      | yes near ↦ by_held (λ (t : ℕ). holds_box t j ≡ holds_box s j) s k near (λ e. refl) (λ e. added_others s k j e other)
      | no far ↦ ap (λ (t : ℕ). holds_box t j) (with_box_of_far s k (omega arith))
    ]

pub with_box_count : (s k : ℕ) → k < 64 → holds_box s k ≡ false → ones (with_box s k) ≡ ones s + 1
with_box_count s k near e = ap ones (with_box_of_new s k near e) ∙ added_count s k e

pub with_box_below : (n s k : ℕ) → s < 2 ^ n → k < n → n ≤ 64 → with_box s k < 2 ^ n
with_box_below n s k below box few = by_held (λ (t : ℕ). t < 2 ^ n) s k (lt_of_lt_of_le box few) (λ e. below) (added_below n s k below box)

-- ---- subsets

-- where every box of s is a box of t, t has as many boxes or more
pub subset_count : (n s t : ℕ) → s < 2 ^ n → ((k : ℕ) → k < n → holds_box s k ≡ true → holds_box t k ≡ true) → ones s ≤ ones t
subset_count zero s t below sub = omega (arith, ones-le 0 s below)
subset_count (suc n) s t below sub =
    let upper : (k : ℕ) → k < n → holds_box (s / 2) k ≡ true → holds_box (t / 2) k ≡ true =
    λ k box e. sym (upper_box t k) ∙ sub (suc k) (omega arith) (upper_box s k ∙ e) in
    let rest = subset_count n (s / 2) (t / 2) (omega (arith, pow-suc 2 n)) upper in
    elim (ℕ_discrete (s % 2) 1) [
      | yes e ↦ omega (arith, ones_step s, ones_step t, lowest_held t (sub zero (omega arith) (lowest_holds s e)))
      | no e ↦ omega (arith, ones_step s, ones_step t)
    ]
