-- Laws of ballots: a ballot's parts, the next ballot, zero or a ballot, and what `next` gives.
-- Relies on Ballot. Cited by the proof of `next_ballot` and by the crates above.
use Rattle.std.specs.Prelude.{ℕ, ◌^◌, ◌≤◌, ◌<◌, ◌≡◌, refl, Bool, true, false, ◌&&◌, ◌||◌, ◌⊎◌, None, Some, leb, ltb, eqb}
use Rattle.std.proofs.Math.Bool.{and-eq-true_iff, and-false, or-true}
use Rattle.std.proofs.Common.{inl, inr, arith, lt_of_not-le, ltb-true, leb-true, eqb-true, lt-ltb, le-leb, le-ltb}
use Rattle.std.proofs.Math.Logic.{⊎_map}
use Rattle.std.proofs.Math.Decide.{dec_le}
use Rattle.std.proofs.lemmas.Bool.{lt-leb}
use Rattle.ballots.specs.declared.Ballot.{Ballot}
use Rattle.ballots.specs.Ballot.{max_boxes, max_x, x_of, maker_of, next_x, next_ballot, is_ballot, none_or_ballot, next}

-- ---- a ballot's parts

-- b is a ballot for n boxes, said of its x and of its maker
pub record BallotParts (n b : ℕ) : Type 0 where
  pub x_from_one : 1 ≤ x_of b
  pub x_to_max : x_of b ≤ max_x
  pub maker_below : maker_of b < n

pub ballot_parts : (n b : ℕ) → is_ballot n b ≡ true → BallotParts n b
unfolding is_ballot
ballot_parts n b e =
    let outer = (and-eq-true_iff (leb 1 (x_of b) && leb (x_of b) max_x) (ltb (maker_of b) n)).0 e in
    let inner = (and-eq-true_iff (leb 1 (x_of b)) (leb (x_of b) max_x)).0 outer.0 in
    record {
      x_from_one = leb-true 1 (x_of b) inner.0;
      x_to_max = leb-true (x_of b) max_x inner.1;
      maker_below = ltb-true (maker_of b) n outer.1;
    }

pub parts_ballot : (n b : ℕ) → BallotParts n b → is_ballot n b ≡ true
unfolding is_ballot
parts_ballot n b p = simp (le-leb 1 (x_of b) p.x_from_one, le-leb (x_of b) max_x p.x_to_max, lt-ltb (maker_of b) n p.maker_below)

pub ballot_not_zero : (n b : ℕ) → is_ballot n b ≡ true → b ≡ 0 → ⊥
ballot_not_zero n b e z = let p = ballot_parts n b e in omega arith

pub ballot_below : (n b : ℕ) → is_ballot n b ≡ true → b < 2 ^ 36
ballot_below n b e = let p = ballot_parts n b e in omega arith

pub zero_is_no_ballot : (n : ℕ) → is_ballot n 0 ≡ false
unfolding is_ballot
zero_is_no_ballot n = refl

-- ---- the next ballot

pub next_maker : (promised i : ℕ) → i < 8 → maker_of (next_ballot promised i) ≡ i
next_maker promised i h = omega arith

pub x_of_next_ballot : (promised i : ℕ) → i < 8 → x_of (next_ballot promised i) ≡ next_x promised
x_of_next_ballot promised i h = omega arith

pub next_above : (promised i : ℕ) → promised < next_ballot promised i
next_above promised i = omega arith

pub next_is_ballot : (n promised i : ℕ) → i < n → n ≤ max_boxes → next_x promised ≤ max_x → is_ballot n (next_ballot promised i) ≡ true
next_is_ballot n promised i below few left =
    parts_ballot n (next_ballot promised i) (record {
      x_from_one = omega arith;
      x_to_max = omega arith;
      maker_below = omega arith;
    })

-- ---- what `next` gives

pub next_made : (promised i : ℕ) → i < max_boxes → next_x promised ≤ max_x → next promised i ≡ Some (record { 0 = next_ballot promised i })
unfolding next
next_made promised i below left = simp (lt-ltb i max_boxes below, le-leb (next_x promised) max_x left)

pub next_no_box : (promised i : ℕ) → max_boxes ≤ i → next promised i ≡ None
unfolding next
next_no_box promised i above = simp (le-ltb i max_boxes above)

pub next_no_x : (promised i : ℕ) → max_x < next_x promised → next promised i ≡ None
unfolding next
next_no_x promised i above = simp (lt-leb (next_x promised) max_x above, and-false)

pub made_is_next : (promised i : ℕ) (b : Ballot) → i < max_boxes → next promised i ≡ Some b → (next_x promised ≤ max_x) × (b ≡ record { 0 = next_ballot promised i })
made_is_next promised i b below e =
    elim (dec_le (next_x promised) max_x) [
      | yes left ↦ (left, cc (next_made promised i below left))
      | no above ↦ absurd (let z : ◌≡◌ {A = ℕ} 0 1 = cc (next_no_x promised i (lt_of_not-le above)) in omega arith)
    ]

pub none_has_no_x : (promised i : ℕ) → i < max_boxes → next promised i ≡ None → max_x < next_x promised
none_has_no_x promised i below e =
    elim (dec_le (next_x promised) max_x) [
      | yes left ↦ absurd (let z : ◌≡◌ {A = ℕ} 0 1 = cc (next_made promised i below left) in omega arith)
      | no above ↦ lt_of_not-le above
    ]

-- ---- zero or a ballot

or_cases : (s t : Bool) → s || t ≡ true → (s ≡ true) ⊎ (t ≡ true)
or_cases true t e = inl refl
or_cases false t e = inr e

pub zero_none_or_ballot : (n : ℕ) → none_or_ballot n 0 ≡ true
unfolding none_or_ballot
zero_none_or_ballot n = refl

pub ballot_none_or_ballot : (n b : ℕ) → is_ballot n b ≡ true → none_or_ballot n b ≡ true
unfolding none_or_ballot
ballot_none_or_ballot n b e = simp (e, or-true)

pub none_or_ballot_cases : (n b : ℕ) → none_or_ballot n b ≡ true → (b ≡ 0) ⊎ (is_ballot n b ≡ true)
unfolding none_or_ballot
none_or_ballot_cases n b e = ⊎_map (eqb-true b 0) (λ h. h) (or_cases (eqb b 0) (is_ballot n b) e)
