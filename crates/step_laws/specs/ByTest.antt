-- How a proof goes by a test: the two cases of a choice with their equations, and a conjunction's parts.
-- Cited by every file of this crate that takes a definition by tests apart.
use Rattle.std.specs.Prelude.{◌≡◌, refl, Bool, true, false, cond, ◌&&◌}
use Rattle.std.proofs.lemmas.Bool.{false≢true}

-- what holds of both answers, each under its test, holds of the choice
pub by_test {ℓ ℓ'} : {A : Type ℓ} (P : A → Type ℓ') (t : Bool) (x y : A) → (t ≡ true → P x) → (t ≡ false → P y) → P (cond t x y)
by_test P true x y yes_case no_case = yes_case refl
by_test P false x y yes_case no_case = no_case refl

-- the same where neither answer needs its test
pub by_either {ℓ ℓ'} : {A : Type ℓ} (P : A → Type ℓ') (t : Bool) {x y : A} → P x → P y → P (cond t x y)
by_either P true px py = px
by_either P false px py = py

-- a proof in each case of a test, for a goal that the test's answer rewrites
pub by_answer {ℓ} : {P : Type ℓ} (t : Bool) → (t ≡ true → P) → (t ≡ false → P) → P
by_answer true yes_case no_case = yes_case refl
by_answer false yes_case no_case = no_case refl

pub and_left : (a b : Bool) → a && b ≡ true → a ≡ true
and_left true b e = refl
and_left false b e = e

pub and_right : (a b : Bool) → a && b ≡ true → b ≡ true
and_right true b e = e
and_right false b e = absurd (false≢true e)

-- the parts of a conjunction that holds
pub ruleset conjuncts = (and_left, and_right)

pub false_unless : (t : Bool) → ¬ (t ≡ true) → t ≡ false
false_unless true n = absurd (n refl)
false_unless false n = refl
