-- Cases by a test's outcome: a property of a value that a test picks, and the order of two numbers.
-- Relies on nothing. Cited by the laws and the proofs.
use Rattle.std.specs.Prelude.{ℕ, ◌<◌, ◌≤◌, ◌≡◌, refl, Bool, true, false, cond, ◌&&◌, ◌⊎◌, ltb}
use Rattle.std.proofs.Common.{inl, inr, ⊎_elim, ltb-true, ltb-false}

module _ {R : Type 0} where
  pub by_test : (P : R → Type 0) (t : Bool) (x y : R) → (t ≡ true → P x) → (t ≡ false → P y) → P (cond t x y)
  by_test P true x y yea nay = yea refl
  by_test P false x y yea nay = nay refl

pub true_or_false : (t : Bool) → (t ≡ true) ⊎ (t ≡ false)
true_or_false true = inl refl
true_or_false false = inr refl

pub lt_or_ge : (a b : ℕ) → (a < b) ⊎ (b ≤ a)
lt_or_ge a b = ⊎_elim (λ e. inl (ltb-true a b e)) (λ e. inr (ltb-false a b e)) (true_or_false (ltb a b))

pub both_true : (s t : Bool) → (s && t) ≡ true → (s ≡ true) × (t ≡ true)
both_true true t e = (refl, e)
both_true false t e = (e, cc)
