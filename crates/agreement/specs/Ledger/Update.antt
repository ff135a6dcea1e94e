-- A function changed at one number, and its laws.
-- Relies on the kit's libraries alone. Cited by Ledger, whose boxes' lasting states are such a function, and by the laws above it.
use Rattle.std.specs.Prelude.{ℕ, ◌≡◌, refl, ◌≢◌, Bool, cond, eqb}
use Rattle.std.proofs.Math.Path.{subst⁻¹}
use Rattle.std.proofs.Common.{ap, eq-eqb, ne_eqb}
use Rattle.std.proofs.Math.Decide.{ℕ_discrete}

-- f, but x at a
unfoldable pub update : {A : Type 0} → (ℕ → A) → ℕ → A → ℕ → A
update f a x c = cond (eqb c a) x (f c)

pub update_same : {A : Type 0} (f : ℕ → A) (a : ℕ) (x : A) → update f a x a ≡ x
unfolding update
update_same f a x = ap (λ (t : Bool). cond t x (f a)) (eq-eqb a a refl)

pub update_other : {A : Type 0} (f : ℕ → A) (a : ℕ) (x : A) (c : ℕ) → c ≢ a → update f a x c ≡ f c
unfolding update
update_other f a x c apart = ap (λ (t : Bool). cond t x (f c)) (ne_eqb c a apart)

-- what holds of x at a, and of f elsewhere, holds of the changed function everywhere
pub update_all :
    {A : Type 0} (P : ℕ → A → Type 0) (f : ℕ → A) (a : ℕ) (x : A) → P a x → ((c : ℕ) → c ≢ a → P c (f c)) → (c : ℕ) → P c (update f a x c)
update_all P f a x here there c =
    elim (ℕ_discrete c a) [
      | yes e ↦ subst⁻¹ (λ (n : ℕ). P n (update f a x n)) e (subst⁻¹ (P a) (update_same f a x) here)
      | no apart ↦ subst⁻¹ (P c) (update_other f a x c apart) (there c apart)
    ]
