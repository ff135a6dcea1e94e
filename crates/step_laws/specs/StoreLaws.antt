-- Laws of a run of stores, `sets`: what it leaves inside the run and outside it, and that storing what stands there changes nothing.
-- Relies on the kit's laws of one store. Cited by the layout's laws.
use Rattle.std.specs.Prelude.{ℕ, zero, suc, ◌+◌, ◌≤◌, ◌<◌, ◌≡◌, refl, List, [], ◌∷◌, ◌⊎◌, length, get_or, set, replicate}
use Rattle.std.proofs.Common.{sym, ap, ◌∙◌, inl, inr, not-suc-le-zero, add-zero, add-suc, suc-add, arith, length-set, get_or-set_same, get_or-set_other}
use Rattle.std.proofs.lemmas.List.Edits.{sets}
use Rattle.std.proofs.lemmas.List.{set-get_or}

-- index j stands before the n places from i on, or after them
abbrev pub Outside : ℕ → ℕ → ℕ → Type 0
Outside i n j = (j < i) ⊎ (i + n ≤ j)

outside_other : (i n j : ℕ) → Outside i (suc n) j → j ≡ i → ⊥
outside_other i n j (inl before) e = omega arith
outside_other i n j (inr after) e = omega arith

outside_next : (i n j : ℕ) → Outside i (suc n) j → Outside (suc i) n j
outside_next i n j (inl before) = inl (omega arith)
outside_next i n j (inr after) = inr (omega arith)

module _ {ℓ} {A : Type ℓ} where
  pub sets_outside : (l : List A) (i : ℕ) (vs : List A) (j : ℕ) (d : A) → Outside i (length vs) j → get_or (sets l i vs) j d ≡ get_or l j d
  sets_outside l i [] j d out = refl
  sets_outside l i (a ∷ vs) j d out =
      sets_outside (set l i a) (suc i) vs j d (outside_next i (length vs) j out)
      ∙ get_or-set_other l i j a d (outside_other i (length vs) j out)

  pub sets_inside : (l : List A) (i : ℕ) (vs : List A) (k : ℕ) (d : A) → i + length vs ≤ length l → k < length vs
      → get_or (sets l i vs) (i + k) d ≡ get_or vs k d
  sets_inside l i [] k d fits below = absurd (not-suc-le-zero below)
  sets_inside l i (a ∷ vs) zero d fits below =
      ap (λ (j : ℕ). get_or (sets (set l i a) (suc i) vs) j d) (add-zero i)
      ∙ sets_outside (set l i a) (suc i) vs i d (inl (omega arith))
      ∙ get_or-set_same l i a d (omega arith)
  sets_inside l i (a ∷ vs) (suc k) d fits below =
      ap (λ (j : ℕ). get_or (sets (set l i a) (suc i) vs) j d) (add-suc i k ∙ sym (suc-add i k))
      ∙ sets_inside (set l i a) (suc i) vs k d (omega (arith, length-set l i a)) (omega arith)

  -- a run of stores that stores what stands there
  pub sets_same : (l : List A) (i : ℕ) (vs : List A) (d : A) → ((k : ℕ) → k < length vs → get_or vs k d ≡ get_or l (i + k) d) → sets l i vs ≡ l
  sets_same l i [] d same = refl
  sets_same l i (a ∷ vs) d same =
      let first : a ≡ get_or l i d = same zero (omega arith) ∙ ap (λ (j : ℕ). get_or l j d) (add-zero i) in
      let kept : set l i a ≡ l = ap (λ (x : A). set l i x) first ∙ set-get_or l i d in
      ap (λ (m : List A). sets m (suc i) vs) kept
      ∙ sets_same l (suc i) vs d (λ k below. same (suc k) (omega arith) ∙ ap (λ (j : ℕ). get_or l j d) (add-suc i k ∙ sym (suc-add i k)))

  pub get_or_replicate_default : (n i : ℕ) (d : A) → get_or (replicate n d) i d ≡ d
  get_or_replicate_default zero i d = refl
  get_or_replicate_default (suc n) zero d = refl
  get_or_replicate_default (suc n) (suc i) d = get_or_replicate_default n i d
