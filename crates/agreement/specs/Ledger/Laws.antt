-- Laws of what is said: it stays said, a fact of a kind that was not added was said before, and a ledger that says more still backs.
-- Relies on Ledger. Cited by Frames, KeptEntry and Keeps, and by the crates above.
use Rattle.std.specs.Prelude.{ℕ, ◌≡◌, ◌≢◌, ◌⊎◌, List, [], ◌∷◌}
use Rattle.std.proofs.Common.{ap, inl, inr, ⊎_elim}
use Rattle.agreement.specs.Ledger.{Fact, proposed, opened, reported, begun, voted, Lasting, Ledger, Among, Said, ◌⊑◌, after, Report, Sourced, own, taken, Backed}

-- ---- what was said

pub said_lasts : (l : Ledger) (a : ℕ) (s : Lasting) (fs : List Fact) → l ⊑ after l a s fs
said_lasts l a s [] f h = h
said_lasts l a s (g ∷ fs) f h = inr (said_lasts l a s fs f h)

pub new_or_said : (l : Ledger) (a : ℕ) (s : Lasting) (fs : List Fact) (f : Fact) → Said f (after l a s fs) → Among f fs ⊎ Said f l
new_or_said l a s [] f h = inr h
new_or_said l a s (g ∷ fs) f (inl e) = inl (inl e)
new_or_said l a s (g ∷ fs) f (inr h) = ⊎_elim (λ k. inl (inr k)) inr (new_or_said l a s fs f h)

-- a number for each kind of fact, by which two kinds are told apart
abbrev pub proposed_kind : ℕ
proposed_kind = 0

abbrev pub opened_kind : ℕ
opened_kind = 1

abbrev pub reported_kind : ℕ
reported_kind = 2

abbrev pub begun_kind : ℕ
begun_kind = 3

abbrev pub voted_kind : ℕ
voted_kind = 4

abbrev pub kind_of : Fact → ℕ
kind_of (proposed v) = proposed_kind
kind_of (opened b) = opened_kind
kind_of (reported a b b₂ v₂) = reported_kind
kind_of (begun b v) = begun_kind
kind_of (voted a b) = voted_kind

-- no fact of the list is of kind k
abbrev pub Lacks : ℕ → List Fact → Type 0
Lacks k [] = Unit {0}
Lacks k (g ∷ gs) = (k ≢ kind_of g) × Lacks k gs

pub lacking_not_among : (fs : List Fact) (f : Fact) → Lacks (kind_of f) fs → ¬ Among f fs
lacking_not_among [] f lacks h = h
lacking_not_among (g ∷ fs) f lacks (inl e) = lacks.0 (ap kind_of e)
lacking_not_among (g ∷ fs) f lacks (inr h) = lacking_not_among fs f lacks.1 h

-- a fact of a kind that was not added was said before
pub said_before : (l : Ledger) (a : ℕ) (s : Lasting) (fs : List Fact) (f : Fact) → Lacks (kind_of f) fs → Said f (after l a s fs) → Said f l
said_before l a s fs f lacks h = ⊎_elim (λ k. absurd (lacking_not_among fs f lacks k)) (λ k. k) (new_or_said l a s fs f h)

pub only_among : (f g : Fact) → Among f (g ∷ []) → f ≡ g
only_among f g (inl e) = e
only_among f g (inr h) = elim h [ ]

-- ---- equal facts have equal parts

pub begun_ballot : {b c v w : ℕ} → begun b v ≡ begun c w → b ≡ c
begun_ballot e = cc

pub begun_value : {b c v w : ℕ} → begun b v ≡ begun c w → v ≡ w
begun_value e = cc

pub reported_box : {a b b₂ v₂ c d d₂ w₂ : ℕ} → reported a b b₂ v₂ ≡ reported c d d₂ w₂ → a ≡ c
reported_box e = cc

pub reported_ballot : {a b b₂ v₂ c d d₂ w₂ : ℕ} → reported a b b₂ v₂ ≡ reported c d d₂ w₂ → b₂ ≡ d₂
reported_ballot e = cc

pub voted_box : {a b c d : ℕ} → voted a b ≡ voted c d → a ≡ c
voted_box e = cc

pub voted_ballot : {a b c d : ℕ} → voted a b ≡ voted c d → b ≡ d
voted_ballot e = cc

-- ---- a ledger that says more still backs

pub report_lasts : (l l' : Ledger) → l ⊑ l' → (a b best : ℕ) → Report l a b best → Report l' a b best
report_lasts l l' more a b best r =
    record { ballot = r.ballot; value = r.value; said = more (reported a b r.ballot r.value) r.said; within = r.within }

pub sourced_lasts : (l l' : Ledger) → l ⊑ l' → (b v best : ℕ) → Sourced l b v best → Sourced l' b v best
sourced_lasts l l' more b v best (own is_zero p) = own is_zero (more (proposed v) p)
sourced_lasts l l' more b v best (taken a not_zero r) = taken a not_zero (more (reported a b best v) r)

module _ (Boxes : Type 0) (In : ℕ → Boxes → Type 0) (EnoughToCollect : Boxes → Type 0) where
  unfoldable pub backed_lasts : (l l' : Ledger) → l ⊑ l' → (b v : ℕ) → Backed Boxes In EnoughToCollect l b v → Backed Boxes In EnoughToCollect l' b v
  backed_lasts l l' more b v k =
      record {
        boxes = k.boxes;
        enough = k.enough;
        best = k.best;
        reports = λ a member. report_lasts l l' more a b k.best (k.reports a member);
        sourced = sourced_lasts l l' more b v k.best k.sourced;
      }
