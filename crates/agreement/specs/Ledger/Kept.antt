-- What every reachable ledger keeps: a truth about each fact that was said, about each box, and about two pairs of facts.
-- Relies on Ledger. Proved of every reachable ledger in Keeps. Cited by Agrees, and by the crates above.
use Rattle.std.specs.Prelude.{ℕ, ◌≤◌, ◌<◌, ◌≡◌, ◌≢◌}
use Rattle.agreement.specs.Ledger.{Fact, proposed, opened, reported, begun, voted, Lasting, Ledger, Said, Backed}

-- A box accepted at most what it promised, and what it accepted was begun
pub record BoxKept (l : Ledger) (s : Lasting) : Type 0 where
  pub ballot_promised : s.ballot ≤ s.promise
  pub accepted_begun : s.ballot ≢ 0 → Said (begun s.ballot s.value) l

-- A report's box promised its ballot; the accepted ballot in it is no higher, and was begun with the value in it
pub record ReportedKept (l : Ledger) (a b b₂ v₂ : ℕ) : Type 0 where
  pub report_promised : b ≤ (l.box a).promise
  pub report_within : b₂ ≤ b
  pub report_begun : b₂ ≢ 0 → Said (begun b₂ v₂) l

-- One value is begun at a ballot
abbrev pub OneBegun : Ledger → Type 0
OneBegun l = (b v w : ℕ) → Said (begun b v) l → Said (begun b w) l → v ≡ w

-- A box that voted at b reports, at any ballot above b, an accepted ballot of b or more
abbrev pub VotesReported : Ledger → Type 0
VotesReported l = (a b c b₂ v₂ : ℕ) → Said (voted a b) l → Said (reported a c b₂ v₂) l → b < c → b ≤ b₂

module _ (maker_of : ℕ → ℕ) where
  -- An opened ballot is above 0 and promised by its maker
  pub record OpenedKept (l : Ledger) (b : ℕ) : Type 0 where
    pub opened_above_zero : 0 < b
    pub opened_promised : b ≤ (l.box (maker_of b)).promise

module _ (Boxes : Type 0) (In : ℕ → Boxes → Type 0) (EnoughToCollect : Boxes → Type 0) where
  -- A begun ballot was opened, its value proposed, and backed by reports of lower ballots
  pub record BegunKept (l : Ledger) (b v : ℕ) : Type 0 where
    pub begun_opened : Said (opened b) l
    pub begun_proposed : Said (proposed v) l
    pub begun_backed : Backed Boxes In EnoughToCollect l b v
    pub backed_below : begun_backed.best < b

module _ (maker_of : ℕ → ℕ) (Boxes : Type 0) (In : ℕ → Boxes → Type 0) (EnoughToCollect : Boxes → Type 0) where
  -- What a fact that was said tells of the ledger; a vote's box has accepted the vote's ballot or a higher one
  abbrev pub FactKept : Ledger → Fact → Type 0
  FactKept l (proposed v) = Unit {0}
  FactKept l (opened b) = OpenedKept maker_of l b
  FactKept l (reported a b b₂ v₂) = ReportedKept l a b b₂ v₂
  FactKept l (begun b v) = BegunKept Boxes In EnoughToCollect l b v
  FactKept l (voted a b) = b ≤ (l.box a).ballot

  pub record Kept (l : Ledger) : Type 0 where
    pub facts_kept : (f : Fact) → Said f l → FactKept l f
    pub boxes_kept : (a : ℕ) → BoxKept l (l.box a)
    pub one_begun : OneBegun l
    pub votes_reported : VotesReported l
