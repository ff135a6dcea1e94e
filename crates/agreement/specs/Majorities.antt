-- The two kinds of enough, as the ledger takes them: a set of boxes that closes a Collect, and one that closes a Begin.
-- Both are majorities; all that the ledger uses is that a set of each kind share a box. Cited by the laws of boxes and runs.
use Rattle.std.specs.Prelude.{ℕ, ◌^◌, ◌<◌, ◌≡◌, true}
use Rattle.std.proofs.Common.{sym, ◌∙◌}
use Rattle.std.proofs.Math.Path.{subst⁻¹}
use Rattle.std.proofs.Math.Decide.{ℕ_discrete}
use Rattle.ballots.specs.Boxes.{holds_box, is_majority, with_box}
use Rattle.ballots.specs.BoxesLaws.{with_box_others}
use Rattle.ballots.proofs.MajorityLaws.{majorities_meet}
use Rattle.consensus.specs.declared.Head.{Head}
use Rattle.consensus.specs.Enough.{enough_to_collect, enough_to_begin}

-- box a is in the set s
abbrev pub In : ℕ → ℕ → Type 0
In a s = holds_box s a ≡ true

-- enough of n boxes to close a Collect
pub record CollectSet (n s : ℕ) : Type 0 where
  pub are_boxes : s < 2 ^ n
  pub majority : is_majority n s ≡ true

-- enough of n boxes to close a Begin
pub record BeginSet (n s : ℕ) : Type 0 where
  pub are_boxes : s < 2 ^ n
  pub majority : is_majority n s ≡ true

pub sets_meet : (n s t : ℕ) → CollectSet n s → BeginSet n t → (a : ℕ) × In a s × In a t
sets_meet n s t c b =
    let shared = majorities_meet n s t c.are_boxes b.are_boxes c.majority b.majority in
    (shared.box, shared.left_holds, shared.right_holds)

-- what a box's test says
pub enough_collects : (h : Head) (s : ℕ) → s < 2 ^ h.boxes → enough_to_collect h s ≡ true → CollectSet h.boxes s
unfolding enough_to_collect
enough_collects h s below enough = record { are_boxes = below; majority = enough }

pub enough_begins : (h : Head) (s : ℕ) → s < 2 ^ h.boxes → enough_to_begin h s ≡ true → BeginSet h.boxes s
unfolding enough_to_begin
enough_begins h s below enough = record { are_boxes = below; majority = enough }

-- what holds of each box of a set and of one more holds of each box of the set with that one
pub counted_all : (P : ℕ → Type 0) (s k : ℕ) → P k → ((a : ℕ) → In a s → P a) → (a : ℕ) → In a (with_box s k) → P a
counted_all P s k here there a counted =
    elim (ℕ_discrete a k) [
      | yes same ↦ subst⁻¹ P same here
      | no other ↦ there a (sym (with_box_others s k a other) ∙ counted)
    ]
