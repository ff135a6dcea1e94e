-- The value that a round begins with: while Lasts come in, best is the highest accepted ballot that they report, and at the end of all listed boxes.
-- Relies on the definition of `better` and `to_begin`. Cited by the proof that a round finishes.
use Rattle.std.specs.Prelude.{ℕ, ◌≤◌, ◌≡◌, refl, List, [], ◌∷◌, ◌≢◌, ◌⊎◌, ltb}
use Rattle.std.proofs.Common.{sym, ap, ◌∙◌, inl, inr, ⊎_elim, arith, eq-eqb, ne_eqb, ltb-true, ltb-false}
use Rattle.std.proofs.Math.Decide.{ℕ_discrete}
use Rattle.consensus.specs.declared.Vote.{Vote}
use Rattle.consensus.specs.declared.Room.{Room}
use Rattle.consensus.specs.declared.Event.{Event}
use Rattle.consensus.specs.Room.{best_ballot, vote}
use Rattle.consensus.specs.OnSlot.{better, to_begin}
use Rattle.step_laws.specs.ByTest.{by_test}
use Rattle.agreement.specs.Runs.{World, has_accepted}
use Rattle.agreement.specs.Finishing.{Listed, HighestAccepted}

-- ---- while replies are missing

-- best is the highest accepted among the boxes whose replies are not missing
pub record BestOf (accepted : ℕ → Vote) (boxes missing : List ℕ) (best : Vote) : Type 0 where
  pub missing_listed : (q : ℕ) → Listed q missing → Listed q boxes
  pub none_above : (q : ℕ) → Listed q boxes → Listed q missing ⊎ ((accepted q).ballot.0 ≤ best.ballot.0)
  pub accepted_by : best.ballot.0 ≢ 0 → (q : ℕ) × Listed q boxes × (accepted q ≡ best)

module _ (accepted : ℕ → Vote) (boxes : List ℕ) where
  pub none_yet : (missing : List ℕ) → ((q : ℕ) → Listed q missing → Listed q boxes) → ((q : ℕ) → Listed q boxes → Listed q missing)
      → BestOf accepted boxes missing (vote 0 0)
  none_yet missing only all = record { missing_listed = only; none_above = λ q listed. inl (all q listed); accepted_by = λ some. absurd (some refl) }

  -- q's Last reports what it accepted, and the better of it and the best so far is kept
  pub better_is_best : (r : Room) (e : Event) (q : ℕ) (missing : List ℕ) → vote e.second.0 e.value ≡ accepted q
      → BestOf accepted boxes (q ∷ missing) r.round.best → BestOf accepted boxes missing (better r e)
  better_is_best r e q missing reports best =
      let second_is : e.second.0 ≡ (accepted q).ballot.0 = ap (λ (x : Vote). x.ballot.0) reports in
      let only : (j : ℕ) → Listed j missing → Listed j boxes = λ j listed. best.missing_listed j (inr listed) in
      by_test (BestOf accepted boxes missing) (ltb (best_ballot r) e.second.0) (vote e.second.0 e.value) r.round.best
      (λ above.
      let higher = ltb-true (best_ballot r) e.second.0 above in
      record {
        missing_listed = only;
        none_above = λ j listed.
            ⊎_elim
            (⊎_elim
            (λ same. inr (omega (arith, second_is, ap (λ (x : ℕ). (accepted x).ballot.0) same)))
            inl)
            (λ below. inr (omega arith))
            (best.none_above j listed);
        accepted_by = λ some. (q, best.missing_listed q (inl refl), sym reports);
      })
      (λ not_above.
      let no_higher = ltb-false (best_ballot r) e.second.0 not_above in
      record {
        missing_listed = only;
        none_above = λ j listed.
            ⊎_elim
            (⊎_elim
            (λ same. inr (omega (arith, second_is, ap (λ (x : ℕ). (accepted x).ballot.0) same)))
            inl)
            inr
            (best.none_above j listed);
        accepted_by = best.accepted_by;
      })

-- ---- at the end

-- two of the boxes that have accepted the same ballot have accepted the same value
abbrev pub OneVote : World → ℕ → List ℕ → Type 0
OneVote w s boxes =
    (q r : ℕ) → Listed q boxes → Listed r boxes → (has_accepted w q s).ballot.0 ≢ 0 → (has_accepted w q s).ballot.0 ≡ (has_accepted w r s).ballot.0 →
    (has_accepted w q s).value ≡ (has_accepted w r s).value

pub best_is_highest : (w : World) (s : ℕ) (boxes : List ℕ) (v : ℕ) (r : Room) (best : Vote) → OneVote w s boxes → r.round.own.value ≡ v
    → BestOf (λ q. has_accepted w q s) boxes [] best → HighestAccepted w s boxes v (to_begin r best)
best_is_highest w s boxes v r best one own best_of =
    record {
      none_accepted = λ none.
          elim (ℕ_discrete best.ballot.0 0) [
            | yes is_none ↦ simp (eq-eqb best.ballot.0 0 is_none) own
            | no some ↦
                let by = best_of.accepted_by some in
                absurd (some (ap (λ (x : Vote). x.ballot.0) (sym by.2) ∙ none by.0 by.1))
          ];
      highest = λ q listed some top.
          let reached : (has_accepted w q s).ballot.0 ≤ best.ballot.0 =
          ⊎_elim (λ (missing : ⊥). absurd missing) (λ below. below) (best_of.none_above q listed) in
          let some_best : best.ballot.0 ≢ 0 = λ none. some (omega arith) in
          let by = best_of.accepted_by some_best in
          let same_ballot : (has_accepted w q s).ballot.0 ≡ (has_accepted w by.0 s).ballot.0 =
          omega (arith, ap (λ (x : Vote). x.ballot.0) by.2, top by.0 by.1) in
          simp (ne_eqb best.ballot.0 0 some_best)
          (ap (λ (x : Vote). x.value) (sym by.2) ∙ sym (one q by.0 listed by.1 some same_ballot));
    }
