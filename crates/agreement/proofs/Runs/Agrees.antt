-- Every reachable world keeps ledgers, ever longer ones: so a slot has one agreed value on all boxes at all times, it was proposed, and a ballot has one value.
-- Relies on the law of one call and the ledger's theorems. Cited by the promises.
use Rattle.std.specs.Prelude.{ℕ, ◌≤◌, ◌<◌, ◌≡◌, refl, ◌≢◌, ◌⊎◌}
use Rattle.std.proofs.Common.{◌∙◌, subst, inl, inr, ⊎_elim}
use Rattle.std.proofs.Math.Path.{subst⁻¹}
use Rattle.ballots.specs.Ballot.{max_boxes, maker_of}
use Rattle.consensus.specs.Room.{saved, no_vote}
use Rattle.consensus.specs.Layout.{slots}
use Rattle.consensus.specs.Step.{step}
use Rattle.step_laws.specs.LayoutLaws.{room_at_fresh}
use Rattle.agreement.specs.Ledger.{Said, ◌⊑◌, proposed, begun, empty_ledger}
use Rattle.agreement.specs.Ledger.Kept.{BoxKept}
use Rattle.agreement.proofs.Ledger.Keeps.{empty_kept}
use Rattle.agreement.proofs.Ledger.Agrees.{agreement, chosen_was_proposed}
use Rattle.agreement.specs.Majorities.{In, CollectSet, BeginSet, sets_meet}
use Rattle.agreement.specs.Box.{RoomTold}
use Rattle.agreement.proofs.Box.Laws.{agreed_lasts, idle_told}
use Rattle.agreement.specs.Runs.{World, start, Run, ProposedIn, says, has_accepted}
use Rattle.agreement.specs.Runs.Run.{still, ◌and_then◌}
use Rattle.agreement.specs.Runs.Keeps.{RunKept, start_kept, run_keeps}
use Rattle.agreement.proofs.Runs.Told.{Ledgers, WorldTold}
use Rattle.agreement.proofs.Runs.Call.{call_told}

-- nothing is said at the start
pub start_told : (n : ℕ) → WorldTold n (start n) (λ s. empty_ledger)
start_told n =
    record {
      ledgers_kept = λ s. empty_kept maker_of ℕ In (CollectSet n);
      boxes_told = λ i below s at.
          subst⁻¹ (RoomTold n i empty_ledger) (room_at_fresh n i s) (idle_told n i empty_ledger (saved 0 no_vote) 0 refl (λ some. absurd (some refl)));
      parcels_told = λ m none. absurd none;
    }

-- the ledgers at the end of a run from a world that keeps ls
pub record RunTold {n : ℕ} {w u : World} (ls : Ledgers) (run : Run step n w u) : Type 0 where
  pub ledgers : Ledgers
  pub extended : (s : ℕ) → ls s ⊑ ledgers s
  pub told : WorldTold n u ledgers
  pub proposals : (s v : ℕ) → Said (proposed v) (ledgers s) → Said (proposed v) (ls s) ⊎ ProposedIn run s v

pub run_told : (n : ℕ) (w u : World) (ls : Ledgers) → RunKept n w → WorldTold n w ls → (run : Run step n w u) → RunTold ls run
run_told n w u ls kept k still = record { ledgers = ls; extended = λ s f said. said; told = k; proposals = λ s v said. inl said }
run_told n w u ls kept k (◌and_then◌ {u = x} {i = i} {e = e} run may) =
    let before = run_told n w x ls kept k run in
    let call = call_told n x before.ledgers i e (run_keeps n w x kept run) before.told may in
    record {
      ledgers = call.ledgers;
      extended = λ s f said. call.extended s f (before.extended s f said);
      told = call.told;
      proposals = λ s v said.
          ⊎_elim (λ old. ⊎_elim (λ first. inl first) (λ earlier. inr (inl earlier)) (before.proposals s v old)) (λ now. inr (inr now))
          (call.proposals s v said);
    }

module _ (n : ℕ) (some : 1 ≤ n) (few : n ≤ max_boxes) where
  pub from_start : (w : World) (run : Run step n (start n) w) → RunTold (λ s. empty_ledger) run
  from_start w run = run_told n (start n) w _ (start_kept n some few) (start_told n) run

  -- on any boxes, at any times
  pub one_value :
      (w u : World) (i j s : ℕ) → Run step n (start n) w → Run step n w u → i < n → j < n → s < slots → says w i s ≢ 0 → says u j s ≢ 0 → says w i s ≡ says u j s
  one_value w u i j s first later box box' slot said said' =
      let earlier = from_start w first in
      let now = run_told n w u earlier.ledgers (run_keeps n (start n) w (start_kept n some few) first) earlier.told later in
      agreement maker_of ℕ In (CollectSet n) (BeginSet n) (sets_meet n) (now.ledgers s) (now.told.ledgers_kept s) (says w i s) (says u j s)
      (agreed_lasts (earlier.ledgers s) (now.ledgers s) (now.extended s) n (says w i s) ((earlier.told.boxes_told i box s slot).agreed_told said))
      ((now.told.boxes_told j box' s slot).agreed_told said')

  pub was_proposed : (w : World) (run : Run step n (start n) w) (i s : ℕ) → i < n → s < slots → says w i s ≢ 0 → ProposedIn run s (says w i s)
  was_proposed w run i s box slot said =
      let now = from_start w run in
      ⊎_elim (λ nothing. absurd nothing) (λ call. call)
      (now.proposals s (says w i s)
      (chosen_was_proposed maker_of ℕ In (CollectSet n) (BeginSet n) (now.ledgers s) (now.told.ledgers_kept s) (says w i s)
      ((now.told.boxes_told i box s slot).agreed_told said)))

  -- what a box has accepted was begun, and one value is begun at a ballot
  pub one_vote :
      (w : World) → Run step n (start n) w → (i j s : ℕ) → i < n → j < n → s < slots → (has_accepted w i s).ballot.0 ≢ 0 →
      (has_accepted w i s).ballot.0 ≡ (has_accepted w j s).ballot.0 → (has_accepted w i s).value ≡ (has_accepted w j s).value
  one_vote w run i j s box box' slot some same =
      let now = from_start w run in
      let l = now.ledgers s in
      let kept = now.told.ledgers_kept s in
      let here = (subst (BoxKept l) (now.told.boxes_told i box s slot).saved_lasts (kept.boxes_kept i)).accepted_begun in
      let there = (subst (BoxKept l) (now.told.boxes_told j box' s slot).saved_lasts (kept.boxes_kept j)).accepted_begun in
      kept.one_begun (has_accepted w j s).ballot.0 (has_accepted w i s).value (has_accepted w j s).value
      (subst (λ (b : ℕ). Said (begun b (has_accepted w i s).value) l) same (here some))
      (there (λ none. some (same ∙ none)))
