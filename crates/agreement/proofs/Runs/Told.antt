-- A world keeps the ledgers: for each slot a ledger in which all that the boxes and the messages say of it is said.
-- Relies on the laws of boxes and of reachable worlds. Cited by Agrees.
use Rattle.std.specs.Prelude.{ℕ, ◌<◌, ◌≡◌, ◌≢◌, ◌⊎◌, List, eqb}
use Rattle.std.proofs.Common.{subst, ⊎_elim, eqb-true}
use Rattle.std.proofs.Math.Path.{subst⁻¹}
use Rattle.std.proofs.lemmas.Bool.{eqb-false}
use Rattle.ballots.specs.Ballot.{maker_of}
use Rattle.consensus.specs.declared.Event.{Event}
use Rattle.consensus.specs.declared.Message.{Message}
use Rattle.consensus.specs.Answers.{Sends}
use Rattle.consensus.specs.Layout.{slots, room_at}
use Rattle.consensus.specs.Events.{propose, restart}
use Rattle.consensus.specs.Step.{step}
use Rattle.step_laws.specs.ByTest.{by_test}
use Rattle.agreement.specs.Ledger.{Ledger, Said, ◌⊑◌, proposed}
use Rattle.agreement.specs.Ledger.Kept.{Kept}
use Rattle.agreement.specs.Majorities.{In, CollectSet}
use Rattle.agreement.specs.Box.{RoomTold, ToldBy, EventTold}
use Rattle.agreement.proofs.Box.Laws.{event_lasts}
use Rattle.agreement.specs.Runs.{World, Among, Outside, Delivered, answer_to, after, MayCall, ProposesFor}
use Rattle.agreement.specs.Runs.Keeps.{with_message_keeps}

-- a ledger for each slot
abbrev pub Ledgers : Type 0
Ledgers = ℕ → Ledger

pub record WorldTold (n : ℕ) (w : World) (ls : Ledgers) : Type 0 where
  pub ledgers_kept : (s : ℕ) → Kept maker_of ℕ In (CollectSet n) (ls s)
  pub boxes_told : (i : ℕ) → i < n → (s : ℕ) → s < slots → RoomTold n i (ls s) (room_at (w.tables i) s)
  pub parcels_told : (m : Message) → Among m w.parcels → EventTold n (ls m.event.slot.0) m.event

-- a call leaves a world that keeps ledgers which extend those before, and what was newly proposed it proposed
pub record CallTold (n : ℕ) (w : World) (ls : Ledgers) (i : ℕ) (e : Event) : Type 0 where
  pub ledgers : Ledgers
  pub extended : (s : ℕ) → ls s ⊑ ledgers s
  pub told : WorldTold n (after step w i e) ledgers
  pub proposals : (s v : ℕ) → Said (proposed v) (ledgers s) → Said (proposed v) (ls s) ⊎ ProposesFor step w i e s v

-- what the event of a call says was said
pub called_told : (n : ℕ) (w : World) (ls : Ledgers) (i : ℕ) (e : Event) → WorldTold n w ls → MayCall n w i e → EventTold n (ls e.slot.0) e
called_told n w ls i e k may =
    ⊎_elim
    (λ (outside : Outside e).
    ⊎_elim
    (λ (p : e.kind ≡ propose). subst⁻¹ (λ (x : ℕ). ToldBy n (ls e.slot.0) x e) p tt)
    (λ (p : e.kind ≡ restart). subst⁻¹ (λ (x : ℕ). ToldBy n (ls e.slot.0) x e) p tt)
    outside)
    (λ (d : Delivered w i e). subst (λ (x : Event). EventTold n (ls x.slot.0) x) d.carried (k.parcels_told d.message d.put_out))
    may.source

-- the parts of the world after a call, put together
pub after_told :
    (n : ℕ) (w : World) (ls ls' : Ledgers) (i : ℕ) (e : Event) →
    WorldTold n w ls →
    ((s : ℕ) → ls s ⊑ ls' s) →
    ((s : ℕ) → Kept maker_of ℕ In (CollectSet n) (ls' s)) →
    ((s : ℕ) → s < slots → RoomTold n i (ls' s) (room_at (step (w.tables i) e).table s)) →
    ((j : ℕ) → j < n → j ≢ i → (s : ℕ) → s < slots → RoomTold n j (ls' s) (room_at (w.tables j) s)) →
    ((m : Message) → answer_to step w i e ≡ Sends m → EventTold n (ls' m.event.slot.0) m.event) →
    WorldTold n (after step w i e) ls'
after_told n w ls ls' i e k more kept here others sent =
    record {
      ledgers_kept = kept;
      boxes_told = λ j box s below.
          by_test (λ (t : List ℕ). RoomTold n j (ls' s) (room_at t s)) (eqb j i) (step (w.tables i) e).table (w.tables j)
          (λ same. subst⁻¹ (λ (x : ℕ). RoomTold n x (ls' s) (room_at (step (w.tables i) e).table s)) (eqb-true j i same) (here s below))
          (λ other. others j box (eqb-false j i other) s below);
      parcels_told =
          with_message_keeps (λ (m : Message). EventTold n (ls' m.event.slot.0) m.event) (answer_to step w i e) w.parcels sent
          (λ m among. event_lasts (ls _) (ls' _) (more _) n m.event (k.parcels_told m among));
    }
