-- Begin is a vote for what is begun at the ballot. Below the promise nothing moves.
-- Relies on Box and its laws. Cited by OnSlot.
use Rattle.std.specs.Prelude.{ℕ, ◌≤◌, ◌≡◌, refl, [], ◌∷◌, ltb}
use Rattle.std.proofs.Math.Path.{subst⁻¹}
use Rattle.std.proofs.Common.{inl, inr, arith, ltb-false}
use Rattle.consensus.specs.declared.Head.{Head}
use Rattle.consensus.specs.declared.Room.{Room}
use Rattle.consensus.specs.declared.Event.{Event}
use Rattle.ballots.specs.BallotLaws.{ballot_not_zero}
use Rattle.consensus.specs.Room.{promised, agreed, vote, saved, room}
use Rattle.consensus.specs.Events.{begin, accept}
use Rattle.consensus.specs.OnSlot.{Becomes, send, on_begin}
use Rattle.step_laws.specs.ByTest.{by_answer}
use Rattle.step_laws.specs.EventLaws.{begin_clauses}
use Rattle.agreement.specs.Ledger.Update.{update_same}
use Rattle.agreement.specs.Ledger.{Lasting, Ledger, Said, proposed, begun, voted, after_vote, votes, stays, moves}
use Rattle.agreement.specs.Ledger.Laws.{said_before}
use Rattle.agreement.specs.Box.{Situation, Told}
use Rattle.agreement.proofs.Box.Laws.{same_round, heard}
use Rattle.agreement.proofs.Box.Collect.{too_old_told}

module _ (h : Head) (r : Room) (e : Event) (l : Ledger) (kind : e.kind ≡ begin) (here : Situation h r e l) (reach : promised r ≤ e.ballot.0) where
  abbrev l' : Ledger
  l' = after_vote l h.index e.ballot.0 e.value

  before : (v : ℕ) → Said (proposed v) l' → Said (proposed v) l
  before v = said_before l h.index (l.box h.index) (voted h.index e.ballot.0 ∷ []) (proposed v) (omega arith)

  none_begun : (b w : ℕ) → Said (begun b w) l' → Said (begun b w) l
  none_begun b w = said_before l h.index (l.box h.index) (voted h.index e.ballot.0 ∷ []) (begun b w) (omega arith)

  voted_told :
      Told h r e l
      (Becomes (room (saved e.ballot.0 (vote e.ballot.0 e.value)) r.round (agreed r)) (send h e e.from accept e.ballot.0 0 0))
  voted_told =
      record {
        next = l';
        moved =
            moves
            (votes e.ballot.0 e.value (heard h r e l kind here)
            (subst⁻¹ (λ (x : Lasting). x.promise ≤ e.ballot.0) here.room_told.saved_lasts reach)
            (ballot_not_zero h.boxes e.ballot.0 (begin_clauses h.boxes e kind here.good_event).some_ballot))
            stays;
        room_told =
            same_round l l' (λ f said. inr said) h.boxes h.index r _ (λ p w. none_begun _ w)
            (update_same l.box h.index _)
            here.room_told;
        answer_told = inl refl;
        proposals = λ v said. inl (before v said);
      }

pub begin_told : (h : Head) (r : Room) (e : Event) (l : Ledger) → e.kind ≡ begin → Situation h r e l → Told h r e l (on_begin h r e)
unfolding on_begin
begin_told h r e l kind here =
    by_answer (ltb e.ballot.0 (promised r))
    (λ old. simp old (too_old_told h r e l here))
    (λ fresh. simp fresh (voted_told h r e l kind here (ltb-false e.ballot.0 (promised r) fresh)))
