-- Success brings an agreed value, and OldRound raises the promise; both leave no round.
-- Relies on Box and its laws. Cited by OnSlot.
use Rattle.std.specs.Prelude.{ℕ, ◌≤◌, max, ◌≡◌, not, ◌&&◌, eqb}
use Rattle.std.proofs.Common.{ap, ◌∙◌, inl}
use Rattle.std.proofs.Math.Path.{subst⁻¹}
use Rattle.std.proofs.Math.Nat.{le-max_left}
use Rattle.consensus.specs.declared.Head.{Head}
use Rattle.consensus.specs.declared.Room.{Room}
use Rattle.consensus.specs.declared.Event.{Event}
use Rattle.consensus.specs.Answers.{Quiet, NotAwaited, OtherAgreed}
use Rattle.consensus.specs.Room.{promised, phase, own_ballot, agreed, idle, saved, room, no_round}
use Rattle.consensus.specs.Events.{success}
use Rattle.consensus.specs.OnSlot.{Becomes, on_success, on_old_round}
use Rattle.step_laws.specs.ByTest.{by_answer}
use Rattle.agreement.specs.Ledger.Update.{update_same}
use Rattle.agreement.specs.Ledger.{Lasting, Ledger, promising, after_raise, raises, stays, moves}
use Rattle.agreement.specs.Box.{Situation, Told}
use Rattle.agreement.proofs.Box.Laws.{agreed_lasts, idle_told, unmoved, refused, heard}

pub success_told : (h : Head) (r : Room) (e : Event) (l : Ledger) → e.kind ≡ success → Situation h r e l → Told h r e l (on_success h r e)
unfolding on_success
success_told h r e l kind here =
    by_answer (eqb (agreed r) 0)
    (λ none.
    simp none
    (unmoved _ _ l r e _ Quiet (idle_told _ _ l r.saved e.value here.room_told.saved_lasts (λ some. heard h r e l kind here)) tt))
    (λ some.
    by_answer (eqb (agreed r) e.value)
    (λ same. simp (some, same) (refused _ _ l r e NotAwaited here.room_told tt))
    (λ other. simp (some, other) (refused _ _ l r e OtherAgreed here.room_told tt)))

module _ (h : Head) (r : Room) (e : Event) (l : Ledger) (here : Situation h r e l) where
  abbrev p : ℕ
  p = max (promised r) e.second.0

  abbrev l' : Ledger
  l' = after_raise l h.index p

  raised_told : Told h r e l (Becomes (room (saved p r.saved.accepted) no_round (agreed r)) Quiet)
  raised_told =
      record {
        next = l';
        moved = moves (raises p (subst⁻¹ (λ (x : Lasting). x.promise ≤ p) here.room_told.saved_lasts (le-max_left (promised r) e.second.0))) stays;
        room_told =
            idle_told _ _ l' (saved p r.saved.accepted) (agreed r)
            (update_same l.box h.index _ ∙ ap (promising p) here.room_told.saved_lasts)
            (λ some. agreed_lasts l l' (λ f said. said) h.boxes (agreed r) (here.room_told.agreed_told some));
        answer_told = tt;
        proposals = λ v said. inl said;
      }

pub old_round_told : (h : Head) (r : Room) (e : Event) (l : Ledger) → Situation h r e l → Told h r e l (on_old_round h r e)
unfolding on_old_round
old_round_told h r e l here =
    by_answer (not (eqb (phase r) idle) && eqb (own_ballot r) e.ballot.0)
    (λ mine. simp mine (raised_told h r e l here))
    (λ other. simp other (refused _ _ l r e NotAwaited here.room_told tt))
