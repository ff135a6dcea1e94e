-- Collect is a report: the box promises the opened ballot and reports its accepted pair there. Below the promise nothing moves.
-- Relies on Box and its laws. Cited by OnSlot, and its too_old_told by Begin.
use Rattle.std.specs.Prelude.{ℕ, ◌≤◌, ◌≡◌, [], ◌∷◌, ltb}
use Rattle.std.proofs.Common.{sym, ap, ◌∙◌, inl, inr, arith, ltb-false}
use Rattle.std.proofs.Math.Path.{subst⁻¹}
use Rattle.consensus.specs.declared.Head.{Head}
use Rattle.consensus.specs.declared.Room.{Room}
use Rattle.consensus.specs.declared.Event.{Event}
use Rattle.consensus.specs.Room.{promised, agreed, accepted_ballot, accepted_value, saved, room}
use Rattle.consensus.specs.Events.{collect, last}
use Rattle.consensus.specs.OnSlot.{Becomes, send, too_old, on_collect}
use Rattle.step_laws.specs.ByTest.{by_answer}
use Rattle.agreement.specs.Ledger.Update.{update_same}
use Rattle.agreement.specs.Ledger.{Lasting, Ledger, Said, proposed, reported, begun, promising, after_report, reports, stays, moves}
use Rattle.agreement.specs.Ledger.Laws.{said_before}
use Rattle.agreement.specs.Box.{Situation, Told}
use Rattle.agreement.proofs.Box.Laws.{same_round, unmoved, heard}

-- OldRound tells nothing
pub too_old_told : (h : Head) (r : Room) (e : Event) (l : Ledger) → Situation h r e l → Told h r e l (too_old h r e)
too_old_told h r e l here =
    unmoved h.boxes h.index l r e r _ here.room_told tt

module _ (h : Head) (r : Room) (e : Event) (l : Ledger) (kind : e.kind ≡ collect) (here : Situation h r e l) (reach : promised r ≤ e.ballot.0) where
  abbrev mine : Lasting
  mine = l.box h.index

  abbrev l' : Ledger
  l' = after_report l h.index e.ballot.0

  before : (v : ℕ) → Said (proposed v) l' → Said (proposed v) l
  before v = said_before l h.index (l.box h.index) (reported h.index e.ballot.0 mine.ballot mine.value ∷ []) (proposed v) (omega arith)

  none_begun : (b w : ℕ) → Said (begun b w) l' → Said (begun b w) l
  none_begun b w = said_before l h.index (l.box h.index) (reported h.index e.ballot.0 mine.ballot mine.value ∷ []) (begun b w) (omega arith)

  reported_told :
      Told h r e l
      (Becomes (room (saved e.ballot.0 r.saved.accepted) r.round (agreed r)) (send h e e.from last e.ballot.0 (accepted_ballot r) (accepted_value r)))
  reported_told =
      record {
        next = l';
        moved = moves (reports e.ballot.0 (heard h r e l kind here) (subst⁻¹ (λ (x : Lasting). x.promise ≤ e.ballot.0) here.room_told.saved_lasts reach)) stays;
        room_told =
            same_round l l' (λ f said. inr said) h.boxes h.index r _ (λ p w. none_begun _ w)
            (update_same l.box h.index _ ∙ ap (promising e.ballot.0) here.room_told.saved_lasts)
            here.room_told;
        answer_told = inl (sym (ap (λ (x : Lasting). reported h.index e.ballot.0 x.ballot x.value) here.room_told.saved_lasts));
        proposals = λ v said. inl (before v said);
      }

pub collect_told : (h : Head) (r : Room) (e : Event) (l : Ledger) → e.kind ≡ collect → Situation h r e l → Told h r e l (on_collect h r e)
unfolding on_collect
collect_told h r e l kind here =
    by_answer (ltb e.ballot.0 (promised r))
    (λ old. simp old (too_old_told h r e l here))
    (λ fresh. simp fresh (reported_told h r e l kind here (ltb-false e.ballot.0 (promised r) fresh)))
