-- Accept counts a vote; with enough of them the own value is agreed. No move: the votes are in the ledger already.
-- Relies on Box and its laws. Cited by OnSlot.
use Rattle.std.specs.Prelude.{ℕ, ◌^◌, ◌<◌, ◌≡◌, true}
use Rattle.std.proofs.Math.Path.{subst⁻¹}
use Rattle.std.proofs.Common.{arith}
use Rattle.ballots.specs.Boxes.{with_box}
use Rattle.consensus.specs.declared.Head.{Head}
use Rattle.consensus.specs.declared.Room.{Room}
use Rattle.consensus.specs.declared.Event.{Event}
use Rattle.consensus.specs.Answers.{Quiet, NotAwaited}
use Rattle.consensus.specs.Room.{own_ballot, own_value, lasts, accepts, agreed, begun as begun_phase, round, room, no_round}
use Rattle.consensus.specs.Enough.{enough_to_begin}
use Rattle.consensus.specs.Events.{accept, success}
use Rattle.consensus.specs.OnSlot.{Becomes, all_boxes, send, awaited, on_accept}
use Rattle.step_laws.specs.ByTest.{by_answer}
use Rattle.step_laws.specs.KeptLaws.{kept_clauses}
use Rattle.step_laws.specs.EventLaws.{accept_clauses}
use Rattle.step_laws.specs.AwaitedLaws.{Awaited, awaited_clauses, counted_are_boxes}
use Rattle.agreement.specs.Ledger.{Ledger, Said, voted}
use Rattle.agreement.specs.Majorities.{In, enough_begins, counted_all}
use Rattle.agreement.specs.Box.{Agreed, BegunTold, Situation, Told}
use Rattle.agreement.proofs.Box.Laws.{idle_told, unmoved, refused, heard}

module _ (h : Head) (r : Room) (e : Event) (l : Ledger) (kind : e.kind ≡ accept) (here : Situation h r e l) (mine : Awaited r e begun_phase (accepts r)) where
  abbrev counted : ℕ
  counted = with_box (accepts r) e.from

  told : BegunTold l r.round
  told = here.room_told.begun_told mine.in_phase

  all_voted : (a : ℕ) → In a counted → Said (voted a (own_ballot r)) l
  all_voted =
      counted_all (λ (a : ℕ). Said (voted a (own_ballot r)) l) (accepts r) e.from
      (subst⁻¹ (λ (b : ℕ). Said (voted e.from b) l) mine.own_round (heard h r e l kind here))
      told.counted_voted

  are_boxes : counted < 2 ^ h.boxes
  are_boxes =
      counted_are_boxes h (accepts r) e.from here.head_kept (kept_clauses h r here.room_kept).round_is_kept.accepts_are_boxes
      (accept_clauses h.boxes e kind here.good_event).from_below

  more_told : Told h r e l (Becomes (room r.saved (round begun_phase r.round.own r.round.best (lasts r) counted) (agreed r)) Quiet)
  more_told =
      unmoved _ _ l r e _ Quiet
      (record {
        saved_lasts = here.room_told.saved_lasts;
        collecting_told = λ p. absurd (omega arith);
        begun_told = λ p. record { own_begun = told.own_begun; counted_voted = all_voted };
        agreed_told = here.room_told.agreed_told;
      })
      tt

  module _ (enough : enough_to_begin h counted ≡ true) where
    chosen : Agreed h.boxes l (own_value r)
    chosen = (own_ballot r, record { was_begun = told.own_begun; boxes = counted; enough = enough_begins h counted are_boxes enough; all_voted = all_voted })

    agreed_told : Told h r e l (Becomes (room r.saved no_round (own_value r)) (send h e all_boxes success 0 0 (own_value r)))
    agreed_told =
        unmoved _ _ l r e _ _
        (idle_told _ _ l r.saved (own_value r) here.room_told.saved_lasts (λ some. chosen))
        (chosen)

pub accept_told : (h : Head) (r : Room) (e : Event) (l : Ledger) → e.kind ≡ accept → Situation h r e l → Told h r e l (on_accept h r e)
unfolding on_accept
accept_told h r e l kind here =
    by_answer (awaited r e begun_phase (accepts r))
    (λ met.
    let mine = awaited_clauses r e begun_phase (accepts r) met in
    by_answer (enough_to_begin h (with_box (accepts r) e.from))
    (λ enough. simp (met, enough) (agreed_told h r e l kind here mine enough))
    (λ few. simp (met, few) (more_told h r e l kind here mine)))
    (λ unmet. simp unmet (refused _ _ l r e NotAwaited here.room_told tt))
