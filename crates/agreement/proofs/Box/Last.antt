-- Last counts a report; with enough of them the box begins at its own ballot, with the value of the highest report or its own.
-- Relies on Box and its laws. Cited by OnSlot.
use Rattle.std.specs.Prelude.{ℕ, ◌^◌, ◌≤◌, ◌<◌, ◌≡◌, refl, true, ◌≢◌, [], ◌∷◌, ltb, eqb}
use Rattle.std.proofs.Common.{sym, ◌∙◌, inl, inr, le_trans, arith, ltb-true, ltb-false, eqb-true}
use Rattle.std.proofs.Math.Path.{subst⁻¹}
use Rattle.std.proofs.lemmas.Bool.{false≢true, eqb-false}
use Rattle.ballots.specs.Boxes.{with_box}
use Rattle.ballots.specs.BoxesLaws.{zero_holds_none}
use Rattle.consensus.specs.declared.Head.{Head}
use Rattle.consensus.specs.declared.Vote.{Vote}
use Rattle.consensus.specs.declared.Room.{Room}
use Rattle.consensus.specs.declared.Event.{Event}
use Rattle.consensus.specs.Answers.{Quiet, NotAwaited}
use Rattle.consensus.specs.Room.{own_ballot, best_ballot, lasts, accepts, agreed, collecting, begun as begun_phase, vote, round, room, no_vote}
use Rattle.consensus.specs.Enough.{enough_to_collect}
use Rattle.consensus.specs.Events.{last, begin}
use Rattle.consensus.specs.OnSlot.{Becomes, all_boxes, send, awaited, better, to_begin, on_last}
use Rattle.step_laws.specs.ByTest.{by_test, by_answer}
use Rattle.step_laws.specs.KeptLaws.{RunningKept, kept_clauses}
use Rattle.step_laws.specs.EventLaws.{last_clauses}
use Rattle.step_laws.specs.AwaitedLaws.{Awaited, awaited_clauses, counted_are_boxes}
use Rattle.agreement.specs.Ledger.Update.{update_same}
use Rattle.agreement.specs.Ledger.{Ledger, Said, proposed, reported, begun, Report, Sourced, own, taken, Backed, after_begin, begins, stays, moves}
use Rattle.agreement.specs.Ledger.Laws.{said_before}
use Rattle.agreement.specs.Majorities.{In, CollectSet, enough_collects, counted_all}
use Rattle.agreement.specs.Box.{CollectingTold, Situation, Told}
use Rattle.agreement.proofs.Box.Laws.{agreed_lasts, unmoved, refused, heard}

module _ (h : Head) (r : Room) (e : Event) (l : Ledger) (kind : e.kind ≡ last) (here : Situation h r e l) (mine : Awaited r e collecting (lasts r)) where
  abbrev counted : ℕ
  counted = with_box (lasts r) e.from

  abbrev best : Vote
  best = better r e

  told : CollectingTold l r.round
  told = here.room_told.collecting_told mine.in_phase

  running : RunningKept h r
  running = (kept_clauses h r here.room_kept).phase_is_kept.when_running (λ rest. absurd (omega (arith, mine.in_phase)))

  -- what the sender said, at the own ballot
  sent : Said (reported e.from (own_ballot r) e.second.0 e.value) l
  sent =
      subst⁻¹ (λ (b : ℕ). Said (reported e.from b e.second.0 e.value) l) mine.own_round
      (heard h r e l kind here)

  -- the best is no lower than either, and is a report
  best_of_both : (best_ballot r ≤ best.ballot.0) × (e.second.0 ≤ best.ballot.0)
  best_of_both =
      by_test (λ (v : Vote). (best_ballot r ≤ v.ballot.0) × (e.second.0 ≤ v.ballot.0)) (ltb (best_ballot r) e.second.0) _ _
      (λ above. omega (arith, ltb-true))
      (λ below. omega (arith, ltb-false))

  best_reported : best.ballot.0 ≢ 0 → (a : ℕ) × Said (reported a (own_ballot r) best.ballot.0 best.value) l
  best_reported =
      by_test (λ (v : Vote). v.ballot.0 ≢ 0 → (a : ℕ) × Said (reported a (own_ballot r) v.ballot.0 v.value) l) (ltb (best_ballot r) e.second.0) _ _
      (λ above some. (e.from, sent))
      (λ below some. told.best_reported some)

  counted_reported : (a : ℕ) → In a counted → Report l a (own_ballot r) best.ballot.0
  counted_reported =
      counted_all (λ (a : ℕ). Report l a (own_ballot r) best.ballot.0) (lasts r) e.from
      (record { ballot = e.second.0; value = e.value; said = sent; within = best_of_both.1 })
      (λ a held.
      let old = told.counted_reported a held in
      record { ballot = old.ballot; value = old.value; said = old.said; within = le_trans old.within best_of_both.0 })

  are_boxes : counted < 2 ^ h.boxes
  are_boxes =
      counted_are_boxes h (lasts r) e.from here.head_kept (kept_clauses h r here.room_kept).round_is_kept.lasts_are_boxes
      (last_clauses h.boxes e kind here.good_event).from_below

  more_told : Told h r e l (Becomes (room r.saved (round collecting r.round.own best counted (accepts r)) (agreed r)) Quiet)
  more_told =
      unmoved _ _ l r e _ Quiet
      (record {
        saved_lasts = here.room_told.saved_lasts;
        collecting_told = λ p. record {
          own_opened = told.own_opened;
          own_proposed = told.own_proposed;
          none_begun = told.none_begun;
          counted_reported = counted_reported;
          best_reported = best_reported;
        };
        begun_told = λ p. absurd (omega arith);
        agreed_told = here.room_told.agreed_told;
      })
      tt

  abbrev v : ℕ
  v = to_begin r best

  sourced : Sourced l (own_ballot r) v best.ballot.0
  sourced =
      by_test (λ (x : ℕ). Sourced l (own_ballot r) x best.ballot.0) (eqb best.ballot.0 0) _ _
      (λ none. own (eqb-true _ _ none) told.own_proposed)
      (λ some. let b = best_reported (eqb-false _ _ some) in taken b.0 (eqb-false _ _ some) b.1)

  module _ (enough : enough_to_collect h counted ≡ true) where
    abbrev l' : Ledger
    l' = after_begin l h.index (own_ballot r) v

    backed : Backed ℕ In (CollectSet h.boxes) l (own_ballot r) v
    backed =
        record {
          boxes = counted;
          enough = enough_collects h counted are_boxes enough;
          best = best.ballot.0;
          reports = counted_reported;
          sourced = sourced;
        }

    before : (w : ℕ) → Said (proposed w) l' → Said (proposed w) l
    before w = said_before l h.index (l.box h.index) (begun (own_ballot r) v ∷ []) (proposed w) (omega arith)

    begun_told : Told h r e l (Becomes (room r.saved (round begun_phase (vote (own_ballot r) v) no_vote 0 0) (agreed r)) (send h e all_boxes begin (own_ballot r) 0 v))
    begun_told =
        record {
          next = l';
          moved = moves (begins (own_ballot r) v running.own_made_here told.own_opened told.none_begun backed) stays;
          room_told = record {
            saved_lasts = update_same l.box h.index _ ∙ here.room_told.saved_lasts;
            collecting_told = λ p. absurd (omega arith);
            begun_told = λ p. record {
              own_begun = inl refl;
              counted_voted = λ a held. absurd (false≢true (sym (zero_holds_none a) ∙ held));
            };
            agreed_told = λ some. agreed_lasts l l' (λ f said. inr said) h.boxes (agreed r) (here.room_told.agreed_told some);
          };
          answer_told = inl refl;
          proposals = λ w said. inl (before w said);
        }

pub last_told : (h : Head) (r : Room) (e : Event) (l : Ledger) → e.kind ≡ last → Situation h r e l → Told h r e l (on_last h r e)
unfolding on_last
last_told h r e l kind here =
    by_answer (awaited r e collecting (lasts r))
    (λ met.
    let mine = awaited_clauses r e collecting (lasts r) met in
    by_answer (enough_to_collect h (with_box (lasts r) e.from))
    (λ enough. simp (met, enough) (begun_told h r e l kind here mine enough))
    (λ few. simp (met, few) (more_told h r e l kind here mine)))
    (λ unmet. simp unmet (refused _ _ l r e NotAwaited here.room_told tt))
