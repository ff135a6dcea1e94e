-- Last leaves a well kept slot well kept: while the counted are too few the best stays below the own ballot, and a round
-- that begins carries a value. Relies on the clauses of well kept and of events. Cited by the laws of the step on tables.
use Rattle.std.specs.Prelude.{ℕ, ◌≤◌, ◌≡◌, refl, true, false, ◌≢◌, ltb, eqb}
use Rattle.std.proofs.Common.{le_refl, arith}
use Rattle.std.proofs.lemmas.Bool.{eqb-false}
use Rattle.ballots.specs.Ballot.{none_or_ballot}
use Rattle.ballots.specs.Boxes.{with_box}
use Rattle.ballots.specs.BallotLaws.{zero_none_or_ballot}
use Rattle.consensus.specs.declared.Head.{Head}
use Rattle.consensus.specs.declared.Vote.{Vote}
use Rattle.consensus.specs.declared.Room.{Room}
use Rattle.consensus.specs.declared.Event.{Event}
use Rattle.consensus.specs.Room.{promised, agreed, own_ballot, own_value, best_ballot, lasts, accepts, collecting, begun, vote, round, room, no_vote}
use Rattle.consensus.specs.Enough.{enough_to_collect}
use Rattle.consensus.specs.WellKept.{well_kept}
use Rattle.consensus.specs.Events.{last, event_ok}
use Rattle.consensus.specs.OnSlot.{awaited, better, to_begin, on_last}
use Rattle.step_laws.specs.ByTest.{by_test, by_answer}
use Rattle.step_laws.specs.HeadLaws.{HeadKept}
use Rattle.step_laws.specs.KeptLaws.{ZeroTogether, RunningKept, CollectingKept, WellKept, kept_clauses, clauses_kept}
use Rattle.step_laws.specs.EventLaws.{LastKept, last_clauses}
use Rattle.step_laws.specs.AwaitedLaws.{Awaited, awaited_clauses, counted_are_boxes}
use Rattle.step_laws.specs.OutcomeLaws.{Keeps, still_running, none_are_boxes, none_enough_to_begin}

-- ---- the best vote

-- what the rules ask of the best vote of a round under own ballot b
record BestKept (n b : ℕ) (best : Vote) : Type 0 where
  ballot_or_none : none_or_ballot n best.ballot.0 ≡ true
  at_most_own : best.ballot.0 ≤ b
  together : ZeroTogether best.value best.ballot.0

better_kept : (n : ℕ) (r : Room) (e : Event) → LastKept n e → own_ballot r ≡ e.ballot.0 → BestKept n (own_ballot r) r.round.best
    → BestKept n (own_ballot r) (better r e)
better_kept n r e c ours best =
    by_test (BestKept n (own_ballot r)) (ltb (best_ballot r) e.second.0) (vote e.second.0 e.value) r.round.best
    (λ higher. record {
      ballot_or_none = c.second_or_none;
      at_most_own = omega arith;
      together = c.value_together;
    })
    (λ not_higher. best)

-- "own value becomes best value where best ballot is not zero": the round has a value in both cases
value_to_begin : (n : ℕ) (r : Room) (best : Vote) → own_value r ≢ 0 → BestKept n (own_ballot r) best → to_begin r best ≢ 0
value_to_begin n r best own k =
    by_test (λ (v : ℕ). v ≢ 0) (eqb best.ballot.0 0) (own_value r) best.value
    (λ none. own)
    (λ some zero_value. eqb-false best.ballot.0 0 some (k.together.then_zero zero_value))

-- ---- one Last more

module _ (h : Head) (r : Room) (e : Event) (good : HeadKept h) (c : LastKept h.boxes e)
    (k : WellKept h r) (a : Awaited r e collecting (lasts r)) where
  running : RunningKept h r
  running = k.phase_is_kept.when_running (omega (arith, a.in_phase))

  collecting_round : CollectingKept h r.round
  collecting_round = k.phase_is_kept.when_collecting a.in_phase

  best_kept : BestKept h.boxes (own_ballot r) (better r e)
  best_kept =
      better_kept h.boxes r e c a.own_round
      (record {
        ballot_or_none = k.round_is_kept.best_or_none;
        at_most_own = collecting_round.best_at_most_own;
        together = collecting_round.best_together;
      })

  counted_kept : enough_to_collect h (with_box (lasts r) e.from) ≡ false
      → WellKept h (room r.saved (round collecting r.round.own (better r e) (with_box (lasts r) e.from) (accepts r)) (agreed r))
  counted_kept few =
      record {
        saved_is_kept = k.saved_is_kept;
        round_is_kept = record {
          own_or_none = k.round_is_kept.own_or_none;
          best_or_none = best_kept.ballot_or_none;
          lasts_are_boxes = counted_are_boxes h (lasts r) e.from good k.round_is_kept.lasts_are_boxes c.from_below;
          accepts_are_boxes = k.round_is_kept.accepts_are_boxes;
          phase_at_most_begun = omega arith;
        };
        phase_is_kept = record {
          when_idle = λ p. absurd (omega arith);
          when_running = λ p.
              still_running h r r.saved collecting (own_value r) (better r e) (with_box (lasts r) e.from) (accepts r)
              running (le_refl (promised r)) running.own_value_is;
          when_collecting = λ p. record {
            best_at_most_own = best_kept.at_most_own;
            best_together = best_kept.together;
            no_accepts = collecting_round.no_accepts;
            lasts_not_enough = few;
          };
          when_begun = λ p. absurd (omega arith);
        };
      }

  begins_kept : WellKept h (room r.saved (round begun (vote (own_ballot r) (to_begin r (better r e))) no_vote 0 0) (agreed r))
  begins_kept =
      record {
        saved_is_kept = k.saved_is_kept;
        round_is_kept = record {
          own_or_none = k.round_is_kept.own_or_none;
          best_or_none = zero_none_or_ballot h.boxes;
          lasts_are_boxes = none_are_boxes h;
          accepts_are_boxes = none_are_boxes h;
          phase_at_most_begun = omega arith;
        };
        phase_is_kept = record {
          when_idle = λ p. absurd (omega arith);
          when_running = λ p.
              still_running h r r.saved begun (to_begin r (better r e)) no_vote 0 0
              running (le_refl (promised r)) (value_to_begin h.boxes r (better r e) running.own_value_is best_kept);
          when_collecting = λ p. absurd (omega arith);
          when_begun = λ p. record {
            no_best_ballot = refl;
            no_best_value = refl;
            no_lasts = refl;
            accepts_not_enough = none_enough_to_begin h;
          };
        };
      }

pub last_keeps : (h : Head) (r : Room) (e : Event) → HeadKept h → e.kind ≡ last → event_ok h.boxes e ≡ true → well_kept h r ≡ true
    → Keeps h (on_last h r e)
unfolding on_last
last_keeps h r e good k ok kept =
    let c = last_clauses h.boxes e k ok in
    by_answer (awaited r e collecting (lasts r))
    (λ due.
    let a = awaited_clauses r e collecting (lasts r) due in
    by_answer (enough_to_collect h (with_box (lasts r) e.from))
    (λ enough. simp (due, enough) (clauses_kept h _ (begins_kept h r e good c (kept_clauses h r kept) a)))
    (λ few. simp (due, few) (clauses_kept h _ (counted_kept h r e good c (kept_clauses h r kept) a few))))
    (λ not_due. simp not_due tt)
