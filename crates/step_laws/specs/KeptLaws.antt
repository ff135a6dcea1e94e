-- What each clause of well kept says, as records of facts under readable names, with a lemma each way between test and record.
-- Relies on the definitions of WellKept. Cited by every proof that a slot stays well kept, which uses the records only.
use Rattle.std.specs.Prelude.{ℕ, ◌^◌, ◌≤◌, ◌<◌, ◌≡◌, Bool, true, false, cond, not, ◌&&◌, ◌≢◌, eqb, if◌then◌else◌}
use Rattle.std.proofs.Common.{ap, arith, ltb-true, leb-true, eqb-true, lt-ltb, le-leb, eq-eqb, ne_eqb}
use Rattle.std.proofs.lemmas.Bool.{eqb-false, not-true}
use Rattle.ballots.specs.Ballot.{is_ballot, none_or_ballot, maker_of}
use Rattle.consensus.specs.declared.Head.{Head}
use Rattle.consensus.specs.declared.Saved.{Saved}
use Rattle.consensus.specs.declared.Round.{Round}
use Rattle.consensus.specs.declared.Room.{Room}
use Rattle.consensus.specs.Room.{promised, accepted_ballot, accepted_value, phase, own_ballot, own_value, best_ballot, best_value, lasts, accepts, agreed, idle, collecting, begun}
use Rattle.consensus.specs.Enough.{enough_to_collect, enough_to_begin}
use Rattle.consensus.specs.WellKept.{zero_with, saved_kept, round_kept, idle_kept, running_kept, collecting_kept, begun_kept, phase_kept, well_kept}
use Rattle.step_laws.specs.ByTest.{by_test, and_left, and_right, conjuncts}

-- ---- "zero exactly if"

pub record ZeroTogether (a b : ℕ) : Type 0 where
  pub then_zero : a ≡ 0 → b ≡ 0
  pub only_then : b ≡ 0 → a ≡ 0

pub zero_together : (a b : ℕ) → zero_with a b ≡ true → ZeroTogether a b
zero_together a b =
    by_test (λ (t : Bool). t ≡ true → ZeroTogether a b) (eqb a 0) (eqb b 0) (not (eqb b 0))
    (λ za zb. record { then_zero = λ q. eqb-true b 0 zb; only_then = λ q. eqb-true a 0 za })
    (λ na nb. record {
      then_zero = λ q. absurd (eqb-false a 0 na q);
      only_then = λ q. absurd (eqb-false b 0 (not-true (eqb b 0) nb) q);
    })

pub together_zero : (a b : ℕ) → ZeroTogether a b → zero_with a b ≡ true
together_zero a b z =
    by_test (λ (t : Bool). t ≡ true) (eqb a 0) (eqb b 0) (not (eqb b 0))
    (λ za. eq-eqb b 0 (z.then_zero (eqb-true a 0 za)))
    (λ na. ap not (ne_eqb b 0 (λ q. eqb-false a 0 na (z.only_then q))))

pub both_zero : ZeroTogether 0 0
both_zero = record { then_zero = λ q. q; only_then = λ q. q }

pub neither_zero : (a b : ℕ) → a ≢ 0 → b ≢ 0 → ZeroTogether a b
neither_zero a b na nb = record { then_zero = λ q. absurd (na q); only_then = λ q. absurd (nb q) }

-- ---- numbers 0 to 2

pub record SavedKept (h : Head) (s : Saved) : Type 0 where
  pub promised_or_none : none_or_ballot h.boxes s.promised.0 ≡ true
  pub accepted_or_none : none_or_ballot h.boxes s.accepted.ballot.0 ≡ true
  pub accepted_at_most_promised : s.accepted.ballot.0 ≤ s.promised.0
  pub accepted_together : ZeroTogether s.accepted.value s.accepted.ballot.0

pub saved_clauses : (h : Head) (r : Room) → saved_kept h r ≡ true → SavedKept h r.saved
unfolding saved_kept
saved_clauses h r e =
    record {
      promised_or_none = search conjuncts;
      accepted_or_none = search conjuncts;
      accepted_at_most_promised = leb-true (accepted_ballot r) (promised r) (search conjuncts);
      accepted_together = zero_together (accepted_value r) (accepted_ballot r) (search conjuncts);
    }

pub clauses_saved : (h : Head) (r : Room) → SavedKept h r.saved → saved_kept h r ≡ true
unfolding saved_kept
clauses_saved h r k =
    simp (
      k.promised_or_none,
      k.accepted_or_none,
      le-leb (accepted_ballot r) (promised r) k.accepted_at_most_promised,
      together_zero (accepted_value r) (accepted_ballot r) k.accepted_together,
    )

-- ---- numbers 3 to 9, in every phase

pub record RoundKept (h : Head) (d : Round) : Type 0 where
  pub own_or_none : none_or_ballot h.boxes d.own.ballot.0 ≡ true
  pub best_or_none : none_or_ballot h.boxes d.best.ballot.0 ≡ true
  pub lasts_are_boxes : d.lasts < 2 ^ h.boxes
  pub accepts_are_boxes : d.accepts < 2 ^ h.boxes
  pub phase_at_most_begun : d.phase ≤ begun

pub round_clauses : (h : Head) (r : Room) → round_kept h r ≡ true → RoundKept h r.round
unfolding round_kept
round_clauses h r e =
    record {
      own_or_none = search conjuncts;
      best_or_none = search conjuncts;
      lasts_are_boxes = ltb-true (lasts r) (2 ^ h.boxes) (search conjuncts);
      accepts_are_boxes = ltb-true (accepts r) (2 ^ h.boxes) (search conjuncts);
      phase_at_most_begun = leb-true (phase r) begun (search conjuncts);
    }

pub clauses_round : (h : Head) (r : Room) → RoundKept h r.round → round_kept h r ≡ true
unfolding round_kept
clauses_round h r k =
    simp (
      k.own_or_none,
      k.best_or_none,
      lt-ltb (lasts r) (2 ^ h.boxes) k.lasts_are_boxes,
      lt-ltb (accepts r) (2 ^ h.boxes) k.accepts_are_boxes,
      le-leb (phase r) begun k.phase_at_most_begun,
    )

-- ---- phase 0

pub record IdleKept (d : Round) : Type 0 where
  pub no_own_ballot : d.own.ballot.0 ≡ 0
  pub no_own_value : d.own.value ≡ 0
  pub no_best_ballot : d.best.ballot.0 ≡ 0
  pub no_best_value : d.best.value ≡ 0
  pub no_lasts : d.lasts ≡ 0
  pub no_accepts : d.accepts ≡ 0

pub idle_clauses : (r : Room) → idle_kept r ≡ true → IdleKept r.round
unfolding idle_kept
idle_clauses r e =
    record {
      no_own_ballot = eqb-true (own_ballot r) 0 (search conjuncts);
      no_own_value = eqb-true (own_value r) 0 (search conjuncts);
      no_best_ballot = eqb-true (best_ballot r) 0 (search conjuncts);
      no_best_value = eqb-true (best_value r) 0 (search conjuncts);
      no_lasts = eqb-true (lasts r) 0 (search conjuncts);
      no_accepts = eqb-true (accepts r) 0 (search conjuncts);
    }

pub clauses_idle : (r : Room) → IdleKept r.round → idle_kept r ≡ true
unfolding idle_kept
clauses_idle r k =
    simp (k.no_own_ballot, k.no_own_value, k.no_best_ballot, k.no_best_value, k.no_lasts, k.no_accepts)

-- ---- phase 1 or 2

pub record RunningKept (h : Head) (r : Room) : Type 0 where
  pub own_is_ballot : is_ballot h.boxes (own_ballot r) ≡ true
  pub own_made_here : maker_of (own_ballot r) ≡ h.index
  pub own_at_most_promised : own_ballot r ≤ promised r
  pub own_value_is : own_value r ≢ 0
  pub nothing_agreed : agreed r ≡ 0

pub running_clauses : (h : Head) (r : Room) → running_kept h r ≡ true → RunningKept h r
unfolding running_kept
running_clauses h r e =
    record {
      own_is_ballot = search conjuncts;
      own_made_here = eqb-true (maker_of (own_ballot r)) h.index (search conjuncts);
      own_at_most_promised = leb-true (own_ballot r) (promised r) (search conjuncts);
      own_value_is = eqb-false (own_value r) 0 (not-true (eqb (own_value r) 0) (search conjuncts));
      nothing_agreed = eqb-true (agreed r) 0 (search conjuncts);
    }

pub clauses_running : (h : Head) (r : Room) → RunningKept h r → running_kept h r ≡ true
unfolding running_kept
clauses_running h r k =
    simp (
      k.own_is_ballot,
      eq-eqb (maker_of (own_ballot r)) h.index k.own_made_here,
      le-leb (own_ballot r) (promised r) k.own_at_most_promised,
      ne_eqb (own_value r) 0 k.own_value_is,
      eq-eqb (agreed r) 0 k.nothing_agreed,
    )

-- ---- phase 1

pub record CollectingKept (h : Head) (d : Round) : Type 0 where
  pub best_at_most_own : d.best.ballot.0 ≤ d.own.ballot.0
  pub best_together : ZeroTogether d.best.value d.best.ballot.0
  pub no_accepts : d.accepts ≡ 0
  pub lasts_not_enough : enough_to_collect h d.lasts ≡ false

pub collecting_clauses : (h : Head) (r : Room) → collecting_kept h r ≡ true → CollectingKept h r.round
unfolding collecting_kept
collecting_clauses h r e =
    record {
      best_at_most_own = leb-true (best_ballot r) (own_ballot r) (search conjuncts);
      best_together = zero_together (best_value r) (best_ballot r) (search conjuncts);
      no_accepts = eqb-true (accepts r) 0 (search conjuncts);
      lasts_not_enough = not-true (enough_to_collect h (lasts r)) (search conjuncts);
    }

pub clauses_collecting : (h : Head) (r : Room) → CollectingKept h r.round → collecting_kept h r ≡ true
unfolding collecting_kept
clauses_collecting h r k =
    simp (
      le-leb (best_ballot r) (own_ballot r) k.best_at_most_own,
      together_zero (best_value r) (best_ballot r) k.best_together,
      eq-eqb (accepts r) 0 k.no_accepts,
      k.lasts_not_enough,
    )

-- ---- phase 2

pub record BegunKept (h : Head) (d : Round) : Type 0 where
  pub no_best_ballot : d.best.ballot.0 ≡ 0
  pub no_best_value : d.best.value ≡ 0
  pub no_lasts : d.lasts ≡ 0
  pub accepts_not_enough : enough_to_begin h d.accepts ≡ false

pub begun_clauses : (h : Head) (r : Room) → begun_kept h r ≡ true → BegunKept h r.round
unfolding begun_kept
begun_clauses h r e =
    record {
      no_best_ballot = eqb-true (best_ballot r) 0 (search conjuncts);
      no_best_value = eqb-true (best_value r) 0 (search conjuncts);
      no_lasts = eqb-true (lasts r) 0 (search conjuncts);
      accepts_not_enough = not-true (enough_to_begin h (accepts r)) (search conjuncts);
    }

pub clauses_begun : (h : Head) (r : Room) → BegunKept h r.round → begun_kept h r ≡ true
unfolding begun_kept
clauses_begun h r k = simp (k.no_best_ballot, k.no_best_value, k.no_lasts, k.accepts_not_enough)

-- ---- what each phase asks

pub record PhaseKept (h : Head) (r : Room) : Type 0 where
  pub when_idle : phase r ≡ idle → IdleKept r.round
  pub when_running : phase r ≢ idle → RunningKept h r
  pub when_collecting : phase r ≡ collecting → CollectingKept h r.round
  pub when_begun : phase r ≡ begun → BegunKept h r.round

pub phase_clauses : (h : Head) (r : Room) → phase_kept h r ≡ true → PhaseKept h r
unfolding phase_kept
phase_clauses h r e =
    record {
      when_idle = λ p. idle_clauses r (simp p at e);
      when_running = λ p. running_clauses h r (running_part (eqb (phase r) collecting) (simp (ne_eqb (phase r) idle p) at e));
      when_collecting = λ p. collecting_clauses h r (and_right (running_kept h r) (collecting_kept h r) (simp p at e));
      when_begun = λ p. begun_clauses h r (and_right (running_kept h r) (begun_kept h r) (simp p at e));
    }
  where
    running_part : (t : Bool) → cond t (running_kept h r && collecting_kept h r) (running_kept h r && begun_kept h r) ≡ true → running_kept h r ≡ true
    running_part true c = and_left (running_kept h r) (collecting_kept h r) c
    running_part false c = and_left (running_kept h r) (begun_kept h r) c

pub clauses_phase : (h : Head) (r : Room) → phase r ≤ begun → PhaseKept h r → phase_kept h r ≡ true
unfolding phase_kept
clauses_phase h r few k =
    by_test (λ (t : Bool). t ≡ true) (eqb (phase r) idle) (idle_kept r)
    (if eqb (phase r) collecting then running_kept h r && collecting_kept h r else running_kept h r && begun_kept h r)
    (λ p. clauses_idle r (k.when_idle (eqb-true (phase r) idle p)))
    (λ not_idle.
    let running = clauses_running h r (k.when_running (eqb-false (phase r) idle not_idle)) in
    by_test (λ (t : Bool). t ≡ true) (eqb (phase r) collecting) (running_kept h r && collecting_kept h r) (running_kept h r && begun_kept h r)
    (λ p. simp (running, clauses_collecting h r (k.when_collecting (eqb-true (phase r) collecting p))))
    (λ not_collecting.
    let p : phase r ≡ begun = omega (arith, eqb-false (phase r) idle not_idle, eqb-false (phase r) collecting not_collecting) in
    simp (running, clauses_begun h r (k.when_begun p))))

-- ---- the whole slot

pub record WellKept (h : Head) (r : Room) : Type 0 where
  pub saved_is_kept : SavedKept h r.saved
  pub round_is_kept : RoundKept h r.round
  pub phase_is_kept : PhaseKept h r

pub kept_clauses : (h : Head) (r : Room) → well_kept h r ≡ true → WellKept h r
unfolding well_kept
kept_clauses h r e =
    record {
      saved_is_kept = saved_clauses h r (search conjuncts);
      round_is_kept = round_clauses h r (search conjuncts);
      phase_is_kept = phase_clauses h r (search conjuncts);
    }

pub clauses_kept : (h : Head) (r : Room) → WellKept h r → well_kept h r ≡ true
unfolding well_kept
clauses_kept h r k =
    simp (
      clauses_saved h r k.saved_is_kept,
      clauses_round h r k.round_is_kept,
      clauses_phase h r k.round_is_kept.phase_at_most_begun k.phase_is_kept,
    )
