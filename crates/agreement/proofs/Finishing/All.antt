-- The finishing clause, proved of the step: Propose, then the two halves of a round.
-- Relies on Halves and Highest, and of runs on kept tables and one vote for a ballot. Cited by the promises and by Reaches.
use Rattle.std.specs.Prelude.{ℕ, ◌≤◌, ◌≡◌, refl, true, List, map, ◌++◌}
use Rattle.std.proofs.Common.{sym, ap, subst, ◌∙◌, append_assoc, inl, le_refl, arith, eq-eqb, le-ltb}
use Rattle.ballots.specs.Ballot.{max_boxes, max_x, next_x, next_ballot}
use Rattle.consensus.specs.declared.Vote.{Vote}
use Rattle.consensus.specs.declared.Round.{Round}
use Rattle.consensus.specs.declared.Room.{Room}
use Rattle.consensus.specs.declared.Message.{Message}
use Rattle.consensus.specs.Room.{promised, agreed, collecting, begun, vote, saved, round, room, no_vote}
use Rattle.consensus.specs.Events.{collect, last, begin, accept, success, event, event_ok}
use Rattle.consensus.specs.OnSlot.{Becomes, all_boxes, on_propose, on_slot}
use Rattle.consensus.specs.Step.{step}
use Rattle.consensus.specs.Answers.{Sends, answer_number}
use Rattle.step_laws.specs.EventTests.{clauses_propose}
use Rattle.agreement.specs.Runs.{World, Among, after, says, has_promised, has_accepted}
use Rattle.agreement.specs.Runs.Keeps.{head_in, RunKept, reachable_kept}
use Rattle.agreement.proofs.Runs.Agrees.{one_vote}
use Rattle.agreement.specs.Finishing.{OrderOf, parcel, Turn, Turns, turn, proposal, MayFinish, HighestAccepted, Finishes, FinishesAll}
use Rattle.agreement.specs.Finishing.Calls.{room_in, Called, call_becomes, by_box, turns_append}
use Rattle.agreement.specs.Finishing.Asks.{FitToBegin, FitToCollect, ReportsAccepted, ReportsNothing, collect_replies, begin_replies}
use Rattle.agreement.specs.Finishing.Counts.{Underway}
use Rattle.agreement.proofs.Finishing.Highest.{OneVote, none_yet, best_is_highest}
use Rattle.agreement.proofs.Finishing.Halves.{CollectingFor, Begins, last_counter, BegunFor, AgreesOn, accept_counter, Ready, half_round}

proposes : (n p s v : ℕ) (r : Room) → agreed r ≡ 0 → next_x (promised r) ≤ max_x → on_slot (head_in n p) r (proposal s v) ≡
    Becomes
    (room (saved (next_ballot (promised r) p) r.saved.accepted) (round collecting (vote (next_ballot (promised r) p) v) no_vote 0 0) (agreed r))
    (Sends (parcel all_boxes (event collect s p (next_ballot (promised r) p) 0 0)))
unfolding on_slot on_propose
proposes n p s v r none left = simp (eq-eqb (agreed r) 0 none, le-ltb max_x (next_x (promised r)) left)

put_out_as : (m m' : Message) (ps : List Message) → m ≡ m' → Among m ps → Among m' ps
put_out_as m m' ps same = subst (λ (x : Message). Among x ps) same

module _ (n : ℕ) (w : World) (p s v : ℕ) (boxes : List ℕ) (kept : RunKept n w) (may : MayFinish n w p s v boxes) where
  abbrev its_next_ballot : ℕ
  its_next_ballot = next_ballot (has_promised w p s) p

  -- what each box had accepted when p proposed
  abbrev accepted : ℕ → Vote
  accepted q = has_accepted w q s

  abbrev proposing : Room
  proposing =
      room (saved its_next_ballot (room_in w p s).saved.accepted) (round collecting (vote its_next_ballot v) no_vote 0 0) (agreed (room_in w p s))

  abbrev asks_to_collect : Message
  asks_to_collect = parcel all_boxes (event collect s p its_next_ballot 0 0)

  proposal_called : Called n w p (proposal s v) proposing (Sends asks_to_collect)
  proposal_called =
      let ok : event_ok n (proposal s v) ≡ true =
      clauses_propose n (proposal s v) refl
      (record { slot_below = may.a_slot; no_from = refl; no_ballot = refl; no_second = refl; some_value = may.a_value }) in
      call_becomes n w p (proposal s v) proposing (Sends asks_to_collect) kept (record { a_box = may.a_box; source = inl (inl refl) }) ok (omega arith)
      (proposes n p s v (room_in w p s) may.nothing_agreed may.x_left)

  ready_to_collect : (counts : List ℕ) → OrderOf boxes counts
      → Ready n p s its_next_ballot collecting collect 0 (λ d. d.lasts) (FitToCollect accepted its_next_ballot) (CollectingFor accepted boxes v counts) boxes (after step w p (proposal s v))
  ready_to_collect counts order =
      let c = proposal_called in
      let round_is : (room_in (after step w p (proposal s v)) p s).round ≡ round collecting (vote its_next_ballot v) no_vote 0 0 =
      ap (λ (r : Room). r.round) c.here in
      record {
        standing = record {
          kept = c.kept;
          fits = λ q listed.
              by_box n w p (proposal s v) proposing (Sends asks_to_collect) c (λ (r : Room). FitToCollect accepted its_next_ballot q r.saved) q
              (λ same. record { promised_to = le_refl its_next_ballot; as_before = ap accepted (sym same) })
              (record { promised_to = omega (arith, may.nothing_as_high q listed); as_before = refl });
        };
        underway = subst (Underway its_next_ballot collecting) (sym round_is) (record { in_phase = refl; own_round = refl });
        none_counted = ap (λ (d : Round). d.lasts) round_is;
        all_missing =
            subst (CollectingFor accepted boxes v counts) (sym round_is)
            (record { own_value_is = refl; best_so_far = none_yet accepted boxes counts order.only_listed order.all_listed });
        put_out = subst (Among asks_to_collect) (sym c.puts_out) (inl refl);
      }

  -- the value that was begun is the one to be agreed
  begun_is_highest : OneVote w s boxes → (r : Room) (m : Message) → Begins p s its_next_ballot accepted boxes v r m → (u : ℕ) → u ≡ r.round.own.value
      → HighestAccepted w s boxes v u
  begun_is_highest one r m begins u is =
      subst (HighestAccepted w s boxes v) (sym (is ∙ begins.chosen))
      (best_is_highest w s boxes v begins.before begins.best one begins.proposed begins.best_of_all)

  round_finishes : (q₁ q₂ q₃ q₄ : List ℕ) → n ≤ max_boxes → OneVote w s boxes → OrderOf boxes q₁ → OrderOf boxes q₂ → OrderOf boxes q₃ → OrderOf boxes q₄
      → Finishes step n w p s v boxes q₁ q₂ q₃ q₄
  round_finishes q₁ q₂ q₃ q₄ few one o₁ o₂ o₃ o₄ =
      let b = its_next_ballot in
      let w₁ = after step w p (proposal s v) in
      let collected =
      half_round n p s b collecting collect last 0 (λ d. d.lasts) (FitToCollect accepted b) (ReportsAccepted accepted)
      (CollectingFor accepted boxes v) (Begins p s b accepted boxes v) boxes q₁ q₂ few may.a_box may.a_slot may.just_enough o₁ o₂
      (collect_replies p s b accepted) (last_counter n p s b accepted boxes v) w₁ (ready_to_collect q₂ o₂) in
      let u = (room_in collected.end p s).round.own.value in
      let done =
      half_round n p s b begun begin accept u (λ d. d.accepts) (FitToBegin b) ReportsNothing
      (BegunFor u) (AgreesOn p s u) boxes q₃ q₄ few may.a_box may.a_slot may.just_enough o₃ o₄
      (begin_replies p s b u) (accept_counter n p s b u) collected.end
      (record {
        standing = record { kept = collected.standing.kept; fits = λ q listed. (collected.standing.fits q listed).promised_to };
        underway = collected.closed.underway;
        none_counted = collected.closed.none_counted;
        all_missing = refl;
        put_out = put_out_as collected.message (parcel all_boxes (event begin s p b 0 u)) collected.end.parcels collected.closed.begins collected.put_out;
      }) in
      let m₁ = map (λ q. turn q collect p) q₁ in
      let m₂ = map (λ q. turn p last q) q₂ in
      let m₃ = map (λ q. turn q begin p) q₃ in
      let m₄ = map (λ q. turn p accept q) q₄ in
      record {
        proposed = ap answer_number proposal_called.answers;
        end = done.end;
        turns =
            subst (λ (ts : List Turn). Turns step n p s b w₁ ts done.end) (sym (append_assoc (m₁ ++ m₂) m₃ m₄))
            (turns_append step n p s b w₁ collected.end done.end (m₁ ++ m₂) (m₃ ++ m₄) collected.turns done.turns);
        agreed = done.closed.some_value;
        agreed_value =
            begun_is_highest one (room_in collected.end p s) collected.message collected.closed (says done.end p s) done.closed.agreed_value;
        told_to_all = put_out_as done.message (parcel all_boxes (event success s p 0 0 (says done.end p s))) done.end.parcels done.closed.tells_all done.put_out;
      }

pub finishes_all : FinishesAll step
finishes_all =
    record {
      finishes = λ n w p s v boxes q₁ q₂ q₃ q₄ some few run may o₁ o₂ o₃ o₄.
          round_finishes n w p s v boxes (reachable_kept n w some few run) may q₁ q₂ q₃ q₄ few
          (λ q r listed listed'. one_vote n some few w run q r s (may.just_enough.all_below q listed) (may.just_enough.all_below r listed') may.a_slot)
          o₁ o₂ o₃ o₄;
    }
