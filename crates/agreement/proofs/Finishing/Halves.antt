-- The two halves of a round: the listed boxes asked, and their replies counted. How Lasts and Accepts are counted, and one proof for both halves.
-- Relies on Asks, Counts and Highest. Cited by the proof that a round finishes.
use Rattle.std.specs.Prelude.{ℕ, ◌≤◌, ◌<◌, ◌≡◌, refl, List, [], map, ◌++◌, ◌≢◌}
use Rattle.std.proofs.Common.{sym, ap, subst, ◌∙◌, arith}
use Rattle.std.specs.Int.Count.{ones}
use Rattle.std.proofs.lemmas.Nat.{ones-le}
use Rattle.ballots.specs.Ballot.{max_boxes}
use Rattle.ballots.specs.Boxes.{holds_box, with_box}
use Rattle.ballots.specs.BoxesLaws.{zero_holds_none}
use Rattle.consensus.specs.declared.Head.{Head}
use Rattle.consensus.specs.declared.Vote.{Vote}
use Rattle.consensus.specs.declared.Saved.{Saved}
use Rattle.consensus.specs.declared.Round.{Round}
use Rattle.consensus.specs.declared.Room.{Room}
use Rattle.consensus.specs.declared.Message.{Message}
use Rattle.consensus.specs.Room.{own_ballot, own_value, lasts, accepts, agreed, idle, collecting, begun, vote, round, no_vote, no_round}
use Rattle.consensus.specs.Layout.{slots}
use Rattle.consensus.specs.Enough.{enough_to_collect, enough_to_begin}
use Rattle.consensus.specs.Events.{last, begin, accept, success, event}
use Rattle.consensus.specs.OnSlot.{all_boxes, better, to_begin, on_last, on_accept, on_slot}
use Rattle.consensus.specs.Step.{step}
use Rattle.step_laws.specs.AwaitedLaws.{clauses_awaited}
use Rattle.agreement.specs.Runs.{World, Among}
use Rattle.agreement.specs.Finishing.{JustEnough, OrderOf, parcel, Turns, turn}
use Rattle.agreement.specs.Finishing.Calls.{room_in, turns_append}
use Rattle.agreement.specs.Finishing.Asks.{Standing, Replies, ReportsAccepted, ReportsNothing, Asked, every_asked}
use Rattle.agreement.specs.Finishing.Counts.{Underway, Counter, Waiting, every_counted}
use Rattle.agreement.proofs.Finishing.Highest.{BestOf, better_is_best}

-- ---- how Lasts are counted

-- while the Lasts of some boxes are missing: the own value is v, and best the highest accepted by the others
pub record CollectingFor (accepted : ℕ → Vote) (boxes : List ℕ) (v : ℕ) (missing : List ℕ) (d : Round) : Type 0 where
  pub own_value_is : d.own.value ≡ v
  pub best_so_far : BestOf accepted boxes missing d.best

-- p has begun under ballot b and put out Begin for its own value, chosen from what all the boxes accepted
pub record Begins (p s b : ℕ) (accepted : ℕ → Vote) (boxes : List ℕ) (v : ℕ) (r : Room) (m : Message) : Type 0 where
  pub underway : Underway b begun r.round
  pub none_counted : r.round.accepts ≡ 0
  pub best : Vote
  pub best_of_all : BestOf accepted boxes [] best
  pub before : Room
  pub proposed : before.round.own.value ≡ v
  pub chosen : r.round.own.value ≡ to_begin before best
  pub begins : m ≡ parcel all_boxes (event begin s p b 0 r.round.own.value)

pub last_counter : (n p s b : ℕ) (accepted : ℕ → Vote) (boxes : List ℕ) (v : ℕ)
    → Counter n p s b collecting last (λ d. d.lasts) (ReportsAccepted accepted) (CollectingFor accepted boxes v) (Begins p s b accepted boxes v)
unfolding on_slot on_last enough_to_collect
last_counter n p s b accepted boxes v =
    record {
      runs = omega arith;
      counts_one = λ r q second value qs u new few reports missing.
          let e = event last s q b second value in
          let due = clauses_awaited r e collecting (lasts r) (record { in_phase = u.in_phase; own_round = u.own_round; not_counted = new }) in
          record {
            goes_on = round collecting r.round.own (better r e) (with_box (lasts r) q) (accepts r);
            underway = record { in_phase = refl; own_round = u.own_round };
            counted_too = refl;
            missing = record {
              own_value_is = missing.own_value_is;
              best_so_far = better_is_best accepted boxes r e q qs reports missing.best_so_far;
            };
            becomes = simp (due, few);
          };
      counts_last = λ r q second value u own new enough reports missing.
          let e = event last s q b second value in
          let due = clauses_awaited r e collecting (lasts r) (record { in_phase = u.in_phase; own_round = u.own_round; not_counted = new }) in
          let chosen = to_begin r (better r e) in
          record {
            round = round begun (vote (own_ballot r) chosen) no_vote 0 0;
            value = agreed r;
            message = parcel all_boxes (event begin s p (own_ballot r) 0 chosen);
            closed = record {
              underway = record { in_phase = refl; own_round = u.own_round };
              none_counted = refl;
              best = better r e;
              best_of_all = better_is_best accepted boxes r e q [] reports missing.best_so_far;
              before = r;
              proposed = missing.own_value_is;
              chosen = refl;
              begins = ap (λ (x : ℕ). parcel all_boxes (event begin s p x 0 chosen)) u.own_round;
            };
            becomes = simp (due, enough);
          };
    }

-- ---- how Accepts are counted

-- whichever Accepts are missing, the own value is the one begun
abbrev pub BegunFor : ℕ → List ℕ → Round → Type 0
BegunFor v missing d = d.own.value ≡ v

-- p has agreed v and put out Success with it
pub record AgreesOn (p s v : ℕ) (r : Room) (m : Message) : Type 0 where
  pub some_value : agreed r ≢ 0
  pub agreed_value : agreed r ≡ v
  pub tells_all : m ≡ parcel all_boxes (event success s p 0 0 (agreed r))

pub accept_counter : (n p s b v : ℕ) → Counter n p s b begun accept (λ d. d.accepts) ReportsNothing (BegunFor v) (AgreesOn p s v)
unfolding on_slot on_accept enough_to_begin
accept_counter n p s b v =
    record {
      runs = omega arith;
      counts_one = λ r q second value qs u new few reports missing.
          let e = event accept s q b second value in
          let due = clauses_awaited r e begun (accepts r) (record { in_phase = u.in_phase; own_round = u.own_round; not_counted = new }) in
          record {
            goes_on = round begun r.round.own r.round.best (lasts r) (with_box (accepts r) q);
            underway = record { in_phase = refl; own_round = u.own_round };
            counted_too = refl;
            missing = missing;
            becomes = simp (due, few);
          };
      counts_last = λ r q second value u own new enough reports missing.
          let e = event accept s q b second value in
          let due = clauses_awaited r e begun (accepts r) (record { in_phase = u.in_phase; own_round = u.own_round; not_counted = new }) in
          record {
            round = no_round;
            value = own_value r;
            message = parcel all_boxes (event success s p 0 0 (own_value r));
            closed = record { some_value = own; agreed_value = missing; tells_all = refl };
            becomes = simp (due, enough);
          };
    }

-- ---- half a round

-- p's round of ballot b is in the phase with none counted, and the event asking the boxes is put out to all
pub record Ready (n p s b phase a v : ℕ) (counted : Round → ℕ) (Fit : ℕ → Saved → Type 0) (Missing : Round → Type 0) (boxes : List ℕ) (w : World) : Type 0 where
  pub standing : Standing n s Fit boxes w
  pub underway : Underway b phase (room_in w p s).round
  pub none_counted : counted (room_in w p s).round ≡ 0
  pub all_missing : Missing (room_in w p s).round
  pub put_out : Among (parcel all_boxes (event a s p b 0 v)) w.parcels

-- both orders gone through, and the round closed
pub record HalfDone (n p s b a k : ℕ) (Fit : ℕ → Saved → Type 0) (Closed : Room → Message → Type 0) (boxes asks counts : List ℕ) (w : World) : Type 0 where
  pub end : World
  pub turns : Turns step n p s b w (map (λ q. turn q a p) asks ++ map (λ q. turn p k q) counts) end
  pub standing : Standing n s Fit boxes end
  pub message : Message
  pub put_out : Among message end.parcels
  pub closed : Closed (room_in end p s) message

module _ (n p s b phase a k v : ℕ) (counted : Round → ℕ) (Fit : ℕ → Saved → Type 0) (Reports : ℕ → ℕ → ℕ → Type 0)
    (Missing : List ℕ → Round → Type 0) (Closed : Room → Message → Type 0) (boxes asks counts : List ℕ)
    (few : n ≤ max_boxes) (box : p < n) (slot : s < slots) (just : JustEnough n boxes)
    (asks_all : OrderOf boxes asks) (Counts-all : OrderOf boxes counts)
    (replies : (h : Head) (r : Room) → Fit h.index r.saved → Replies p s b k Fit Reports (event a s p b 0 v) h r)
    (counter : Counter n p s b phase k counted Reports Missing Closed) where
  abbrev ReadyIn : World → Type 0
  ReadyIn w = Ready n p s b phase a v counted Fit (Missing counts) boxes w

  asked_waits : (w : World) → ReadyIn w → (all : Asked n p s b a k Fit Reports boxes asks w)
      → Waiting n p s b phase k counted Fit Reports Missing boxes counts all.end
  asked_waits w ready all =
      let still_none : counted (room_in all.end p s).round ≡ 0 = ap counted all.round_stands ∙ ready.none_counted in
      record {
        standing = all.standing;
        underway = subst (Underway b phase) (sym all.round_stands) ready.underway;
        missing = subst (Missing counts) (sym all.round_stands) ready.all_missing;
        distinct = Counts-all.distinct;
        within = Counts-all.only_listed;
        replied = λ q listed. all.replied q (asks_all.all_listed q (Counts-all.only_listed q listed));
        not_counted = λ q listed. ap (λ (x : ℕ). holds_box x q) still_none ∙ zero_holds_none q;
        in_all = omega (arith, ap ones still_none, ones-le 0 0 (omega arith), Counts-all.as_many, just.smallest);
      }

  pub half_round : (w : World) → Ready n p s b phase a v counted Fit (Missing counts) boxes w → HalfDone n p s b a k Fit Closed boxes asks counts w
  half_round w ready =
      let running : (room_in w p s).round.phase ≢ idle = λ is. counter.runs (sym ready.underway.in_phase ∙ is) in
      let all =
      every_asked n p s b a k v Fit Reports boxes box slot just.all_below replies asks w asks_all.only_listed ready.standing ready.put_out running in
      let done =
      every_counted n p s b phase k counted Fit Reports Missing Closed boxes few box slot just.all_below counter counts all.end
      (omega (arith, Counts-all.as_many, just.smallest)) (asked_waits w ready all) in
      record {
        end = done.end;
        turns = turns_append step n p s b w all.end done.end (map (λ q. turn q a p) asks) (map (λ q. turn p k q) counts) all.turns done.turns;
        standing = done.standing;
        message = done.message;
        put_out = done.put_out;
        closed = done.closed;
      }
