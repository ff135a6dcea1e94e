-- A box counts the replies of the listed boxes: its round goes on until the last of a smallest majority, which closes it.
-- One induction for Lasts and Accepts. Relies on Asks and the laws of sets of boxes; cited by the proof that a round finishes.
use Rattle.std.specs.Prelude.{ℕ, ◌+◌, ◌≤◌, ◌<◌, ◌≡◌, refl, true, false, List, [], ◌∷◌, map, ◌≢◌, length}
use Rattle.std.proofs.Common.{sym, ap, subst, ◌∙◌, inl, inr, arith}
use Rattle.std.specs.Int.Count.{ones}
use Rattle.ballots.specs.Ballot.{max_boxes}
use Rattle.ballots.specs.Boxes.{holds_box, is_majority, with_box, smallest_majority}
use Rattle.ballots.specs.BoxesLaws.{with_box_count, with_box_others}
use Rattle.ballots.proofs.MajorityLaws.{enough_is_majority, fewer_is_no_majority}
use Rattle.consensus.specs.declared.Saved.{Saved}
use Rattle.consensus.specs.declared.Round.{Round}
use Rattle.consensus.specs.declared.Room.{Room}
use Rattle.consensus.specs.declared.Event.{Event}
use Rattle.consensus.specs.declared.Message.{Message}
use Rattle.consensus.specs.Room.{own_value, agreed, idle, room}
use Rattle.consensus.specs.Layout.{slots}
use Rattle.consensus.specs.Events.{event}
use Rattle.consensus.specs.OnSlot.{Becomes, on_slot}
use Rattle.consensus.specs.Step.{step}
use Rattle.consensus.specs.Answers.{Answer, Quiet, Sends, answer_number}
use Rattle.agreement.specs.Runs.{World, Among, after, MayCall, has_saved}
use Rattle.agreement.specs.Runs.Keeps.{head_in}
use Rattle.agreement.specs.Finishing.{Listed, Distinct, parcel, Turns, turn}
use Rattle.agreement.specs.Finishing.Turns.{none, next}
use Rattle.agreement.specs.Finishing.Calls.{may_deliver, room_in, kept_room, Called, call_becomes, by_box, turns_append}
use Rattle.agreement.specs.Finishing.Asks.{Standing, Replied, replied_stays, nothing_agreed_yet}

-- ---- one reply counted

-- the round of ballot b is in the phase
pub record Underway (b phase : ℕ) (d : Round) : Type 0 where
  pub in_phase : d.phase ≡ phase
  pub own_round : d.own.ballot.0 ≡ b

-- a sender counted while the counted are too few: the round goes on
pub record CountsOne (n p b phase q : ℕ) (counted : Round → ℕ) (Missing : Round → Type 0) (r : Room) (e : Event) : Type 0 where
  pub goes_on : Round
  pub underway : Underway b phase goes_on
  pub counted_too : counted goes_on ≡ with_box (counted r.round) q
  pub missing : Missing goes_on
  pub becomes : on_slot (head_in n p) r e ≡ Becomes (room r.saved goes_on (agreed r)) Quiet

-- the sender that makes them enough: the room and the message are as Closed says
pub record CountsLast (n p : ℕ) (Closed : Room → Message → Type 0) (r : Room) (e : Event) : Type 0 where
  pub round : Round
  pub value : ℕ
  pub message : Message
  pub closed : Closed (room r.saved round value) message
  pub becomes : on_slot (head_in n p) r e ≡ Becomes (room r.saved round value) (Sends message)

-- how box p counts the replies of kind k in the phase: Missing says what its round holds while the replies of some boxes are missing
pub record Counter (n p s b phase k : ℕ) (counted : Round → ℕ) (Reports : ℕ → ℕ → ℕ → Type 0) (Missing : List ℕ → Round → Type 0) (Closed : Room → Message → Type 0) : Type 0 where
  pub runs : phase ≢ idle
  pub counts_one : (r : Room) (q second value : ℕ) (qs : List ℕ) → Underway b phase r.round → holds_box (counted r.round) q ≡ false
      → is_majority n (with_box (counted r.round) q) ≡ false → Reports q second value → Missing (q ∷ qs) r.round
      → CountsOne n p b phase q counted (Missing qs) r (event k s q b second value)
  pub counts_last : (r : Room) (q second value : ℕ) → Underway b phase r.round → own_value r ≢ 0 → holds_box (counted r.round) q ≡ false
      → is_majority n (with_box (counted r.round) q) ≡ true → Reports q second value → Missing (q ∷ []) r.round
      → CountsLast n p Closed r (event k s q b second value)

-- ---- every reply counted

-- the replies of qs counted one after the other: the last of them closes the round
pub record Counted (n p s b k : ℕ) (Fit : ℕ → Saved → Type 0) (Closed : Room → Message → Type 0) (boxes qs : List ℕ) (w : World) : Type 0 where
  pub end : World
  pub turns : Turns step n p s b w (map (λ q. turn p k q) qs) end
  pub standing : Standing n s Fit boxes end
  pub message : Message
  pub put_out : Among message end.parcels
  pub closed : Closed (room_in end p s) message

-- before a call: the replies of qs are there and not counted, and with them the counted are a smallest majority
pub record Waiting (n p s b phase k : ℕ) (counted : Round → ℕ) (Fit : ℕ → Saved → Type 0) (Reports : ℕ → ℕ → ℕ → Type 0) (Missing : List ℕ → Round → Type 0) (boxes qs : List ℕ) (w : World) : Type 0 where
  pub standing : Standing n s Fit boxes w
  pub underway : Underway b phase (room_in w p s).round
  pub missing : Missing qs (room_in w p s).round
  pub distinct : Distinct qs
  pub within : (q : ℕ) → Listed q qs → Listed q boxes
  pub replied : (q : ℕ) → Listed q qs → Replied p s b k Reports q w.parcels
  pub not_counted : (q : ℕ) → Listed q qs → holds_box (counted (room_in w p s).round) q ≡ false
  pub in_all : ones (counted (room_in w p s).round) + length qs ≡ smallest_majority n

module _ (n p s b phase k : ℕ) (counted : Round → ℕ) (Fit : ℕ → Saved → Type 0) (Reports : ℕ → ℕ → ℕ → Type 0)
    (Missing : List ℕ → Round → Type 0) (Closed : Room → Message → Type 0) (boxes : List ℕ)
    (few : n ≤ max_boxes) (box : p < n) (slot : s < slots) (all_below : (q : ℕ) → Listed q boxes → q < n)
    (counter : Counter n p s b phase k counted Reports Missing Closed) where
  -- the set counted so far
  abbrev counted_in : World → ℕ
  counted_in w = counted (room_in w p s).round

  -- p's round goes on from world w to world u, with q counted and the replies of qs missing
  record GoesOn (q : ℕ) (qs : List ℕ) (w u : World) : Type 0 where
    turns : Turns step n p s b w (turn p k q ∷ []) u
    standing : Standing n s Fit boxes u
    underway : Underway b phase (room_in u p s).round
    missing : Missing qs (room_in u p s).round
    counted_too : counted_in u ≡ with_box (counted_in w) q
    stay : (m : Message) → Among m w.parcels → Among m u.parcels

  -- ---- one reply of q heard

  module _ (q second value : ℕ) (w : World) (stands : Standing n s Fit boxes w) (underway : Underway b phase (room_in w p s).round)
      (put_out : Among (parcel p (event k s q b second value)) w.parcels) where
    abbrev reply : Event
    reply = event k s q b second value

    may_hear : MayCall n w p reply
    may_hear = may_deliver n w p p reply box put_out (inl refl)

    hears : (r : Room) (a : Answer) → on_slot (head_in n p) (room_in w p s) reply ≡ Becomes r a → Called n w p reply r a
    hears r a becomes =
        let kept = stands.kept.parcels_kept (parcel p reply) put_out in
        call_becomes n w p reply r a stands.kept may_hear kept.good_event kept.no_restart becomes

    running : (room_in w p s).round.phase ≢ idle
    running is = counter.runs (sym underway.in_phase ∙ is)

    one_turn : (r : Room) (a : Answer) → Called n w p reply r a → answer_number a ≡ 0 → Turns step n p s b w (turn p k q ∷ []) (after step w p reply)
    one_turn r a c zero =
        next reply (record {
          may = may_hear;
          of_slot = refl;
          of_ballot = refl;
          answered = ap answer_number c.answers ∙ zero;
          nothing_agreed = nothing_agreed_yet n w p s stands.kept box slot running;
        }) none

    -- p has saved what it had
    stands_after : (d : Round) (v : ℕ) (a : Answer) → Called n w p reply (room (room_in w p s).saved d v) a → Standing n s Fit boxes (after step w p reply)
    stands_after d v a c =
        record {
          kept = c.kept;
          fits = λ j listed.
              by_box n w p reply (room (room_in w p s).saved d v) a c (λ (r : Room). Fit j r.saved) j
              (λ same. subst (λ (x : ℕ). Fit j (has_saved w x s)) same (stands.fits j listed))
              (stands.fits j listed);
        }

    goes_on : (qs : List ℕ) → CountsOne n p b phase q counted (Missing qs) (room_in w p s) reply → GoesOn q qs w (after step w p reply)
    goes_on qs one =
        let r = room (room_in w p s).saved one.goes_on (agreed (room_in w p s)) in
        let c = hears r Quiet one.becomes in
        let round : (room_in (after step w p reply) p s).round ≡ one.goes_on = ap (λ (x : Room). x.round) c.here in
        record {
          turns = one_turn r Quiet c refl;
          standing = stands_after one.goes_on (agreed (room_in w p s)) Quiet c;
          underway = subst (Underway b phase) (sym round) one.underway;
          missing = subst (Missing qs) (sym round) one.missing;
          counted_too = ap counted round ∙ one.counted_too;
          stay = λ m among. subst (Among m) (sym c.puts_out) among;
        }

    closes : CountsLast n p Closed (room_in w p s) reply → Counted n p s b k Fit Closed boxes (q ∷ []) w
    closes l =
        let r = room (room_in w p s).saved l.round l.value in
        let c = hears r (Sends l.message) l.becomes in
        record {
          end = after step w p reply;
          turns = one_turn r (Sends l.message) c refl;
          standing = stands_after l.round l.value (Sends l.message) c;
          message = l.message;
          put_out = subst (Among l.message) (sym c.puts_out) (inl refl);
          closed = subst (λ (x : Room). Closed x l.message) (sym c.here) l.closed;
        }

  -- ---- the replies one after the other

  abbrev Waits : List ℕ → World → Type 0
  Waits qs w = Waiting n p s b phase k counted Fit Reports Missing boxes qs w

  -- the first of the listed is one more
  one_more : (q : ℕ) (qs : List ℕ) (w : World) → Waits (q ∷ qs) w → ones (with_box (counted_in w) q) + length qs ≡ smallest_majority n
  one_more q qs w waits =
      let below = all_below q (waits.within q (inl refl)) in
      omega (arith, waits.in_all, with_box_count (counted_in w) q (omega arith) (waits.not_counted q (inl refl)))

  first_counted : (q : ℕ) (qs : List ℕ) (w u : World) → Waits (q ∷ qs) w → GoesOn q qs w u → Waits qs u
  first_counted q qs w u waits g =
      record {
        standing = g.standing;
        underway = g.underway;
        missing = g.missing;
        distinct = waits.distinct.1;
        within = λ j listed. waits.within j (inr listed);
        replied = λ j listed. replied_stays p s b k Reports j w.parcels u.parcels g.stay (waits.replied j (inr listed));
        not_counted = λ j listed.
            ap (λ (x : ℕ). holds_box x j) g.counted_too
            ∙ with_box_others (counted_in w) q j (λ same. waits.distinct.0 (subst (λ (x : ℕ). Listed x qs) same listed))
            ∙ waits.not_counted j (inr listed);
        in_all = omega (arith, ap ones g.counted_too, one_more q qs w waits);
      }

  pub every_counted : (qs : List ℕ) (w : World) → 1 ≤ length qs → Waiting n p s b phase k counted Fit Reports Missing boxes qs w
      → Counted n p s b k Fit Closed boxes qs w
  every_counted [] w some waits = absurd (omega arith)
  every_counted (q ∷ []) w some waits =
      let new = waits.not_counted q (inl refl) in
      let enough = enough_is_majority n (with_box (counted_in w) q) (omega (arith, one_more q [] w waits)) in
      let reply = waits.replied q (inl refl) in
      let own = ((kept_room n w p s waits.standing.kept box slot).phase_is_kept.when_running (λ is. counter.runs (sym waits.underway.in_phase ∙ is))).own_value_is in
      closes q reply.second reply.value w waits.standing waits.underway reply.put_out
      (counter.counts_last (room_in w p s) q reply.second reply.value waits.underway own new enough reply.reports waits.missing)
  every_counted (q ∷ q' ∷ qs) w some waits =
      let new = waits.not_counted q (inl refl) in
      let too_few = fewer_is_no_majority n (with_box (counted_in w) q) (omega (arith, one_more q (q' ∷ qs) w waits)) in
      let reply = waits.replied q (inl refl) in
      let u = after step w p (event k s q b reply.second reply.value) in
      let g = goes_on q reply.second reply.value w waits.standing waits.underway reply.put_out (q' ∷ qs)
      (counter.counts_one (room_in w p s) q reply.second reply.value (q' ∷ qs) waits.underway new too_few reply.reports waits.missing) in
      let rest = every_counted (q' ∷ qs) u (omega arith) (first_counted q (q' ∷ qs) w u waits g) in
      record {
        end = rest.end;
        turns = turns_append step n p s b w u rest.end (turn p k q ∷ []) _ g.turns rest.turns;
        standing = rest.standing;
        message = rest.message;
        put_out = rest.put_out;
        closed = rest.closed;
      }
