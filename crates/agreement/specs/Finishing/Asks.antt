-- A box asks every listed box by a Collect or a Begin under its ballot b: where none has promised above b, each replies to it.
-- One induction for both kinds, over what each box has saved and what its reply reports. Relies on Calls; cited by the proof that a round finishes.
use Rattle.std.specs.Prelude.{ℕ, ◌≤◌, ◌<◌, ◌≡◌, refl, List, [], ◌∷◌, map, ◌≢◌}
use Rattle.std.proofs.Common.{sym, ap, subst, ◌∙◌, inl, inr, le_refl, le-ltb}
use Rattle.consensus.specs.declared.Head.{Head}
use Rattle.consensus.specs.declared.Vote.{Vote}
use Rattle.consensus.specs.declared.Saved.{Saved}
use Rattle.consensus.specs.declared.Round.{Round}
use Rattle.consensus.specs.declared.Room.{Room}
use Rattle.consensus.specs.declared.Event.{Event}
use Rattle.consensus.specs.declared.Message.{Message}
use Rattle.consensus.specs.Room.{promised, accepted_ballot, accepted_value, agreed, idle, vote, saved, room}
use Rattle.consensus.specs.Layout.{slots}
use Rattle.consensus.specs.Events.{collect, last, begin, accept, event}
use Rattle.consensus.specs.OnSlot.{Becomes, all_boxes, on_collect, on_begin, on_slot}
use Rattle.consensus.specs.Step.{step}
use Rattle.consensus.specs.Answers.{Sends, answer_number}
use Rattle.agreement.specs.Runs.{World, Among, after, says, has_saved}
use Rattle.agreement.specs.Runs.Keeps.{head_in, RunKept}
use Rattle.agreement.specs.Finishing.{Listed, parcel, Turns, turn}
use Rattle.agreement.specs.Finishing.Turns.{none, next}
use Rattle.agreement.specs.Finishing.Calls.{may_deliver, room_in, kept_room, call_becomes, by_box, turns_append}

-- ---- while the round of ballot b is underway

-- the world is kept, and what each listed box has saved of slot s is fit
pub record Standing (n s : ℕ) (Fit : ℕ → Saved → Type 0) (boxes : List ℕ) (w : World) : Type 0 where
  pub kept : RunKept n w
  pub fits : (q : ℕ) → Listed q boxes → Fit q (has_saved w q s)

-- a round that is running has nothing agreed
pub nothing_agreed_yet : (n : ℕ) (w : World) (p s : ℕ) → RunKept n w → p < n → s < slots → (room_in w p s).round.phase ≢ idle → says w p s ≡ 0
nothing_agreed_yet n w p s k box slot running = ((kept_room n w p s k box slot).phase_is_kept.when_running running).nothing_agreed

-- q has replied to p under ballot b with an event of kind k, whose second and value are as Reports says
pub record Replied (p s b k : ℕ) (Reports : ℕ → ℕ → ℕ → Type 0) (q : ℕ) (ps : List Message) : Type 0 where
  pub second : ℕ
  pub value : ℕ
  pub reports : Reports q second value
  pub put_out : Among (parcel p (event k s q b second value)) ps

pub replied_stays : (p s b k : ℕ) (Reports : ℕ → ℕ → ℕ → Type 0) (q : ℕ) (ps ps' : List Message) → ((m : Message) → Among m ps → Among m ps')
    → Replied p s b k Reports q ps → Replied p s b k Reports q ps'
replied_stays p s b k Reports q ps ps' stay r =
    record { second = r.second; value = r.value; reports = r.reports; put_out = stay _ r.put_out }

-- ---- one box asked

-- the box leaves its round and what it agreed, what it saves is fit again, and it replies to p
pub record Replies (p s b k : ℕ) (Fit : ℕ → Saved → Type 0) (Reports : ℕ → ℕ → ℕ → Type 0) (e : Event) (h : Head) (r : Room) : Type 0 where
  pub saves : Saved
  pub fits : Fit h.index saves
  pub second : ℕ
  pub value : ℕ
  pub reports : Reports h.index second value
  pub becomes : on_slot h r e ≡ Becomes (room saves r.round (agreed r)) (Sends (parcel p (event k s h.index b second value)))

-- fit to be asked by a Begin: the box has promised at most b
abbrev pub FitToBegin : ℕ → ℕ → Saved → Type 0
FitToBegin b q d = d.promised.0 ≤ b

-- and by a Collect: it has also accepted what it had accepted before
pub record FitToCollect (accepted : ℕ → Vote) (b q : ℕ) (d : Saved) : Type 0 where
  pub promised_to : FitToBegin b q d
  pub as_before : d.accepted ≡ accepted q

-- a Last reports what its box has accepted
abbrev pub ReportsAccepted : (ℕ → Vote) → ℕ → ℕ → ℕ → Type 0
ReportsAccepted accepted q second value = vote second value ≡ accepted q

-- an Accept reports nothing
abbrev pub ReportsNothing : ℕ → ℕ → ℕ → Type 0
ReportsNothing q second value = Unit {0}

pub collect_replies : (p s b : ℕ) (accepted : ℕ → Vote) (h : Head) (r : Room) → FitToCollect accepted b h.index r.saved
    → Replies p s b last (FitToCollect accepted b) (ReportsAccepted accepted) (event collect s p b 0 0) h r
unfolding on_slot on_collect
collect_replies p s b accepted h r fits =
    record {
      saves = saved b r.saved.accepted;
      fits = record { promised_to = le_refl b; as_before = fits.as_before };
      second = accepted_ballot r;
      value = accepted_value r;
      reports = fits.as_before;
      becomes = simp (le-ltb b (promised r) fits.promised_to);
    }

pub begin_replies : (p s b v : ℕ) (h : Head) (r : Room) → FitToBegin b h.index r.saved
    → Replies p s b accept (FitToBegin b) ReportsNothing (event begin s p b 0 v) h r
unfolding on_slot on_begin
begin_replies p s b v h r none_higher =
    record {
      saves = saved b (vote b v);
      fits = le_refl b;
      second = 0;
      value = 0;
      reports = tt;
      becomes = simp (le-ltb b (promised r) none_higher);
    }

-- ---- every listed box asked

-- the boxes qs asked one after the other by the event of kind a: each has replied with kind k, and p's round is as it was
pub record Asked (n p s b a k : ℕ) (Fit : ℕ → Saved → Type 0) (Reports : ℕ → ℕ → ℕ → Type 0) (boxes qs : List ℕ) (w : World) : Type 0 where
  pub end : World
  pub turns : Turns step n p s b w (map (λ q. turn q a p) qs) end
  pub standing : Standing n s Fit boxes end
  pub round_stands : (room_in end p s).round ≡ (room_in w p s).round
  pub stay : (m : Message) → Among m w.parcels → Among m end.parcels
  pub replied : (q : ℕ) → Listed q qs → Replied p s b k Reports q end.parcels

module _ (n p s b a k v : ℕ) (Fit : ℕ → Saved → Type 0) (Reports : ℕ → ℕ → ℕ → Type 0) (boxes : List ℕ)
    (box : p < n) (slot : s < slots) (all_below : (q : ℕ) → Listed q boxes → q < n)
    (replies : (h : Head) (r : Room) → Fit h.index r.saved → Replies p s b k Fit Reports (event a s p b 0 v) h r) where
  abbrev asking : Event
  asking = event a s p b 0 v

  abbrev AskedOf : List ℕ → World → Type 0
  AskedOf qs w = Asked n p s b a k Fit Reports boxes qs w

  one_asked : (q : ℕ) (w : World) → Listed q boxes → Standing n s Fit boxes w → Among (parcel all_boxes asking) w.parcels
      → (room_in w p s).round.phase ≢ idle → AskedOf (q ∷ []) w
  one_asked q w listed stands put_out running =
      let parcel_kept = stands.kept.parcels_kept (parcel all_boxes asking) put_out in
      let may = may_deliver n w q all_boxes asking (all_below q listed) put_out (inr refl) in
      let reply = replies (head_in n q) (room_in w q s) (stands.fits q listed) in
      let c = call_becomes n w q asking _ _ stands.kept may parcel_kept.good_event parcel_kept.no_restart reply.becomes in
      record {
        end = after step w q asking;
        turns =
            next asking (record {
              may = may;
              of_slot = refl;
              of_ballot = refl;
              answered = ap answer_number c.answers;
              nothing_agreed = nothing_agreed_yet n w p s stands.kept box slot running;
            }) none;
        standing = record {
          kept = c.kept;
          fits = λ j other.
              by_box n w q asking _ _ c (λ (r : Room). Fit j r.saved) j
              (λ same. subst (λ (x : ℕ). Fit x reply.saves) (sym same) reply.fits) (stands.fits j other);
        };
        round_stands =
            by_box n w q asking _ _ c (λ (r : Room). r.round ≡ (room_in w p s).round) p (λ same. ap (λ (x : ℕ). (room_in w x s).round) (sym same)) refl;
        stay = λ m among. subst (Among m) (sym c.puts_out) (inr among);
        replied = λ j among.
            elim among [
              | inl same ↦
                  subst (λ (x : ℕ). Replied p s b k Reports x (after step w q asking).parcels) (sym same)
                  (record {
                    second = reply.second;
                    value = reply.value;
                    reports = reply.reports;
                    put_out = subst (Among (parcel p (event k s q b reply.second reply.value))) (sym c.puts_out) (inl refl);
                  })
              | inr none_left ↦ absurd none_left
            ];
      }

  pub every_asked : (qs : List ℕ) (w : World) → ((q : ℕ) → Listed q qs → Listed q boxes) → Standing n s Fit boxes w
      → Among (parcel all_boxes asking) w.parcels → (room_in w p s).round.phase ≢ idle → Asked n p s b a k Fit Reports boxes qs w
  every_asked [] w within stands put_out running =
      record {
        end = w;
        turns = none;
        standing = stands;
        round_stands = refl;
        stay = λ m among. among;
        replied = λ q listed. absurd listed;
      }
  every_asked (q ∷ qs) w within stands put_out running =
      let one = one_asked q w (within q (inl refl)) stands put_out running in
      let rest : AskedOf qs one.end =
      every_asked qs one.end (λ j listed. within j (inr listed)) one.standing (one.stay (parcel all_boxes asking) put_out)
      (subst (λ (d : Round). d.phase ≢ idle) (sym one.round_stands) running) in
      record {
        end = rest.end;
        turns = turns_append step n p s b w one.end rest.end _ _ one.turns rest.turns;
        standing = rest.standing;
        round_stands = rest.round_stands ∙ one.round_stands;
        stay = λ m among. rest.stay m (one.stay m among);
        replied = λ j listed.
            elim listed [
              | inl same ↦ replied_stays p s b k Reports j one.end.parcels rest.end.parcels rest.stay (one.replied j (inl same))
              | inr later ↦ rest.replied j later
            ];
      }
