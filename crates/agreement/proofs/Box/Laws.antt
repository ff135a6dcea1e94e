-- What stays told: facts are only added, so what a room and a message say stays told, and other boxes' moves take nothing away.
-- Relies on Box and the laws of moves. Cited by the laws of each kind of event and by the laws of runs.
use Rattle.std.specs.Prelude.{ℕ, ◌≡◌, Bool, true, false, cond, ◌≢◌, eqb}
use Rattle.std.proofs.Common.{sym, ◌∙◌, subst, inl, arith}
use Rattle.ballots.specs.Ballot.{maker_of}
use Rattle.consensus.specs.declared.Head.{Head}
use Rattle.consensus.specs.declared.Saved.{Saved}
use Rattle.consensus.specs.declared.Round.{Round}
use Rattle.consensus.specs.declared.Room.{Room}
use Rattle.consensus.specs.declared.Event.{Event}
use Rattle.consensus.specs.Answers.{Answer}
use Rattle.consensus.specs.OnSlot.{Becomes, Refused}
use Rattle.consensus.specs.Room.{phase, own_ballot, agreed, collecting, room, no_round}
use Rattle.consensus.specs.Events.{collect, last, begin, accept, success}
use Rattle.agreement.specs.Ledger.{Ledger, Said, ◌⊑◌, begun, stays}
use Rattle.agreement.specs.Ledger.Laws.{report_lasts}
use Rattle.agreement.proofs.Ledger.Frames.{Frame}
use Rattle.agreement.proofs.Ledger.Agrees.{chosen_lasts}
use Rattle.agreement.specs.Majorities.{In, BeginSet}
use Rattle.agreement.specs.Box.{lasting_of, Agreed, CollectingTold, BegunTold, RoomTold, EventTold, AnswerTold, OutcomeTold, ToldBy, Situation}

-- nothing is begun at b that was not begun before
abbrev pub BeginsNone : Ledger → Ledger → ℕ → Type 0
BeginsNone l l' b = (w : ℕ) → Said (begun b w) l' → Said (begun b w) l

-- from each of two, whichever the test picks
either : {A B C D : Type 0} (t : Bool) → (A → C) → (B → D) → cond t A B → cond t C D
either true f g = f
either false f g = g

module _ (l l' : Ledger) (more : l ⊑ l') where
  pub agreed_lasts : (n v : ℕ) → Agreed n l v → Agreed n l' v
  agreed_lasts n v = chosen_lasts ℕ In (BeginSet n) l l' more v

  pub collecting_lasts : (q : Round) → BeginsNone l l' q.own.ballot.0 → CollectingTold l q → CollectingTold l' q
  collecting_lasts q none told =
      record {
        own_opened = more _ told.own_opened;
        own_proposed = more _ told.own_proposed;
        none_begun = λ w said. told.none_begun w (none w said);
        counted_reported = λ a counted. report_lasts l l' more a _ _ (told.counted_reported a counted);
        best_reported = λ some. let best = told.best_reported some in (best.0, more _ best.1);
      }

  pub begun_lasts : (q : Round) → BegunTold l q → BegunTold l' q
  begun_lasts q told =
      record {
        own_begun = more _ told.own_begun;
        counted_voted = λ a counted. more _ (told.counted_voted a counted);
      }

  pub event_lasts : (n : ℕ) (e : Event) → EventTold n l e → EventTold n l' e
  event_lasts n e =
      either (eqb e.kind collect) (more _)
      (either (eqb e.kind last) (more _)
      (either (eqb e.kind begin) (more _)
      (either (eqb e.kind accept) (more _)
      (either (eqb e.kind success) (agreed_lasts n e.value) (λ none. none)))))

  -- a room with other saved numbers and the same round
  pub same_round :
      (n i : ℕ) (r : Room) (s : Saved) →
      (phase r ≡ collecting → BeginsNone l l' (own_ballot r)) →
      l'.box i ≡ lasting_of (room s r.round (agreed r)) →
      RoomTold n i l r →
      RoomTold n i l' (room s r.round (agreed r))
  same_round n i r s none Lasts-now told =
      record {
        saved_lasts = Lasts-now;
        collecting_told = λ p. collecting_lasts r.round (none p) (told.collecting_told p);
        begun_told = λ p. begun_lasts r.round (told.begun_told p);
        agreed_told = λ some. agreed_lasts n (agreed r) (told.agreed_told some);
      }

  -- another box's moves leave a room told
  pub frame_told :
      (n i j : ℕ) (r : Room) → j ≢ i → (phase r ≡ collecting → maker_of (own_ballot r) ≡ j) → Frame maker_of i l l' → RoomTold n j l r → RoomTold n j l' r
  frame_told n i j r other made frame told =
      same_round n j r r.saved
      (λ p w said. frame.begins_own (own_ballot r) w (λ same. other (sym (made p) ∙ same)) said)
      (frame.leaves_others j other ∙ told.saved_lasts)
      told

-- a room with no round
pub idle_told : (n i : ℕ) (l : Ledger) (s : Saved) (v : ℕ) → l.box i ≡ lasting_of (room s no_round v) → (v ≢ 0 → Agreed n l v) → RoomTold n i l (room s no_round v)
idle_told n i l s v Lasts-now said =
    record {
      saved_lasts = Lasts-now;
      collecting_told = λ p. absurd (omega arith);
      begun_told = λ p. absurd (omega arith);
      agreed_told = said;
    }

-- an outcome that makes no move
pub unmoved : (n i : ℕ) (l : Ledger) (r : Room) (e : Event) (r' : Room) (a : Answer) → RoomTold n i l r' → AnswerTold n l a → OutcomeTold n i l r e (Becomes r' a)
unmoved n i l r e r' a told says = record { next = l; moved = stays; room_told = told; answer_told = says; proposals = λ v said. inl said }

pub refused : (n i : ℕ) (l : Ledger) (r : Room) (e : Event) (a : Answer) → RoomTold n i l r → AnswerTold n l a → OutcomeTold n i l r e (Refused a)
refused n i l r e a told says = record { next = l; moved = stays; room_told = told; answer_told = says; proposals = λ v said. inl said }

-- what the event of a call of kind k says was said
pub heard : (h : Head) (r : Room) (e : Event) (l : Ledger) {k : ℕ} → e.kind ≡ k → Situation h r e l → ToldBy h.boxes l k e
heard h r e l kind here = subst (λ (k : ℕ). ToldBy h.boxes l k e) kind here.event_told
