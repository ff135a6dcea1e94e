-- Each call of a run keeps the ledgers: a refusal and a restart move nothing, and an event that reaches its slot makes its moves there.
-- Relies on Told, the law over the kinds, and the frame for other boxes and slots. Cited by Agrees.
use Rattle.std.specs.Prelude.{ℕ, ◌<◌, ◌≡◌, refl, true, ◌≢◌, ◌⊎◌, List}
use Rattle.std.proofs.Common.{sym, ap, subst, ◌∙◌, true≢false, inl, inr, ⊎_elim, le_refl, arith}
use Rattle.std.proofs.Math.Path.{subst⁻¹}
use Rattle.std.proofs.Math.Decide.{ℕ_discrete}
use Rattle.ballots.specs.Ballot.{maker_of}
use Rattle.consensus.specs.declared.Head.{Head}
use Rattle.consensus.specs.declared.Room.{Room}
use Rattle.consensus.specs.declared.Event.{Event}
use Rattle.consensus.specs.declared.Message.{Message}
use Rattle.consensus.specs.Room.{phase, own_ballot, collecting}
use Rattle.consensus.specs.Layout.{slots, head_of, room_at}
use Rattle.consensus.specs.Answers.{Answer, Quiet, Sends, answer_number}
use Rattle.consensus.specs.OnSlot.{Outcome, restarted}
use Rattle.consensus.specs.Step.{Stepped, step}
use Rattle.step_laws.specs.KeptLaws.{kept_clauses}
use Rattle.step_laws.specs.HeadLaws.{table_clauses}
use Rattle.step_laws.specs.LayoutLaws.{room_at_restarted}
use Rattle.step_laws.specs.EventLaws.{names_a_slot}
use Rattle.step_laws.specs.RefusalLaws.{is_refusal}
use Rattle.step_laws.specs.StepCases.{ReachesSlot, RestartsAll, answer_of, outcome_of, step_at_restart, step_cases}
use Rattle.step_laws.specs.StepCases.StepCases.{refuses, restarts, settles}
use Rattle.step_laws.specs.StepKeeps.{step_room_at_slot, step_answer_at_slot, step_keeps_other}
use Rattle.step_laws.specs.SentLaws.{step_sends}
use Rattle.agreement.specs.Ledger.Update.{update, update_same, update_other}
use Rattle.agreement.specs.Ledger.{Ledger, Said, ◌⊑◌, proposed}
use Rattle.agreement.specs.Ledger.Kept.{Kept}
use Rattle.agreement.proofs.Ledger.Keeps.{moves_keep}
use Rattle.agreement.proofs.Ledger.Frames.{Frame, moves_frame}
use Rattle.agreement.specs.Majorities.{In, CollectSet}
use Rattle.agreement.specs.Box.{RoomTold, EventTold, AnswerTold, OutcomeTold}
use Rattle.agreement.proofs.Box.Laws.{idle_told, frame_told}
use Rattle.agreement.proofs.Box.OnSlot.{on_slot_told}
use Rattle.agreement.specs.Runs.{World, answer_to, MayCall, ProposesFor}
use Rattle.agreement.specs.Runs.Keeps.{BoxKept, RunKept}
use Rattle.agreement.proofs.Runs.Told.{Ledgers, WorldTold, CallTold, called_told, after_told}

-- the answer told at whatever it sends
sent_told : (n : ℕ) (l : Ledger) (a : Answer) (m : Message) → AnswerTold n l a → a ≡ Sends m → EventTold n l m.event
sent_told n l a m told sends = subst (AnswerTold n l) sends told

module _ (n : ℕ) (w : World) (ls : Ledgers) (i : ℕ) (e : Event) (kept : RunKept n w) (k : WorldTold n w ls) (may : MayCall n w i e) where
  abbrev t : List ℕ
  t = w.tables i

  abbrev box : BoxKept n i t
  box = kept.boxes_kept i may.a_box

  -- a call that moves nothing
  unmoved :
      ((s : ℕ) → s < slots → RoomTold n i (ls s) (room_at (step t e).table s)) →
      ((m : Message) → answer_to step w i e ≢ Sends m) →
      CallTold n w ls i e
  unmoved here silent =
      record {
        ledgers = ls;
        extended = λ s f said. said;
        told =
            after_told n w ls ls i e k (λ s f said. said) k.ledgers_kept here (λ j below other s at. k.boxes_told j below s at)
            (λ m sends. absurd (silent m sends));
        proposals = λ s v said. inl said;
      }

  refused_told : (a : Answer) → is_refusal a ≡ true → step t e ≡ record { table = t; answer = a } → CallTold n w ls i e
  refused_told a refusal same =
      unmoved
      (λ s below. subst⁻¹ (λ (x : Stepped). RoomTold n i (ls s) (room_at x.table s)) same (k.boxes_told i may.a_box s below))
      (λ m sends. true≢false (sym refusal ∙ ap is_refusal (sym (ap (λ (x : Stepped). x.answer) same) ∙ sends)))

  restarted_told : RestartsAll t e → CallTold n w ls i e
  restarted_told r =
      unmoved
      (λ s below.
      let old = k.boxes_told i may.a_box s below in
      let now : room_at (step t e).table s ≡ restarted (room_at t s) =
      ap (λ (x : Stepped). room_at x.table s) (step_at_restart t e r)
      ∙ room_at_restarted slots t s (table_clauses t box.good_table).whole (le_refl slots) below in
      subst⁻¹ (RoomTold n i (ls s)) now (idle_told n i (ls s) (room_at t s).saved 0 old.saved_lasts (λ some. absurd (some refl))))
      (λ m sends.
      let quiet : Quiet ≡ Sends m = sym (ap (λ (x : Stepped). x.answer) (step_at_restart t e r)) ∙ sends in
      let z : ◌≡◌ {A = ℕ} 0 1 = cc in omega arith)

  module _ (reach : ReachesSlot t e) (below_slots : e.slot.0 < slots) where
    abbrev here_slot : ℕ
    here_slot = e.slot.0

    abbrev l : Ledger
    l = ls here_slot

    abbrev r : Room
    r = room_at t here_slot

    abbrev o : Outcome
    o = outcome_of t e

    -- all that the head's box count and index are named in
    abbrev Known : Head → Type 0
    Known h = Kept maker_of ℕ In (CollectSet h.boxes) l × RoomTold h.boxes h.index l r × EventTold h.boxes l e

    known : Known (head_of t)
    known =
        subst⁻¹ Known box.head_is
        (k.ledgers_kept here_slot, k.boxes_told i may.a_box here_slot below_slots, called_told n w ls i e k may)

    outcome_told : OutcomeTold n i l r e o
    outcome_told =
        subst (λ (h : Head). OutcomeTold h.boxes h.index l r e o) box.head_is
        (on_slot_told (head_of t) r e l reach.no_restart (record {
          head_kept = (table_clauses t reach.passes.good_table).head_kept;
          good_event = reach.passes.good_event;
          room_kept = reach.slot_kept;
          ledger_kept = known.0;
          room_told = known.1;
          event_told = known.2;
        }))

    abbrev l' : Ledger
    l' = outcome_told.next

    frame : Frame maker_of i l l'
    frame = moves_frame maker_of ℕ In (CollectSet n) i l l' outcome_told.moved

    abbrev ls' : Ledgers
    ls' = update ls here_slot l'

    -- what holds of the slot's new ledger, and of the others, holds of every slot's
    by_slot : (P : ℕ → Ledger → Type 0) → P here_slot l' → ((s : ℕ) → s ≢ here_slot → P s (ls s)) → (s : ℕ) → P s (ls' s)
    by_slot P new old s =
        elim (ℕ_discrete s here_slot) [
          | yes same ↦ subst⁻¹ (λ (x : ℕ). P x (ls' x)) same (subst⁻¹ (P here_slot) (update_same ls here_slot l') new)
          | no other ↦ subst⁻¹ (P s) (update_other ls here_slot l' s other) (old s other)
        ]

    more : (s : ℕ) → ls s ⊑ ls' s
    more = by_slot (λ s x. ls s ⊑ x) frame.only_adds (λ s other f said. said)

    -- a box that collects made its own ballot
    made_own : (j : ℕ) → j < n → phase (room_at (w.tables j) here_slot) ≡ collecting → maker_of (own_ballot (room_at (w.tables j) here_slot)) ≡ j
    made_own j below p =
        let b = kept.boxes_kept j below in
        ((kept_clauses (head_of (w.tables j)) (room_at (w.tables j) here_slot) (b.slots_kept here_slot below_slots)).phase_is_kept.when_running (λ rest. absurd (omega arith))).own_made_here
        ∙ ap (λ (h : Head). h.index) b.head_is

    settled_told : CallTold n w ls i e
    settled_told =
        record {
          ledgers = ls';
          extended = more;
          told =
              after_told n w ls ls' i e k more
              (by_slot (λ s x. Kept maker_of ℕ In (CollectSet n) x)
              (moves_keep maker_of ℕ In (CollectSet n) i l l' outcome_told.moved (k.ledgers_kept here_slot))
              (λ s other. k.ledgers_kept s))
              (by_slot (λ s x. s < slots → RoomTold n i x (room_at (step t e).table s))
              (λ at. subst⁻¹ (RoomTold n i l') (step_room_at_slot t e reach) outcome_told.room_told)
              (λ s other at. subst⁻¹ (RoomTold n i (ls s)) (step_keeps_other t e s reach.no_restart other) (k.boxes_told i may.a_box s at)))
              (λ j below apart.
              by_slot (λ s x. s < slots → RoomTold n j x (room_at (w.tables j) s))
              (λ at.
              frame_told l l' frame.only_adds n i j (room_at (w.tables j) here_slot) apart (made_own j below) frame
              (k.boxes_told j below here_slot at))
              (λ s other at. k.boxes_told j below s at))
              (λ m sends.
              subst⁻¹ (λ (s : ℕ). EventTold n (ls' s) m.event) (ap (λ x. x.0) (step_sends t e m sends).same_slot)
              (subst⁻¹ (λ (x : Ledger). EventTold n x m.event) (update_same ls here_slot l')
              (sent_told n l' (answer_of o) m outcome_told.answer_told (sym (step_answer_at_slot t e reach) ∙ sends))));
          proposals =
              by_slot (λ s x. (v : ℕ) → Said (proposed v) x → Said (proposed v) (ls s) ⊎ ProposesFor step w i e s v)
              (λ v said.
              ⊎_elim (λ old. inl old)
              (λ p.
              inr (record {
                a_propose = p.0;
                for_slot = refl;
                its_value = p.1;
                answered = ap answer_number (step_answer_at_slot t e reach ∙ p.2.1);
              }))
              (outcome_told.proposals v said))
              (λ s other v said. inl said);
        }

pub call_told :
    (n : ℕ) (w : World) (ls : Ledgers) (i : ℕ) (e : Event) → RunKept n w → WorldTold n w ls → MayCall n w i e → CallTold n w ls i e
call_told n w ls i e kept k may =
    elim (step_cases (w.tables i) e) [
      | refuses a refusal same ↦ refused_told n w ls i e kept k may a refusal same
      | restarts r ↦ restarted_told n w ls i e kept k may r
      | settles r ↦ settled_told n w ls i e kept k may r (names_a_slot _ e r.passes.good_event r.no_restart)
    ]
