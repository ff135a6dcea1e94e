-- The laws of the step on a table: it keeps the table's length and head, every well kept slot well kept, and every slot
-- but the event's as it was; a restart restarts every slot; a refusal leaves all as it was, and so does a ballot that is too old.
-- Relies on StepCases and the law of each kind. Cited by proofs about runs.
use Rattle.std.specs.Prelude.{ℕ, ◌<◌, ◌≡◌, true, List, ◌≢◌, ◌⊎◌, length}
use Rattle.std.proofs.Common.{sym, ap, ◌∙◌, subst, true≢false, inl, inr, le_refl, arith, lt-ltb}
use Rattle.std.proofs.Math.Decide.{ℕ_discrete}
use Rattle.consensus.specs.declared.Head.{Head}
use Rattle.consensus.specs.declared.Room.{Room}
use Rattle.consensus.specs.declared.Event.{Event}
use Rattle.consensus.specs.declared.Message.{Message}
use Rattle.consensus.specs.Answers.{Quiet, Sends}
use Rattle.consensus.specs.Room.{promised}
use Rattle.consensus.specs.Layout.{slots, head_of, room_at}
use Rattle.consensus.specs.WellKept.{saved_kept, well_kept}
use Rattle.consensus.specs.Events.{collect, begin, restart}
use Rattle.consensus.specs.OnSlot.{Outcome, Becomes, Refused, too_old, on_collect, on_begin, restarted, on_slot}
use Rattle.consensus.specs.Step.{Stepped, settle, step}
use Rattle.step_laws.specs.LayoutLaws.{with_room_room_at, length_restart_slots, head_of_restart_slots, room_at_restarted}
use Rattle.step_laws.specs.HeadLaws.{table_clauses}
use Rattle.step_laws.specs.EventLaws.{names_a_slot}
use Rattle.step_laws.specs.OutcomeLaws.{Keeps}
use Rattle.step_laws.specs.RestartKeeps.{restarted_kept, each_saved_kept}
use Rattle.step_laws.specs.OnSlotKeeps.{on_slot_keeps}
use Rattle.step_laws.specs.RefusalLaws.{is_refusal, neither_is_refusal, on_slot_answers_right}
use Rattle.step_laws.specs.StepCases.{room_after, answer_of, settle_length, settle_head, settle_room, settle_other, settle_answer, settle_refused, outcome_of, ReachesSlot, RestartsAll, step_at_slot, step_at_restart, step_cases}
use Rattle.step_laws.specs.StepCases.StepCases.{refuses, restarts, settles}

-- ---- length and head

pub step_keeps_length : (t : List ℕ) (e : Event) → length (step t e).table ≡ length t
step_keeps_length t e =
    elim (step_cases t e) [
      | refuses a is eq ↦ ap (λ (x : Stepped). length x.table) eq
      | restarts r ↦ ap (λ (x : Stepped). length x.table) (step_at_restart t e r) ∙ length_restart_slots slots t
      | settles r ↦ ap (λ (x : Stepped). length x.table) (step_at_slot t e r) ∙ settle_length t e.slot.0 (outcome_of t e)
    ]

pub step_keeps_head : (t : List ℕ) (e : Event) → head_of (step t e).table ≡ head_of t
step_keeps_head t e =
    elim (step_cases t e) [
      | refuses a is eq ↦ ap (λ (x : Stepped). head_of x.table) eq
      | restarts r ↦ ap (λ (x : Stepped). head_of x.table) (step_at_restart t e r) ∙ head_of_restart_slots slots t
      | settles r ↦ ap (λ (x : Stepped). head_of x.table) (step_at_slot t e r) ∙ settle_head t e.slot.0 (outcome_of t e)
    ]

-- ---- the event's slot, and the others

pub step_room_at_slot : (t : List ℕ) (e : Event) → ReachesSlot t e
    → room_at (step t e).table e.slot.0 ≡ room_after (room_at t e.slot.0) (outcome_of t e)
step_room_at_slot t e r =
    let whole = (table_clauses t r.passes.good_table).whole in
    let below = names_a_slot (head_of t).boxes e r.passes.good_event r.no_restart in
    ap (λ (x : Stepped). room_at x.table e.slot.0) (step_at_slot t e r) ∙ settle_room t e.slot.0 (outcome_of t e) whole below

pub step_answer_at_slot : (t : List ℕ) (e : Event) → ReachesSlot t e → (step t e).answer ≡ answer_of (outcome_of t e)
step_answer_at_slot t e r = ap (λ (x : Stepped). x.answer) (step_at_slot t e r) ∙ settle_answer t e.slot.0 (outcome_of t e)

-- "and leaves every other slot as it was (Restart touches all)"
pub step_keeps_other : (t : List ℕ) (e : Event) (s : ℕ) → e.kind ≢ restart → s ≢ e.slot.0 → room_at (step t e).table s ≡ room_at t s
step_keeps_other t e s no_restart other =
    elim (step_cases t e) [
      | refuses a is eq ↦ ap (λ (x : Stepped). room_at x.table s) eq
      | restarts r ↦ absurd (no_restart r.a_restart)
      | settles r ↦
          ap (λ (x : Stepped). room_at x.table s) (step_at_slot t e r)
          ∙ settle_other t e.slot.0 s (outcome_of t e) (λ same. other (sym same))
    ]

-- ---- a refusal

pub refusal_leaves_all : (t : List ℕ) (e : Event) → is_refusal (step t e).answer ≡ true → (step t e).table ≡ t
refusal_leaves_all t e refusal =
    elim (step_cases t e) [
      | refuses a is eq ↦ ap (λ (x : Stepped). x.table) eq
      | restarts r ↦ absurd (true≢false (sym refusal ∙ ap (λ (x : Stepped). is_refusal x.answer) (step_at_restart t e r)))
      | settles r ↦
          ap (λ (x : Stepped). x.table) (step_at_slot t e r)
          ∙ settle_refused t e.slot.0 (outcome_of t e)
          (on_slot_answers_right (head_of t) (room_at t e.slot.0) e)
          (sym (ap (λ (x : Stepped). is_refusal x.answer) (step_at_slot t e r)) ∙ refusal)
    ]

pub refused_as_it_was : (t : List ℕ) (e : Event) → (step t e).answer ≢ Quiet → ((m : Message) → (step t e).answer ≢ Sends m) → (step t e).table ≡ t
refused_as_it_was t e not_quiet sends_none = refusal_leaves_all t e (neither_is_refusal (step t e).answer not_quiet sends_none)

-- ---- a ballot that is too old

-- "If b is below promised, as for Collect": Collect and Begin alike
too_old_at_slot : (h : Head) (r : Room) (e : Event) → (e.kind ≡ collect) ⊎ (e.kind ≡ begin) → e.ballot.0 < promised r
    → on_slot h r e ≡ too_old h r e
unfolding on_slot on_collect on_begin
too_old_at_slot h r e (inl k) old = simp (k, lt-ltb e.ballot.0 (promised r) old)
too_old_at_slot h r e (inr k) old = simp (k, lt-ltb e.ballot.0 (promised r) old)

-- "If b is below promised: OldRound to the sender with ballot b and second the promised ballot; table unchanged."
pub too_old_leaves_all : (t : List ℕ) (e : Event) → (e.kind ≡ collect) ⊎ (e.kind ≡ begin) → e.ballot.0 < promised (room_at t e.slot.0)
    → (step t e).table ≡ t
too_old_leaves_all t e asks old =
    elim (step_cases t e) [
      | refuses a is eq ↦ ap (λ (x : Stepped). x.table) eq
      | restarts r ↦ absurd (no_restart asks r.a_restart)
      | settles r ↦
          ap (λ (x : Stepped). x.table) (step_at_slot t e r)
          ∙ ap (λ (o : Outcome). (settle t e.slot.0 o).table) (too_old_at_slot (head_of t) (room_at t e.slot.0) e asks old)
          ∙ with_room_room_at t e.slot.0
    ]
  where
    no_restart : (e.kind ≡ collect) ⊎ (e.kind ≡ begin) → e.kind ≢ restart
    no_restart (inl k) = omega arith
    no_restart (inr k) = omega arith

-- ---- a restart

pub record Restarted (t : List ℕ) (e : Event) (s : ℕ) : Type 0 where
  pub room_restarted : room_at (step t e).table s ≡ restarted (room_at t s)
  pub saved_was_kept : saved_kept (head_of t) (room_at t s) ≡ true
  pub room_well_kept : well_kept (head_of t) (room_at (step t e).table s) ≡ true

restarts_each : (t : List ℕ) (e : Event) → RestartsAll t e → (s : ℕ) → s < slots → Restarted t e s
restarts_each t e r s below =
    let whole = (table_clauses t r.passes.good_table).whole in
    let stands : room_at (step t e).table s ≡ restarted (room_at t s) =
    ap (λ (x : Stepped). room_at x.table s) (step_at_restart t e r) ∙ room_at_restarted slots t s whole (le_refl slots) below in
    let kept : saved_kept (head_of t) (room_at t s) ≡ true = each_saved_kept slots t s r.all_kept below in
    record {
      room_restarted = stands;
      saved_was_kept = kept;
      room_well_kept = subst (λ (x : Room). well_kept (head_of t) x ≡ true) (sym stands) (restarted_kept (head_of t) (room_at t s) kept);
    }

pub step_restarts : (t : List ℕ) (e : Event) → e.kind ≡ restart → (step t e).answer ≡ Quiet → (s : ℕ) → s < slots → Restarted t e s
step_restarts t e k quiet s below =
    elim (step_cases t e) [
      | refuses a is eq ↦ absurd (true≢false (sym is ∙ sym (ap (λ (x : Stepped). is_refusal x.answer) eq) ∙ ap is_refusal quiet))
      | restarts r ↦ restarts_each t e r s below
      | settles r ↦ absurd (r.no_restart k)
    ]

-- ---- well kept

after_kept : (h : Head) (r : Room) (o : Outcome) → well_kept h r ≡ true → Keeps h o → well_kept h (room_after r o) ≡ true
after_kept h r (Becomes r' a) before after = after
after_kept h r (Refused a) before after = before

-- what stands at slot s after the call is well kept
stands_kept : (t : List ℕ) (e : Event) (s : ℕ) (r : Room) → room_at (step t e).table s ≡ r → well_kept (head_of t) r ≡ true
    → well_kept (head_of t) (room_at (step t e).table s) ≡ true
stands_kept t e s r stands kept = subst (λ (x : Room). well_kept (head_of t) x ≡ true) (sym stands) kept

-- the event's own slot
step_keeps_slot : (t : List ℕ) (e : Event) → ReachesSlot t e → well_kept (head_of t) (room_at (step t e).table e.slot.0) ≡ true
step_keeps_slot t e r =
    let before = room_at t e.slot.0 in
    let good = (table_clauses t r.passes.good_table).head_kept in
    let keeps = on_slot_keeps (head_of t) before e good r.passes.good_event r.no_restart r.slot_kept in
    stands_kept t e e.slot.0 (room_after before (outcome_of t e)) (step_room_at_slot t e r)
    (after_kept (head_of t) before (outcome_of t e) r.slot_kept keeps)

-- "Any event on a well kept slot leaves it well kept, forged or not"
pub step_keeps_well_kept : (t : List ℕ) (e : Event) (s : ℕ) → s < slots → well_kept (head_of t) (room_at t s) ≡ true
    → well_kept (head_of t) (room_at (step t e).table s) ≡ true
step_keeps_well_kept t e s below kept =
    elim (step_cases t e) [
      | refuses a is eq ↦ stands_kept t e s (room_at t s) (ap (λ (x : Stepped). room_at x.table s) eq) kept
      | restarts r ↦ (restarts_each t e r s below).room_well_kept
      | settles r ↦
          elim (ℕ_discrete e.slot.0 s) [
            | yes same ↦ subst (λ (x : ℕ). well_kept (head_of t) (room_at (step t e).table x) ≡ true) same (step_keeps_slot t e r)
            | no other ↦ stands_kept t e s (room_at t s) (step_keeps_other t e s r.no_restart (λ same. other (sym same))) kept
          ]
    ]
