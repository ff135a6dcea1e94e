-- What a box heeds in a run: a Success that is delivered where nothing is agreed, and every Restart that keeps the rules.
-- Relies on Keeps and the laws of the step. Cited by the promises.
use Rattle.std.specs.Prelude.{ℕ, ◌≤◌, ◌<◌, ◌≡◌, true, List}
use Rattle.std.proofs.Common.{ap, ◌∙◌, arith}
use Rattle.ballots.specs.Ballot.{max_boxes}
use Rattle.consensus.specs.declared.Head.{Head}
use Rattle.consensus.specs.declared.Room.{Room}
use Rattle.consensus.specs.declared.Event.{Event}
use Rattle.consensus.specs.Room.{agreed}
use Rattle.consensus.specs.Layout.{slots, head_of, room_at}
use Rattle.consensus.specs.Events.{success, restart, event_ok}
use Rattle.consensus.specs.Answers.{Quiet, answer_number}
use Rattle.consensus.specs.OnSlot.{on_success, on_slot, restarted}
use Rattle.consensus.specs.Step.{Stepped, step}
use Rattle.step_laws.specs.StepCases.{room_after, step_at_restart}
use Rattle.step_laws.specs.StepKeeps.{step_room_at_slot, step_restarts}
use Rattle.agreement.specs.Runs.{World, start, Delivered, Run, Forgets, answer_to, after, says}
use Rattle.agreement.specs.Runs.Keeps.{table_here, reachable_kept, reaches_slot, restarts_all, delivered_ok}

-- the called box has at slot s what the step left there
room_here : (w : World) (i : ℕ) (e : Event) (s : ℕ) → room_at ((after step w i e).tables i) s ≡ room_at (step (w.tables i) e).table s
room_here w i e s = ap (λ (t : List ℕ). room_at t s) (table_here w.tables i (step (w.tables i) e).table)

-- Success where nothing is agreed leaves its value agreed
success_agrees : (h : Head) (r : Room) (e : Event) → e.kind ≡ success → agreed r ≡ 0 → agreed (room_after r (on_slot h r e)) ≡ e.value
unfolding on_slot on_success
success_agrees h r e kind none = simp (kind, none)

pub success_is_heeded :
    (n : ℕ) → 1 ≤ n → n ≤ max_boxes → (w : World) (i : ℕ) (e : Event) → Run step n (start n) w → i < n → Delivered w i e → e.kind ≡ success →
    says w i e.slot.0 ≡ 0 → says (after step w i e) i e.slot.0 ≡ e.value
success_is_heeded n some few w i e run box delivered kind none =
    let kept = reachable_kept n w some few run in
    let reaches =
    reaches_slot n i (w.tables i) e (kept.boxes_kept i box) (delivered_ok n w i e kept delivered) (λ other. omega arith) in
    ap (λ (r : Room). agreed r) (room_here w i e e.slot.0 ∙ step_room_at_slot (w.tables i) e reaches)
    ∙ success_agrees (head_of (w.tables i)) (room_at (w.tables i) e.slot.0) e kind none

pub restart_is_done :
    (n : ℕ) → 1 ≤ n → n ≤ max_boxes → (w : World) (i : ℕ) (e : Event) → Run step n (start n) w → i < n → e.kind ≡ restart → event_ok n e ≡ true →
    Forgets step w i e
restart_is_done n some few w i e run box kind ok =
    let all = restarts_all n i (w.tables i) e ((reachable_kept n w some few run).boxes_kept i box) ok kind in
    let quiet : answer_to step w i e ≡ Quiet = ap (λ (x : Stepped). x.answer) (step_at_restart (w.tables i) e all) in
    let now : (s : ℕ) → s < slots → room_at ((after step w i e).tables i) s ≡ restarted (room_at (w.tables i) s) = λ s below.
    room_here w i e s ∙ (step_restarts (w.tables i) e kind quiet s below).room_restarted in
    record {
      answered = ap answer_number quiet;
      keeps_saved = λ s below. ap (λ (r : Room). r.saved) (now s below);
      says_nothing = λ s below. ap (λ (r : Room). agreed r) (now s below);
    }
