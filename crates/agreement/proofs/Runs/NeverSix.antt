-- No call of a run answers 6: a Success that is delivered brings the value that the box has agreed, if it has one.
-- Relies on Agrees and the law of answers. Cited by the promises.
use Rattle.std.specs.Prelude.{ℕ, ◌≤◌, ◌≢◌}
use Rattle.std.proofs.Common.{subst}
use Rattle.ballots.specs.Ballot.{max_boxes, maker_of}
use Rattle.consensus.specs.declared.Event.{Event}
use Rattle.consensus.specs.Layout.{room_at}
use Rattle.consensus.specs.Room.{agreed}
use Rattle.consensus.specs.Answers.{answer_number}
use Rattle.consensus.specs.Step.{step}
use Rattle.step_laws.specs.EventLaws.{names_a_slot}
use Rattle.step_laws.specs.GivenWhen.{SuccessWithAnother, AtItsSlot}
use Rattle.step_laws.specs.AnswerLaws.{given_exactly_when}
use Rattle.agreement.proofs.Ledger.Agrees.{agreement}
use Rattle.agreement.specs.Majorities.{In, CollectSet, BeginSet, sets_meet}
use Rattle.agreement.specs.Box.{ToldBy}
use Rattle.agreement.specs.Runs.{World, start, answer_to, MayCall, Run}
use Rattle.agreement.proofs.Runs.Told.{called_told}
use Rattle.agreement.proofs.Runs.Agrees.{from_start}

pub never_six : (n : ℕ) → 1 ≤ n → n ≤ max_boxes → (w : World) (i : ℕ) (e : Event) → Run step n (start n) w → MayCall n w i e → answer_number (answer_to step w i e) ≢ 6
never_six n some few w i e run may six =
    let at : AtItsSlot SuccessWithAnother (w.tables i) e = (given_exactly_when (w.tables i) e 6).0 six in
    let now = from_start n some few w run in
    let s = e.slot.0 in
    let below = names_a_slot _ e at.reaches.passes.good_event at.reaches.no_restart in
    at.has.another_value
    (agreement maker_of ℕ In (CollectSet n) (BeginSet n) (sets_meet n) (now.ledgers s) (now.told.ledgers_kept s) (agreed (room_at (w.tables i) s)) e.value
    ((now.told.boxes_told i may.a_box s below).agreed_told at.has.some_agreed)
    (subst (λ (k : ℕ). ToldBy n (now.ledgers s) k e) at.has.a_success (called_told n w now.ledgers i e now.told may)))
