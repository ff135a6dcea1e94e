-- What is promised of runs of 1 to 7 fresh boxes, over any step function. Each promise is stated on its own.
-- That the step keeps it is `step_keeps_promises` of proofs/Promises.
use Rattle.std.specs.Prelude.{ℕ, ◌≤◌, ◌<◌, ◌≡◌, true, ◌≢◌, ◌⊎◌}
use Rattle.ballots.specs.Ballot.{max_boxes, x_of}
use Rattle.consensus.specs.declared.Event.{Event}
use Rattle.consensus.specs.Layout.{slots}
use Rattle.consensus.specs.Events.{success, restart, event_ok}
use Rattle.consensus.specs.Answers.{answer_number}
use Rattle.agreement.specs.Runs.{StepFunction, World, start, Delivered, MayCall, Run, ProposedIn, proposals_in, RestartedIn, Forgets, answer_to, after, says, has_promised}
use Rattle.agreement.specs.Finishing.{FinishesAll}

-- 1 to 7 boxes
pub record Count (n : ℕ) : Type 0 where
  pub some : 1 ≤ n
  pub few : n ≤ max_boxes

-- a. A slot never has two agreed values, on any boxes at any times: w is an earlier world of a run and u a later one.
abbrev pub OneValue : StepFunction → Type 0
OneValue f =
    (n : ℕ) (w u : World) (i j s : ℕ) → Count n → Run f n (start n) w → Run f n w u → i < n → j < n → s < slots →
    says w i s ≢ 0 → says u j s ≢ 0 → says w i s ≡ says u j s

-- b. The agreed value was the value of a Propose for that slot that an earlier call answered with 0.
abbrev pub WasProposed : StepFunction → Type 0
WasProposed f =
    (n : ℕ) (w : World) (i s : ℕ) → Count n → (run : Run f n (start n) w) → i < n → s < slots → says w i s ≢ 0 → ProposedIn run s (says w i s)

-- c. What a box once said of a slot it says later, or nothing after a restart of that box.
abbrev pub StaysSaid : StepFunction → Type 0
StaysSaid f =
    (n : ℕ) (w u : World) (i s : ℕ) → Count n → Run f n (start n) w → (later : Run f n w u) → i < n → s < slots → says w i s ≢ 0 →
    (says u i s ≡ says w i s) ⊎ ((says u i s ≡ 0) × RestartedIn later i)

-- d. No call of a run answers 3 or 6, and a delivered message never answers 1 or 2.
abbrev pub NeverAnswers : StepFunction → Type 0
NeverAnswers f =
    (n : ℕ) (w : World) (i : ℕ) (e : Event) → Count n → Run f n (start n) w → MayCall n w i e →
    (answer_number (answer_to f w i e) ≢ 3) × (answer_number (answer_to f w i e) ≢ 6)
    × (Delivered w i e → (answer_number (answer_to f w i e) ≢ 1) × (answer_number (answer_to f w i e) ≢ 2))

-- e. A majority that has promised nothing as high as a new ballot finishes, on exactly the call numbered 4M + 1: `FinishesAll` of Finishing.

-- f. For each number of boxes, any box, slot and value: some run reaches agreement on that value at that box.
abbrev pub SomeRunAgrees : StepFunction → Type 0
SomeRunAgrees f =
    (n p s v : ℕ) → Count n → p < n → s < slots → v ≢ 0 → (end : World) × Run f n (start n) end × (says end p s ≡ v)

-- g. Promises stay low: the x of a box's promise, in any slot, is at most the number of Proposes that the run answered with 0.
abbrev pub PromisesStayLow : StepFunction → Type 0
PromisesStayLow f =
    (n : ℕ) (w : World) (i s : ℕ) → Count n → (run : Run f n (start n) w) → i < n → s < slots → x_of (has_promised w i s) ≤ proposals_in run

-- h. A Success that is delivered to a box which says nothing of the slot leaves it saying that value.
abbrev pub SuccessIsHeeded : StepFunction → Type 0
SuccessIsHeeded f =
    (n : ℕ) (w : World) (i : ℕ) (e : Event) → Count n → Run f n (start n) w → i < n → Delivered w i e → e.kind ≡ success →
    says w i e.slot.0 ≡ 0 → says (after f w i e) i e.slot.0 ≡ e.value

-- i. A Restart that keeps the section on events answers 0, keeps numbers 0 to 2 of every slot and leaves the box saying nothing.
abbrev pub RestartIsDone : StepFunction → Type 0
RestartIsDone f =
    (n : ℕ) (w : World) (i : ℕ) (e : Event) → Count n → Run f n (start n) w → i < n → e.kind ≡ restart → event_ok n e ≡ true → Forgets f w i e

pub record Promises (f : StepFunction) : Type 0 where
  pub one_value : OneValue f
  pub was_proposed : WasProposed f
  pub stays_said : StaysSaid f
  pub never_answers : NeverAnswers f
  pub finishes : FinishesAll f
  pub some_run_agrees : SomeRunAgrees f
  pub promises_stay_low : PromisesStayLow f
  pub success_is_heeded : SuccessIsHeeded f
  pub restart_is_done : RestartIsDone f
