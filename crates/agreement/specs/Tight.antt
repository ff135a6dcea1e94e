-- Tightness: no useless board keeps the promises. Families of step functions, each refuted by one theorem; and each wrong step function that
-- the rules name or somebody thought of, refuted by its family or by a run that computes. What they are made from is the step.
-- That all of it holds is `none_of_the_families`, `without_a_vote` and `no_impostor` of proofs/Tight. For the reader.
use Rattle.std.specs.Prelude.{ℕ, ◌<◌, ◌≡◌, refl, List, ◌≢◌}
use Rattle.ballots.specs.Boxes.{smallest_majority}
use Rattle.consensus.specs.declared.Event.{Event}
use Rattle.consensus.specs.declared.Message.{Message}
use Rattle.consensus.specs.Layout.{slots}
use Rattle.consensus.specs.Events.{success, restart}
use Rattle.consensus.specs.Answers.{Answer, Sends, answer_number}
use Rattle.consensus.specs.OnSlot.{on_slot}
use Rattle.consensus.specs.Step.{on_event, step}
use Rattle.agreement.specs.Runs.{StepFunction, start, after, says}
use Rattle.agreement.specs.Finishing.{proposal}
use Rattle.agreement.specs.Promises.{Count, Promises}
use Rattle.agreement.specs.Tight.Impostors.{step_keeping, step_with, refuses_all, sends_always, leaves_table, agrees_at_propose, invents_count, next_from_own, counts_twice, answers_above, promises_at_begin, promises_at_restart, tells_largest, never_sends, ignores, keeps_own_value}
use Rattle.agreement.specs.Tight.Tally.{takes_most_sent}
use Rattle.agreement.specs.Tight.Families.{Unheeded}
pub mod Impostors
pub mod Tally
pub mod Families
pub mod Ways

-- with the rules' own slot rule the impostors' frame is the step
pub step_with_the_rules : (t : List ℕ) (e : Event) → step_with on_slot t e ≡ step t e
unfolding step_keeping step on_event
step_with_the_rules t e = refl

-- ---- every step function of a kind

pub record NoneOfTheFamilies : Type 0 where
  -- it refuses all
  pub refusing : (f : StepFunction) → ((t : List ℕ) (e : Event) → answer_number (f t e).answer ≢ 0) → ¬ Promises f
  -- its every message is one and the same
  pub one_message : (f : StepFunction) (m : Message) → ((t : List ℕ) (e : Event) (x : Message) → (f t e).answer ≡ Sends x → x ≡ m) → ¬ Promises f
  -- it leaves the table alone
  pub same_table : (f : StepFunction) → ((t : List ℕ) (e : Event) → (f t e).table ≡ t) → ¬ Promises f
  -- after the first Propose some box says something of some slot
  pub saying_at_once :
      (f : StepFunction) (n p s v j s' : ℕ) → Count n → p < n → s < slots → v ≢ 0 → j < n → s' < slots →
      says (after f (start n) p (proposal s v)) j s' ≢ 0 → ¬ Promises f
  -- it is told another box count, under which the smallest majority is another one for some number of boxes
  pub invents_count_fails : (count : ℕ → ℕ) (n : ℕ) → Count n → smallest_majority (count n) ≢ smallest_majority n → ¬ Promises (invents_count count)
  -- it never sends Success
  pub no_success : (f : StepFunction) → ((t : List ℕ) (e : Event) (m : Message) → (f t e).answer ≡ Sends m → m.event.kind ≢ success) → ¬ Promises f
  -- no Success, or no Restart, changes what is said
  pub unheeded_success : (f : StepFunction) → Unheeded f success → ¬ Promises f
  pub unheeded_restart : (f : StepFunction) → Unheeded f restart → ¬ Promises f
  -- it refuses Restart
  pub refusing_restart : (f : StepFunction) → ((t : List ℕ) (e : Event) → e.kind ≡ restart → answer_number (f t e).answer ≢ 0) → ¬ Promises f

-- ---- single step functions

pub record NoImpostor : Type 0 where
  -- "These must not get through"
  pub refuses_all_fails : (a : Answer) → answer_number a ≢ 0 → ¬ Promises (refuses_all a)
  pub sends_always_fails : (m : Message) → ¬ Promises (sends_always m)
  pub leaves_table_fails : ¬ Promises leaves_table
  pub agrees_at_propose_fails : ¬ Promises agrees_at_propose
  -- "Mistakes to shut out"
  pub next_from_own_fails : ¬ Promises next_from_own
  pub counts_twice_fails : ¬ Promises counts_twice
  pub takes_most_sent_fails : ¬ Promises takes_most_sent
  pub answers_above_fails : ¬ Promises answers_above
  -- no to everyone after a while
  pub promises_at_begin_fails : ¬ Promises promises_at_begin
  pub promises_at_restart_fails : ¬ Promises promises_at_restart
  pub tells_largest_fails : ¬ Promises tells_largest
  -- something left out
  pub never_sends_success : ¬ Promises (never_sends success)
  pub ignores_success : (a : Answer) → ¬ Promises (ignores success a)
  pub ignores_restart : (a : Answer) → ¬ Promises (ignores restart a)
  pub keeps_own_value_fails : ¬ Promises keeps_own_value
