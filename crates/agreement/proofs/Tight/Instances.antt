-- The impostors that belong to a family. Relies on Families. Cited by Tight.
use Rattle.std.specs.Prelude.{ℕ, ◌≡◌, refl, List, ◌≢◌, eqb}
use Rattle.std.proofs.Common.{ap, ◌∙◌, arith, lit<, lit≤, eq-eqb}
use Rattle.std.proofs.lemmas.Bool.{eqb-false}
use Rattle.consensus.specs.declared.Event.{Event}
use Rattle.consensus.specs.declared.Message.{Message}
use Rattle.consensus.specs.Events.{success, restart}
use Rattle.consensus.specs.Answers.{Answer, Quiet, Sends, answer_number}
use Rattle.consensus.specs.Step.{step}
use Rattle.step_laws.specs.ByTest.{by_test}
use Rattle.agreement.specs.Promises.{Promises}
use Rattle.agreement.specs.Tight.Impostors.{refuses_all, sends_always, leaves_table, agrees_at_propose, message_kind, never_sends, ignores}
use Rattle.agreement.specs.Tight.Families.{Unheeded}
use Rattle.agreement.proofs.Tight.Families.{refusing_breaks, one_message_breaks, same_table_breaks, saying_at_once_breaks, no_success_breaks, unheeded_restart_breaks, unheeded_success_breaks}

pub refuses_all_breaks : (a : Answer) → answer_number a ≢ 0 → ¬ Promises (refuses_all a)
refuses_all_breaks a refusal = refusing_breaks (refuses_all a) (λ t e. refusal)

pub sends_always_breaks : (m : Message) → ¬ Promises (sends_always m)
sends_always_breaks m = one_message_breaks (sends_always m) m (λ t e x sends. cc)

pub leaves_table_breaks : ¬ Promises leaves_table
leaves_table_breaks = same_table_breaks leaves_table (λ t e. refl)

pub agrees_at_propose_breaks : ¬ Promises agrees_at_propose
unfolding agrees_at_propose
agrees_at_propose_breaks =
    saying_at_once_breaks agrees_at_propose 2 0 0 1 0 0 (record { some = lit≤ tt; few = lit≤ tt }) (lit< tt) (lit< tt) (omega arith) (lit< tt) (lit< tt)
    (omega arith)

-- no message of kind k is left
never_sent : (k : ℕ) (t : List ℕ) (e : Event) (m : Message) → (never_sends k t e).answer ≡ Sends m → m.event.kind ≢ k
never_sent k t e m =
    by_test (λ (a : Answer). a ≡ Sends m → m.event.kind ≢ k) (eqb (message_kind (step t e).answer) k) Quiet (step t e).answer
    (λ is sends. absurd (let z : ◌≡◌ {A = ℕ} 0 1 = cc in omega arith))
    (λ other sends kind. eqb-false (message_kind (step t e).answer) k other (ap message_kind sends ∙ kind))

pub never_sends_success_breaks : ¬ Promises (never_sends success)
never_sends_success_breaks = no_success_breaks (never_sends success) (never_sent success)

ignored : (k : ℕ) (a : Answer) → Unheeded (ignores k a) k
ignored k a t e s kind = simp (eq-eqb e.kind k kind)

-- whatever it answers: 4 for a Success, a refusal of a Restart, or 0
pub ignores_success_breaks : (a : Answer) → ¬ Promises (ignores success a)
ignores_success_breaks a = unheeded_success_breaks (ignores success a) (ignored success a)

pub ignores_restart_breaks : (a : Answer) → ¬ Promises (ignores restart a)
ignores_restart_breaks a = unheeded_restart_breaks (ignores restart a) (ignored restart a)
