-- No useless board keeps the promises: each statement of Tight cites its proof in the files below.
-- Relies on Promises. For the reader: nothing cites it.
use Rattle.std.specs.Prelude.{ℕ, ◌<◌, ◌≡◌, List, ◌≢◌}
use Rattle.std.proofs.Math.Decide.{dec_lt}
use Rattle.std.proofs.Common.{arith}
use Rattle.ballots.specs.Boxes.{smallest_majority}
use Rattle.consensus.specs.Layout.{slots}
use Rattle.agreement.specs.Runs.{StepFunction, World, start, Run, CalledOnly, says}
use Rattle.agreement.specs.Promises.{Count, Promises}
use Rattle.agreement.specs.Tight.{NoneOfTheFamilies, NoImpostor}
use Rattle.agreement.specs.Tight.Impostors.{invents_count}
use Rattle.agreement.specs.Tight.Families.{Uncalled}
use Rattle.agreement.proofs.Tight.Families.{refusing_breaks, one_message_breaks, same_table_breaks, saying_at_once_breaks, no_value_without_a_vote, no_success_breaks, refusing_restart_breaks, unheeded_restart_breaks, unheeded_success_breaks}
use Rattle.agreement.proofs.Tight.Instances.{refuses_all_breaks, sends_always_breaks, leaves_table_breaks, agrees_at_propose_breaks, never_sends_success_breaks, ignores_success_breaks, ignores_restart_breaks}
use Rattle.agreement.proofs.Tight.Votes.{next_from_own_breaks, counts_twice_breaks, takes_most_sent_breaks}
use Rattle.agreement.proofs.Tight.Raises.{promises_at_begin_breaks, promises_at_restart_breaks, tells_largest_breaks}
use Rattle.agreement.proofs.Tight.Rounds.{answers_above_breaks, keeps_own_value_breaks}
use Rattle.agreement.proofs.Tight.TooFew.{told_of_fewer_breaks}
use Rattle.agreement.proofs.Tight.TooMany.{told_of_more_breaks}
pub mod Families
pub mod Instances
pub mod Replays
pub mod Attempts
pub mod Votes
pub mod Raises
pub mod Rounds
pub mod TooFew
pub mod TooMany

invents_count_breaks : (count : ℕ → ℕ) (n : ℕ) → Count n → smallest_majority (count n) ≢ smallest_majority n → ¬ Promises (invents_count count)
invents_count_breaks count n boxes another =
    elim (dec_lt (smallest_majority (count n)) (smallest_majority n)) [
      | yes fewer ↦ told_of_fewer_breaks count n boxes fewer
      | no not_fewer ↦ told_of_more_breaks count n boxes (omega arith)
    ]

pub none_of_the_families : NoneOfTheFamilies
none_of_the_families =
    record {
      refusing = refusing_breaks;
      one_message = one_message_breaks;
      same_table = same_table_breaks;
      saying_at_once = saying_at_once_breaks;
      invents_count_fails = invents_count_breaks;
      no_success = no_success_breaks;
      unheeded_success = unheeded_success_breaks;
      unheeded_restart = unheeded_restart_breaks;
      refusing_restart = refusing_restart_breaks;
    }

-- "yes without a vote": where M boxes were never called, nobody says anything
pub without_a_vote :
    (f : StepFunction) → Promises f → (n : ℕ) (w : World) → Count n → (run : Run f n (start n) w) (called : ℕ → Type 0) → CalledOnly called run →
    (boxes : List ℕ) → Uncalled n called boxes → (i s : ℕ) → i < n → s < slots → says w i s ≡ 0
without_a_vote = no_value_without_a_vote

pub no_impostor : NoImpostor
no_impostor =
    record {
      refuses_all_fails = refuses_all_breaks;
      sends_always_fails = sends_always_breaks;
      leaves_table_fails = leaves_table_breaks;
      agrees_at_propose_fails = agrees_at_propose_breaks;
      next_from_own_fails = next_from_own_breaks;
      counts_twice_fails = counts_twice_breaks;
      takes_most_sent_fails = takes_most_sent_breaks;
      answers_above_fails = answers_above_breaks;
      promises_at_begin_fails = promises_at_begin_breaks;
      promises_at_restart_fails = promises_at_restart_breaks;
      tells_largest_fails = tells_largest_breaks;
      never_sends_success = never_sends_success_breaks;
      ignores_success = ignores_success_breaks;
      ignores_restart = ignores_restart_breaks;
      keeps_own_value_fails = keeps_own_value_breaks;
    }
