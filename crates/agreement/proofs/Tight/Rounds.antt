-- The impostors that do not finish the round of a box that is alone, or not with its value, each with the round that shows it.
-- Relies on Attempts, by which a round is checked by computing. Cited by Tight.
use Rattle.std.specs.Prelude.{refl, [], ◌∷◌, replicate}
use Rattle.agreement.specs.Promises.{Promises}
use Rattle.agreement.specs.Tight.Impostors.{answers_above, keeps_own_value}
use Rattle.agreement.proofs.Tight.Replays.{Propose, Collect, Last, Begin, Accept, ◌gets◌}
use Rattle.agreement.proofs.Tight.Attempts.{Attempt, fails, attempt_breaks}

-- the own Collect is answered with OldRound: no Last is put out for the turns after it, so that any event may stand for theirs
abbrev own_round : Attempt
own_round = record { before = []; value = 1; heard = replicate 4 (Collect 0 8) }

pub answers_above_breaks : ¬ Promises answers_above
unfolding fails answers_above
answers_above_breaks = attempt_breaks answers_above own_round refl

-- 1 is proposed and dropped for 2, but 1 is begun
abbrev second_proposal : Attempt
second_proposal =
    record { before = (0 gets Propose 1) ∷ []; value = 2; heard = Collect 0 16 ∷ Last 0 16 0 0 ∷ Begin 0 16 1 ∷ Accept 0 16 ∷ [] }

pub keeps_own_value_breaks : ¬ Promises keeps_own_value
unfolding fails keeps_own_value
keeps_own_value_breaks = attempt_breaks keeps_own_value second_proposal refl
