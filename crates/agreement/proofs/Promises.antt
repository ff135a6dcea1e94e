-- The step keeps what is promised of runs: each proof cites its lemma.
-- Relies on Promises and on the theorems about runs and finishing. For the reader, and cited by the board's runs.
use Rattle.std.proofs.Common.{⊎_elim, arith}
use Rattle.consensus.specs.Step.{step}
use Rattle.agreement.specs.Runs.Keeps.{reachable_kept, call_never_answers_3, delivered_answers}
use Rattle.agreement.proofs.Runs.Agrees
use Rattle.agreement.proofs.Runs.Stays
use Rattle.agreement.proofs.Runs.NeverSix.{never_six}
use Rattle.agreement.proofs.Runs.Low
use Rattle.agreement.proofs.Runs.Heeds
use Rattle.agreement.proofs.Finishing.All.{finishes_all}
use Rattle.agreement.proofs.Finishing.Reaches.{reaches_agreement}
use Rattle.agreement.specs.Promises.{Promises}

pub step_keeps_promises : Promises step
step_keeps_promises =
    record {
      one_value = λ n w u i j s count first later. Agrees.one_value n count.some count.few w u i j s first later;
      was_proposed = λ n w i s count run. Agrees.was_proposed n count.some count.few w run i s;
      stays_said = λ n w u i s count first later. Stays.stays_said n count.some count.few w u i s first later;
      never_answers = λ n w i e count run may.
          let kept = reachable_kept n w count.some count.few run in (
            call_never_answers_3 n w i e kept may,
            never_six n count.some count.few w i e run may,
            λ delivered. ⊎_elim (λ zero. omega arith) (λ past. omega arith) (delivered_answers n w i e kept may.a_box delivered),
          );
      finishes = finishes_all;
      some_run_agrees = λ n p s v count. reaches_agreement n p s v count.some count.few;
      promises_stay_low = λ n w i s count run box. Low.promises_stay_low n w i s run;
      success_is_heeded = λ n w i e count. Heeds.success_is_heeded n count.some count.few w i e;
      restart_is_done = λ n w i e count. Heeds.restart_is_done n count.some count.few w i e;
    }
