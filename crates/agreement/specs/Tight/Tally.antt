-- "Taking the value most boxes sent instead of the one with the highest ballot", as a step function that keeps every report and counts them.
-- It is the rules' own definition but for that. Cited by Votes, which shows that it does not keep the promises.
use Rattle.std.specs.Prelude.{ℕ, zero, suc, ◌+◌, ◌*◌, ◌/◌, ◌%◌, ◌^◌, max, not, ltb, eqb, if◌then◌else◌}
use mathlib.Core.List.{List, [], ◌∷◌, foldl}
use Rattle.ballots.specs.Ballot.{max_boxes}
use Rattle.ballots.specs.Boxes.{with_box}
use Rattle.consensus.specs.declared.Head.{Head}
use Rattle.consensus.specs.declared.Vote.{Vote}
use Rattle.consensus.specs.declared.Room.{Room}
use Rattle.consensus.specs.declared.Event.{Event}
use Rattle.consensus.specs.Answers.{Quiet, NotAwaited}
use Rattle.consensus.specs.Room.{best_ballot, best_value, lasts, collecting, own_value, vote}
use Rattle.consensus.specs.Enough.{enough_to_collect}
use Rattle.consensus.specs.Events.{last}
use Rattle.consensus.specs.OnSlot.{Outcome, Becomes, Refused, awaited, collects_on, begins}
use Rattle.agreement.specs.Runs.{StepFunction}
use Rattle.agreement.specs.Tight.Impostors.{step_keeping, step_with, instead}

-- more than any value: one digit for each report
abbrev base : ℕ
base = 2 ^ 64

-- the reports so far stand in the best value, one behind the other: the latest is its last digit
abbrev noted : Room → Event → Vote
noted r e =
    if eqb e.second.0 0 then r.round.best
    else vote (max (best_ballot r) e.second.0) (best_value r * base + e.value)

-- the values reported, from a number of that many digits
reported : ℕ → ℕ → List ℕ
reported zero x = []
reported (suc k) x = let rest = reported k (x / base) in if eqb x 0 then [] else x % base ∷ rest

-- how often v is among the values
tally : ℕ → List ℕ → ℕ
tally v [] = 0
tally v (x ∷ xs) = tally v xs + (if eqb v x then 1 else 0)

-- the value most boxes sent
most_sent : List ℕ → ℕ
unfolding tally
most_sent values = foldl (λ (best v : ℕ). if ltb (tally best values) (tally v values) then v else best) 0 values

-- the value to begin with: the own one where none was reported
abbrev chosen : Room → Vote → ℕ
chosen r best = if eqb best.ballot.0 0 then own_value r else most_sent (reported max_boxes best.value)

tallies : Head → Room → Event → Outcome
unfolding reported tally most_sent
tallies h r e =
    let counted = with_box (lasts r) e.from in
    let best = noted r e in
    if not (awaited r e collecting (lasts r)) then Refused NotAwaited
    else if not (enough_to_collect h counted) then Becomes (collects_on r best counted) Quiet
    else begins h r e (chosen r best)

unfoldable pub takes_most_sent : StepFunction
unfolding step_keeping tallies
takes_most_sent = step_with (instead last tallies)
