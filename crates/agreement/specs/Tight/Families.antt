-- What two families of step functions have: boxes that were never called, and events that change nothing that is said.
-- Cited by Tight and by the theorems about the families.
use Rattle.std.specs.Prelude.{ℕ, ◌≡◌, List}
use Rattle.consensus.specs.declared.Event.{Event}
use Rattle.consensus.specs.Room.{agreed}
use Rattle.consensus.specs.Layout.{room_at}
use Rattle.agreement.specs.Runs.{StepFunction}
use Rattle.agreement.specs.Finishing.{Listed, JustEnough}

-- a smallest majority of boxes at which no call was
pub record Uncalled (n : ℕ) (called : ℕ → Type 0) (boxes : List ℕ) : Type 0 where
  pub just_enough : JustEnough n boxes
  pub none_called : (q : ℕ) → Listed q boxes → ¬ called q

-- an event of kind k never changes what a slot says
abbrev pub Unheeded : StepFunction → ℕ → Type 0
Unheeded f k = (t : List ℕ) (e : Event) (s : ℕ) → e.kind ≡ k → agreed (room_at (f t e).table s) ≡ agreed (room_at t s)
