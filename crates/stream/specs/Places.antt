-- Where a line stands in a buffer.
-- Relies on nothing. Cited by next_line's contract.
use Rattle.std.specs.Prelude.{ℕ, ◌≤◌, Some, None}
use Rattle.std.specs.declared.option.Option.{Option}
use Rattle.stream.specs.declared.input.Place.{Place}

-- a line stands from `start` up to `end` in the bytes there are, and these in a buffer of n bytes
pub record Placed (n start end stop : ℕ) : Type 0 where
  pub forward : start ≤ end
  pub there : end ≤ stop
  pub within : stop ≤ n

-- a line that there is has its place
abbrev pub PlacedIn : ℕ → Option Place → Type 0
PlacedIn n (Some p) = Placed n p.start p.end p.stop
PlacedIn n None = Unit {0}
