-- What next_line's contract says of a line that is there.
-- Relies on Places. For whoever cuts lines out of a buffer.
use Rattle.std.specs.Prelude.{ℕ, ◌≡◌, Some}
use Rattle.std.specs.declared.option.Option.{Option}
use Rattle.stream.specs.declared.input.Place.{Place}
use Rattle.stream.specs.Places.{Placed, PlacedIn}

pub placed : (n : ℕ) (p : Place) (found : Option Place) → PlacedIn n found → found ≡ Some p → Placed n p.start p.end p.stop
placed n p found in_place e = rw e at in_place
