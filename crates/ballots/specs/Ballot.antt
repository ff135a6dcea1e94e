-- Ballots as the rules have them: their two parts, which numbers are ballots, and the next ballot of a box.
-- Relies on the library's tests of numbers alone. Cited by the contracts of src/lib.rt, by BallotLaws, and by the crates above.
use Rattle.std.specs.Prelude.{ℕ, ◌+◌, ◌*◌, ◌/◌, ◌%◌, Bool, ◌&&◌, ◌||◌, Option, None, Some, cond, ltb, leb, eqb}
use Rattle.ballots.specs.declared.Ballot.{Ballot}

-- "The box count N (1 to 7)"
abbrev pub max_boxes : ℕ
max_boxes = 7

-- "x from 1 to 4,294,967,295"
abbrev pub max_x : ℕ
max_x = 4294967295

-- "A ballot is 8x + i": its x
abbrev pub x_of : ℕ → ℕ
x_of b = b / 8

-- "i the index of the box that made it"
abbrev pub maker_of : ℕ → ℕ
maker_of b = b % 8

-- "x is promised divided by 8, rounded down, plus 1"
abbrev pub next_x : ℕ → ℕ
next_x promised = x_of promised + 1

-- "b = 8x + own index"
abbrev pub next_ballot : ℕ → ℕ → ℕ
next_ballot promised i = 8 * next_x promised + i

-- "A ballot is 8x + i, with x from 1 to 4,294,967,295 and i the index of the box that made it, i < N"
unfoldable pub is_ballot : ℕ → ℕ → Bool
is_ballot n b = leb 1 (x_of b) && leb (x_of b) max_x && ltb (maker_of b) n

-- "zero or a ballot"
unfoldable pub none_or_ballot : ℕ → ℕ → Bool
none_or_ballot n b = eqb b 0 || is_ballot n b

-- The next ballot of the box with index i: none where i is no box's, or where x would exceed 4,294,967,295
unfoldable pub next : ℕ → ℕ → Option Ballot
next promised i = cond (ltb i max_boxes && leb (next_x promised) max_x) (Some (record { 0 = next_ballot promised i })) None
