-- Sets of boxes as numbers, as the rules have them: bit k stands for box k, and `ones` counts the members.
-- Relies on the library's count of ones. Cited by the contracts of src/boxes.rt, by BoxesLaws and MajorityLaws, and by the crates above.
use Rattle.std.specs.Prelude.{ℕ, ◌+◌, ◌*◌, ◌/◌, ◌%◌, ◌^◌, Bool, ◌||◌, cond, ltb, leb, eqb}
use Rattle.std.specs.Int.Count.{ones}

-- "bit k stands for box k"
unfoldable pub holds_box : ℕ → ℕ → Bool
holds_box s k = eqb (s / 2 ^ k % 2) 1

-- "a set whose count of members, doubled, exceeds N"
unfoldable pub is_majority : ℕ → ℕ → Bool
is_majority n s = ltb n (2 * ones s)

-- The set with box k, which is the set itself where it has box k already, or where k is no bit of 64
unfoldable pub with_box : ℕ → ℕ → ℕ
with_box s k = cond (holds_box s k || leb 64 k) s (s + 2 ^ k)

-- "M the size of the smallest majority"
abbrev pub smallest_majority : ℕ → ℕ
smallest_majority n = n / 2 + 1
