-- Where the first line of some bytes ends.
-- Relies on the newline of lines. Cited by line_length's contract.
use Rattle.std.specs.Prelude.{ℕ, zero, suc, List, [], ◌∷◌, eqb, if◌then◌else◌}
use Rattle.lines.specs.Text.{newline}

-- one byte more in front of a line, if there is a line
abbrev pub longer : ℕ → ℕ
longer zero = 0
longer (suc n) = suc (suc n)

-- the length of the first line, its newline included: 0 where there is no newline
unfoldable pub line_length : List ℕ → ℕ
line_length [] = 0
line_length (b ∷ bs) = if eqb b newline then 1 else longer (line_length bs)
