-- Numbers of which zero means none.
-- Relies on nothing. Cited by the contracts of boxes_of and line_length.
use Rattle.std.specs.Prelude.{ℕ, zero, suc, Option, Some, None}

abbrev pub unless_zero : ℕ → Option ℕ
unless_zero zero = None
unless_zero (suc n) = Some (suc n)
