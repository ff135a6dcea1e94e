-- What a number that is there tells of the number that it stands for.
-- Relies on UnlessZero. For whoever calls boxes_of and line_length.
use Rattle.std.specs.Prelude.{ℕ, zero, suc, ◌≡◌, Some}
use Rattle.calls.specs.UnlessZero.{unless_zero}

-- a number that is there is the number itself
pub some_tells : (m n : ℕ) → Some n ≡ unless_zero m → n ≡ m
some_tells zero n e = cc
some_tells (suc m) n e = cc
