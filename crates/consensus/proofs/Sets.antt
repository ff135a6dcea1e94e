-- Sets of boxes in a word of 64 bits: all of them are below 2 ^ N where N is at least 64.
-- Cited by the attribute of `kept::set_ok`.
use Rattle.std.specs.Prelude.{ℕ, ◌^◌, ◌≤◌, ◌<◌, ◌≡◌, true, ltb}
use Rattle.std.proofs.Common.{arith, lt-ltb, pow_mono}

pub word_below : (s n : ℕ) → s < 2 ^ 64 → 64 ≤ n → ltb s (2 ^ n) ≡ true
word_below s n word many = lt-ltb _ _ (omega (arith, pow_mono many))
