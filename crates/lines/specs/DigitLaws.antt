-- Which bytes are digits: those from "0" to "9", and no byte that ends a number.
-- Relies on Text and Read. Cited by ReadLaws and the proofs.
use Rattle.std.specs.Prelude.{ℕ, ◌<◌, ◌≤◌, ◌≡◌, refl, Bool, true, false, ◌&&◌, leb, eqb}
use Rattle.std.proofs.Common.{le-leb, leb-true}
use Rattle.std.proofs.lemmas.Bool.{lt-leb}
use Rattle.lines.specs.Text.{digit, tab, newline, end_byte}
use Rattle.lines.specs.Read.{is_digit}
use Rattle.lines.specs.ByTest.{by_test, both_true}

pub below_digits : (b : ℕ) → b < digit 0 → is_digit b ≡ false
below_digits b h = simp (lt-leb (digit 0) b h)

pub above_digits : (b : ℕ) → digit 9 < b → is_digit b ≡ false
above_digits b h = whichever (leb (digit 0) b)
  where
    whichever : (low : Bool) → (low && leb b (digit 9)) ≡ false
    whichever true = lt-leb b (digit 9) h
    whichever false = refl

pub among_digits : (b : ℕ) → digit 0 ≤ b → b ≤ digit 9 → is_digit b ≡ true
among_digits b low high = simp (le-leb (digit 0) b low, le-leb b (digit 9) high)

pub digit_bounds : (b : ℕ) → is_digit b ≡ true → (digit 0 ≤ b) × (b ≤ digit 9)
digit_bounds b e =
    let both = both_true (leb (digit 0) b) (leb b (digit 9)) e in
    (leb-true (digit 0) b both.0, leb-true b (digit 9) both.1)

pub end_is_no_digit : (left : ℕ) → is_digit (end_byte left) ≡ false
end_is_no_digit left = by_test (λ (b : ℕ). is_digit b ≡ false) (eqb left 0) newline tab (λ _. refl) (λ _. refl)
