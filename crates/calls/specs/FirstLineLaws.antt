-- How looking for a newline goes on, and that a line is within the bytes.
-- Relies on FirstLine and UnlessZero. For whoever cuts bytes into lines.
use Rattle.std.specs.Prelude.{ℕ, zero, suc, ◌+◌, ◌≤◌, ◌≡◌, refl, List, [], ◌∷◌, Some, length, eqb}
use Rattle.std.proofs.Common.{arith}
use Rattle.lines.specs.ByTest.{by_test}
use Rattle.lines.specs.Text.{newline}
use Rattle.calls.specs.UnlessZero.{unless_zero}
use Rattle.calls.specs.UnlessZeroLaws.{some_tells}
use Rattle.calls.specs.FirstLine.{longer, line_length}

longer_within : (n m : ℕ) → n ≤ m → longer n ≤ suc m
longer_within zero m h = omega arith
longer_within (suc n) m h = omega arith

pub line_within_bytes : (bytes : List ℕ) → line_length bytes ≤ length bytes
unfolding line_length
line_within_bytes [] = omega arith
line_within_bytes (b ∷ bs) =
    by_test (λ (n : ℕ). n ≤ suc (length bs)) (eqb b newline) _ _ (λ _. omega arith)
    (λ _. longer_within (line_length bs) (length bs) (line_within_bytes bs))

-- a line that line_length finds is within the bytes
pub found_within : (bytes : List ℕ) (n : ℕ) → Some n ≡ unless_zero (line_length bytes) → n ≤ length bytes
found_within bytes n found = omega (arith, some_tells (line_length bytes) n found, line_within_bytes bytes)

-- a line's length with `k` bytes more in front of it, if there is a line
abbrev pub longer_by : ℕ → ℕ → ℕ
longer_by k zero = 0
longer_by k (suc n) = k + suc n

pub longer_by_none : (n : ℕ) → longer_by 0 n ≡ n
longer_by_none zero = refl
longer_by_none (suc n) = omega arith

pub longer_by_one : (k n : ℕ) → longer_by k (longer n) ≡ longer_by (k + 1) n
longer_by_one k zero = refl
longer_by_one k (suc n) = omega arith
