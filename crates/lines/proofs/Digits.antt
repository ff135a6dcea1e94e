-- How reading a number goes on or stops at the byte at the front.
-- Relies on Read and DigitLaws. Cited by the proofs of more_digits and read_number.
use Rattle.std.proofs.Common.{ℕ, ◌<◌, ◌≤◌, ◌≡◌, refl, List, [], ◌∷◌, false, length, arith, lt-ltb, le-ltb, eq-eqb, ne_eqb}
use Rattle.lines.specs.Text.{digit, limit}
use Rattle.lines.specs.DigitLaws.{among_digits}
use Rattle.lines.specs.Read.{a_number, no_number, is_digit, with_digit, more_digits, read_number}

pub digits_end : (v : ℕ) (bs : List ℕ) → length bs ≡ 0 → more_digits v bs ≡ a_number v bs
unfolding more_digits
digits_end v [] none = refl
digits_end v (b ∷ bs) none = absurd (omega arith)

module _ (b : ℕ) (bs : List ℕ) where
  pub digits_stop : (v : ℕ) → is_digit b ≡ false → more_digits v (b ∷ bs) ≡ a_number v (b ∷ bs)
  unfolding more_digits
  digits_stop v other = simp other

  pub number_other : is_digit b ≡ false → read_number (b ∷ bs) ≡ no_number
  unfolding read_number
  number_other other = simp other

  module _ (low : digit 0 ≤ b) (high : b ≤ digit 9) where
    pub digits_over : (v : ℕ) → limit ≤ with_digit v b → more_digits v (b ∷ bs) ≡ no_number
    unfolding more_digits
    digits_over v over = simp (among_digits b low high, le-ltb (with_digit v b) limit over)

    pub digits_next : (v : ℕ) → with_digit v b < limit → more_digits v (b ∷ bs) ≡ more_digits (with_digit v b) bs
    unfolding more_digits
    digits_next v under = simp (among_digits b low high, lt-ltb (with_digit v b) limit under)

    pub number_zero : b ≡ digit 0 → read_number (b ∷ bs) ≡ a_number 0 bs
    unfolding read_number
    number_zero zero = simp (among_digits b low high, eq-eqb b (digit 0) zero)

    pub number_more : (b ≡ digit 0 → ⊥) → read_number (b ∷ bs) ≡ more_digits (with_digit 0 b) bs
    unfolding read_number
    number_more other = simp (among_digits b low high, ne_eqb b (digit 0) other)

pub number_end : (bs : List ℕ) → length bs ≡ 0 → read_number bs ≡ no_number
unfolding read_number
number_end [] none = refl
number_end (b ∷ bs) none = absurd (omega arith)
