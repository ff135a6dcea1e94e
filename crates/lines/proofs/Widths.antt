-- The count of a number's digits, from the powers of ten around it; its text as the library's `decimal`, and of one digit before a place.
-- Relies on TextLaws. Cited by the proofs of width and put_number.
use Rattle.std.proofs.Common.{ℕ, zero, suc, ◌+◌, ◌*◌, ◌/◌, ◌^◌, ◌<◌, ◌≤◌, ◌≡◌, List, ◌++◌, ◌-◌, length, drop, set, ◌∙◌, arith, pow-suc, lt-ltb, le-ltb}
use Rattle.std.proofs.lemmas.List.{drop-set}
use Rattle.std.proofs.lemmas.Fmt.{AppendsLastDigit, decimal_from_appends, length-decimal-le}
use Rattle.std.specs.Fmt.{decimal}
use Rattle.lines.specs.Text.{limit, digit, digits_text, number_text}
use Rattle.lines.specs.TextLaws.{one_digit, one_digit_wide, last_digit_wider, room_is_enough}

pub digits_between : (k n : ℕ) → 10 ^ k ≤ n → n < 10 * 10 ^ k → n < limit → length (number_text n) ≡ k + 1
digits_between zero n low high small = one_digit_wide n (omega arith)
digits_between (suc k) n low high small =
    let tens : 10 ^ suc k ≡ 10 ^ k * 10 = pow-suc 10 k in
    last_digit_wider n (omega arith) small ∙ omega (arith, digits_between k (n / 10) (omega arith) (omega arith) (omega arith))

appends : AppendsLastDigit digits_text
unfolding digits_text
appends = record { one = λ k n small. simp (lt-ltb n 10 small); more = λ k n many. simp (le-ltb n 10 many) }

pub text_is_decimal : (n : ℕ) → n < limit → number_text n ≡ decimal n
unfolding number_text
text_is_decimal n h =
    room_is_enough 19 n (omega arith) ∙ decimal_from_appends digits_text appends 20 n (omega arith) (length-decimal-le 20 n (omega arith) (omega arith) (omega arith))

-- a number of one digit put before a place
pub digit_put : (n end b : ℕ) (out : List ℕ) → n < 10 → 1 ≤ end → end ≤ length out → b ≡ digit n → drop (end - 1) (set out (end - 1) b) ≡ number_text n ++ drop end out
digit_put n end b out small room within e = rw (drop-set out (end - 1) b (omega arith), one_digit n small, e, next)
  where
    next : end - 1 + 1 ≡ end
    next = omega arith
