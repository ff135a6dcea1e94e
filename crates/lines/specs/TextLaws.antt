-- Laws of a number's text and a line's: the text of n ends in its last digit, and how long texts are.
-- Relies on Text. Cited by ReadLaws, RecordLaws and the proofs.
use Rattle.std.specs.Prelude.{ℕ, zero, suc, ◌+◌, ◌*◌, ◌/◌, ◌%◌, ◌^◌, ◌<◌, ◌≤◌, ◌≡◌, List, [], ◌∷◌, ◌++◌, cond, length, ltb}
use Rattle.std.proofs.Common.{ap, ◌∙◌, pow-suc, div-lt_iff_lt-mul, arith, length-append, lit<, lt-ltb, le-ltb}
use Rattle.lines.specs.Text.{digit, limit, digits_text, number_text, line_text}
use Rattle.lines.specs.ByTest.{by_test}

-- room for one more digit changes nothing where there is room
pub room_is_enough : (k n : ℕ) → n < 10 ^ suc k → digits_text k n ≡ digits_text (suc k) n
unfolding digits_text
room_is_enough zero n h = simp (lt-ltb n 10 h)
room_is_enough (suc k) n h = ap (λ (s : List ℕ). cond (ltb n 10) (digit n ∷ []) (s ++ digit (n % 10) ∷ [])) (room_is_enough k (n / 10) tenth)
  where
    tenth : n / 10 < 10 ^ suc k
    tenth = (div-lt_iff_lt-mul (lit< tt)).1 (rw pow-suc at h)

pub one_digit : (n : ℕ) → n < 10 → number_text n ≡ digit n ∷ []
unfolding number_text digits_text
one_digit n h = simp (lt-ltb n 10 h)

pub last_digit_last : (n : ℕ) → 10 ≤ n → n < limit → number_text n ≡ number_text (n / 10) ++ digit (n % 10) ∷ []
unfolding number_text digits_text
last_digit_last n more h =
    simp (le-ltb n 10 more) (ap (λ (s : List ℕ). s ++ digit (n % 10) ∷ []) (room_is_enough 18 (n / 10) (omega arith)))

pub next_digit_last : (v d : ℕ) → 0 < v → d < 10 → v * 10 + d < limit → number_text (v * 10 + d) ≡ number_text v ++ digit d ∷ []
next_digit_last v d hv hd h =
    let tens : (v * 10 + d) / 10 ≡ v = omega arith in
    let ones : (v * 10 + d) % 10 ≡ d = omega arith in
    last_digit_last (v * 10 + d) (omega arith) h ∙ rw (tens, ones)

digits_within : (k n : ℕ) → length (digits_text k n) ≤ k + 1
unfolding digits_text
digits_within zero n = omega arith
digits_within (suc k) n =
    by_test (λ (s : List ℕ). length s ≤ suc k + 1) (ltb n 10) _ _ (λ _. omega arith)
    (λ _. simp length-append (omega (arith, digits_within k (n / 10))))

pub number_within : (n : ℕ) → length (number_text n) ≤ 20
unfolding number_text
number_within n = digits_within 19 n

pub line_within : (ns : List ℕ) → length (line_text ns) ≤ 21 * length ns
unfolding line_text
line_within [] = omega arith
line_within (n ∷ ns) = simp length-append (omega (arith, number_within n, line_within ns))

pub one_digit_wide : (n : ℕ) → n < 10 → length (number_text n) ≡ 1
one_digit_wide n h = rw (one_digit n h)

pub last_digit_wider : (n : ℕ) → 10 ≤ n → n < limit → length (number_text n) ≡ length (number_text (n / 10)) + 1
last_digit_wider n many low = rw (last_digit_last n many low, length-append)
