-- Reading a number undoes its text, and a number that was read has one spelling; the same of a line.
-- Relies on Text, Read, TextLaws and DigitLaws. Cited by RecordLaws.
use Rattle.std.specs.Prelude.{ℕ, zero, suc, ◌+◌, ◌*◌, ◌-◌, ◌/◌, ◌%◌, ◌<◌, ◌≤◌, ◌≡◌, refl, List, [], ◌∷◌, ◌++◌, true, false, length, ltb, eqb}
use Rattle.std.proofs.Common.{ap, ◌∙◌, append_assoc, ⊎_elim, arith, lt-ltb, ne_eqb, eq-eqb, ltb-true, eqb-true}
use Rattle.std.proofs.lemmas.Bool.{eqb-false}
use Rattle.lines.specs.Text.{digit, limit, end_byte, number_text, line_text, AreNumbers}
use Rattle.lines.specs.Read.{NumberRead, a_number, no_number, NumbersRead, the_numbers, no_numbers}
use Rattle.lines.specs.Read.{is_digit, with_digit, more_digits, read_number, before, then_end, read_numbers}
use Rattle.lines.specs.ByTest.{by_test, lt_or_ge}
use Rattle.lines.specs.DigitLaws.{among_digits, digit_bounds, end_is_no_digit}
use Rattle.lines.specs.TextLaws.{one_digit, last_digit_last, next_digit_last}

digit_is_digit : (d : ℕ) → d < 10 → is_digit (digit d) ≡ true
digit_is_digit d h = among_digits (digit d) (omega arith) (omega arith)

pub first_digit_read : (d : ℕ) → 0 < d → d < 10 → (rest : List ℕ) → read_number (digit d ∷ rest) ≡ more_digits d rest
unfolding read_number
first_digit_read d some small rest =
    simp (digit_is_digit d small, ne_eqb (digit d) (digit 0) (λ e. omega arith)) (ap (λ (v : ℕ). more_digits v rest) (omega arith))

pub next_digit_read : (v d : ℕ) → d < 10 → v * 10 + d < limit → (rest : List ℕ) →
    more_digits v (digit d ∷ rest) ≡ more_digits (v * 10 + d) rest
unfolding more_digits
next_digit_read v d small low rest =
    let value : with_digit v (digit d) ≡ v * 10 + d = omega arith in
    simp (digit_is_digit d small, value, lt-ltb (v * 10 + d) limit low)

-- after the text of n, reading goes on with the value n
reads_on : (bound n : ℕ) → n < bound → 0 < n → n < limit → (rest : List ℕ) → read_number (number_text n ++ rest) ≡ more_digits n rest
reads_on zero n h some low rest = absurd (omega arith)
reads_on (suc bound) n h some low rest = ⊎_elim alone (longer (reads_on bound (n / 10))) (lt_or_ge n 10)
  where
    alone : n < 10 → read_number (number_text n ++ rest) ≡ more_digits n rest
    alone small = rw (one_digit n small, first_digit_read n some small rest)

    longer : (n / 10 < bound → 0 < n / 10 → n / 10 < limit → (rest : List ℕ) → read_number (number_text (n / 10) ++ rest) ≡ more_digits (n / 10) rest) →
        10 ≤ n → read_number (number_text n ++ rest) ≡ more_digits n rest
    longer tens many =
        rw (last_digit_last n many low, append_assoc)
        (tens (omega arith) (omega arith) (omega arith) (digit (n % 10) ∷ rest)
        ∙ next_digit_read (n / 10) (n % 10) (omega arith) (omega arith) rest
        ∙ ap (λ (v : ℕ). more_digits v rest) (omega arith))

-- reading undoes a number's text, where what follows is no digit
pub number_of_text : (n : ℕ) → n < limit → (b : ℕ) → is_digit b ≡ false → (rest : List ℕ) →
    read_number (number_text n ++ b ∷ rest) ≡ a_number n (b ∷ rest)
unfolding read_number more_digits
number_of_text zero low b other rest = rw (one_digit 0 (omega arith))
number_of_text (suc n) low b other rest = reads_on (suc (suc n)) (suc n) (omega arith) (omega arith) low (b ∷ rest) ∙ simp other

-- reading undoes a line's text
pub numbers_of_text : (ns : List ℕ) → AreNumbers ns → read_numbers (length ns) (line_text ns) ≡ the_numbers ns
unfolding read_numbers line_text
numbers_of_text [] h = refl
numbers_of_text (n ∷ ns) (low, h) =
    let end : ℕ = end_byte (length ns) in
    rw (number_of_text n low end (end_is_no_digit (length ns)) (line_text ns), eq-eqb end end refl, numbers_of_text ns h)

-- what a read number means: the bytes are its text and the bytes after it, and it is below the limit
pub record Spelt (bs : List ℕ) (v : ℕ) (rest : List ℕ) : Type 0 where
  pub spelling : bs ≡ number_text v ++ rest
  pub low : v < limit

respelt : {bs cs rest : List ℕ} {v : ℕ} → bs ≡ cs → Spelt cs v rest → Spelt bs v rest
respelt e s = record { spelling = e ∙ s.spelling; low = s.low }

nothing_spelt : {bs rest : List ℕ} {v : ℕ} → no_number ≡ a_number v rest → Spelt bs v rest
nothing_spelt e = absurd (let never : ◌≡◌ {A = ℕ} 0 1 = cc in omega arith)

stops_spelt : (u v : ℕ) (bs rest : List ℕ) → u < limit → a_number u bs ≡ a_number v rest → Spelt (number_text u ++ bs) v rest
stops_spelt u v bs rest low e =
    let same : u ≡ v = cc in
    record { spelling = cc; low = omega arith }

digit_appended : (u b : ℕ) (bs : List ℕ) → 0 < u → (digit 0 ≤ b) × (b ≤ digit 9) → with_digit u b < limit →
    number_text u ++ b ∷ bs ≡ number_text (with_digit u b) ++ bs
digit_appended u b bs some d low =
    let byte : digit (b - digit 0) ≡ b = omega arith in
    rw (next_digit_last u (b - digit 0) some (omega arith) low, append_assoc, byte)

digits_spelt : (u : ℕ) (bs : List ℕ) → 0 < u → u < limit → (v : ℕ) (rest : List ℕ) → more_digits u bs ≡ a_number v rest →
    Spelt (number_text u ++ bs) v rest
unfolding more_digits
digits_spelt u [] some low v rest e = stops_spelt u v [] rest low e
digits_spelt u (b ∷ bs) some low v rest e =
    by_test Fine (is_digit b) _ _
    (λ d. by_test Fine (ltb (with_digit u b) limit) _ _
    (λ l r. respelt (digit_appended u b bs some (digit_bounds b d) (ltb-true _ _ l)) (digits_spelt (with_digit u b) bs (omega arith) (ltb-true _ _ l) v rest r))
    (λ _. nothing_spelt))
    (λ _. stops_spelt u v (b ∷ bs) rest low) e
  where
    Fine : NumberRead → Type 0
    Fine r = r ≡ a_number v rest → Spelt (number_text u ++ b ∷ bs) v rest

-- a number that was read has one spelling
pub number_spelt : (bs : List ℕ) (v : ℕ) (rest : List ℕ) → read_number bs ≡ a_number v rest → Spelt bs v rest
unfolding read_number
number_spelt [] v rest e = nothing_spelt e
number_spelt (b ∷ bs) v rest e =
    by_test Fine (is_digit b) _ _
    (λ d. by_test Fine (eqb b (digit 0)) _ _ (λ z. alone (eqb-true b (digit 0) z)) (λ z. longer (digit_bounds b d) (eqb-false b (digit 0) z)))
    (λ _. nothing_spelt) e
  where
    Fine : NumberRead → Type 0
    Fine r = r ≡ a_number v rest → Spelt (b ∷ bs) v rest

    alone : b ≡ digit 0 → Fine (a_number 0 bs)
    alone z r = respelt (rw (one_digit 0 (omega arith), z)) (stops_spelt 0 v bs rest (omega arith) r)

    longer : (digit 0 ≤ b) × (b ≤ digit 9) → (b ≡ digit 0 → ⊥) → Fine (more_digits (with_digit 0 b) bs)
    longer d z r =
        let byte : digit (with_digit 0 b) ≡ b = omega arith in
        respelt (rw (one_digit (with_digit 0 b) (omega arith), byte)) (digits_spelt (with_digit 0 b) bs (omega arith) (omega arith) v rest r)

-- what read numbers mean: there are `count` of them, each below the limit, and the bytes are their line
pub record LineSpelt (count : ℕ) (bs ns : List ℕ) : Type 0 where
  pub counted : length ns ≡ count
  pub numbers : AreNumbers ns
  pub spelling : bs ≡ line_text ns

no_line_spelt : {count : ℕ} {bs ns : List ℕ} → no_numbers ≡ the_numbers ns → LineSpelt count bs ns
no_line_spelt e = absurd (let never : ◌≡◌ {A = ℕ} 0 1 = cc in omega arith)

number_before_spelt : (left v : ℕ) (bs rest ms : List ℕ) → Spelt bs v (end_byte left ∷ rest) → LineSpelt left rest ms →
    LineSpelt (suc left) bs (v ∷ ms)
unfolding line_text
number_before_spelt left v bs rest ms s l =
    record {
      counted = ap suc l.counted;
      numbers = (s.low, l.numbers);
      spelling = s.spelling ∙ rw (l.counted, l.spelling);
    }

module _ (left : ℕ) (bs ns : List ℕ) where
  line_after_end : (v : ℕ) (rest : List ℕ) (r : NumbersRead) → ((ms : List ℕ) → r ≡ the_numbers ms → LineSpelt left rest ms) →
      Spelt bs v (end_byte left ∷ rest) → before v r ≡ the_numbers ns → LineSpelt (suc left) bs ns
  line_after_end v rest (the_numbers ms) others s e =
      let same : v ∷ ms ≡ ns = cc in
      rw same at (number_before_spelt left v bs rest ms s (others ms refl))
  line_after_end v rest no_numbers others s e = no_line_spelt e

  line_after_number : (r : NumberRead) → ((rest ms : List ℕ) → read_numbers left rest ≡ the_numbers ms → LineSpelt left rest ms) →
      read_number bs ≡ r → then_end (end_byte left) (read_numbers left) r ≡ the_numbers ns → LineSpelt (suc left) bs ns
  line_after_number no_number others r e = no_line_spelt e
  line_after_number (a_number v []) others r e = no_line_spelt e
  line_after_number (a_number v (b ∷ rest)) others r e =
      by_test (λ (t : NumbersRead). t ≡ the_numbers ns → LineSpelt (suc left) bs ns) (eqb b (end_byte left)) _ _
      (λ t. line_after_end v rest (read_numbers left rest) (others rest) (rw (eqb-true b (end_byte left) t) at (number_spelt bs v (b ∷ rest) r)))
      (λ _. no_line_spelt) e

-- numbers that were read have one spelling
pub numbers_spelt : (count : ℕ) (bs ns : List ℕ) → read_numbers count bs ≡ the_numbers ns → LineSpelt count bs ns
unfolding read_numbers line_text
numbers_spelt zero [] [] e = record { counted = refl; numbers = tt; spelling = refl }
numbers_spelt zero [] (n ∷ ns) e = absurd (let never : ◌≡◌ {A = ℕ} 0 1 = cc in omega arith)
numbers_spelt zero (b ∷ bs) ns e = no_line_spelt e
numbers_spelt (suc left) bs ns e = line_after_number left bs ns (read_number bs) (numbers_spelt left) refl e
