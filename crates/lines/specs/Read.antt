-- What reading a line gives, as the grammar has it: a number at the front of the bytes, then numbers
-- each with its end, then nothing. Relies on Text. Cited by its laws and by read_record's contract.
use Rattle.std.specs.Prelude.{ℕ, zero, suc, ◌+◌, ◌*◌, ◌-◌, List, [], ◌∷◌, Bool, cond, ◌&&◌, replicate, ltb, leb, eqb, Result, Ok, Err}
use Rattle.lines.specs.declared.error.BadLine.{BadLine}
use Rattle.lines.specs.Text.{digit, limit, record_count, end_byte}

-- a number at the front of the bytes and the bytes after it, or none
pub data NumberRead : Type 0 where
  a_number : ℕ → List ℕ → NumberRead
  no_number : NumberRead

-- the numbers of a whole line, or none
pub data NumbersRead : Type 0 where
  the_numbers : List ℕ → NumbersRead
  no_numbers : NumbersRead

-- a digit is a byte from "0" to "9"
abbrev pub is_digit : ℕ → Bool
is_digit b = leb (digit 0) b && leb b (digit 9)

-- the value v with one more digit, the byte b
abbrev pub with_digit : ℕ → ℕ → ℕ
with_digit v b = v * 10 + (b - digit 0)

-- more digits while there are some, as long as the value stays below the limit
unfoldable pub more_digits : ℕ → List ℕ → NumberRead
more_digits v [] = a_number v []
more_digits v (b ∷ bs) =
    cond (is_digit b)
    (cond (ltb (with_digit v b) limit) (more_digits (with_digit v b) bs) no_number)
    (a_number v (b ∷ bs))

-- a number starts with a digit; a zero stands alone
unfoldable pub read_number : List ℕ → NumberRead
read_number [] = no_number
read_number (b ∷ bs) =
    cond (is_digit b) (cond (eqb b (digit 0)) (a_number 0 bs) (more_digits (with_digit 0 b) bs)) no_number

-- the number v before the others
abbrev pub before : ℕ → NumbersRead → NumbersRead
before v (the_numbers ns) = the_numbers (v ∷ ns)
before v no_numbers = no_numbers

-- after a number stands the byte `end`, and then what `rest` reads
abbrev pub then_end : ℕ → (List ℕ → NumbersRead) → NumberRead → NumbersRead
then_end end rest (a_number v []) = no_numbers
then_end end rest (a_number v (b ∷ bs)) = cond (eqb b end) (before v (rest bs)) no_numbers
then_end end rest no_number = no_numbers

-- a whole line of `count` numbers: each with its end, and nothing after the last
unfoldable pub read_numbers : ℕ → List ℕ → NumbersRead
read_numbers zero [] = the_numbers []
read_numbers zero (b ∷ bs) = no_numbers
read_numbers (suc left) bs = then_end (end_byte left) (read_numbers left) (read_number bs)

-- what reading a line gives: the answer's number and the numbers
pub record Reading : Type 0 where
  pub answer : ℕ
  pub numbers : List ℕ

-- answer 8: line not as this, seven zeros returned
abbrev pub bad_line : Reading
bad_line = record { answer = 8; numbers = replicate record_count 0 }

-- answer 0 and the numbers
abbrev pub good_line : List ℕ → Reading
good_line ns = record { answer = 0; numbers = ns }

-- what reading gives for the numbers of a line, or for none
abbrev pub reading_of : NumbersRead → Reading
reading_of (the_numbers ns) = good_line ns
reading_of no_numbers = bad_line

-- reading takes one whole line
unfoldable pub read_record : List ℕ → Reading
read_record line = reading_of (read_numbers record_count line)

-- what the rules call the outcome of read_record
abbrev pub reading_by_rules : Result (List ℕ) BadLine → Reading
reading_by_rules (Ok ns) = good_line ns
reading_by_rules (Err e) = bad_line
