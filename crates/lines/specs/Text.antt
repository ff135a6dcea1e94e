-- What a line of numbers is: named bytes, the text of a number, the text of a line.
-- Relies on nothing. Cited by Read, Write, their laws and the contracts.
use Rattle.std.specs.Prelude.{ℕ, zero, suc, ◌+◌, ◌/◌, ◌%◌, ◌^◌, ◌<◌, ◌≡◌, List, [], ◌∷◌, ◌++◌, cond, length, ltb, eqb}

-- numbers are parted by single tabs
abbrev pub tab : ℕ
tab = 9

-- a line is ended by one newline
abbrev pub newline : ℕ
newline = 10

-- the byte of the digit d
abbrev pub digit : ℕ → ℕ
digit d = 48 + d

-- numbers are 0 to 2^64-1
abbrev pub limit : ℕ
limit = 2 ^ 64

-- a record is seven numbers
abbrev pub record_count : ℕ
record_count = 7

-- at most 147 bytes: seven numbers of at most 20 digits, each with the byte after it
abbrev pub longest_record : ℕ
longest_record = 147

-- decimal digits with no leading zeros, at most `more` of them before the last
unfoldable pub digits_text : ℕ → ℕ → List ℕ
digits_text zero n = digit n ∷ []
digits_text (suc more) n = cond (ltb n 10) (digit n ∷ []) (digits_text more (n / 10) ++ digit (n % 10) ∷ [])

-- a number's text, zero is "0": 20 digits hold every number below the limit
unfoldable pub number_text : ℕ → List ℕ
number_text n = digits_text 19 n

-- what stands after a number with `left` numbers to come: a tab, or a newline after the last
abbrev pub end_byte : ℕ → ℕ
end_byte left = cond (eqb left 0) newline tab

-- the numbers' texts parted by single tabs, ended by one newline (no numbers: no text)
unfoldable pub line_text : List ℕ → List ℕ
line_text [] = []
line_text (n ∷ ns) = number_text n ++ end_byte (length ns) ∷ line_text ns

-- each number is 0 to 2^64-1
abbrev pub AreNumbers : List ℕ → Type 0
AreNumbers [] = Unit {0}
AreNumbers (n ∷ ns) = (n < limit) × AreNumbers ns

-- a record is seven such numbers
pub record IsRecord (ns : List ℕ) : Type 0 where
  pub seven : length ns ≡ record_count
  pub numbers : AreNumbers ns
