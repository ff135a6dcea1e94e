-- The first line of a replay, the header, and how many boxes it names.
-- Relies on the bytes of lines. Cited by boxes_of's contract.
use Rattle.std.specs.Prelude.{ℕ, ◌-◌, List, Bool, ◌&&◌, length, get_or, leb, eqb, if◌then◌else◌}
use Rattle.lines.specs.Text.{tab, newline, digit}

-- "boxes", tab, N, newline
abbrev pub header_length : ℕ
header_length = 8

-- the byte that stands for N
abbrev pub boxes_byte : List ℕ → ℕ
boxes_byte line = get_or line 6 0

-- "boxes"
unfoldable pub says_boxes : List ℕ → Bool
says_boxes line =
    eqb (get_or line 0 0) 98 && eqb (get_or line 1 0) 111 && eqb (get_or line 2 0) 120 && eqb (get_or line 3 0) 101
    && eqb (get_or line 4 0) 115

-- "boxes", tab, N (one digit, 1 to 7), newline
unfoldable pub is_header : List ℕ → Bool
is_header line =
    eqb (length line) header_length && says_boxes line && eqb (get_or line 5 0) tab && leb (digit 1) (boxes_byte line)
    && leb (boxes_byte line) (digit 7) && eqb (get_or line 7 0) newline

-- the N of a header, or 0 where the line is no header
unfoldable pub boxes_of : List ℕ → ℕ
boxes_of line = if is_header line then boxes_byte line - digit 0 else 0
