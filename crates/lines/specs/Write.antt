-- What writing a line of numbers gives, a record's or any other: the answer, the length, and the buffer at exit.
-- Relies on Text. Cited by the contracts of write_record and write_numbers.
use Rattle.std.specs.Prelude.{ℕ, List, ◌++◌, Bool, cond, length, drop, ltb, Result, Ok, Err}
use Rattle.lines.specs.declared.error.ShortBuffer.{ShortBuffer}
use Rattle.lines.specs.Text.{line_text}

-- what writing a line gives: the answer's number and the line's length
pub record Written : Type 0 where
  pub answer : ℕ
  pub length : ℕ

-- answer 9: writer's buffer shorter than the line
abbrev pub too_short : List ℕ → List ℕ → Bool
too_short ns buffer = ltb (length buffer) (length (line_text ns))

-- a refused write returns length 0
abbrev pub no_write : Written
no_write = record { answer = 9; length = 0 }

-- a written line's length is returned
abbrev pub a_write : ℕ → Written
a_write n = record { answer = 0; length = n }

-- the answer and the length
abbrev pub written_record : List ℕ → List ℕ → Written
written_record ns buffer = cond (too_short ns buffer) no_write (a_write (length (line_text ns)))

-- a written line's bytes stand at the front of the buffer and bytes after stay; a refused write leaves it as it was
abbrev pub written_buffer : List ℕ → List ℕ → List ℕ
written_buffer ns buffer =
    cond (too_short ns buffer) buffer (line_text ns ++ drop (length (line_text ns)) buffer)

-- what the rules call the outcome of a write
abbrev pub written_by_rules : Result ℕ ShortBuffer → Written
written_by_rules (Ok n) = a_write n
written_by_rules (Err e) = no_write
