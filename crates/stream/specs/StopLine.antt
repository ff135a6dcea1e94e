-- The lines that an output puts: any numbers, and the line that says which line of the input is bad.
-- Relies on the line of a bad line, of calls. Cited by the contracts of stop_at and of an output.
use Rattle.std.specs.Prelude.{ℕ, List, [], ◌∷◌, take}
use Rattle.lines.specs.Write.{written_record, written_buffer}
use Rattle.calls.specs.Call.{bad_line}

-- the bytes that the line of some numbers puts at the front of a buffer: none where there is no room for them
abbrev pub line_put : List ℕ → List ℕ → List ℕ
line_put ns out = take (written_record ns out).length (written_buffer ns out)

-- the bytes that the line of bad line `number` puts at the front of a buffer
abbrev pub stop_line : ℕ → List ℕ → List ℕ
stop_line number out = line_put (bad_line ∷ number ∷ []) out
