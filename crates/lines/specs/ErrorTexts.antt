-- The texts of errors. Each is cited by the error's `Display`.
use Rattle.std.specs.Prelude.{ℕ, List, codes}

abbrev pub bad_line_text : List ℕ
bad_line_text = codes "the line is not a record's"

abbrev pub short_buffer_text : List ℕ
short_buffer_text = codes "the buffer is shorter than the line"
