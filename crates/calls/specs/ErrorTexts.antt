-- The text of a refusal. Cited by its `Display`.
use Rattle.std.specs.Prelude.{ℕ, List, codes}
use Rattle.lines.specs.ErrorTexts.{bad_line_text}
use Rattle.calls.specs.declared.refusal.CallRefusal.{CallRefusal}
use Rattle.calls.specs.declared.refusal.CallRefusal.TheVariants.{BadTables, BadLine, ShortBuffer}

abbrev pub refusal_text : CallRefusal → List ℕ
refusal_text BadTables = codes "no place for the tables of 1 to 7 boxes"
refusal_text BadLine = bad_line_text
refusal_text ShortBuffer = codes "the buffer is shorter than the longest answer"
