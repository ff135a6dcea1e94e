-- The text of a refusal. Cited by its `Display`.
use Rattle.std.specs.Prelude.{ℕ, List, codes}
use Rattle.board.specs.declared.refusal.BoardRefusal.{BoardRefusal}
use Rattle.board.specs.declared.refusal.BoardRefusal.TheVariants.{BadTable, BadLink}

abbrev pub refusal_text : BoardRefusal → List ℕ
refusal_text BadTable = codes "not a box's table"
refusal_text BadLink = codes "the link is above 255"
