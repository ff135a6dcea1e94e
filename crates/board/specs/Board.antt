-- The board: what a command does to the entry of a link, the known prefix of a table, and what the board answers for a link.
-- Relies on Command and, of a table, on `table_ok` and `agreed_at` alone. Cited by the contracts, the laws and the cases.
use Rattle.std.specs.Prelude.{ℕ, zero, suc, ◌+◌, not, ◌&&◌, Result, Ok, Err, get_or, ltb, eqb, if◌then◌else◌}
use mathlib.Core.List.{List, [], ◌∷◌, foldl}
use Rattle.consensus.specs.Layout.{slots}
use Rattle.consensus.specs.Step.{table_ok, agreed_at}
use Rattle.board.specs.declared.Command.{Command}
use Rattle.board.specs.declared.Entry.{Entry}
use Rattle.board.specs.declared.refusal.BoardRefusal.{BoardRefusal}
use Rattle.board.specs.declared.refusal.BoardRefusal.TheVariants as refusal
use Rattle.board.specs.Command.{command_of}

abbrev pub last_link : ℕ
last_link = 255

abbrev pub last_revision : ℕ
last_revision = 255

abbrev pub entry : ℕ → ℕ → ℕ → Entry
entry o r t = record { owner = o; revision = r; ticket = t }

-- "three zeros when free"
abbrev pub free : Entry
free = entry 0 0 0

-- "A free link (owner 0): revision 0 makes the author owner, revision 1, ticket set; other revisions no effect."
unfoldable pub claimed : Entry → Command → Entry
claimed e c = if eqb c.revision 0 then entry c.author 1 c.ticket else e

-- "An owned link: the owner, naming its present revision below 255, sets the ticket and adds 1 to the revision; all else no effect."
unfoldable pub revised : Entry → Command → Entry
revised e c =
    if eqb c.author e.owner && eqb c.revision e.revision && ltb e.revision last_revision
    then entry e.owner (e.revision + 1) c.ticket
    else e

-- what a command does to the entry of a link: nothing where it names another link; "Author 0: no effect."
unfoldable pub obeyed : Entry → ℕ → Command → Entry
obeyed e link c =
    if not (eqb c.link link) then e
    else if eqb c.author 0 then e
    else if eqb e.owner 0 then claimed e c
    else revised e c

-- "A value is a command": what it does to the entry of a link
abbrev pub applied : Entry → ℕ → ℕ → Entry
applied e link value = obeyed e link (command_of value)

-- the values of the run of agreed slots that starts at `slot` and is at most `left` long, where `agreed` says what each slot has agreed (zero for nothing)
unfoldable pub run_from : ℕ → ℕ → (ℕ → ℕ) → List ℕ
run_from zero slot agreed = []
run_from (suc left) slot agreed =
    let after = run_from left (suc slot) agreed in
    if eqb (agreed slot) 0 then [] else agreed slot ∷ after

-- "The known prefix is the longest run of agreed slots from slot 0."
abbrev pub agreed_run : (ℕ → ℕ) → List ℕ
agreed_run agreed = run_from slots 0 agreed

abbrev pub known_prefix : List ℕ → List ℕ
known_prefix table = agreed_run (agreed_at table)

-- the entry of a link after some commands, in their order
abbrev pub applied_all : Entry → ℕ → List ℕ → Entry
applied_all e link values = foldl (λ (before : Entry) (value : ℕ). applied before link value) e values

-- "The board applies its commands in slot order."
abbrev pub entry_of : List ℕ → ℕ → Entry
entry_of values link = applied_all free link values

-- what the board answers; `numbers_of` below gives the rules' number and the entry's three for each case
pub data BoardAnswer : Type 0 where
  Link : Entry → BoardAnswer
  BadTable : BoardAnswer
  BadLink : BoardAnswer

-- answer 1: the table is not good; answer 2: "link above 255"; the lowest that holds
unfoldable pub board_of : List ℕ → ℕ → BoardAnswer
board_of table link =
    if not (table_ok table) then BadTable
    else if ltb last_link link then BadLink
    else Link (entry_of (known_prefix table) link)

-- the rules' number and the entry's three: "owner, revision and ticket (three zeros when free or refused)"
abbrev pub numbers_of : BoardAnswer → List ℕ
numbers_of (Link e) = 0 ∷ e.owner ∷ e.revision ∷ e.ticket ∷ []
numbers_of BadTable = 1 ∷ 0 ∷ 0 ∷ 0 ∷ []
numbers_of BadLink = 2 ∷ 0 ∷ 0 ∷ 0 ∷ []

-- the rules' number of an answer
abbrev pub answer_of : BoardAnswer → ℕ
answer_of a = get_or (numbers_of a) 0 0

-- the rules' answer that a result of `board` stands for
abbrev pub answer_by_rules : Result Entry BoardRefusal → BoardAnswer
answer_by_rules (Ok e) = Link e
answer_by_rules (Err refusal.BadTable) = BadTable
answer_by_rules (Err refusal.BadLink) = BadLink
