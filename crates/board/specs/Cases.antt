-- The starred cases of the board join those of the step in one table under one statement.
-- Relies on the cases of the step and on Board. What the rules say of K1's command stands beside K12 and K13.
use Rattle.std.specs.Prelude.{ℕ, zero, suc, List, [], ◌∷◌, ◌++◌, map, replicate}
use Rattle.std.proofs.Common.{ap}
use Rattle.consensus.specs.Room.{saved, room, no_vote, no_round}
use Rattle.consensus.specs.Layout.{fresh, with_room}
use Rattle.consensus.specs.Step.{table_ok, agreed_at}
use Rattle.consensus.specs.Cases.{Case, CasesHold, command, starred_cases, starred_cases_hold}
use Rattle.board.specs.declared.Command.{Command}
use Rattle.board.specs.Command.{command_of}
use Rattle.board.specs.Board.{last_link, claimed, revised, obeyed, run_from, board_of, numbers_of}

-- the four numbers of a command
abbrev command_numbers : Command → List ℕ
command_numbers c = c.author ∷ c.link ∷ c.revision ∷ c.ticket ∷ []

-- the table with value v agreed in slot s
abbrev agreeing : List ℕ → ℕ → ℕ → List ℕ
agreeing table s v = with_room table s (room (saved 0 no_vote) no_round v)

-- author 2, link 2, revision 1, ticket 99
abbrev strangers : ℕ
strangers = 565153271644259

-- n, n - 1, .., 0
down_from : ℕ → List ℕ
down_from zero = 0 ∷ []
down_from (suc n) = suc n ∷ down_from n

-- what the board answers for each of the links
unfoldable pub boards_for : List ℕ → List ℕ → List (List ℕ)
unfolding board_of table_ok agreed_at run_from obeyed claimed revised
boards_for table links = map (λ (link : ℕ). numbers_of (board_of table link)) links

-- K1 "Its command is author 1, link 2, revision 0, ticket 7."
pub K1-command : Case
K1-command = record { gives = command_numbers (command_of command) ∷ []; wants = (1 ∷ 2 ∷ 0 ∷ 7 ∷ []) ∷ [] }

-- K12 "After K1's command, 565153271644259 (author 2, link 2, revision 1, ticket 99): link 2 stays owner 1, revision 1, ticket 7."
pub K12 : Case
unfolding boards_for
K12 =
    record {
      gives =
          command_numbers (command_of strangers)
          ∷ boards_for (agreeing (fresh 1 0) 0 command) (2 ∷ [])
          ++ boards_for (agreeing (agreeing (fresh 1 0) 0 command) 1 strangers) (2 ∷ []);
      wants = (2 ∷ 2 ∷ 1 ∷ 99 ∷ []) ∷ (0 ∷ 1 ∷ 1 ∷ 7 ∷ []) ∷ (0 ∷ 1 ∷ 1 ∷ 7 ∷ []) ∷ [];
    }

-- K13 "Slot 1 agreed, slot 0 not: every link free."
pub K13 : Case
unfolding boards_for down_from
K13 =
    record {
      gives = boards_for (agreeing (fresh 1 0) 1 command) (down_from last_link);
      wants = replicate (suc last_link) (0 ∷ 0 ∷ 0 ∷ 0 ∷ []);
    }

abbrev pub board_cases : List Case
board_cases = K1-command ∷ K12 ∷ K13 ∷ []

abbrev pub all_starred_cases : List Case
all_starred_cases = starred_cases ++ board_cases

pub all_starred_cases_hold : CasesHold all_starred_cases
unfolding K1-command K12 K13
all_starred_cases_hold = ap (λ (gives : List (List (List ℕ))). gives ++ map (λ (c : Case). c.gives) board_cases) starred_cases_hold
