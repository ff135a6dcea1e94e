-- A value as a command: which of its bits are the author, the link, the revision and the map ticket.
-- Relies on nothing. Cited by the contract of `command_of` and by the board's definitions.
use Rattle.std.specs.Prelude.{ℕ, ◌^◌, ◌/◌, ◌%◌}
use Rattle.board.specs.declared.Command.{Command}

-- "author in the top 16 bits,
abbrev pub author_of : ℕ → ℕ
author_of value = value / 2 ^ 48

-- link in the next 8,
abbrev pub link_of : ℕ → ℕ
link_of value = value / 2 ^ 40 % 2 ^ 8

-- revision in the next 8,
abbrev pub revision_of : ℕ → ℕ
revision_of value = value / 2 ^ 32 % 2 ^ 8

-- map ticket in the low 32"
abbrev pub ticket_of : ℕ → ℕ
ticket_of value = value % 2 ^ 32

-- "A value is a command"
abbrev pub command_of : ℕ → Command
command_of value =
    record {
      author = author_of value;
      link = link_of value;
      revision = revision_of value;
      ticket = ticket_of value;
    }
