-- Laws of commands: a value is the sum of its four parts, and each part fits its bits.
-- Relies on Command. Cited by whoever makes a value of a command's parts.
use Rattle.std.specs.Prelude.{ℕ, ◌+◌, ◌*◌, ◌^◌, ◌<◌, ◌≡◌}
use Rattle.std.proofs.Common.{arith}
use Rattle.board.specs.Command.{author_of, link_of, revision_of, ticket_of}

pub record PartsFit (value : ℕ) : Type 0 where
  pub author_fits : author_of value < 2 ^ 16
  pub link_fits : link_of value < 2 ^ 8
  pub revision_fits : revision_of value < 2 ^ 8
  pub ticket_fits : ticket_of value < 2 ^ 32

pub parts_fit : (value : ℕ) → value < 2 ^ 64 → PartsFit value
parts_fit value h = omega arith

pub value_is_its_parts :
    (value : ℕ) → value ≡ author_of value * 2 ^ 48 + link_of value * 2 ^ 40 + revision_of value * 2 ^ 32 + ticket_of value
value_is_its_parts value = omega arith
