-- For each function named here the lemmas that its goals take, in the set that its attribute names.
-- Relies on the other files here and on specs/TablesLaws.
use Rattle.calls.specs.TablesLaws.{tables_parts}
use Rattle.calls.proofs.Newlines.{ends_at, no_end, end_within}
use Rattle.calls.proofs.Fresh.{none_fresh, one_more_fresh, all_fresh}
use Rattle.calls.proofs.Answered.{no_box, at_box, lent_part, put_back, no_tables, no_record, no_room, answers, line_written, line_stands}

pub ruleset line_length = (ends_at, no_end, end_within)

pub ruleset fresh_tables = (tables_parts, none_fresh, one_more_fresh, all_fresh)

pub ruleset on_record = (no_box, at_box, lent_part, put_back)

pub ruleset call = (tables_parts, no_tables, no_record, no_room, answers, line_written, line_stands)
