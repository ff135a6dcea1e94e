-- For each function named here the lemmas that its goals take, in the set that its attribute names.
-- Relies on the other files here and on specs/TextLaws and specs/DigitLaws.
use Rattle.lines.specs.TextLaws.{one_digit_wide}
use Rattle.lines.specs.DigitLaws.{below_digits, above_digits}
use Rattle.lines.proofs.Digits.{digits_end, digits_stop, digits_over, digits_next, number_end, number_other, number_zero, number_more}
use Rattle.lines.proofs.Numbers.{bad_number, no_end, other_end, all_read, bytes_left}
use Rattle.lines.proofs.Widths.{digits_between, text_is_decimal, digit_put}
use Rattle.lines.proofs.Fields.{length_from, line_done, longer_by, none_put}

pub ruleset more_digits = (below_digits, above_digits, digits_end, digits_stop, digits_over, digits_next)

pub ruleset read_number = (below_digits, above_digits, number_end, number_other, number_zero, number_more)

-- but for the loop's step, which is in its Answers
pub ruleset read_numbers = (bad_number, no_end, other_end, all_read, bytes_left)

pub ruleset width = (one_digit_wide, digits_between)

pub ruleset put_number = (text_is_decimal, one_digit_wide, digit_put)

pub ruleset measure = (length_from, line_done)

-- but for the loop's step and the end, which are in its Answers
pub ruleset put_line = (longer_by, none_put)
