-- The laws of records and lines: reading undoes writing, a line has one spelling, the answers, the longest line; an answer tells its result.
-- Relies on ReadLaws and TextLaws. For whoever reads or writes records.
use Rattle.std.specs.Prelude.{ℕ, ◌<◌, ◌≤◌, ◌≡◌, refl, List, ◌⊎◌, ◌↔◌, length, Result, Ok, Err}
use Rattle.lines.specs.declared.error.BadLine.{BadLine}
use Rattle.std.proofs.Common.{ap, sym, ◌∙◌, inl, inr, ⊎_elim, arith}
use Rattle.lines.specs.Text.{record_count, longest_record, line_text, IsRecord}
use Rattle.lines.specs.Read.{Reading, NumbersRead, the_numbers, no_numbers, read_numbers, read_record, reading_of, good_line, bad_line, reading_by_rules}
use Rattle.lines.specs.TextLaws.{line_within}
use Rattle.lines.specs.ReadLaws.{numbers_of_text, numbers_spelt}

-- a record's text reads as the record
pub read_of_text : (ns : List ℕ) → IsRecord ns → read_record (line_text ns) ≡ good_line ns
unfolding read_record
read_of_text ns is = ap reading_of (rw is.seven at (numbers_of_text ns is.numbers))

-- a line that is read is the text of the record that it gives: one spelling
pub record IsTextOf (line : List ℕ) (ns : List ℕ) : Type 0 where
  pub is_record : IsRecord ns
  pub spelling : line ≡ line_text ns

spelt_is_text : (line : List ℕ) (r : NumbersRead) → read_numbers record_count line ≡ r → (reading_of r).answer ≡ 0 →
    IsTextOf line (reading_of r).numbers
spelt_is_text line (the_numbers ns) e zero =
    let spelt = numbers_spelt record_count line ns e in
    record { is_record = record { seven = spelt.counted; numbers = spelt.numbers }; spelling = spelt.spelling }
spelt_is_text line no_numbers e never = absurd (omega arith)

pub text_of_read : (line : List ℕ) → (read_record line).answer ≡ 0 → IsTextOf line (read_record line).numbers
unfolding read_record
text_of_read line good = spelt_is_text line (read_numbers record_count line) refl good

-- reading answers 0, or 8 with seven zeros
pub answers : (line : List ℕ) → ((read_record line).answer ≡ 0) ⊎ (read_record line ≡ bad_line)
unfolding read_record
answers line = either (read_numbers record_count line)
  where
    either : (r : NumbersRead) → ((reading_of r).answer ≡ 0) ⊎ (reading_of r ≡ bad_line)
    either (the_numbers ns) = inl refl
    either no_numbers = inr refl

-- 8 exactly if the line is the text of no record
pub answers_8_exactly_if : (line : List ℕ) → ((read_record line).answer ≡ 8) ↔ ((ns : List ℕ) → ¬ IsTextOf line ns)
answers_8_exactly_if line = (
  λ eight ns text. omega (arith, ap (λ (r : Reading). r.answer) (ap read_record text.spelling ∙ read_of_text ns text.is_record)),
  λ none. ⊎_elim (λ good. absurd (none _ (text_of_read line good))) (ap (λ (r : Reading). r.answer)) (answers line),
)

-- a record's line is at most 147 bytes
pub no_record_is_longer : (ns : List ℕ) → IsRecord ns → length (line_text ns) ≤ longest_record
no_record_is_longer ns is = omega (arith, line_within ns, is.seven)

-- a longer line gets 8
pub longer_is_bad : (line : List ℕ) → longest_record < length line → read_record line ≡ bad_line
longer_is_bad line long =
    ⊎_elim (λ good. absurd (too_long (text_of_read line good))) (λ bad. bad) (answers line)
  where
    too_long : IsTextOf line (read_record line).numbers → ⊥
    too_long text = omega (arith, no_record_is_longer (read_record line).numbers text.is_record, ap length text.spelling)

-- two records with one text are one
pub line_text_injective : (ns ms : List ℕ) → IsRecord ns → IsRecord ms → line_text ns ≡ line_text ms → ns ≡ ms
line_text_injective ns ms is also e =
    ap (λ (r : Reading). r.numbers) (sym (read_of_text ns is) ∙ ap read_record e ∙ read_of_text ms also)

-- two results of reading that the rules call the same are one
pub reading_tells_result : (x y : Result (List ℕ) BadLine) → reading_by_rules x ≡ reading_by_rules y → x ≡ y
reading_tells_result (Ok ns) (Ok ms) e = ap (λ (r : Reading). Ok r.numbers) e
reading_tells_result (Ok ns) (Err e') e = absurd (omega (arith, ap (λ (r : Reading). r.answer) e))
reading_tells_result (Err e') (Ok ns) e = absurd (omega (arith, ap (λ (r : Reading). r.answer) e))
reading_tells_result (Err d) (Err e') e = refl
