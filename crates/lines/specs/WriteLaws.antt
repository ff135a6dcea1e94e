-- What the answer of a write tells: of the buffer, 0 where it holds the line, 9 where it does not; and which result it is.
-- Relies on Write. For whoever writes lines.
use Rattle.std.specs.Prelude.{ℕ, ◌≤◌, ◌≡◌, refl, List, Bool, true, false, cond, length, Result, Ok, Err}
use Rattle.std.proofs.Common.{ap, arith, ltb-false}
use Rattle.lines.specs.declared.error.ShortBuffer.{ShortBuffer}
use Rattle.lines.specs.ByTest.{by_test}
use Rattle.lines.specs.Text.{line_text}
use Rattle.lines.specs.Write.{Written, too_short, no_write, a_write, written_record, written_by_rules}

module _ (ns buffer : List ℕ) (w : Written) (is : w ≡ written_record ns buffer) where
  pub written_fits : w.answer ≡ 0 → too_short ns buffer ≡ false
  written_fits zero = by_outcome (too_short ns buffer) is
    where
      by_outcome : (t : Bool) → w ≡ cond t no_write (a_write (length (line_text ns))) → t ≡ false
      by_outcome true e = absurd (omega (arith, ap (λ (x : Written). x.answer) e))
      by_outcome false e = refl

  pub refused_is_short : (w.answer ≡ 0 → ⊥) → too_short ns buffer ≡ true
  refused_is_short other = by_outcome (too_short ns buffer) is
    where
      by_outcome : (t : Bool) → w ≡ cond t no_write (a_write (length (line_text ns))) → t ≡ true
      by_outcome true e = refl
      by_outcome false e = absurd (other (ap (λ (x : Written). x.answer) e))

pub line_fits : (ns buffer : List ℕ) → too_short ns buffer ≡ false → length (line_text ns) ≤ length buffer
line_fits ns buffer e = ltb-false (length buffer) (length (line_text ns)) e

-- what is written is within the buffer
pub written_within : (ns buffer : List ℕ) → (written_record ns buffer).length ≤ length buffer
written_within ns buffer =
    by_test (λ (w : Written). w.length ≤ length buffer) (too_short ns buffer) no_write (a_write (length (line_text ns)))
    (λ _. omega arith) (line_fits ns buffer)

-- two results of a write that the rules call the same are one
pub written_tells_result : (x y : Result ℕ ShortBuffer) → written_by_rules x ≡ written_by_rules y → x ≡ y
written_tells_result (Ok m) (Ok n) e = ap (λ (w : Written). Ok w.length) e
written_tells_result (Ok n) (Err e') e = absurd (omega (arith, ap (λ (w : Written). w.answer) e))
written_tells_result (Err e') (Ok n) e = absurd (omega (arith, ap (λ (w : Written). w.answer) e))
written_tells_result (Err d) (Err e') e = refl
