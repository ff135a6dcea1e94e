-- What a header tells: its length and the range of its N; the N of each header, and of any line.
-- Relies on Header. For whoever reads a header.
use Rattle.std.specs.Prelude.{ℕ, ◌≤◌, ◌≡◌, refl, true, List, [], ◌∷◌, map, length}
use Rattle.std.proofs.Math.Bool.{and-eq-true_iff}
use Rattle.std.proofs.Common.{arith, eqb-true, leb-true}
use Rattle.lines.specs.Text.{tab, newline, digit}
use Rattle.lines.specs.ByTest.{by_test}
use Rattle.calls.specs.Header.{header_length, boxes_byte, says_boxes, is_header, boxes_of}

pub record HeaderParts (line : List ℕ) : Type 0 where
  pub long : length line ≡ header_length
  pub from_one : digit 1 ≤ boxes_byte line
  pub to_seven : boxes_byte line ≤ digit 7

pub header_parts : (line : List ℕ) → is_header line ≡ true → HeaderParts line
unfolding is_header
header_parts line e =
    let a = (and-eq-true_iff _ _).0 e in
    let b = (and-eq-true_iff _ _).0 a.0 in
    let c = (and-eq-true_iff _ _).0 b.0 in
    let d = (and-eq-true_iff _ _).0 c.0 in
    let f = (and-eq-true_iff _ _).0 d.0 in
    record { long = eqb-true _ _ f.0; from_one = leb-true _ _ c.1; to_seven = leb-true _ _ b.1 }

-- the header of N boxes
abbrev pub header_text : ℕ → List ℕ
header_text n = 98 ∷ 111 ∷ 120 ∷ 101 ∷ 115 ∷ tab ∷ digit n ∷ newline ∷ []

-- N is 1 to 7: no header names 0 or 8 boxes
pub headers_name_their_boxes :
    map (λ n. boxes_of (header_text n)) (0 ∷ 1 ∷ 2 ∷ 3 ∷ 4 ∷ 5 ∷ 6 ∷ 7 ∷ 8 ∷ []) ≡ 0 ∷ 1 ∷ 2 ∷ 3 ∷ 4 ∷ 5 ∷ 6 ∷ 7 ∷ 0 ∷ []
unfolding boxes_of is_header says_boxes
headers_name_their_boxes = refl

-- a line names at most seven boxes
pub boxes_at_most_seven : (line : List ℕ) → boxes_of line ≤ 7
unfolding boxes_of
boxes_at_most_seven line =
    by_test (λ (n : ℕ). n ≤ 7) (is_header line) _ _ (λ e. omega (arith, (header_parts line e).to_seven)) (λ _. omega arith)
