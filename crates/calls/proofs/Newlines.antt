-- How long the first line is by the place of the first newline, and which place the kit's search finds.
-- Relies on specs/FirstLine and on memchr. Cited by the proof of line_length.
use Rattle.std.specs.Prelude.{ℕ, zero, suc, ◌+◌, ◌≡◌, refl, Bool, true, false, ◌<◌, ◌≤◌, List, [], ◌∷◌, Option, Some, None, not, eqb, ltb, length, position, if◌then◌else◌}
use Prim.Native.Nat.compare
use Rattle.std.specs.List.{position_or_len}
use Rattle.std.specs.Option.{option_map}
use Rattle.std.proofs.Common.{add-one, one-add, sym, ap, ◌∙◌, arith, lt-ltb}
use Rattle.std.proofs.lemmas.Bool.{le-ltb, false_from_ne_true}
use Rattle.std.proofs.lemmas.List.Sums.{position_or_len_is}
use Rattle.memchr.specs.Find.{Nowhere, Passes, IsFirstByte, is_byte}
use Rattle.lines.specs.Text.{newline}
use Rattle.calls.specs.UnlessZero.{unless_zero}
use Rattle.calls.specs.FirstLine.{longer, line_length}

-- the place of the first newline
abbrev newline_at : List ℕ → Option ℕ
newline_at bytes = position (λ b. eqb b newline) bytes

one_longer : (n : ℕ) → unless_zero (longer n) ≡ option_map suc (unless_zero n)
one_longer zero = refl
one_longer (suc n) = refl

one_later : (k n : ℕ) → option_map suc (option_map suc (if ltb k n then Some k else None)) ≡ option_map suc (if ltb (suc k) (suc n) then Some (suc k) else None)
one_later k n = rw same (by_found (ltb k n))
  where
    same : ltb (suc k) (suc n) ≡ ltb k n
    same = rw compare.suc-suc

    by_found : (found : Bool) → option_map suc (option_map suc (if found then Some k else None)) ≡ option_map suc (if found then Some (suc k) else None)
    by_found true = refl
    by_found false = refl

by_place : (bytes : List ℕ) → unless_zero (line_length bytes) ≡ option_map suc (newline_at bytes)
unfolding line_length
by_place [] = refl
by_place (b ∷ bs) = by_first (by_place bs) (eqb b newline)
  where
    place : ℕ
    place = position_or_len (λ b. eqb b newline) bs

    by_first :
        unless_zero (line_length bs) ≡ option_map suc (newline_at bs) → (first : Bool) →
        unless_zero (if first then 1 else longer (line_length bs))
        ≡ option_map suc (if ltb (if not first then 1 + place else 0) (suc (length bs)) then Some (if not first then 1 + place else 0) else None)
    by_first later true = rw (lt-ltb 0 (suc (length bs)) (omega arith))
    by_first later false = one_longer (line_length bs) ∙ ap (option_map suc) later ∙ rw one-add (one_later place (length bs))

-- no byte before k is a newline, and the one at k is, where there is one
place_is :
    (bytes : List ℕ) (k : ℕ) → k ≤ length bytes → Nowhere (Passes (is_byte newline) bytes) 0 k →
    (k < length bytes → Passes (is_byte newline) bytes k) → position_or_len (λ b. eqb b newline) bytes ≡ k
place_is bytes k within before here =
    position_or_len_is (λ b. eqb b newline) bytes k 0 within (λ j below. false_from_ne_true _ (before j (omega arith) below)) here

first_is_position : (bytes : List ℕ) (r : Option ℕ) → IsFirstByte (is_byte newline) bytes r → r ≡ newline_at bytes
first_is_position bytes None none =
    rw (place_is bytes (length bytes) (omega arith) none (λ below. absurd (omega (arith, below))), le-ltb (length bytes) (length bytes) (omega arith))
first_is_position bytes (Some k) first = rw (place_is bytes k (omega (arith, first.0.high)) first.0.before (λ below. first.1), lt-ltb k (length bytes) first.0.high)

module _ (bytes : List ℕ) where
  pub ends_at : (end : ℕ) → IsFirstByte (is_byte newline) bytes (Some end) → Some (end + 1) ≡ unless_zero (line_length bytes)
  ends_at end first = sym (by_place bytes ∙ ap (option_map suc) (sym (first_is_position bytes (Some end) first)) ∙ ap Some (sym (add-one end)))

  pub no_end : IsFirstByte (is_byte newline) bytes None → None ≡ unless_zero (line_length bytes)
  no_end none = sym (by_place bytes ∙ ap (option_map suc) (sym (first_is_position bytes None none)))

  pub end_within : (end : ℕ) → IsFirstByte (is_byte newline) bytes (Some end) → end < length bytes
  end_within end first = first.0.high
