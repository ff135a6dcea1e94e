-- How the text of a line goes on with the number at i, and how its end grows by the number before it.
-- Relies on Text. Cited by the proofs of measure and put_line.
use Rattle.std.proofs.Common.{ℕ, suc, ◌+◌, ◌-◌, ◌<◌, ◌≤◌, ◌≡◌, ap, sym, ◌∙◌, List, [], ◌∷◌, ◌++◌, append_assoc, append-nil, add-one, arith, length, drop, get_or, set, length-append, drop_of_length-le, drop-cons}
use Rattle.std.proofs.lemmas.List.{drop-set, nil_from_length}
use Rattle.lines.specs.Text.{number_text, line_text, end_byte}

module _ (ns : List ℕ) (i : ℕ) where
  pub line_done : length ns ≤ i → line_text (drop i ns) ≡ []
  unfolding line_text
  line_done h = rw (drop_of_length-le ns h)

  pub length_from : i < length ns →
      length (line_text (drop i ns)) ≡ length (number_text (get_or ns i 0)) + 1 + length (line_text (drop (i + 1) ns))
  unfolding line_text
  length_from h = rw (add-one i, drop-cons ns i 0) (simp length-append (omega arith))

-- one more number makes a line longer by its text and one byte, whichever ends it
pub longer_by : (front : List ℕ) (n : ℕ) → length (line_text (front ++ n ∷ [])) ≡ length (line_text front) + length (number_text n) + 1
unfolding line_text
longer_by [] n = simp length-append (omega arith)
longer_by (m ∷ front) n = simp length-append (omega (arith, longer_by front n))

-- of the line of ns the numbers behind `front` stand in the buffer from `at` on, with what was behind the line, and before `at` is just the room for `front`
pub record PutBack (ns out₀ front : List ℕ) (count at : ℕ) (out : List ℕ) : Type 0 where
  pub back : List ℕ
  pub parts : ns ≡ front ++ back
  pub counted : count ≡ length back
  pub place : at ≡ length (line_text front)
  pub room : at ≤ length out
  pub put : drop at out ≡ line_text back ++ drop (length (line_text ns)) out₀

module _ (ns out₀ front : List ℕ) (count at : ℕ) where
  pub none_put : front ≡ ns → count ≡ 0 → at ≡ length (line_text ns) → at ≤ length out₀ → PutBack ns out₀ front count at out₀
  unfolding line_text
  none_put all none end room =
      record { back = []; parts = sym all ∙ sym (append-nil front); counted = none; place = end ∙ rw all; room = room; put = rw end }

  module _ (out : List ℕ) (so_far : PutBack ns out₀ front count at out) where
    pub all_put : length front ≡ 0 → out ≡ line_text ns ++ drop (length (line_text ns)) out₀
    unfolding line_text
    all_put none =
        let nothing : front ≡ [] = nil_from_length front none in
        let first : at ≡ 0 = so_far.place ∙ ap (λ (s : List ℕ). length (line_text s)) nothing in
        let whole : ns ≡ so_far.back = so_far.parts ∙ rw nothing in
        (rw first at so_far.put) ∙ rw (← whole)

    pub one_put : (n : ℕ) (others : List ℕ) (b place : ℕ) (put : List ℕ) → front ≡ others ++ n ∷ [] → b ≡ end_byte count →
        place + length (number_text n) ≡ at - 1 → drop place put ≡ number_text n ++ drop (at - 1) (set out (at - 1) b) →
        length put ≡ length out → PutBack ns out₀ others (count + 1) place put
    unfolding line_text
    one_put n others b place put last end start put_so same =
        let longer : at ≡ length (line_text others) + length (number_text n) + 1 = so_far.place ∙ rw last (longer_by others n) in
        let next : at - 1 + 1 ≡ at = omega arith in
        record {
          back = n ∷ so_far.back;
          parts = so_far.parts ∙ rw (last, append_assoc);
          counted = rw add-one (ap suc so_far.counted);
          place = omega arith;
          room = omega (arith, so_far.room);
          put = put_so ∙ rw (drop-set out (at - 1) b (omega (arith, so_far.room)), next, so_far.put, end, so_far.counted, append_assoc);
        }
