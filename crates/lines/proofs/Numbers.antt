-- How reading a line's numbers goes on or stops after a number, with the numbers read so far.
-- Relies on Read. Cited by the proof of read_numbers.
use Rattle.std.proofs.Common.{ℕ, suc, ◌+◌, ◌-◌, ◌<◌, ◌≤◌, ◌≡◌, refl, ap, sym, ◌∙◌, List, [], ◌∷◌, ◌++◌, append_assoc, append-nil, add-one, arith, length, take, set, length-set, take-suc-set, take_all, eq-eqb, ne_eqb}
use Rattle.lines.specs.Text.{end_byte}
use Rattle.lines.specs.Read.{NumberRead, a_number, no_number, NumbersRead, the_numbers, no_numbers, read_number, before, then_end, read_numbers}

-- the numbers read so far and those still read
abbrev joined : List ℕ → NumbersRead → NumbersRead
joined front (the_numbers ns) = the_numbers (front ++ ns)
joined front no_numbers = no_numbers

joined_before : (ns : List ℕ) (i v : ℕ) (r : NumbersRead) → i < length ns →
    joined (take i ns) (before v r) ≡ joined (take (i + 1) (set ns i v)) r
joined_before ns i v (the_numbers ms) h = rw (add-one, take-suc-set ns i v h, append_assoc)
joined_before ns i v no_numbers h = refl

-- the numbers before i, with the `left` numbers that are read from `bytes`, are what the whole line gives
pub record ReadSoFar (line : List ℕ) (count i left : ℕ) (ns bytes : List ℕ) : Type 0 where
  pub counted : length ns ≡ count
  pub places : i + left ≡ count
  pub whole : joined (take i ns) (read_numbers left bytes) ≡ read_numbers count line

module _ (line : List ℕ) (count i left : ℕ) (ns bytes : List ℕ) (so_far : ReadSoFar line count i left ns bytes) where
  stops : read_numbers left bytes ≡ no_numbers → read_numbers count line ≡ no_numbers
  stops e = sym so_far.whole ∙ ap (joined (take i ns)) e

  module _ (more : i < count) where
    turn : (n : NumberRead) → read_number bytes ≡ n →
        read_numbers left bytes ≡ then_end (end_byte (left - 1)) (read_numbers (left - 1)) n
    unfolding read_numbers
    turn n e =
        let one_more : left ≡ suc (left - 1) = omega (arith, so_far.places) in
        ap (λ (k : ℕ). read_numbers k bytes) one_more
        ∙ ap (then_end (end_byte (left - 1)) (read_numbers (left - 1))) e

    pub bad_number : read_number bytes ≡ no_number → read_numbers count line ≡ no_numbers
    bad_number e = stops (turn no_number e)

    module _ (v : ℕ) (after : List ℕ) (read : read_number bytes ≡ a_number v after) where
      pub no_end : length after ≡ 0 → read_numbers count line ≡ no_numbers
      no_end none = stops (turn (a_number v after) read ∙ at_none after none)
        where
          at_none : (rest : List ℕ) → length rest ≡ 0 → then_end (end_byte (left - 1)) (read_numbers (left - 1)) (a_number v rest) ≡ no_numbers
          at_none [] h = refl
          at_none (b ∷ bs) h = absurd (omega arith)

      module _ (end : ℕ) (rest : List ℕ) (first : after ≡ end ∷ rest) where
        at_end : read_numbers left bytes ≡ then_end (end_byte (left - 1)) (read_numbers (left - 1)) (a_number v (end ∷ rest))
        at_end = turn _ (read ∙ ap (a_number v) first)

        pub other_end : (end ≡ end_byte (left - 1) → ⊥) → read_numbers count line ≡ no_numbers
        other_end other = stops (at_end ∙ simp (ne_eqb _ _ other))

        pub number_is_read : end ≡ end_byte (left - 1) → ReadSoFar line count (i + 1) (left - 1) (set ns i v) rest
        number_is_read right =
            let goes_on : read_numbers left bytes ≡ before v (read_numbers (left - 1) rest) = at_end ∙ simp (eq-eqb _ _ right) in
            record {
              counted = length-set ns i v ∙ so_far.counted;
              places = omega (arith, so_far.places);
              whole =
                  sym (joined_before ns i v (read_numbers (left - 1) rest) (omega (arith, so_far.counted)))
                  ∙ sym (ap (joined (take i ns)) goes_on)
                  ∙ so_far.whole;
            }

  -- after the last number the line is at its end, or it is no line
  module _ (last : count ≤ i) where
    none_left : left ≡ 0
    none_left = omega (arith, so_far.places)

    pub all_read : length bytes ≡ 0 → read_numbers count line ≡ the_numbers ns
    unfolding read_numbers
    all_read none = sym so_far.whole ∙ rw (none_left, take_all i ns (omega (arith, so_far.counted))) (at_none bytes none)
      where
        at_none : (bs : List ℕ) → length bs ≡ 0 → joined ns (read_numbers 0 bs) ≡ the_numbers ns
        at_none [] h = rw append-nil
        at_none (b ∷ bs) h = absurd (omega arith)

    pub bytes_left : 0 < length bytes → read_numbers count line ≡ no_numbers
    unfolding read_numbers
    bytes_left some = stops (rw none_left (at_some bytes some))
      where
        at_some : (bs : List ℕ) → 0 < length bs → read_numbers 0 bs ≡ no_numbers
        at_some [] h = absurd (omega arith)
        at_some (b ∷ bs) h = refl
