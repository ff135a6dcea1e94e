-- How the tables become fresh one after the other.
-- Relies on the laws of the tables. Cited by the proof of fresh_tables.
use Prim.Native.Nat.{ℕ, ◌+◌, ◌*◌, ◌≤◌, ◌<◌}
use mathlib.Core.Path.{◌≡◌, refl, ap, sym, ◌∙◌}
use mathlib.Core.List.{List, ◌++◌, append_assoc}
use native.Mathlib.Numerals.{add-one}
use native.Mathlib.Omega.{arith}
use lib.ListN.{length, take, drop, length-append, length-drop}
use lib.Seq.{length-take-le, take_all, take_at}
use Rattle.ballots.specs.Ballot.{max_boxes}
use Rattle.consensus.specs.Layout.{table_size, fresh}
use Rattle.calls.specs.Tables.{table_start, fresh_first}
use Rattle.calls.specs.TablesLaws.{TablesParts, fresh_long}

-- the tables of the boxes below i are fresh
pub record FreshSoFar (boxes : ℕ) (tables₀ : List ℕ) (i : ℕ) (tables : List ℕ) : Type 0 where
  pub few : boxes ≤ max_boxes
  pub within : i ≤ boxes
  pub long : length tables₀ ≡ boxes * table_size
  pub same_length : length tables ≡ length tables₀
  pub front : take (table_start i) tables ≡ fresh_first boxes i

module _ (boxes : ℕ) (tables₀ : List ℕ) where
  pub none_fresh : TablesParts boxes tables₀ → FreshSoFar boxes tables₀ 0 tables₀
  unfolding fresh_first
  none_fresh parts = record { few = parts.few_boxes; within = omega arith; long = parts.long; same_length = refl; front = refl }

  module _ (i : ℕ) (tables : List ℕ) (so_far : FreshSoFar boxes tables₀ i tables) where
    pub one_more_fresh : i < boxes → (count : ℕ) → count ≡ table_size → (t : List ℕ) → t ≡ fresh boxes i →
        FreshSoFar boxes tables₀ (i + 1) (take (table_start i) tables ++ (t ++ drop count (drop (table_start i) tables)))
    unfolding fresh_first
    one_more_fresh more count all t is =
        let front_long : length (take (table_start i) tables) ≡ table_start i = length-take-le (table_start i) tables (omega (arith, so_far.long, so_far.same_length)) in
        let t_long : length t ≡ table_size = ap length is ∙ fresh_long boxes i in
        let seam : length (take (table_start i) tables ++ t) ≡ table_start (i + 1) = simp length-append (omega arith) in
        let rest : List ℕ = drop count (drop (table_start i) tables) in
        let cut : take (table_start (i + 1)) (take (table_start i) tables ++ (t ++ rest)) ≡ take (table_start i) tables ++ t =
        rw (← append_assoc) (take_at (take (table_start i) tables ++ t) rest (table_start (i + 1)) seam) in
        record {
          few = so_far.few;
          within = omega arith;
          long = so_far.long;
          same_length = simp (length-append, length-drop) (omega (arith, so_far.long, so_far.same_length));
          front = cut ∙ rw (so_far.front, is, add-one);
        }

    pub all_fresh : boxes ≤ i → tables ≡ fresh_first boxes boxes
    all_fresh done =
        let last : i ≡ boxes = omega (arith, so_far.within) in
        sym (take_all (table_start i) tables (omega (arith, so_far.long, so_far.same_length))) ∙ so_far.front ∙ ap (fresh_first boxes) last
