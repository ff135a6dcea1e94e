-- What a good place for the tables tells; how long fresh tables are, and that each box's is fresh.
-- Relies on Tables. Cited by the proofs, and for whoever starts from fresh tables.
use Rattle.std.specs.Prelude.{ℕ, zero, suc, ◌*◌, ◌≤◌, ◌<◌, ◌≡◌, refl, true, List, ◌++◌, length, drop}
use Rattle.std.proofs.Common.{◌∙◌, ⊎_elim, arith, length-append, length-drop, take_all, drop_at, eqb-true, leb-true}
use Rattle.std.proofs.Math.Bool.{and-eq-true_iff}
use Rattle.std.proofs.lemmas.List.{take-append-le, drop-append-le}
use Rattle.ballots.specs.Ballot.{max_boxes}
use Rattle.consensus.specs.Layout.{table_size, fresh}
use Rattle.lines.specs.ByTest.{lt_or_ge}
use Rattle.calls.specs.Tables.{tables_ok, table_start, table_of, fresh_first}

pub record TablesParts (boxes : ℕ) (tables : List ℕ) : Type 0 where
  pub some_boxes : 1 ≤ boxes
  pub few_boxes : boxes ≤ max_boxes
  pub long : length tables ≡ boxes * table_size

pub tables_parts : (boxes : ℕ) (tables : List ℕ) → tables_ok boxes tables ≡ true → TablesParts boxes tables
unfolding tables_ok
tables_parts boxes tables e =
    let a = (and-eq-true_iff _ _).0 e in
    let b = (and-eq-true_iff _ _).0 a.0 in
    record { some_boxes = leb-true _ _ b.0; few_boxes = leb-true _ _ b.1; long = eqb-true _ _ a.1 }

pub fresh_long : (boxes index : ℕ) → length (fresh boxes index) ≡ table_size
fresh_long boxes index = refl

pub fresh_length : (boxes k : ℕ) → length (fresh_first boxes k) ≡ k * table_size
unfolding fresh_first
fresh_length boxes zero = refl
fresh_length boxes (suc k) = length-append (fresh_first boxes k) (fresh boxes k) ∙ omega (arith, fresh_length boxes k, fresh_long boxes k)

module _ (boxes k : ℕ) where
  earlier_stays : (i : ℕ) → i < k → table_of (fresh_first boxes k ++ fresh boxes k) i ≡ table_of (fresh_first boxes k) i
  earlier_stays i h =
      let within : table_start i ≤ length (fresh_first boxes k) = omega (arith, fresh_length boxes k) in
      let room : table_size ≤ length (drop (table_start i) (fresh_first boxes k)) = simp length-drop (omega (arith, fresh_length boxes k)) in
      rw (
        drop-append-le (table_start i) (fresh_first boxes k) (fresh boxes k) within,
        take-append-le table_size (drop (table_start i) (fresh_first boxes k)) (fresh boxes k) room,
      )

  last_is_fresh : (i : ℕ) → i ≡ k → table_of (fresh_first boxes k ++ fresh boxes k) i ≡ fresh boxes i
  last_is_fresh i is =
      rw (is, drop_at (fresh_first boxes k) (fresh boxes k) (table_start k) (fresh_length boxes k))
      (take_all table_size (fresh boxes k) (omega (arith, fresh_long boxes k)))

-- each box's table is fresh
pub each_is_fresh : (boxes k i : ℕ) → i < k → table_of (fresh_first boxes k) i ≡ fresh boxes i
unfolding fresh_first
each_is_fresh boxes zero i below = absurd (omega arith)
each_is_fresh boxes (suc k) i below =
    ⊎_elim (λ h. earlier_stays boxes k i h ∙ each_is_fresh boxes k i h)
    (λ h. last_is_fresh boxes k i (omega arith)) (lt_or_ge i k)
