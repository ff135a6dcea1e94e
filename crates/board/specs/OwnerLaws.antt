-- Laws of a link's owner: it never changes, a link without one is free, and an entry changes only by a claim or by the owner's command.
-- Relies on BoardLaws and PrefixLaws. Cited by the promises about any two known prefixes that one run shows.
use Rattle.std.specs.Prelude.{ℕ, zero, suc, ◌+◌, ◌≤◌, ◌<◌, ◌≡◌, refl, length, get_or, take}
use Rattle.std.proofs.Common.{sym, ap, ◌∙◌, inl, inr, add-zero, add-suc, arith, length-append, take_all, take-suc}
use mathlib.Core.List.{List, [], ◌∷◌, IsPrefix}
use Rattle.std.proofs.Math.Seq.{take-append_seam}
use Rattle.board.specs.declared.Entry.{Entry}
use Rattle.board.specs.Command.{command_of}
use Rattle.board.specs.Board.{free, applied, applied_all, known_prefix, entry_of, Link, board_of}
use Rattle.board.specs.BoardLaws.{answered, ClaimsOrRevises, stays, claims, revises, claim_or_revision_changes, effect, owner_stays}
use Rattle.board.specs.PrefixLaws.{entry_of_longer, unowned_entry_is_free}

-- ---- an owner, and none

-- "three zeros when free": the board's answer without an owner
pub unowned_is_free : (table : List ℕ) (link : ℕ) (e : Entry) → board_of table link ≡ Link e → e.owner ≡ 0 → e ≡ free
unowned_is_free table link e answer unowned =
    let known = answered table link e answer in
    known ∙ unowned_entry_is_free (known_prefix table) link (sym (ap (λ (x : Entry). x.owner) known) ∙ unowned)

-- no commands change the owner of an owned link
pub commands_keep_owner :
    (e : Entry) (link : ℕ) (values : List ℕ) → (e.owner ≡ 0 → ⊥) → (applied_all e link values).owner ≡ e.owner
commands_keep_owner e link [] owned = refl
commands_keep_owner e link (v ∷ vs) owned =
    let kept = owner_stays e link (command_of v) owned in
    commands_keep_owner (applied e link v) link vs (λ none. owned (sym kept ∙ none)) ∙ kept

-- the owner that a prefix shows stands in every longer one
pub owner_stays_along_prefix :
    (p q : List ℕ) (link : ℕ) → IsPrefix p q → ((entry_of p link).owner ≡ 0 → ⊥) → (entry_of q link).owner ≡ (entry_of p link).owner
owner_stays_along_prefix p q link h owned =
    ap (λ (x : Entry). x.owner) (entry_of_longer p q link h) ∙ commands_keep_owner (entry_of p link) link h.0 owned

-- ---- where an entry changes

-- the first k + 1 values make what the command in place k makes of what the first k make
pub entry_of_one_more :
    (q : List ℕ) (link k : ℕ) → k < length q → entry_of (take (suc k) q) link ≡ applied (entry_of (take k q) link) link (get_or q k 0)
entry_of_one_more q link k below = entry_of_longer (take k q) (take (suc k) q) link (get_or q k 0 ∷ [], sym (take-suc q k 0 below))

-- past the shorter prefix p and within the longer q, the slot whose command changes the link's entry: it claims a free link,
-- or it is the owner's, naming its present revision below 255
pub record ChangesAt (p q : List ℕ) (link : ℕ) : Type 0 where
  pub slot : ℕ
  pub past_shorter : length p ≤ slot
  pub within_longer : slot < length q
  pub claims_or_revises : ClaimsOrRevises (entry_of (take slot q) link) link (command_of (get_or q slot 0))
  pub changes_entry : entry_of (take (suc slot) q) link ≡ entry_of (take slot q) link → ⊥

-- an entry that `more` commands past p have changed has such a slot
changes_among :
    (p q : List ℕ) (link more : ℕ) → length p + more ≤ length q →
    (entry_of (take (length p + more) q) link ≡ entry_of (take (length p) q) link → ⊥) → ChangesAt p q link
changes_among p q link zero within differs = absurd (differs (ap (λ (k : ℕ). entry_of (take k q) link) (add-zero (length p))))
changes_among p q link (suc more) within differs =
    elim (effect (entry_of (take k q) link) link (command_of (get_or q k 0))) [
      | stays same ↦
          changes_among p q link more (omega arith)
          (λ before. differs (ap (λ (n : ℕ). entry_of (take n q) link) (add-suc (length p) more) ∙ made ∙ same ∙ before))
      | claims h becomes ↦ here (inl h)
      | revises h becomes ↦ here (inr h)
    ]
  where
    k : ℕ
    k = length p + more

    made : entry_of (take (suc k) q) link ≡ applied (entry_of (take k q) link) link (get_or q k 0)
    made = entry_of_one_more q link k (omega arith)

    here : ClaimsOrRevises (entry_of (take k q) link) link (command_of (get_or q k 0)) → ChangesAt p q link
    here h =
        record {
          slot = k;
          past_shorter = omega arith;
          within_longer = omega arith;
          claims_or_revises = h;
          changes_entry = λ same. claim_or_revision_changes (entry_of (take k q) link) link (command_of (get_or q k 0)) h (sym made ∙ same);
        }

-- "all else no effect": where a longer prefix makes another entry, one of its further commands is a claim or the owner's
pub entry_changes_at_a_slot : (p q : List ℕ) (link : ℕ) → IsPrefix p q → (entry_of q link ≡ entry_of p link → ⊥) → ChangesAt p q link
entry_changes_at_a_slot p q link h differs =
    let whole : length p + length h.0 ≡ length q = sym (length-append p h.0) ∙ ap length h.1 in
    let all : take (length p + length h.0) q ≡ q = take_all (length p + length h.0) q (omega (arith, whole)) in
    let shorter : take (length p) q ≡ p = rw (← h.1) (take-append_seam p h.0) in
    changes_among p q link (length h.0) (omega (arith, whole)) (rw (all, shorter) differs)
