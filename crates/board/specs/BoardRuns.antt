-- The board over runs: what any two boxes know at any two times agrees, so a link's revision has one ticket, a link's owner never
-- changes, and its entry changes only by a claim or by the owner's command.
-- Relies on the promises of runs and on the laws of prefixes and owners. For the reader: nothing cites it.
use Rattle.std.specs.Prelude.{ℕ, ◌<◌, ◌≡◌, true, ◌⊎◌, get_or}
use Rattle.std.proofs.Common.{sym, ◌∙◌, inl, inr, lt-ltb}
use mathlib.Core.List.{List, IsPrefix}
use Rattle.consensus.specs.Room.{agreed}
use Rattle.consensus.specs.Layout.{slots, room_at}
use Rattle.consensus.specs.Step.{table_ok, agreed_at, step}
use Rattle.agreement.specs.Runs.{World, start, Run}
use Rattle.agreement.specs.Runs.Keeps.{reachable_kept, run_keeps}
use Rattle.agreement.specs.Promises.{Count}
use Rattle.agreement.proofs.Promises.{step_keeps_promises}
use Rattle.board.specs.declared.Entry.{Entry}
use Rattle.board.specs.Board.{known_prefix, entry_of, Link, board_of}
use Rattle.board.specs.BoardLaws.{answered}
use Rattle.board.specs.RunLaws.{known_value_is_agreed}
use Rattle.board.specs.PrefixLaws.{AgreeAlike, prefixes_agree, revision_has_one_entry}
use Rattle.board.specs.OwnerLaws.{owner_stays_along_prefix, ChangesAt, entry_changes_at_a_slot}

-- in a good table a slot's agreed value is what it says
agreed_at_says : (t : List ℕ) (s : ℕ) → table_ok t ≡ true → s < slots → agreed_at t s ≡ agreed (room_at t s)
unfolding agreed_at
agreed_at_says t s good below = simp (good, lt-ltb s slots below)

-- table t knows more than the prefix p, and the command that it has agreed in a slot past p changes the link's entry
pub record AgreedChange (p t : List ℕ) (link : ℕ) : Type 0 where
  pub knows_more : IsPrefix p (known_prefix t)
  pub change : ChangesAt p (known_prefix t) link
  pub is_agreed : get_or (known_prefix t) change.slot 0 ≡ agreed_at t change.slot

-- the slot where the entry changes is one that t has agreed
agreed_change :
    (p t : List ℕ) (link : ℕ) → IsPrefix p (known_prefix t) → (entry_of (known_prefix t) link ≡ entry_of p link → ⊥) → AgreedChange p t link
agreed_change p t link h differs =
    let found = entry_changes_at_a_slot p (known_prefix t) link h differs in
    record { knows_more = h; change = found; is_agreed = known_value_is_agreed (agreed_at t) found.slot found.within_longer }

module _ (n : ℕ) (w u : World) (i j : ℕ) (count : Count n) (first : Run step n (start n) w) (later : Run step n w u) (box : i < n) (box' : j < n) where
  agree_alike : AgreeAlike (agreed_at (w.tables i)) (agreed_at (u.tables j))
  agree_alike s below some some' =
      let kept = reachable_kept n w count.some count.few first in
      let here = agreed_at_says (w.tables i) s (kept.boxes_kept i box).good_table below in
      let there = agreed_at_says (u.tables j) s ((run_keeps n w u kept later).boxes_kept j box').good_table below in
      here
      ∙ step_keeps_promises.one_value n w u i j s count first later box box' below (λ none. some (here ∙ none)) (λ none. some' (there ∙ none))
      ∙ sym there

  -- "Any two prefixes seen in one run agree as far as the shorter goes"
  pub known_prefixes_agree :
      IsPrefix (known_prefix (w.tables i)) (known_prefix (u.tables j)) ⊎ IsPrefix (known_prefix (u.tables j)) (known_prefix (w.tables i))
  known_prefixes_agree = prefixes_agree (agreed_at (w.tables i)) (agreed_at (u.tables j)) agree_alike

  -- "so a link's revision never has two tickets", nor two owners
  pub revision_has_one_ticket :
      (link : ℕ) →
      (entry_of (known_prefix (w.tables i)) link).revision ≡ (entry_of (known_prefix (u.tables j)) link).revision →
      entry_of (known_prefix (w.tables i)) link ≡ entry_of (known_prefix (u.tables j)) link
  revision_has_one_ticket link = revision_has_one_entry (agreed_at (w.tables i)) (agreed_at (u.tables j)) link agree_alike

  -- a link that both show owned has one owner
  pub owner_never_changes :
      (link : ℕ) →
      ((entry_of (known_prefix (w.tables i)) link).owner ≡ 0 → ⊥) → ((entry_of (known_prefix (u.tables j)) link).owner ≡ 0 → ⊥) →
      (entry_of (known_prefix (w.tables i)) link).owner ≡ (entry_of (known_prefix (u.tables j)) link).owner
  owner_never_changes link owned owned' =
      elim known_prefixes_agree [
        | inl h ↦ sym (owner_stays_along_prefix (known_prefix (w.tables i)) (known_prefix (u.tables j)) link h owned)
        | inr h ↦ owner_stays_along_prefix (known_prefix (u.tables j)) (known_prefix (w.tables i)) link h owned'
      ]

  -- "all else no effect": where two entries of a link differ, one box knows more than the other, and a command that it has
  -- agreed there claims the link or is its owner's
  pub entry_changes_only_by_owner :
      (link : ℕ) → (entry_of (known_prefix (w.tables i)) link ≡ entry_of (known_prefix (u.tables j)) link → ⊥) →
      AgreedChange (known_prefix (w.tables i)) (u.tables j) link ⊎ AgreedChange (known_prefix (u.tables j)) (w.tables i) link
  entry_changes_only_by_owner link differs =
      elim known_prefixes_agree [
        | inl h ↦ inl (agreed_change (known_prefix (w.tables i)) (u.tables j) link h (λ same. differs (sym same)))
        | inr h ↦ inr (agreed_change (known_prefix (u.tables j)) (w.tables i) link h differs)
      ]

-- ---- the same of the board's answers

module _ (n : ℕ) (w u : World) (i j link : ℕ) (e e' : Entry)
    (count : Count n) (first : Run step n (start n) w) (later : Run step n w u) (box : i < n) (box' : j < n)
    (here : board_of (w.tables i) link ≡ Link e) (there : board_of (u.tables j) link ≡ Link e') where
  known : e ≡ entry_of (known_prefix (w.tables i)) link
  known = answered (w.tables i) link e here

  known' : e' ≡ entry_of (known_prefix (u.tables j)) link
  known' = answered (u.tables j) link e' there

  -- "a link's revision never has two tickets"
  pub answers_agree : e.revision ≡ e'.revision → e ≡ e'
  answers_agree = rw (known, known') (revision_has_one_ticket n w u i j count first later box box' link)

  -- two answers that name an owner name the same one
  pub answered_owner_never_changes : (e.owner ≡ 0 → ⊥) → (e'.owner ≡ 0 → ⊥) → e.owner ≡ e'.owner
  answered_owner_never_changes = rw (known, known') (owner_never_changes n w u i j count first later box box' link)

  -- two answers differ only by a claim or by the owner's command, which the box that knows more has agreed
  pub answered_entry_changes_only_by_owner :
      (e ≡ e' → ⊥) →
      AgreedChange (known_prefix (w.tables i)) (u.tables j) link ⊎ AgreedChange (known_prefix (u.tables j)) (w.tables i) link
  answered_entry_changes_only_by_owner = rw (known, known') (entry_changes_only_by_owner n w u i j count first later box box' link)
