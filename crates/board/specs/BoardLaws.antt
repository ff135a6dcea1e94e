-- Laws of the board: which answers occur and when, that an answer tells its result, and what a command can change.
-- Relies on Board. Cited by PrefixLaws, OwnerLaws and BoardRuns, and by whoever promises something of the board.
use Rattle.std.specs.Prelude.{ℕ, ◌+◌, ◌≤◌, ◌<◌, ◌≡◌, refl, Bool, true, false, not, List, Result, Ok, Err, ◌↔◌, ◌⊎◌, ltb, if◌then◌else◌}
use Rattle.std.proofs.Common.{sym, ap, ◌∙◌, true≢false, inl, inr, arith, lt_of_not-le}
use Rattle.std.proofs.lemmas.Bool.{false≢true}
use Rattle.std.proofs.Math.Bool.{and-false}
use Rattle.std.proofs.Math.Decide.{dec_le, ℕ_discrete}
use borrow.Author.Tests.{ltb-true, ltb-false, lt-ltb, le-ltb, eq-eqb, ne_eqb}
use Rattle.consensus.specs.Step.{table_ok}
use Rattle.step_laws.specs.ByTest.{by_answer}
use Rattle.board.specs.declared.Command.{Command}
use Rattle.board.specs.declared.Entry.{Entry}
use Rattle.board.specs.declared.refusal.BoardRefusal.{BoardRefusal}
use Rattle.board.specs.declared.refusal.BoardRefusal.TheVariants as refusal
use Rattle.board.specs.Board.{BoardAnswer, Link, BadTable, BadLink, last_link, last_revision, entry, claimed, revised, obeyed, known_prefix, entry_of, board_of, answer_of, answer_by_rules}

-- ---- which answers occur

pub answers_0_to_2 : (a : BoardAnswer) → answer_of a ≤ 2
answers_0_to_2 (Link e) = omega arith
answers_0_to_2 BadTable = omega arith
answers_0_to_2 BadLink = omega arith

-- the result of `board` that an answer tells
abbrev result_of : BoardAnswer → Result Entry BoardRefusal
result_of (Link e) = Ok e
result_of BadTable = Err refusal.BadTable
result_of BadLink = Err refusal.BadLink

told : (r : Result Entry BoardRefusal) → result_of (answer_by_rules r) ≡ r
told (Ok e) = refl
told (Err refusal.BadTable) = refl
told (Err refusal.BadLink) = refl

-- two results of `board` with one answer by the rules are one
pub answer_tells_result : (x y : Result Entry BoardRefusal) → answer_by_rules x ≡ answer_by_rules y → x ≡ y
answer_tells_result x y same = sym (told x) ∙ ap result_of same ∙ told y

-- what the board answers by its two tests
abbrev by_tests : Bool → Bool → Entry → BoardAnswer
by_tests ok above e = if not ok then BadTable else if above then BadLink else Link e

by_tests_1 : (ok above : Bool) (e : Entry) → (answer_of (by_tests ok above e) ≡ 1) ↔ (ok ≡ false)
by_tests_1 false above e = (λ h. refl, λ h. refl)
by_tests_1 true true e = (λ h. absurd (omega arith), λ h. absurd (true≢false h))
by_tests_1 true false e = (λ h. absurd (omega arith), λ h. absurd (true≢false h))

by_tests_2 : (ok above : Bool) (e : Entry) → (answer_of (by_tests ok above e) ≡ 2) ↔ ((ok ≡ true) × (above ≡ true))
by_tests_2 false above e = (λ h. absurd (omega arith), λ h. absurd (false≢true h.0))
by_tests_2 true true e = (λ h. (refl, refl), λ h. refl)
by_tests_2 true false e = (λ h. absurd (omega arith), λ h. absurd (false≢true h.1))

by_tests_0 : (ok above : Bool) (e : Entry) → (answer_of (by_tests ok above e) ≡ 0) ↔ ((ok ≡ true) × (above ≡ false))
by_tests_0 false above e = (λ h. absurd (omega arith), λ h. absurd (false≢true h.0))
by_tests_0 true true e = (λ h. absurd (omega arith), λ h. absurd (true≢false h.1))
by_tests_0 true false e = (λ h. (refl, refl), λ h. refl)

module _ (table : List ℕ) (link : ℕ) where
  pub answers_1_exactly_if : (answer_of (board_of table link) ≡ 1) ↔ (table_ok table ≡ false)
  unfolding board_of
  answers_1_exactly_if = by_tests_1 (table_ok table) (ltb last_link link) (entry_of (known_prefix table) link)

  pub answers_2_exactly_if : (answer_of (board_of table link) ≡ 2) ↔ ((table_ok table ≡ true) × (last_link < link))
  unfolding board_of
  answers_2_exactly_if =
      let tests = by_tests_2 (table_ok table) (ltb last_link link) (entry_of (known_prefix table) link) in
      (λ h. ((tests.0 h).0, ltb-true last_link link (tests.0 h).1), λ h. tests.1 (h.0, lt-ltb last_link link h.1))

  pub answers_0_exactly_if : (answer_of (board_of table link) ≡ 0) ↔ ((table_ok table ≡ true) × (link ≤ last_link))
  unfolding board_of
  answers_0_exactly_if =
      let tests = by_tests_0 (table_ok table) (ltb last_link link) (entry_of (known_prefix table) link) in
      (λ h. ((tests.0 h).0, ltb-false last_link link (tests.0 h).1), λ h. tests.1 (h.0, le-ltb last_link link h.1))

  pub bad_table_is_refused : table_ok table ≡ false → board_of table link ≡ BadTable
  unfolding board_of
  bad_table_is_refused bad = simp bad

  pub bad_link_is_refused : table_ok table ≡ true → last_link < link → board_of table link ≡ BadLink
  unfolding board_of
  bad_link_is_refused ok above = simp (ok, lt-ltb last_link link above)

  pub link_is_answered : table_ok table ≡ true → link ≤ last_link → board_of table link ≡ Link (entry_of (known_prefix table) link)
  unfolding board_of
  link_is_answered ok within = simp (ok, le-ltb last_link link within)

  -- an answer about a link is the entry that the known prefix makes
  pub answered : (e : Entry) → board_of table link ≡ Link e → e ≡ entry_of (known_prefix table) link
  unfolding board_of
  answered e answer =
      by_answer (table_ok table)
      (λ good. by_answer (ltb last_link link) (λ far. cc (simp (good, far) at answer)) (λ near. cc (simp (good, near) at answer)))
      (λ bad. cc (simp bad at answer))

-- ---- what a command does to a free link and to an owned one

module _ (e : Entry) (c : Command) where
  pub first_revision_claims : c.revision ≡ 0 → claimed e c ≡ entry c.author 1 c.ticket
  unfolding claimed
  first_revision_claims first = simp (eq-eqb c.revision 0 first)

  pub later_revision_claims_nothing : (c.revision ≡ 0 → ⊥) → claimed e c ≡ e
  unfolding claimed
  later_revision_claims_nothing later = simp (ne_eqb c.revision 0 later)

  pub stranger_revises_nothing : (c.author ≡ e.owner → ⊥) → revised e c ≡ e
  unfolding revised
  stranger_revises_nothing stranger = simp (ne_eqb c.author e.owner stranger)

  pub other_revision_revises_nothing : (c.revision ≡ e.revision → ⊥) → revised e c ≡ e
  unfolding revised
  other_revision_revises_nothing other = simp (ne_eqb c.revision e.revision other, and-false)

  pub last_revision_is_not_revised : last_revision ≤ e.revision → revised e c ≡ e
  unfolding revised
  last_revision_is_not_revised last = simp (le-ltb e.revision last_revision last, and-false)

  pub owner_revises :
      c.author ≡ e.owner → c.revision ≡ e.revision → e.revision < last_revision →
      revised e c ≡ entry e.owner (e.revision + 1) c.ticket
  unfolding revised
  owner_revises owner present below =
      simp (
        eq-eqb c.author e.owner owner,
        eq-eqb c.revision e.revision present,
        lt-ltb e.revision last_revision below,
      )

-- ---- what a command does to the entry of a link

-- the command takes a free link
pub record Claims (e : Entry) (link : ℕ) (c : Command) : Type 0 where
  pub is_free : e.owner ≡ 0
  pub names_link : c.link ≡ link
  pub some_author : c.author ≡ 0 → ⊥
  pub revision_zero : c.revision ≡ 0

-- the owner's command on its present revision
pub record Revises (e : Entry) (link : ℕ) (c : Command) : Type 0 where
  pub is_owned : e.owner ≡ 0 → ⊥
  pub names_link : c.link ≡ link
  pub by_owner : c.author ≡ e.owner
  pub names_present : c.revision ≡ e.revision
  pub below_last : e.revision < last_revision

-- the two commands that change an entry
abbrev pub ClaimsOrRevises : Entry → ℕ → Command → Type 0
ClaimsOrRevises e link c = Claims e link c ⊎ Revises e link c

-- what a command does to the entry of a link: nothing, or it takes the link, or it is the owner's
pub data Effect (e : Entry) (link : ℕ) (c : Command) : Type 0 where
  stays : obeyed e link c ≡ e → Effect e link c
  claims : Claims e link c → obeyed e link c ≡ entry c.author 1 c.ticket → Effect e link c
  revises : Revises e link c → obeyed e link c ≡ entry e.owner (e.revision + 1) c.ticket → Effect e link c

module _ (e : Entry) (link : ℕ) (c : Command) where
  pub other_link_no_effect : (c.link ≡ link → ⊥) → obeyed e link c ≡ e
  unfolding obeyed
  other_link_no_effect other = simp (ne_eqb c.link link other)

  pub author_zero_no_effect : c.author ≡ 0 → obeyed e link c ≡ e
  unfolding obeyed
  author_zero_no_effect none =
      elim (ℕ_discrete c.link link) [
        | yes this ↦ simp (eq-eqb c.link link this, eq-eqb c.author 0 none)
        | no other ↦ other_link_no_effect other
      ]

  pub free_link_is_claimed : c.link ≡ link → (c.author ≡ 0 → ⊥) → e.owner ≡ 0 → obeyed e link c ≡ claimed e c
  unfolding obeyed
  free_link_is_claimed this some unowned = simp (eq-eqb c.link link this, ne_eqb c.author 0 some, eq-eqb e.owner 0 unowned)

  pub owned_link_is_revised : c.link ≡ link → (c.author ≡ 0 → ⊥) → (e.owner ≡ 0 → ⊥) → obeyed e link c ≡ revised e c
  unfolding obeyed
  owned_link_is_revised this some owned = simp (eq-eqb c.link link this, ne_eqb c.author 0 some, ne_eqb e.owner 0 owned)

  pub claim_is_obeyed : Claims e link c → obeyed e link c ≡ entry c.author 1 c.ticket
  claim_is_obeyed h =
      free_link_is_claimed h.names_link h.some_author h.is_free ∙ first_revision_claims e c h.revision_zero

  pub revision_is_obeyed : Revises e link c → obeyed e link c ≡ entry e.owner (e.revision + 1) c.ticket
  revision_is_obeyed h =
      owned_link_is_revised h.names_link (λ none. h.is_owned (omega (arith, h.by_owner))) h.is_owned
      ∙ owner_revises e c h.by_owner h.names_present h.below_last

  -- neither of the two leaves the entry as it was
  pub claim_or_revision_changes : ClaimsOrRevises e link c → obeyed e link c ≡ e → ⊥
  claim_or_revision_changes (inl h) same =
      h.some_author (ap (λ (x : Entry). x.owner) (sym (claim_is_obeyed h) ∙ same) ∙ h.is_free)
  claim_or_revision_changes (inr h) same = omega (arith, ap (λ (x : Entry). x.revision) (sym (revision_is_obeyed h) ∙ same))

  effect_on_free : c.link ≡ link → (c.author ≡ 0 → ⊥) → e.owner ≡ 0 → Effect e link c
  effect_on_free this some unowned =
      elim (ℕ_discrete c.revision 0) [
        | yes first ↦
            let h : Claims e link c = record { is_free = unowned; names_link = this; some_author = some; revision_zero = first } in
            claims h (claim_is_obeyed h)
        | no later ↦ stays (free_link_is_claimed this some unowned ∙ later_revision_claims_nothing e c later)
      ]

  effect_on_owned : c.link ≡ link → (c.author ≡ 0 → ⊥) → (e.owner ≡ 0 → ⊥) → Effect e link c
  effect_on_owned this some owned =
      let as_revised = owned_link_is_revised this some owned in
      elim (ℕ_discrete c.author e.owner) [
        | no stranger ↦ stays (as_revised ∙ stranger_revises_nothing e c stranger)
        | yes owner ↦ elim (ℕ_discrete c.revision e.revision) [
          | no other ↦ stays (as_revised ∙ other_revision_revises_nothing e c other)
          | yes present ↦ elim (dec_le last_revision e.revision) [
            | yes last ↦ stays (as_revised ∙ last_revision_is_not_revised e c last)
            | no below ↦
                let h : Revises e link c =
                record { is_owned = owned; names_link = this; by_owner = owner; names_present = present; below_last = lt_of_not-le below } in
                revises h (revision_is_obeyed h)
          ]
        ]
      ]

  pub effect : Effect e link c
  effect =
      elim (ℕ_discrete c.link link) [
        | no other ↦ stays (other_link_no_effect other)
        | yes this ↦ elim (ℕ_discrete c.author 0) [
          | yes none ↦ stays (author_zero_no_effect none)
          | no some ↦ elim (ℕ_discrete e.owner 0) [
            | yes unowned ↦ effect_on_free this some unowned
            | no owned ↦ effect_on_owned this some owned
          ]
        ]
      ]

  pub owned_changes_only_by_owner :
      (e.owner ≡ 0 → ⊥) → (obeyed e link c ≡ e → ⊥) →
      Revises e link c × (obeyed e link c ≡ entry e.owner (e.revision + 1) c.ticket)
  owned_changes_only_by_owner owned changed =
      elim effect [
        | stays same ↦ absurd (changed same)
        | claims h becomes ↦ absurd (owned h.is_free)
        | revises h becomes ↦ (h, becomes)
      ]

  pub owner_stays : (e.owner ≡ 0 → ⊥) → (obeyed e link c).owner ≡ e.owner
  owner_stays owned =
      elim effect [
        | stays same ↦ ap (λ (x : Entry). x.owner) same
        | claims h becomes ↦ absurd (owned h.is_free)
        | revises h becomes ↦ ap (λ (x : Entry). x.owner) becomes
      ]

  pub last_revision_stays : (e.owner ≡ 0 → ⊥) → last_revision ≤ e.revision → obeyed e link c ≡ e
  last_revision_stays owned last =
      elim effect [
        | stays same ↦ same
        | claims h becomes ↦ absurd (owned h.is_free)
        | revises h becomes ↦ absurd (omega (arith, h.below_last))
      ]

  pub free_owned_only_by_claim :
      e.owner ≡ 0 → ((obeyed e link c).owner ≡ 0 → ⊥) →
      Claims e link c × (obeyed e link c ≡ entry c.author 1 c.ticket)
  free_owned_only_by_claim unowned taken =
      elim effect [
        | stays same ↦ absurd (taken (ap (λ (x : Entry). x.owner) same ∙ unowned))
        | claims h becomes ↦ (h, becomes)
        | revises h becomes ↦ absurd (h.is_owned unowned)
      ]
