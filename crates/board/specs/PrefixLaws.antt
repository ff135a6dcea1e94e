-- Laws of known prefixes, over lists of values and over what each slot has agreed: a link's revision never has two tickets nor two owners.
-- Relies on BoardLaws. Cited by the promises about any two known prefixes that one run shows.
use Rattle.std.specs.Prelude.{ℕ, zero, suc, ◌+◌, ◌≤◌, ◌<◌, ◌≡◌, refl, Bool, true, false, ◌⊎◌, eqb, if◌then◌else◌}
use Rattle.std.proofs.Common.{sym, ap, ap₂, ◌∙◌, inl, inr, arith}
use mathlib.Core.List.{List, [], ◌∷◌, IsPrefix, foldl-append}
use Rattle.std.proofs.lemmas.Bool.{eqb-false}
use Rattle.consensus.specs.Layout.{slots}
use Rattle.board.specs.declared.Command.{Command}
use Rattle.board.specs.declared.Entry.{Entry}
use Rattle.board.specs.Command.{command_of}
use Rattle.board.specs.Board.{free, obeyed, applied, applied_all, run_from, agreed_run, entry_of}
use Rattle.board.specs.BoardLaws.{stays, claims, revises, effect}

-- ---- along the commands of a list

-- "three zeros when free": an entry without owner is free
abbrev pub FreeIfUnowned : Entry → Type 0
FreeIfUnowned e = e.owner ≡ 0 → e ≡ free

-- y is x, or a later revision of it
abbrev pub SameOrLater : Entry → Entry → Type 0
SameOrLater x y = (y ≡ x) ⊎ (x.revision < y.revision)

revision_of : {x y : Entry} → x ≡ y → x.revision ≡ y.revision
revision_of e = ap (λ (x : Entry). x.revision) e

owner_of : {x y : Entry} → x ≡ y → x.owner ≡ y.owner
owner_of e = ap (λ (x : Entry). x.owner) e

same_or_later_trans : {x y z : Entry} → SameOrLater x y → SameOrLater y z → SameOrLater x z
same_or_later_trans (inl xy) (inl yz) = inl (yz ∙ xy)
same_or_later_trans (inl xy) (inr yz) = inr (omega (arith, revision_of xy))
same_or_later_trans (inr xy) (inl yz) = inr (omega (arith, revision_of yz))
same_or_later_trans (inr xy) (inr yz) = inr (omega arith)

pub command_keeps_free_if_unowned : (e : Entry) (link : ℕ) (c : Command) → FreeIfUnowned e → FreeIfUnowned (obeyed e link c)
command_keeps_free_if_unowned e link c free_if_unowned unowned =
    elim (effect e link c) [
      | stays same ↦ same ∙ free_if_unowned (sym (owner_of same) ∙ unowned)
      | claims h becomes ↦ absurd (h.some_author (sym (owner_of becomes) ∙ unowned))
      | revises h becomes ↦ absurd (h.is_owned (sym (owner_of becomes) ∙ unowned))
    ]

pub command_is_same_or_later : (e : Entry) (link : ℕ) (c : Command) → FreeIfUnowned e → SameOrLater e (obeyed e link c)
command_is_same_or_later e link c free_if_unowned =
    elim (effect e link c) [
      | stays same ↦ inl same
      | claims h becomes ↦ inr (omega (arith, revision_of (free_if_unowned h.is_free), revision_of becomes))
      | revises h becomes ↦ inr (omega (arith, revision_of becomes))
    ]

pub commands_keep_free_if_unowned : (e : Entry) (link : ℕ) (values : List ℕ) → FreeIfUnowned e → FreeIfUnowned (applied_all e link values)
commands_keep_free_if_unowned e link [] free_if_unowned = free_if_unowned
commands_keep_free_if_unowned e link (v ∷ vs) free_if_unowned =
    commands_keep_free_if_unowned (applied e link v) link vs (command_keeps_free_if_unowned e link (command_of v) free_if_unowned)

pub commands_are_same_or_later : (e : Entry) (link : ℕ) (values : List ℕ) → FreeIfUnowned e → SameOrLater e (applied_all e link values)
commands_are_same_or_later e link [] free_if_unowned = inl refl
commands_are_same_or_later e link (v ∷ vs) free_if_unowned =
    same_or_later_trans (command_is_same_or_later e link (command_of v) free_if_unowned)
    (commands_are_same_or_later (applied e link v) link vs (command_keeps_free_if_unowned e link (command_of v) free_if_unowned))

-- ---- a prefix of the values

-- the longer of two prefixes makes what its further commands make of the shorter's entry
pub entry_of_longer : (p q : List ℕ) (link : ℕ) (h : IsPrefix p q) → entry_of q link ≡ applied_all (entry_of p link) link h.0
entry_of_longer p q link h = rw (← h.1) (foldl-append (λ (e : Entry) (value : ℕ). applied e link value) free p h.0)

-- what some values make without an owner is free
pub unowned_entry_is_free : (p : List ℕ) (link : ℕ) → FreeIfUnowned (entry_of p link)
unowned_entry_is_free p link = commands_keep_free_if_unowned free link p (λ none. refl)

pub longer_prefix_same_or_later : (p q : List ℕ) (link : ℕ) → IsPrefix p q → SameOrLater (entry_of p link) (entry_of q link)
longer_prefix_same_or_later p q link h =
    rw (entry_of_longer p q link h)
    (commands_are_same_or_later (entry_of p link) link h.0 (unowned_entry_is_free p link))

same_revision : {x y : Entry} → SameOrLater x y → x.revision ≡ y.revision → x ≡ y
same_revision (inl same) e = sym same
same_revision (inr later) e = absurd (omega arith)

pub prefix_revision_has_one_entry :
    (p q : List ℕ) (link : ℕ) → IsPrefix p q → (entry_of p link).revision ≡ (entry_of q link).revision → entry_of p link ≡ entry_of q link
prefix_revision_has_one_entry p q link h e = same_revision (longer_prefix_same_or_later p q link h) e

-- ---- two known prefixes

-- where both have agreed a value for a slot, it is the same
abbrev pub AgreeAlike : (ℕ → ℕ) → (ℕ → ℕ) → Type 0
AgreeAlike a b = (s : ℕ) → s < slots → (a s ≡ 0 → ⊥) → (b s ≡ 0 → ⊥) → a s ≡ b s

abbrev OneIsPrefix : List ℕ → List ℕ → Type 0
OneIsPrefix p q = IsPrefix p q ⊎ IsPrefix q p

longer_by_one : {x y : ℕ} {p q : List ℕ} → x ≡ y → OneIsPrefix p q → OneIsPrefix (x ∷ p) (y ∷ q)
longer_by_one e (inl (r, h)) = inl (r, ap₂ ◌∷◌ e h)
longer_by_one e (inr (r, h)) = inr (r, ap₂ ◌∷◌ (sym e) h)

runs_agree : (a b : ℕ → ℕ) → AgreeAlike a b → (left s : ℕ) → s + left ≤ slots → OneIsPrefix (run_from left s a) (run_from left s b)
unfolding run_from
runs_agree a b alike zero s within = inl ([], refl)
runs_agree a b alike (suc left) s within =
    by_gaps (runs_agree a b alike left (suc s) (omega arith)) (eqb (a s) 0) refl (eqb (b s) 0) refl
  where
    by_gaps :
        OneIsPrefix (run_from left (suc s) a) (run_from left (suc s) b) →
        (gap : Bool) → eqb (a s) 0 ≡ gap → (other : Bool) → eqb (b s) 0 ≡ other →
        OneIsPrefix (if gap then [] else a s ∷ run_from left (suc s) a) (if other then [] else b s ∷ run_from left (suc s) b)
    by_gaps rest true ha other hb = inl (_, refl)
    by_gaps rest false ha true hb = inr (_, refl)
    by_gaps rest false ha false hb =
        longer_by_one (alike s (omega arith) (eqb-false (a s) 0 ha) (eqb-false (b s) 0 hb)) rest

pub prefixes_agree : (a b : ℕ → ℕ) → AgreeAlike a b → IsPrefix (agreed_run a) (agreed_run b) ⊎ IsPrefix (agreed_run b) (agreed_run a)
prefixes_agree a b alike = runs_agree a b alike slots 0 (omega arith)

pub revision_has_one_entry :
    (a b : ℕ → ℕ) (link : ℕ) → AgreeAlike a b →
    (entry_of (agreed_run a) link).revision ≡ (entry_of (agreed_run b) link).revision →
    entry_of (agreed_run a) link ≡ entry_of (agreed_run b) link
revision_has_one_entry a b link alike e =
    elim (prefixes_agree a b alike) [
      | inl h ↦ prefix_revision_has_one_entry (agreed_run a) (agreed_run b) link h e
      | inr h ↦ sym (prefix_revision_has_one_entry (agreed_run b) (agreed_run a) link h (sym e))
    ]
