-- What an event that keeps the rules says, kind by kind, as records of facts under the rules' words.
-- Relies on the definitions of Events. Cited by the laws of each kind's step and by proofs about runs.
use Rattle.std.specs.Prelude.{ℕ, zero, suc, ◌≤◌, ◌<◌, ◌≡◌, refl, true, ◌&&◌, ◌≢◌, leb, ltb, eqb, length}
use Rattle.std.proofs.Common.{arith, ltb-true, leb-true, eqb-true}
use Rattle.std.proofs.lemmas.Bool.{eqb-false, not-true}
use Rattle.ballots.specs.Ballot.{is_ballot, none_or_ballot, maker_of}
use Rattle.consensus.specs.declared.Event.{Event}
use Rattle.consensus.specs.Layout.{slots}
use Rattle.consensus.specs.Events.{propose, collect, last, begin, accept, success, old_round, restart, used, field_ok, second_ok, value_ok, maker_ok, kind_ok, fields_ok, event_ok}
pub use Rattle.consensus.specs.StepLaws.{names_a_slot}
use Rattle.step_laws.specs.ByTest.{conjuncts}
use Rattle.step_laws.specs.KeptLaws.{ZeroTogether, zero_together}

-- ---- the kind, and the rule of each field as the table of used fields has it

record FieldsKept (n : ℕ) (e : Event) : Type 0 where
  kind_from : propose ≤ e.kind
  kind_to : e.kind ≤ restart
  slot_kept : field_ok e.kind 0 e.slot.0 (ltb e.slot.0 slots) ≡ true
  from_kept : field_ok e.kind 1 e.from (ltb e.from n) ≡ true
  ballot_kept : field_ok e.kind 2 e.ballot.0 (is_ballot n e.ballot.0) ≡ true
  second_kept : field_ok e.kind 3 e.second.0 (second_ok n e) ≡ true
  value_kept : field_ok e.kind 4 e.value (value_ok e) ≡ true
  maker_kept : maker_ok e ≡ true

fields_kept : (n : ℕ) (e : Event) → event_ok n e ≡ true → FieldsKept n e
unfolding event_ok kind_ok fields_ok
fields_kept n e ok =
    record {
      kind_from = leb-true propose e.kind (search conjuncts);
      kind_to = leb-true e.kind (length used) (search conjuncts);
      slot_kept = search conjuncts;
      from_kept = search conjuncts;
      ballot_kept = search conjuncts;
      second_kept = search conjuncts;
      value_kept = search conjuncts;
      maker_kept = search conjuncts;
    }

-- ---- each kind

pub record ProposeKept (n : ℕ) (e : Event) : Type 0 where
  pub slot_below : e.slot.0 < slots
  pub no_from : e.from ≡ 0
  pub no_ballot : e.ballot.0 ≡ 0
  pub no_second : e.second.0 ≡ 0
  pub some_value : e.value ≢ 0

pub propose_clauses : (n : ℕ) (e : Event) → e.kind ≡ propose → event_ok n e ≡ true → ProposeKept n e
unfolding field_ok second_ok value_ok maker_ok
propose_clauses n e k ok =
    let f = fields_kept n e ok in
    record {
      slot_below = ltb-true e.slot.0 slots (simp k at f.slot_kept);
      no_from = eqb-true e.from 0 (simp k at f.from_kept);
      no_ballot = eqb-true e.ballot.0 0 (simp k at f.ballot_kept);
      no_second = eqb-true e.second.0 0 (simp k at f.second_kept);
      some_value = eqb-false e.value 0 (not-true (eqb e.value 0) (simp k at f.value_kept));
    }

pub record CollectKept (n : ℕ) (e : Event) : Type 0 where
  pub slot_below : e.slot.0 < slots
  pub from_below : e.from < n
  pub some_ballot : is_ballot n e.ballot.0 ≡ true
  pub made_by_sender : maker_of e.ballot.0 ≡ e.from
  pub no_second : e.second.0 ≡ 0
  pub no_value : e.value ≡ 0

pub collect_clauses : (n : ℕ) (e : Event) → e.kind ≡ collect → event_ok n e ≡ true → CollectKept n e
unfolding field_ok second_ok value_ok maker_ok
collect_clauses n e k ok =
    let f = fields_kept n e ok in
    record {
      slot_below = ltb-true e.slot.0 slots (simp k at f.slot_kept);
      from_below = ltb-true e.from n (simp k at f.from_kept);
      some_ballot = simp k at f.ballot_kept;
      made_by_sender = eqb-true (maker_of e.ballot.0) e.from (simp k at f.maker_kept);
      no_second = eqb-true e.second.0 0 (simp k at f.second_kept);
      no_value = eqb-true e.value 0 (simp k at f.value_kept);
    }

pub record LastKept (n : ℕ) (e : Event) : Type 0 where
  pub slot_below : e.slot.0 < slots
  pub from_below : e.from < n
  pub some_ballot : is_ballot n e.ballot.0 ≡ true
  pub second_or_none : none_or_ballot n e.second.0 ≡ true
  pub second_at_most_ballot : e.second.0 ≤ e.ballot.0
  pub value_together : ZeroTogether e.value e.second.0

pub last_clauses : (n : ℕ) (e : Event) → e.kind ≡ last → event_ok n e ≡ true → LastKept n e
unfolding field_ok second_ok value_ok maker_ok
last_clauses n e k ok =
    let f = fields_kept n e ok in
    let second : none_or_ballot n e.second.0 && leb e.second.0 e.ballot.0 ≡ true = simp k at f.second_kept in
    record {
      slot_below = ltb-true e.slot.0 slots (simp k at f.slot_kept);
      from_below = ltb-true e.from n (simp k at f.from_kept);
      some_ballot = simp k at f.ballot_kept;
      second_or_none = search conjuncts;
      second_at_most_ballot = leb-true e.second.0 e.ballot.0 (search conjuncts);
      value_together = zero_together e.value e.second.0 (simp k at f.value_kept);
    }

pub record BeginKept (n : ℕ) (e : Event) : Type 0 where
  pub slot_below : e.slot.0 < slots
  pub from_below : e.from < n
  pub some_ballot : is_ballot n e.ballot.0 ≡ true
  pub made_by_sender : maker_of e.ballot.0 ≡ e.from
  pub no_second : e.second.0 ≡ 0
  pub some_value : e.value ≢ 0

pub begin_clauses : (n : ℕ) (e : Event) → e.kind ≡ begin → event_ok n e ≡ true → BeginKept n e
unfolding field_ok second_ok value_ok maker_ok
begin_clauses n e k ok =
    let f = fields_kept n e ok in
    record {
      slot_below = ltb-true e.slot.0 slots (simp k at f.slot_kept);
      from_below = ltb-true e.from n (simp k at f.from_kept);
      some_ballot = simp k at f.ballot_kept;
      made_by_sender = eqb-true (maker_of e.ballot.0) e.from (simp k at f.maker_kept);
      no_second = eqb-true e.second.0 0 (simp k at f.second_kept);
      some_value = eqb-false e.value 0 (not-true (eqb e.value 0) (simp k at f.value_kept));
    }

pub record AcceptKept (n : ℕ) (e : Event) : Type 0 where
  pub slot_below : e.slot.0 < slots
  pub from_below : e.from < n
  pub some_ballot : is_ballot n e.ballot.0 ≡ true
  pub no_second : e.second.0 ≡ 0
  pub no_value : e.value ≡ 0

pub accept_clauses : (n : ℕ) (e : Event) → e.kind ≡ accept → event_ok n e ≡ true → AcceptKept n e
unfolding field_ok second_ok value_ok maker_ok
accept_clauses n e k ok =
    let f = fields_kept n e ok in
    record {
      slot_below = ltb-true e.slot.0 slots (simp k at f.slot_kept);
      from_below = ltb-true e.from n (simp k at f.from_kept);
      some_ballot = simp k at f.ballot_kept;
      no_second = eqb-true e.second.0 0 (simp k at f.second_kept);
      no_value = eqb-true e.value 0 (simp k at f.value_kept);
    }

pub record SuccessKept (n : ℕ) (e : Event) : Type 0 where
  pub slot_below : e.slot.0 < slots
  pub from_below : e.from < n
  pub no_ballot : e.ballot.0 ≡ 0
  pub no_second : e.second.0 ≡ 0
  pub some_value : e.value ≢ 0

pub success_clauses : (n : ℕ) (e : Event) → e.kind ≡ success → event_ok n e ≡ true → SuccessKept n e
unfolding field_ok second_ok value_ok maker_ok
success_clauses n e k ok =
    let f = fields_kept n e ok in
    record {
      slot_below = ltb-true e.slot.0 slots (simp k at f.slot_kept);
      from_below = ltb-true e.from n (simp k at f.from_kept);
      no_ballot = eqb-true e.ballot.0 0 (simp k at f.ballot_kept);
      no_second = eqb-true e.second.0 0 (simp k at f.second_kept);
      some_value = eqb-false e.value 0 (not-true (eqb e.value 0) (simp k at f.value_kept));
    }

pub record OldRoundKept (n : ℕ) (e : Event) : Type 0 where
  pub slot_below : e.slot.0 < slots
  pub from_below : e.from < n
  pub some_ballot : is_ballot n e.ballot.0 ≡ true
  pub some_second : is_ballot n e.second.0 ≡ true
  pub second_above_ballot : e.ballot.0 < e.second.0
  pub no_value : e.value ≡ 0

pub old_round_clauses : (n : ℕ) (e : Event) → e.kind ≡ old_round → event_ok n e ≡ true → OldRoundKept n e
unfolding field_ok second_ok value_ok maker_ok
old_round_clauses n e k ok =
    let f = fields_kept n e ok in
    let second : is_ballot n e.second.0 && ltb e.ballot.0 e.second.0 ≡ true = simp k at f.second_kept in
    record {
      slot_below = ltb-true e.slot.0 slots (simp k at f.slot_kept);
      from_below = ltb-true e.from n (simp k at f.from_kept);
      some_ballot = simp k at f.ballot_kept;
      some_second = search conjuncts;
      second_above_ballot = ltb-true e.ballot.0 e.second.0 (search conjuncts);
      no_value = eqb-true e.value 0 (simp k at f.value_kept);
    }

pub record RestartKept (n : ℕ) (e : Event) : Type 0 where
  pub no_slot : e.slot.0 ≡ 0
  pub no_from : e.from ≡ 0
  pub no_ballot : e.ballot.0 ≡ 0
  pub no_second : e.second.0 ≡ 0
  pub no_value : e.value ≡ 0

pub restart_clauses : (n : ℕ) (e : Event) → e.kind ≡ restart → event_ok n e ≡ true → RestartKept n e
unfolding field_ok second_ok value_ok maker_ok
restart_clauses n e k ok =
    let f = fields_kept n e ok in
    record {
      no_slot = eqb-true e.slot.0 0 (simp k at f.slot_kept);
      no_from = eqb-true e.from 0 (simp k at f.from_kept);
      no_ballot = eqb-true e.ballot.0 0 (simp k at f.ballot_kept);
      no_second = eqb-true e.second.0 0 (simp k at f.second_kept);
      no_value = eqb-true e.value 0 (simp k at f.value_kept);
    }

-- ---- the eight kinds as cases

-- "No other kind exists."
pub data EventCases (n : ℕ) (e : Event) : Type 0 where
  a_propose : e.kind ≡ propose → ProposeKept n e → EventCases n e
  a_collect : e.kind ≡ collect → CollectKept n e → EventCases n e
  a_last : e.kind ≡ last → LastKept n e → EventCases n e
  a_begin : e.kind ≡ begin → BeginKept n e → EventCases n e
  an_accept : e.kind ≡ accept → AcceptKept n e → EventCases n e
  a_success : e.kind ≡ success → SuccessKept n e → EventCases n e
  an_old_round : e.kind ≡ old_round → OldRoundKept n e → EventCases n e
  a_restart : e.kind ≡ restart → RestartKept n e → EventCases n e

pub event_cases : (n : ℕ) (e : Event) → event_ok n e ≡ true → EventCases n e
event_cases n e ok = go e.kind refl
  where
    f : FieldsKept n e
    f = fields_kept n e ok

    go : (k : ℕ) → e.kind ≡ k → EventCases n e
    go zero k = absurd (omega (arith, f.kind_from))
    go (suc zero) k = a_propose k (propose_clauses n e k ok)
    go (suc (suc zero)) k = a_collect k (collect_clauses n e k ok)
    go (suc (suc (suc zero))) k = a_last k (last_clauses n e k ok)
    go (suc (suc (suc (suc zero)))) k = a_begin k (begin_clauses n e k ok)
    go (suc (suc (suc (suc (suc zero))))) k = an_accept k (accept_clauses n e k ok)
    go (suc (suc (suc (suc (suc (suc zero)))))) k = a_success k (success_clauses n e k ok)
    go (suc (suc (suc (suc (suc (suc (suc zero))))))) k = an_old_round k (old_round_clauses n e k ok)
    go (suc (suc (suc (suc (suc (suc (suc (suc zero)))))))) k = a_restart k (restart_clauses n e k ok)
    go (suc (suc (suc (suc (suc (suc (suc (suc (suc m))))))))) k = absurd (omega (arith, f.kind_to))
