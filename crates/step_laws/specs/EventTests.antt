-- The other way to EventLaws: an event of a kind with that kind's facts passes the test of events.
-- Relies on the definitions of Events. Cited by proofs about runs, where every message on its way keeps the rules.
use Rattle.std.specs.Prelude.{ℕ, ◌≡◌, true, ◌↔◌}
use Rattle.std.proofs.Common.{lt-ltb, le-leb, eq-eqb, ne_eqb}
use Rattle.ballots.specs.Ballot.{maker_of}
use Rattle.consensus.specs.declared.Event.{Event}
use Rattle.consensus.specs.Layout.{slots}
use Rattle.consensus.specs.Events.{propose, collect, last, begin, accept, success, old_round, restart, field_ok, second_ok, value_ok, maker_ok, kind_ok, fields_ok, event_ok}
use Rattle.step_laws.specs.KeptLaws.{together_zero}
use Rattle.step_laws.specs.EventLaws.{ProposeKept, CollectKept, LastKept, BeginKept, AcceptKept, SuccessKept, OldRoundKept, RestartKept, EventCases, event_cases}
use Rattle.step_laws.specs.EventLaws.EventCases.{a_propose, a_collect, a_last, a_begin, an_accept, a_success, an_old_round, a_restart}

pub clauses_propose : (n : ℕ) (e : Event) → e.kind ≡ propose → ProposeKept n e → event_ok n e ≡ true
unfolding event_ok kind_ok fields_ok field_ok second_ok value_ok maker_ok
clauses_propose n e k c =
    simp (
      k,
      lt-ltb e.slot.0 slots c.slot_below,
      c.no_from,
      c.no_ballot,
      c.no_second,
      ne_eqb e.value 0 c.some_value,
    )

pub clauses_collect : (n : ℕ) (e : Event) → e.kind ≡ collect → CollectKept n e → event_ok n e ≡ true
unfolding event_ok kind_ok fields_ok field_ok second_ok value_ok maker_ok
clauses_collect n e k c =
    simp (
      k,
      lt-ltb e.slot.0 slots c.slot_below,
      lt-ltb e.from n c.from_below,
      c.some_ballot,
      eq-eqb (maker_of e.ballot.0) e.from c.made_by_sender,
      c.no_second,
      c.no_value,
    )

pub clauses_last : (n : ℕ) (e : Event) → e.kind ≡ last → LastKept n e → event_ok n e ≡ true
unfolding event_ok kind_ok fields_ok field_ok second_ok value_ok maker_ok
clauses_last n e k c =
    simp (
      k,
      lt-ltb e.slot.0 slots c.slot_below,
      lt-ltb e.from n c.from_below,
      c.some_ballot,
      c.second_or_none,
      le-leb e.second.0 e.ballot.0 c.second_at_most_ballot,
      together_zero e.value e.second.0 c.value_together,
    )

pub clauses_begin : (n : ℕ) (e : Event) → e.kind ≡ begin → BeginKept n e → event_ok n e ≡ true
unfolding event_ok kind_ok fields_ok field_ok second_ok value_ok maker_ok
clauses_begin n e k c =
    simp (
      k,
      lt-ltb e.slot.0 slots c.slot_below,
      lt-ltb e.from n c.from_below,
      c.some_ballot,
      eq-eqb (maker_of e.ballot.0) e.from c.made_by_sender,
      c.no_second,
      ne_eqb e.value 0 c.some_value,
    )

pub clauses_accept : (n : ℕ) (e : Event) → e.kind ≡ accept → AcceptKept n e → event_ok n e ≡ true
unfolding event_ok kind_ok fields_ok field_ok second_ok value_ok maker_ok
clauses_accept n e k c =
    simp (
      k,
      lt-ltb e.slot.0 slots c.slot_below,
      lt-ltb e.from n c.from_below,
      c.some_ballot,
      c.no_second,
      c.no_value,
    )

pub clauses_success : (n : ℕ) (e : Event) → e.kind ≡ success → SuccessKept n e → event_ok n e ≡ true
unfolding event_ok kind_ok fields_ok field_ok second_ok value_ok maker_ok
clauses_success n e k c =
    simp (
      k,
      lt-ltb e.slot.0 slots c.slot_below,
      lt-ltb e.from n c.from_below,
      c.no_ballot,
      c.no_second,
      ne_eqb e.value 0 c.some_value,
    )

pub clauses_old_round : (n : ℕ) (e : Event) → e.kind ≡ old_round → OldRoundKept n e → event_ok n e ≡ true
unfolding event_ok kind_ok fields_ok field_ok second_ok value_ok maker_ok
clauses_old_round n e k c =
    simp (
      k,
      lt-ltb e.slot.0 slots c.slot_below,
      lt-ltb e.from n c.from_below,
      c.some_ballot,
      c.some_second,
      lt-ltb e.ballot.0 e.second.0 c.second_above_ballot,
      c.no_value,
    )

pub clauses_restart : (n : ℕ) (e : Event) → e.kind ≡ restart → RestartKept n e → event_ok n e ≡ true
unfolding event_ok kind_ok fields_ok field_ok second_ok value_ok maker_ok
clauses_restart n e k c =
    simp (
      k,
      c.no_slot,
      c.no_from,
      c.no_ballot,
      c.no_second,
      c.no_value,
    )

-- the test of events passes exactly the eight kinds with their facts
pub event_ok_exactly_when : (n : ℕ) (e : Event) → (event_ok n e ≡ true) ↔ EventCases n e
event_ok_exactly_when n e = (event_cases n e, passes)
  where
    passes : EventCases n e → event_ok n e ≡ true
    passes (a_propose k c) = clauses_propose n e k c
    passes (a_collect k c) = clauses_collect n e k c
    passes (a_last k c) = clauses_last n e k c
    passes (a_begin k c) = clauses_begin n e k c
    passes (an_accept k c) = clauses_accept n e k c
    passes (a_success k c) = clauses_success n e k c
    passes (an_old_round k c) = clauses_old_round n e k c
    passes (a_restart k c) = clauses_restart n e k c
