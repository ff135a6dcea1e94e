-- The rules' table of answers is right: the step gives each number exactly when its row says, and every number but 0
-- goes with no message and leaves the table as it was. Relies on GivenWhen, SlotAnswers and StepCases. Cited by proofs about runs.
use Rattle.std.specs.Prelude.{ℕ, zero, suc, ◌≡◌, refl, true, false, List, ◌∷◌, ◌≢◌, ◌↔◌, length}
use Rattle.std.proofs.Common.{sym, ap, ◌∙◌, subst, true≢false, arith}
use Rattle.std.proofs.Math.Decide.{ℕ_discrete, dec_le, dec_lt}
use Rattle.ballots.specs.Ballot.{max_boxes}
use Rattle.consensus.specs.declared.Event.{Event}
use Rattle.consensus.specs.OnSlot.{Outcome}
use Rattle.consensus.specs.Layout.{slots, table_size, head_of, room_at}
use Rattle.consensus.specs.Answers.{Answer, Quiet, Sends, BadTable, BadEvent, NotWellKept, NotAwaited, AlreadyAgreed, OtherAgreed, NoBallotLeft, no_message, numbers_of, answer_number}
use Rattle.consensus.specs.Step.{Stepped, table_ok, all_saved_kept, refuse, step}
use Rattle.step_laws.specs.ByTest.{false_unless}
use Rattle.step_laws.specs.HeadLaws.{HeadKept, TableKept, table_clauses, clauses_table}
use Rattle.step_laws.specs.RestartKeeps.{each_saved_kept, some_saved_broken}
use Rattle.step_laws.specs.RefusalLaws.{is_refusal}
use Rattle.step_laws.specs.StepCases.{answer_of, outcome_of, PassesRules, ReachesSlot, step_bad_table, step_bad_event, step_not_well_kept, step_not_saved_kept, step_at_restart, call_cases}
use Rattle.step_laws.specs.StepCases.CallCases.{table_broken, event_broken, slot_broken, saved_broken, restarts_all, reaches_slot}
use Rattle.step_laws.specs.StepKeeps.{step_answer_at_slot, refusal_leaves_all}
use Rattle.step_laws.specs.GivenWhen.{TableBreaksRules, NotKept, NoneBelowHolds, GivenWhen}
use Rattle.step_laws.specs.GivenWhen.TableBreaksRules.{wrong_length, no_boxes, too_many_boxes, index_not_below}
use Rattle.step_laws.specs.GivenWhen.NotKept.{slot_not_kept, saved_not_kept}
use Rattle.step_laws.specs.SlotAnswers.{SlotAnswers, slot_answers, not_met_refused, agreed_propose_refused, another_success_refused, past_max_refused}

-- ---- the table's test

head_breaks : (t : List ℕ) → ¬ HeadKept (head_of t) → TableBreaksRules t
head_breaks t broken =
    elim (dec_lt (head_of t).boxes 1) [
      | yes none ↦ no_boxes none
      | no some ↦
          elim (dec_lt max_boxes (head_of t).boxes) [
            | yes many ↦ too_many_boxes many
            | no few ↦
                elim (dec_le (head_of t).boxes (head_of t).index) [
                  | yes above ↦ index_not_below above
                  | no below ↦ absurd (broken (omega arith))
                ]
          ]
    ]

table_breaks : (t : List ℕ) → table_ok t ≡ false → TableBreaksRules t
table_breaks t bad =
    elim (ℕ_discrete (length t) table_size) [
      | yes whole ↦ head_breaks t (λ kept. true≢false (sym (clauses_table t (record { whole = whole; head_kept = kept })) ∙ bad))
      | no other ↦ wrong_length other
    ]

breaks_table : (t : List ℕ) → TableBreaksRules t → table_ok t ≡ false
breaks_table t c = false_unless (table_ok t) (λ ok. clash (table_clauses t ok) c)
  where
    clash : TableKept t → TableBreaksRules t → ⊥
    clash k (wrong_length other) = other k.whole
    clash k (no_boxes none) = omega arith
    clash k (too_many_boxes many) = omega arith
    clash k (index_not_below above) = omega arith

-- ---- each refusal's condition gives its number

step_number : (t : List ℕ) (e : Event) (s : Stepped) → step t e ≡ s → answer_number (step t e).answer ≡ answer_number s.answer
step_number t e s is = ap (λ (x : Stepped). answer_number x.answer) is

at_slot_number : (t : List ℕ) (e : Event) (o : Outcome) → ReachesSlot t e → outcome_of t e ≡ o
    → answer_number (step t e).answer ≡ answer_number (answer_of o)
at_slot_number t e o r is = ap answer_number (step_answer_at_slot t e r) ∙ ap (λ (x : Outcome). answer_number (answer_of x)) is

not_kept_refused : (t : List ℕ) (e : Event) → PassesRules t e → NotKept t e → step t e ≡ refuse t NotWellKept
not_kept_refused t e p (slot_not_kept other broken) = step_not_well_kept t e p other broken
not_kept_refused t e p (saved_not_kept k s below broken) =
    step_not_saved_kept t e p k (false_unless (all_saved_kept slots t) (λ all. true≢false (sym (each_saved_kept slots t s all below) ∙ broken)))

refusal_number : (t : List ℕ) (e : Event) (n : ℕ) → GivenWhen t e (suc n) → answer_number (step t e).answer ≡ suc n
refusal_number t e zero c = step_number t e _ (step_bad_table t e (breaks_table t c))
refusal_number t e (suc zero) c = step_number t e _ (step_bad_event t e c.good_table c.event_breaks)
refusal_number t e (suc (suc zero)) c = step_number t e _ (not_kept_refused t e c.passes c.not_kept)
refusal_number t e (suc (suc (suc zero))) c =
    at_slot_number t e _ c.reaches (not_met_refused (head_of t) (room_at t e.slot.0) e c.reaches.slot_kept c.has)
refusal_number t e (suc (suc (suc (suc zero)))) c =
    at_slot_number t e _ c.reaches (agreed_propose_refused (head_of t) (room_at t e.slot.0) e c.has)
refusal_number t e (suc (suc (suc (suc (suc zero))))) c =
    at_slot_number t e _ c.reaches (another_success_refused (head_of t) (room_at t e.slot.0) e c.has)
refusal_number t e (suc (suc (suc (suc (suc (suc zero)))))) c =
    at_slot_number t e _ c.reaches (past_max_refused (head_of t) (room_at t e.slot.0) e c.has)
refusal_number t e (suc (suc (suc (suc (suc (suc (suc n))))))) c = absurd c

-- ---- the number given has its condition

none_below_holds : (t : List ℕ) (e : Event) → answer_number (step t e).answer ≡ 0 → NoneBelowHolds t e
none_below_holds t e is =
    record {
      not_1 = not_given 0;
      not_2 = not_given 1;
      not_3 = not_given 2;
      not_4 = not_given 3;
      not_5 = not_given 4;
      not_6 = not_given 5;
      not_7 = not_given 6;
    }
  where
    not_given : (n : ℕ) → ¬ GivenWhen t e (suc n)
    not_given n c = omega (arith, refusal_number t e n c)

-- what a slot's answer says of its room, said of the table
said_of_table : (t : List ℕ) (e : Event) → ReachesSlot t e → (a : Answer) → (step t e).answer ≡ a → SlotAnswers (room_at t e.slot.0) e a
    → GivenWhen t e (answer_number a)
said_of_table t e r Quiet is c = none_below_holds t e (ap answer_number is)
said_of_table t e r (Sends m) is c = none_below_holds t e (ap answer_number is)
said_of_table t e r BadTable is c = absurd c
said_of_table t e r BadEvent is c = absurd c
said_of_table t e r NotWellKept is c = absurd c
said_of_table t e r NotAwaited is c = record { reaches = r; has = c }
said_of_table t e r AlreadyAgreed is c = record { reaches = r; has = c }
said_of_table t e r OtherAgreed is c = record { reaches = r; has = c }
said_of_table t e r NoBallotLeft is c = record { reaches = r; has = c }

pub number_has_its_condition : (t : List ℕ) (e : Event) → GivenWhen t e (answer_number (step t e).answer)
number_has_its_condition t e =
    elim (call_cases t e) [
      | table_broken bad ↦ given (step_bad_table t e bad) (table_breaks t bad)
      | event_broken good bad ↦ given (step_bad_event t e good bad) (record { good_table = good; event_breaks = bad })
      | slot_broken p other bad ↦ given (step_not_well_kept t e p other bad) (record { passes = p; not_kept = slot_not_kept other bad })
      | saved_broken p k bad ↦
          let b = some_saved_broken slots t bad in
          given (step_not_saved_kept t e p k bad) (record { passes = p; not_kept = saved_not_kept k b.slot b.slot_below b.saved_broken })
      | restarts_all r ↦
          let is = step_at_restart t e r in
          given is (none_below_holds t e (step_number t e _ is))
      | reaches_slot r ↦
          said_of_table t e r (step t e).answer refl
          (subst (SlotAnswers (room_at t e.slot.0) e) (sym (step_answer_at_slot t e r))
          (slot_answers (head_of t) (room_at t e.slot.0) e r.passes.good_event r.no_restart))
    ]
  where
    given : {s : Stepped} → step t e ≡ s → GivenWhen t e (answer_number s.answer) → GivenWhen t e (answer_number (step t e).answer)
    given is c = subst (λ (x : Stepped). GivenWhen t e (answer_number x.answer)) (sym is) c

-- ---- the table is right

none_of_the_refusals : (t : List ℕ) (e : Event) → NoneBelowHolds t e → (n : ℕ) → ¬ GivenWhen t e (suc n)
none_of_the_refusals t e none zero = none.not_1
none_of_the_refusals t e none (suc zero) = none.not_2
none_of_the_refusals t e none (suc (suc zero)) = none.not_3
none_of_the_refusals t e none (suc (suc (suc zero))) = none.not_4
none_of_the_refusals t e none (suc (suc (suc (suc zero)))) = none.not_5
none_of_the_refusals t e none (suc (suc (suc (suc (suc zero))))) = none.not_6
none_of_the_refusals t e none (suc (suc (suc (suc (suc (suc zero)))))) = none.not_7
none_of_the_refusals t e none (suc (suc (suc (suc (suc (suc (suc n))))))) = λ c. c

condition_gives_its_number : (t : List ℕ) (e : Event) (n : ℕ) → GivenWhen t e n → answer_number (step t e).answer ≡ n
condition_gives_its_number t e zero none = go (answer_number (step t e).answer) refl (number_has_its_condition t e)
  where
    go : (n : ℕ) → answer_number (step t e).answer ≡ n → GivenWhen t e n → answer_number (step t e).answer ≡ 0
    go zero is c = is
    go (suc n) is c = absurd (none_of_the_refusals t e none n c)
condition_gives_its_number t e (suc n) c = refusal_number t e n c

-- "given exactly when"
pub given_exactly_when : (t : List ℕ) (e : Event) (n : ℕ) → (answer_number (step t e).answer ≡ n) ↔ GivenWhen t e n
given_exactly_when t e n = (λ is. subst (GivenWhen t e) is (number_has_its_condition t e), condition_gives_its_number t e n)

-- ---- every answer but 0

-- "Every answer but 0 goes with no message", and "all as it was"
pub record ChangesNothing (t : List ℕ) (e : Event) : Type 0 where
  pub without_message : numbers_of (step t e).answer ≡ answer_number (step t e).answer ∷ no_message
  pub as_it_was : (step t e).table ≡ t

pub some_number_is_refusal : (a : Answer) → answer_number a ≢ 0 → is_refusal a ≡ true
some_number_is_refusal Quiet some = absurd (some refl)
some_number_is_refusal (Sends m) some = absurd (some refl)
some_number_is_refusal BadTable some = refl
some_number_is_refusal BadEvent some = refl
some_number_is_refusal NotWellKept some = refl
some_number_is_refusal NotAwaited some = refl
some_number_is_refusal AlreadyAgreed some = refl
some_number_is_refusal OtherAgreed some = refl
some_number_is_refusal NoBallotLeft some = refl

pub refusal_has_no_message : (a : Answer) → is_refusal a ≡ true → numbers_of a ≡ answer_number a ∷ no_message
refusal_has_no_message Quiet refusal = refl
refusal_has_no_message (Sends m) refusal = absurd (true≢false (sym refusal))
refusal_has_no_message BadTable refusal = refl
refusal_has_no_message BadEvent refusal = refl
refusal_has_no_message NotWellKept refusal = refl
refusal_has_no_message NotAwaited refusal = refl
refusal_has_no_message AlreadyAgreed refusal = refl
refusal_has_no_message OtherAgreed refusal = refl
refusal_has_no_message NoBallotLeft refusal = refl

pub refusal_changes_nothing : (t : List ℕ) (e : Event) → answer_number (step t e).answer ≢ 0 → ChangesNothing t e
refusal_changes_nothing t e some =
    let refusal = some_number_is_refusal (step t e).answer some in
    record {
      without_message = refusal_has_no_message (step t e).answer refusal;
      as_it_was = refusal_leaves_all t e refusal;
    }
