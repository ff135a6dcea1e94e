-- What a box once said of a slot stays said: no event changes an agreed value, and only a restart forgets it.
-- Relies on the laws of the step and on Agrees. Cited by the promises.
use Rattle.std.specs.Prelude.{ℕ, ◌≤◌, ◌<◌, ◌≡◌, true, not, ◌&&◌, ◌≢◌, ◌⊎◌, List, ltb}
use Rattle.std.proofs.Math.Path.{refl, subst⁻¹}
use Rattle.std.proofs.Common.{sym, ap, subst, ◌∙◌, inl, inr, ⊎_elim, le_refl, arith, eqb-true, ne_eqb}
use Rattle.std.proofs.Math.Decide.{ℕ_discrete}
use Rattle.std.proofs.Math.Dec.{eqb}
use Rattle.ballots.specs.Ballot.{max_boxes}
use Rattle.ballots.specs.Boxes.{with_box}
use Rattle.consensus.specs.declared.Head.{Head}
use Rattle.consensus.specs.declared.Room.{Room}
use Rattle.consensus.specs.declared.Event.{Event}
use Rattle.consensus.specs.Room.{promised, phase, own_ballot, lasts, accepts, agreed, idle, collecting, begun}
use Rattle.consensus.specs.Layout.{slots, head_of, room_at}
use Rattle.consensus.specs.Enough.{enough_to_collect}
use Rattle.consensus.specs.WellKept.{well_kept}
use Rattle.consensus.specs.Answers.{answer_number}
use Rattle.consensus.specs.OnSlot.{Outcome, awaited, on_propose, on_collect, on_last, on_begin, on_accept, on_success, on_old_round, on_slot}
use Rattle.consensus.specs.Step.{Stepped, step}
use Rattle.step_laws.specs.ByTest.{by_test, by_either, by_answer}
use Rattle.step_laws.specs.KeptLaws.{kept_clauses}
use Rattle.step_laws.specs.AwaitedLaws.{awaited_clauses}
use Rattle.step_laws.specs.HeadLaws.{table_clauses}
use Rattle.step_laws.specs.LayoutLaws.{room_at_restarted}
use Rattle.step_laws.specs.RefusalLaws.{whatever_the_kind}
use Rattle.step_laws.specs.StepCases.{RestartsAll, room_after, step_at_restart, step_cases}
use Rattle.step_laws.specs.StepCases.StepCases.{refuses, restarts, settles}
use Rattle.step_laws.specs.StepKeeps.{step_room_at_slot, step_keeps_other}
use Rattle.agreement.specs.Runs.{World, start, MayCall, Run, RestartsBox, RestartedIn, after, says}
use Rattle.agreement.specs.Runs.Run.{still, ◌and_then◌}
use Rattle.agreement.specs.Runs.Keeps.{BoxKept, RunKept, start_kept, run_keeps}
use Rattle.agreement.proofs.Runs.Agrees.{one_value}

-- ---- one event on its slot

module _ (h : Head) (r : Room) (e : Event) (kept : well_kept h r ≡ true) (some : agreed r ≢ 0) where
  abbrev Same : Outcome → Type 0
  Same o = agreed (room_after r o) ≡ agreed r

  -- a begun round has nothing agreed, so no Accept is awaited
  accept_same : Same (on_accept h r e)
  unfolding on_accept
  accept_same =
      by_answer (awaited r e begun (accepts r))
      (λ met.
      let running = awaited_clauses r e begun (accepts r) met in
      absurd (some ((kept_clauses h r kept).phase_is_kept.when_running (λ rest. absurd (omega (arith, running.in_phase)))).nothing_agreed))
      (λ unmet. simp unmet refl)

  propose_same : Same (on_propose h r e)
  unfolding on_propose
  propose_same = simp (ne_eqb (agreed r) 0 some) refl

  success_same : Same (on_success h r e)
  unfolding on_success
  success_same = simp (ne_eqb (agreed r) 0 some) (by_either Same (eqb (agreed r) e.value) refl refl)

  collect_same : Same (on_collect h r e)
  unfolding on_collect
  collect_same = by_either Same (ltb e.ballot.0 (promised r)) refl refl

  begin_same : Same (on_begin h r e)
  unfolding on_begin
  begin_same = by_either Same (ltb e.ballot.0 (promised r)) refl refl

  last_same : Same (on_last h r e)
  unfolding on_last
  last_same =
      by_either Same (not (awaited r e collecting (lasts r))) refl
      (by_either Same (not (enough_to_collect h (with_box (lasts r) e.from))) refl refl)

  old_round_same : Same (on_old_round h r e)
  unfolding on_old_round
  old_round_same = by_either Same (not (eqb (phase r) idle) && eqb (own_ballot r) e.ballot.0) refl refl

  pub agreed_same : Same (on_slot h r e)
  agreed_same = whatever_the_kind Same h r e propose_same collect_same last_same begin_same accept_same success_same old_round_same

-- ---- one call

-- the table's slot says the same after the step, or nothing after a restart
pub step_says : (t : List ℕ) (n i : ℕ) (e : Event) (s : ℕ) → BoxKept n i t → s < slots → agreed (room_at t s) ≢ 0
    → (agreed (room_at (step t e).table s) ≡ agreed (room_at t s)) ⊎ ((agreed (room_at (step t e).table s) ≡ 0) × RestartsAll t e)
step_says t n i e s box below some =
    elim (step_cases t e) [
      | refuses a refusal same ↦ inl (ap (λ (x : Stepped). agreed (room_at x.table s)) same)
      | restarts r ↦
          inr (
            ap (λ (x : Stepped). agreed (room_at x.table s)) (step_at_restart t e r)
                ∙ ap (λ (x : Room). agreed x) (room_at_restarted slots t s (table_clauses t box.good_table).whole (le_refl slots) below),
            r,
          )
      | settles r ↦
          elim (ℕ_discrete s e.slot.0) [
            | yes here ↦
                inl (
                ap (λ (x : ℕ). agreed (room_at (step t e).table x)) here
                ∙ ap (λ (x : Room). agreed x) (step_room_at_slot t e r)
                ∙ agreed_same (head_of t) (room_at t e.slot.0) e r.slot_kept (subst (λ (x : ℕ). agreed (room_at t x) ≢ 0) here some)
                ∙ sym (ap (λ (x : ℕ). agreed (room_at t x)) here)
                )
            | no other ↦ inl (ap (λ (x : Room). agreed x) (step_keeps_other t e s r.no_restart other))
          ]
    ]

-- box j, whose table is t after a call with e at box i, says the same of slot s, or nothing as the call restarted it
abbrev StaysOrForgot : World → ℕ → Event → ℕ → ℕ → List ℕ → Type 0
StaysOrForgot w i e s j t = (agreed (room_at t s) ≡ says w j s) ⊎ ((agreed (room_at t s) ≡ 0) × RestartsBox step w i e j)

pub call_says : (n : ℕ) (w : World) (i : ℕ) (e : Event) (j s : ℕ) → RunKept n w → MayCall n w i e → s < slots → says w j s ≢ 0
    → (says (after step w i e) j s ≡ says w j s) ⊎ ((says (after step w i e) j s ≡ 0) × RestartsBox step w i e j)
call_says n w i e j s kept may slot some =
    by_test (StaysOrForgot w i e s j) (eqb j i) (step (w.tables i) e).table (w.tables j)
    (λ same.
    let here = eqb-true j i same in
    subst⁻¹ (λ (x : ℕ). StaysOrForgot w i e s x (step (w.tables i) e).table) here
    (⊎_elim (λ stays. inl stays)
    (λ forgot.
    inr (
      forgot.0,
      record {
        a_restart = forgot.1.a_restart;
        this_box = refl;
        answered = ap (λ (x : Stepped). answer_number x.answer) (step_at_restart (w.tables i) e forgot.1);
      },
    ))
    (step_says (w.tables i) n i e s (kept.boxes_kept i may.a_box) slot (subst (λ (x : ℕ). says w x s ≢ 0) here some))))
    (λ other. inl refl)

-- ---- a run

module _ (n : ℕ) (some_boxes : 1 ≤ n) (few : n ≤ max_boxes) where
  -- runs one after the other
  join : (w x u : World) → Run step n w x → Run step n x u → Run step n w u
  join w x u first still = first
  join w x u first (◌and_then◌ {u = y} later may) = join w x y first later and_then may

  pub stays_said :
      (w u : World) (i s : ℕ) → Run step n (start n) w → (later : Run step n w u) → i < n → s < slots → says w i s ≢ 0 →
      (says u i s ≡ says w i s) ⊎ ((says u i s ≡ 0) × RestartedIn later i)
  stays_said w u i s first still box slot some = inl refl
  stays_said w u i s first (◌and_then◌ {u = x} {i = j} {e = e} later may) box slot some =
      let kept = run_keeps n (start n) x (start_kept n some_boxes few) (join (start n) w x first later) in
      ⊎_elim
      (λ stayed.
      ⊎_elim (λ now. inl (now ∙ stayed)) (λ forgot. inr (forgot.0, inr forgot.1))
      (call_says n x j e i s kept may slot (λ none. some (sym stayed ∙ none))))
      (λ forgot.
      elim (ℕ_discrete (says (after step x j e) i s) 0) [
        | yes nothing ↦ inr (nothing, inl forgot.1)
        | no again ↦ inl (sym (one_value n some_boxes few w (after step x j e) i i s first (later and_then may) box box slot some again))
      ])
      (stays_said w x i s first later box slot some)
