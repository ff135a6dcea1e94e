-- What follows from the promises for every step function, and whole families that so break them: those that refuse all, put out one message,
-- leave the table alone, say something after the first Propose or without a vote, or leave out Success or Restart.
-- Relies on Promises and on the round of fresh boxes. Cited by Tight.
use Rattle.std.specs.Prelude.{ℕ, suc, ◌<◌, ◌≤◌, ◌≡◌, refl, true, List, [], ◌∷◌, ◌≢◌, length}
use Rattle.std.proofs.Common.{sym, ap, subst, ◌∙◌, inl, inr, ⊎_elim, arith, lit<, lit≤}
use Rattle.std.proofs.Math.Path.{subst⁻¹}
use Rattle.std.proofs.Math.Decide.{ℕ_discrete}
use Rattle.ballots.specs.Boxes.{smallest_majority}
use Rattle.consensus.specs.declared.Room.{Room}
use Rattle.consensus.specs.declared.Event.{Event}
use Rattle.consensus.specs.declared.Message.{Message}
use Rattle.consensus.specs.Room.{agreed}
use Rattle.consensus.specs.Layout.{slots, room_at}
use Rattle.consensus.specs.Events.{propose, collect, last, success, restart, event, event_ok}
use Rattle.consensus.specs.Answers.{Sends, answer_number}
use Rattle.consensus.specs.OnSlot.{all_boxes}
use Rattle.step_laws.specs.LayoutLaws.{room_at_fresh}
use Rattle.step_laws.specs.EventTests.{clauses_restart}
use Rattle.agreement.specs.Runs.{StepFunction, World, start, Among, Delivered, MayCall, Run, CalledOnly, answer_to, after, says}
use Rattle.agreement.specs.Runs.Run.{still, ◌and_then◌}
use Rattle.agreement.specs.Runs.Keeps.{with_message_keeps, with_message_adds, table_elsewhere}
use Rattle.agreement.specs.Finishing.{parcel, Turn, TakesTurn, Turns, turn, proposal, Finishes, replies}
use Rattle.agreement.specs.Finishing.Turns.{none, next}
use Rattle.agreement.proofs.Finishing.Reaches.{first_boxes, all_fresh, fresh_finish, fresh_agree, turns_run}
use Rattle.agreement.specs.Promises.{Count, Promises}
use Rattle.agreement.specs.Tight.Families.{Uncalled, Unheeded}
use Rattle.agreement.proofs.Tight.Replays.{Restart}

-- ---- a round at the start

-- from outside comes any Propose
pub may_propose : (n : ℕ) (w : World) (p s v : ℕ) → p < n → MayCall n w p (proposal s v)
may_propose n w p s v box = record { a_box = box; source = inl (inl refl) }

-- box p proposes v for slot s at the start, and the first boxes finish
abbrev FinishesFirst : StepFunction → ℕ → ℕ → ℕ → ℕ → Type 0
FinishesFirst f n p s v =
    let boxes = first_boxes (smallest_majority n) in
    Finishes f n (start n) p s v boxes boxes boxes boxes boxes

finishes_first : (f : StepFunction) → Promises f → (n p s v : ℕ) → Count n → p < n → s < slots → v ≢ 0 → FinishesFirst f n p s v
finishes_first f promises n p s v count box slot some =
    fresh_finish f promises.finishes n (start n) p s v (first_boxes (smallest_majority n)) count.some count.few slot some still
    (all_fresh n p count.some box)

one_box : Count 1
one_box = record { some = lit≤ tt; few = lit≤ tt }

-- a box that is alone proposes 1 for slot 0
abbrev FinishesAlone : StepFunction → Type 0
FinishesAlone f = FinishesFirst f 1 0 0 1

finishes_alone : (f : StepFunction) → Promises f → FinishesAlone f
finishes_alone f promises = finishes_first f promises 1 0 0 1 one_box (lit< tt) (lit< tt) (omega arith)

module _ (f : StepFunction) (promises : Promises f) where
  abbrev ended : World
  ended = (finishes_alone f promises).end

  ended_run : Run f 1 (start 1) ended
  ended_run =
      let done = finishes_alone f promises in
      turns_run f 1 0 0 _ (start 1) (after f (start 1) 0 (proposal 0 1)) done.end _
      (◌and_then◌ still (may_propose 1 (start 1) 0 0 1 (lit< tt))) done.turns

-- ---- the first of some turns

-- the first call, of the turn's kind, and the other turns after it
record FirstTurn (f : StepFunction) (n p s b : ℕ) (w : World) (t : Turn) (ts : List Turn) (u : World) : Type 0 where
  event : Event
  takes : TakesTurn f n p s b w t.box event
  its_kind : event.kind ≡ t.kind
  rest : Turns f n p s b (after f w t.box event) ts u

abbrev First : (f : StepFunction) (n p s b : ℕ) (w : World) (ts : List Turn) (u : World) → Type 0
First f n p s b w [] u = Unit {0}
First f n p s b w (t ∷ ts) u = FirstTurn f n p s b w t ts u

first_turn : (f : StepFunction) (n p s b : ℕ) (w : World) (ts : List Turn) (u : World) → Turns f n p s b w ts u → First f n p s b w ts u
first_turn f n p s b w ts u none = tt
first_turn f n p s b w ts u (next e takes turns) = record { event = e; takes = takes; its_kind = refl; rest = turns }

-- ---- what all messages have in common

-- what holds of every message that f puts out holds of all that a run puts out
run_sends : (f : StepFunction) (P : Message → Type 0) → ((t : List ℕ) (e : Event) (m : Message) → (f t e).answer ≡ Sends m → P m)
    → (n : ℕ) (u : World) → Run f n (start n) u → (m : Message) → Among m u.parcels → P m
run_sends f P sends n u still = λ m nothing. absurd nothing
run_sends f P sends n u (◌and_then◌ {u = x} {i = i} {e = e} run may) =
    with_message_keeps P (answer_to f x i e) x.parcels (sends (x.tables i) e) (run_sends f P sends n x run)

-- ---- a step that refuses all

pub refusing_breaks : (f : StepFunction) → ((t : List ℕ) (e : Event) → answer_number (f t e).answer ≢ 0) → ¬ Promises f
refusing_breaks f refuses promises = refuses _ _ (finishes_alone f promises).proposed

-- ---- one whose every message is one and the same

module _ (f : StepFunction) (m : Message) (sends : (t : List ℕ) (e : Event) (x : Message) → (f t e).answer ≡ Sends x → x ≡ m) where
  -- so a turn's kind is m's
  turn_of_m : (w : World) (b i k q : ℕ) (ts : List Turn) (u : World) → Run f 1 (start 1) w → FirstTurn f 1 0 0 b w (turn i k q) ts u
      → k ≢ propose → k ≢ restart → m.event.kind ≡ k
  turn_of_m w b i k q ts u run first no_propose no_restart =
      ⊎_elim
      (⊎_elim
      (λ proposes. absurd (no_propose (sym first.its_kind ∙ proposes)))
      (λ restarts. absurd (no_restart (sym first.its_kind ∙ restarts))))
      (λ (d : Delivered w i first.event).
      ap (λ (x : Message). x.event.kind) (sym (run_sends f (λ x. x ≡ m) sends 1 w run d.message d.put_out))
      ∙ ap (λ (e : Event). e.kind) d.carried
      ∙ first.its_kind)
      first.takes.may.source

  pub one_message_breaks : ¬ Promises f
  one_message_breaks promises =
      let done = finishes_alone f promises in
      let w = after f (start 1) 0 (proposal 0 1) in
      let run : Run f 1 (start 1) w = ◌and_then◌ still (may_propose 1 (start 1) 0 0 1 (lit< tt)) in
      let collected = first_turn f 1 0 0 _ w _ done.end done.turns in
      let w' = after f w 0 collected.event in
      let sent = first_turn f 1 0 0 _ w' _ done.end collected.rest in
      let as_collect = turn_of_m w _ 0 collect 0 _ done.end run collected (omega arith) (omega arith) in
      let as_last = turn_of_m w' _ 0 last 0 _ done.end (◌and_then◌ run collected.takes.may) sent (omega arith) (omega arith) in
      omega arith

-- ---- one that leaves the table alone

pub same_table_breaks : (f : StepFunction) → ((t : List ℕ) (e : Event) → (f t e).table ≡ t) → ¬ Promises f
same_table_breaks f leaves promises =
    (finishes_alone f promises).agreed (ap (λ (t : List ℕ). agreed (room_at t 0)) (run_leaves 1 (ended f promises) (ended_run f promises)))
  where
    run_leaves : (n : ℕ) (u : World) → Run f n (start n) u → u.tables 0 ≡ (start n).tables 0
    run_leaves n u still = refl
    run_leaves n u (◌and_then◌ {u = x} {i = i} {e = e} run may) =
        elim (ℕ_discrete 0 i) [
          | yes here ↦
              subst (λ (j : ℕ). (after f x j e).tables 0 ≡ x.tables 0) here (leaves (x.tables 0) e) ∙ run_leaves n x run
          | no other ↦ table_elsewhere x.tables i 0 _ other ∙ run_leaves n x run
        ]

-- ---- one that says something after its first Propose

first_finds_nothing : (f : StepFunction) (n p s b : ℕ) (w u : World) (q₁ q₂ q₃ q₄ : List ℕ) → 1 ≤ length q₁
    → Turns f n p s b w (replies p q₁ q₂ q₃ q₄) u → says w p s ≡ 0
first_finds_nothing f n p s b w u [] q₂ q₃ q₄ some turns = absurd (omega arith)
first_finds_nothing f n p s b w u (q ∷ q₁) q₂ q₃ q₄ some turns = (first_turn f n p s b w _ u turns).takes.nothing_agreed

-- of whichever slot, at whichever box
pub saying_at_once_breaks : (f : StepFunction) (n p s v j s' : ℕ) → Count n → p < n → s < slots → v ≢ 0 → j < n → s' < slots
    → says (after f (start n) p (proposal s v)) j s' ≢ 0 → ¬ Promises f
saying_at_once_breaks f n p s v j s' count box slot some box' slot' said promises =
    elim (ℕ_discrete j p) [
      | no other ↦
          said (ap (λ (t : List ℕ). agreed (room_at t s')) (table_elsewhere (start n).tables p j _ other) ∙ ap (λ (r : Room). agreed r) (room_at_fresh n j s'))
      | yes here ↦ elim (ℕ_discrete s' s) [
        | no elsewhere ↦
            ⊎_elim (λ (nothing : ⊥). nothing) (λ proposed. elsewhere (sym proposed.for_slot))
            (promises.was_proposed n w j s' count (◌and_then◌ still (may_propose n (start n) p s v box)) box' slot' said)
        | yes there ↦
            let done = finishes_first f promises n p s v count box slot some in
            said (subst⁻¹ (λ (x : ℕ). says w x s' ≡ 0) here (subst⁻¹ (λ (x : ℕ). says w p x ≡ 0) there
            (first_finds_nothing f n p s _ w done.end boxes boxes boxes boxes (omega (arith, (all_fresh n p count.some box).just_enough.smallest)) done.turns)))
      ]
    ]
  where
    w : World
    w = after f (start n) p (proposal s v)

    boxes : List ℕ
    boxes = first_boxes (smallest_majority n)

-- ---- yes without a vote

-- a box that no call was at has the table that it had
uncalled_stands : {f : StepFunction} {n : ℕ} {w u : World} (called : ℕ → Type 0) (run : Run f n w u) → CalledOnly called run
    → (q : ℕ) → ¬ called q → u.tables q ≡ w.tables q
uncalled_stands called still only q out = refl
uncalled_stands called (◌and_then◌ {u = x} {i = i} run may) only q out =
    table_elsewhere x.tables i q _ (λ same. out (subst⁻¹ called same only.1)) ∙ uncalled_stands called run only.0 q out

-- where M boxes were not asked, nobody says anything: they could still agree on another value among themselves
pub no_value_without_a_vote :
    (f : StepFunction) → Promises f → (n : ℕ) (w : World) → Count n → (run : Run f n (start n) w) (called : ℕ → Type 0) → CalledOnly called run →
    (boxes : List ℕ) → Uncalled n called boxes → (i s : ℕ) → i < n → s < slots → says w i s ≡ 0
no_value_without_a_vote f promises n w count run called only [] out i s box slot = absurd (omega (arith, out.just_enough.smallest))
no_value_without_a_vote f promises n w count run called only (p ∷ boxes) out i s box slot =
    elim (ℕ_discrete (says w i s) 0) [
      | yes nothing ↦ nothing
      | no said ↦
          let box_p = out.just_enough.all_below p (inl refl) in
          let agrees =
          fresh_agree f promises.finishes n w p s (suc (says w i s)) (p ∷ boxes) count.some count.few slot (omega arith) run (record {
            a_box = box_p;
            just_enough = out.just_enough;
            box_fresh = uncalled_stands called run only p (out.none_called p (inl refl));
            boxes_fresh = λ q listed. uncalled_stands called run only q (out.none_called q listed);
          }) in
          absurd (omega (
            arith,
            agrees.2,
            promises.one_value n w agrees.0 i p s count run agrees.1 box box_p slot said (omega (arith, agrees.2)),
          ))
    ]

-- ---- one that never sends Success

pub no_success_breaks : (f : StepFunction) → ((t : List ℕ) (e : Event) (m : Message) → (f t e).answer ≡ Sends m → m.event.kind ≢ success) → ¬ Promises f
no_success_breaks f never promises =
    run_sends f (λ m. m.event.kind ≢ success) never 1 (ended f promises) (ended_run f promises) _ (finishes_alone f promises).told_to_all refl

-- ---- ones that do not heed Restart or Success

restart_ok : (n : ℕ) → event_ok n Restart ≡ true
restart_ok n = clauses_restart n Restart refl (record { no_slot = refl; no_from = refl; no_ballot = refl; no_second = refl; no_value = refl })

pub refusing_restart_breaks : (f : StepFunction) → ((t : List ℕ) (e : Event) → e.kind ≡ restart → answer_number (f t e).answer ≢ 0) → ¬ Promises f
refusing_restart_breaks f refuses promises =
    refuses _ Restart refl (promises.restart_is_done 1 (start 1) 0 Restart one_box still (lit< tt) refl (restart_ok 1)).answered

module _ (f : StepFunction) (promises : Promises f) where
  abbrev forgotten : World
  forgotten = after f (ended f promises) 0 Restart

  forgets : says forgotten 0 0 ≡ 0
  forgets =
      (promises.restart_is_done 1 (ended f promises) 0 Restart one_box (ended_run f promises) (lit< tt) refl (restart_ok 1)).says_nothing 0 (lit< tt)

pub unheeded_restart_breaks : (f : StepFunction) → Unheeded f restart → ¬ Promises f
unheeded_restart_breaks f ignores promises =
    (finishes_alone f promises).agreed (sym (ignores ((ended f promises).tables 0) Restart 0 refl) ∙ forgets f promises)

pub unheeded_success_breaks : (f : StepFunction) → Unheeded f success → ¬ Promises f
unheeded_success_breaks f ignores promises =
    let done = finishes_alone f promises in
    let e = event success 0 0 0 0 (says done.end 0 0) in
    let heeded =
    promises.success_is_heeded 1 (forgotten f promises) 0 e one_box
    (◌and_then◌ (ended_run f promises) (record { a_box = lit< tt; source = inl (inr refl) })) (lit< tt)
    (record {
      message = parcel all_boxes e;
      put_out = with_message_adds (parcel all_boxes e) (answer_to f done.end 0 Restart) done.end.parcels done.told_to_all;
      carried = refl;
      addressed = inr refl;
    })
    refl (forgets f promises) in
    done.agreed (sym heeded ∙ ignores ((forgotten f promises).tables 0) e 0 refl ∙ forgets f promises)
