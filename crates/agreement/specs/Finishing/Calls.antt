-- One call on a slot of a kept world: what it leaves there, at the other boxes and among the messages; and turns put together.
-- Relies on Runs.Keeps and the laws of the step. Cited by the proof that a round finishes.
use Rattle.std.specs.Prelude.{ℕ, ◌<◌, ◌≡◌, refl, true, List, ◌++◌, ◌≢◌, ◌⊎◌}
use Rattle.std.proofs.Common.{sym, ap, subst, ◌∙◌, inr}
use Rattle.std.proofs.Math.Decide.{ℕ_discrete}
use Rattle.consensus.specs.declared.Head.{Head}
use Rattle.consensus.specs.declared.Room.{Room}
use Rattle.consensus.specs.declared.Event.{Event}
use Rattle.consensus.specs.Answers.{Answer}
use Rattle.consensus.specs.Layout.{slots, head_of, room_at}
use Rattle.consensus.specs.Events.{restart, event_ok}
use Rattle.consensus.specs.OnSlot.{Becomes, all_boxes, on_slot}
use Rattle.consensus.specs.Step.{step}
use Rattle.step_laws.specs.KeptLaws.{WellKept, kept_clauses}
use Rattle.step_laws.specs.StepCases.{room_after, answer_of, outcome_of}
use Rattle.step_laws.specs.StepKeeps.{step_room_at_slot, step_answer_at_slot}
use Rattle.agreement.specs.Runs.{StepFunction, World, Among, with_message, answer_to, after, MayCall}
use Rattle.agreement.specs.Runs.Keeps.{head_in, RunKept, table_here, table_elsewhere, call_keeps, reaches_slot}
use Rattle.agreement.specs.Finishing.{parcel, Turn, Turns}
use Rattle.agreement.specs.Finishing.Turns.{none, next}

-- ---- messages

-- a message put out may be handed to the box that it is addressed to
pub may_deliver : (n : ℕ) (w : World) (i to : ℕ) (e : Event) → i < n → Among (parcel to e) w.parcels → (to ≡ i) ⊎ (to ≡ all_boxes) → MayCall n w i e
may_deliver n w i to e box put_out addressed =
    record { a_box = box; source = inr (record { message = parcel to e; put_out = put_out; carried = refl; addressed = addressed }) }

-- ---- one call

-- the room of slot s at box i
abbrev pub room_in : World → ℕ → ℕ → Room
room_in w i s = room_at (w.tables i) s

pub kept_room : (n : ℕ) (w : World) (i s : ℕ) → RunKept n w → i < n → s < slots → WellKept (head_in n i) (room_in w i s)
kept_room n w i s k box slot =
    let b = k.boxes_kept i box in
    subst (λ (h : Head). WellKept h (room_in w i s)) b.head_is (kept_clauses (head_of (w.tables i)) (room_in w i s) (b.slots_kept s slot))

-- what a call with e at box i leaves: the event's slot there is r, the answer a
pub record Called (n : ℕ) (w : World) (i : ℕ) (e : Event) (r : Room) (a : Answer) : Type 0 where
  pub kept : RunKept n (after step w i e)
  pub answers : answer_to step w i e ≡ a
  pub here : room_in (after step w i e) i e.slot.0 ≡ r
  pub elsewhere : (j : ℕ) → j ≢ i → room_in (after step w i e) j e.slot.0 ≡ room_in w j e.slot.0
  pub puts_out : (after step w i e).parcels ≡ with_message a w.parcels

pub call_becomes : (n : ℕ) (w : World) (i : ℕ) (e : Event) (r : Room) (a : Answer) → RunKept n w → MayCall n w i e → event_ok n e ≡ true
    → e.kind ≢ restart → on_slot (head_in n i) (room_in w i e.slot.0) e ≡ Becomes r a → Called n w i e r a
call_becomes n w i e r a k may ok other becomes =
    let box = k.boxes_kept i may.a_box in
    let reaches = reaches_slot n i (w.tables i) e box ok other in
    let outcome : outcome_of (w.tables i) e ≡ Becomes r a =
    ap (λ (h : Head). on_slot h (room_in w i e.slot.0) e) box.head_is ∙ becomes in
    let answer : answer_to step w i e ≡ a = step_answer_at_slot (w.tables i) e reaches ∙ ap answer_of outcome in
    record {
      kept = call_keeps n w i e k may;
      answers = answer;
      here =
          ap (λ (t : List ℕ). room_at t e.slot.0) (table_here w.tables i (step (w.tables i) e).table)
          ∙ step_room_at_slot (w.tables i) e reaches
          ∙ ap (room_after (room_in w i e.slot.0)) outcome;
      elsewhere = λ j away.
          ap (λ (t : List ℕ). room_at t e.slot.0) (table_elsewhere w.tables i j (step (w.tables i) e).table away);
      puts_out = ap (λ (x : Answer). with_message x w.parcels) answer;
    }

-- a box has the room that the call left it, or the one that it had
pub by_box : (n : ℕ) (w : World) (i : ℕ) (e : Event) (r : Room) (a : Answer) → Called n w i e r a → (P : Room → Type 0) (j : ℕ)
    → (j ≡ i → P r) → P (room_in w j e.slot.0) → P (room_in (after step w i e) j e.slot.0)
by_box n w i e r a c P j called stood =
    elim (ℕ_discrete j i) [
      | yes same ↦
          subst (λ (x : ℕ). P (room_in (after step w i e) x e.slot.0)) (sym same) (subst P (sym c.here) (called same))
      | no other ↦ subst P (sym (c.elsewhere j other)) stood
    ]

-- ---- turns put together

pub turns_append : (f : StepFunction) (n p s b : ℕ) (w u v : World) (ts us : List Turn) → Turns f n p s b w ts u → Turns f n p s b u us v
    → Turns f n p s b w (ts ++ us) v
turns_append f n p s b w u v ts us none more = more
turns_append f n p s b w u v ts us (next {i = i} {ts = rest} e takes turns) more =
    next e takes (turns_append f n p s b (after f w i e) u v rest us turns more)
