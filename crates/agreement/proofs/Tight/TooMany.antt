-- Told of too many boxes, a majority never begins: the promise of finishing fails.
-- Relies on Ways, on the laws of layout and of sets of boxes, and on Finishing.Reaches. Cited by Tight.
use Rattle.std.specs.Prelude.{ℕ, ◌^◌, ◌≤◌, ◌<◌, ◌≡◌, refl, true, not, ◌&&◌, List, [], ◌∷◌, ◌++◌, map, ◌≢◌, ltb, length, get_or}
use Rattle.std.proofs.Common.{sym, ap, subst, ◌∙◌, true≢false, inl, inr, le_refl, arith, pow_pos, eqb-true, ne_eqb}
use Rattle.std.proofs.Math.Decide.{ℕ_discrete}
use Rattle.std.specs.Int.Count.{ones-le}
use Rattle.std.proofs.Math.Dec.{eqb}
use Rattle.ballots.specs.Ballot.{max_boxes, max_x, next_x}
use Rattle.ballots.specs.Boxes.{with_box, smallest_majority}
use Rattle.ballots.specs.BoxesLaws.{with_box_below}
use Rattle.ballots.proofs.MajorityLaws.{fewer_is_no_majority}
use Rattle.consensus.specs.declared.Head.{Head}
use Rattle.consensus.specs.declared.Room.{Room}
use Rattle.consensus.specs.declared.Event.{Event}
use Rattle.consensus.specs.declared.Message.{Message}
use Rattle.consensus.specs.Room.{promised, phase, own_ballot, lasts, agreed, idle, collecting, begun}
use Rattle.consensus.specs.Layout.{slots, table_size, head_of, room_at}
use Rattle.consensus.specs.Enough.{enough_to_collect}
use Rattle.consensus.specs.Events.{collect, last, begin, accept, success, restart, event_ok}
use Rattle.consensus.specs.Answers.{Answer, Quiet, Sends, numbers_of}
use Rattle.consensus.specs.OnSlot.{Outcome, awaited, on_propose, on_collect, on_last, on_accept, on_old_round, on_slot}
use Rattle.consensus.specs.Step.{Stepped, refuse, settle, restart_slots}
use Rattle.step_laws.specs.ByTest.{by_test, by_either}
use Rattle.step_laws.specs.HeadLaws.{table_clauses}
use Rattle.step_laws.specs.LayoutLaws.{head_of_restart_slots, room_at_restarted, room_at_fresh}
use Rattle.step_laws.specs.EventLaws.{names_a_slot, event_cases}
use Rattle.step_laws.specs.EventLaws.EventCases.{a_propose, a_collect, a_last, a_begin, an_accept, a_success, an_old_round, a_restart}
use Rattle.step_laws.specs.RefusalLaws.{is_refusal}
use Rattle.step_laws.specs.StepCases.{ReachesSlot, room_after, answer_of, settle_head, settle_room, settle_other, settle_answer}
use Rattle.agreement.specs.Runs.{StepFunction, World, start, Among, answer_to, after, MayCall}
use Rattle.agreement.specs.Runs.Run.{still}
use Rattle.agreement.specs.Runs.Keeps.{head_in, with_message_keeps, proposed_or_put_out}
use Rattle.agreement.specs.Finishing.{Listed, Turn, turn, Turns, proposal, replies}
use Rattle.agreement.specs.Finishing.Turns.{none, next}
use Rattle.agreement.proofs.Finishing.Reaches.{first_boxes, first_below, fresh_finish, all_fresh}
use Rattle.agreement.specs.Promises.{Count, Promises}
use Rattle.agreement.specs.Tight.Impostors.{step_with, told, invents_count}
use Rattle.agreement.specs.Tight.Ways.{settled, call_ways}
use Rattle.agreement.specs.Tight.Ways.Ways.{refuses, restarts, settles}

-- ---- what a call at one of the first m boxes keeps: nobody has begun, and only those boxes have spoken

record RoomWaits (m : ℕ) (r : Room) : Type 0 where
  not_begun : phase r ≢ begun
  nothing_agreed : agreed r ≡ 0
  lasts_from_first : lasts r < 2 ^ m

record EventWaits (m : ℕ) (e : Event) : Type 0 where
  no_begin : e.kind ≢ begin
  no_success : e.kind ≢ success
  from_first : e.from < m

record TableWaits (n m i : ℕ) (t : List ℕ) : Type 0 where
  head_is : head_of t ≡ head_in n i
  rooms_wait : (s : ℕ) → s < slots → RoomWaits m (room_at t s)

record WorldWaits (n m : ℕ) (w : World) : Type 0 where
  tables_wait : (i : ℕ) → TableWaits n m i (w.tables i)
  parcels_wait : (x : Message) → Among x w.parcels → EventWaits m x.event

-- ---- one event on its slot

-- the kind and the sender that an answer's numbers show: zero where it puts out nothing
record AnswerWaits (m : ℕ) (a : Answer) : Type 0 where
  no_begin : get_or (numbers_of a) 2 0 ≢ begin
  no_success : get_or (numbers_of a) 2 0 ≢ success
  from_first : get_or (numbers_of a) 4 0 < m

module _ (m : ℕ) (few : m ≤ max_boxes) (h : Head) (r : Room) (e : Event) (first : h.index < m) (k : RoomWaits m r) where
  abbrev OutcomeWaits : Outcome → Type 0
  OutcomeWaits o = RoomWaits m (room_after r o) × AnswerWaits m (answer_of o)

  propose_waits : OutcomeWaits (on_propose h r e)
  unfolding on_propose
  propose_waits =
      by_either OutcomeWaits (not (eqb (agreed r) 0)) (omega arith)
      (by_either OutcomeWaits (ltb max_x (next_x (promised r))) (omega arith) (omega arith))

  collect_waits : OutcomeWaits (on_collect h r e)
  unfolding on_collect
  collect_waits = by_either OutcomeWaits (ltb e.ballot.0 (promised r)) (omega arith) (omega arith)

  -- even all of the first m boxes are no majority of the boxes that the rule is told of
  last_waits : m < smallest_majority h.boxes → e.from < m → OutcomeWaits (on_last h r e)
  unfolding on_last enough_to_collect
  last_waits too_many from =
      let counted = with_box (lasts r) e.from in
      let below : counted < 2 ^ m = with_box_below m (lasts r) e.from k.lasts_from_first from (omega arith) in
      by_either OutcomeWaits (not (awaited r e collecting (lasts r))) (omega arith)
      (simp (fewer_is_no_majority h.boxes counted (omega (arith, ones-le m counted below))) (omega arith))

  accept_waits : OutcomeWaits (on_accept h r e)
  unfolding on_accept
  accept_waits = simp (ne_eqb (phase r) begun k.not_begun) (omega arith)

  old_round_waits : OutcomeWaits (on_old_round h r e)
  unfolding on_old_round
  old_round_waits = by_either OutcomeWaits (not (eqb (phase r) idle) && eqb (own_ballot r) e.ballot.0) (omega arith) (omega arith)

  on_slot_waits : (n : ℕ) → m < smallest_majority h.boxes → event_ok n e ≡ true → e.kind ≢ restart → EventWaits m e → OutcomeWaits (on_slot h r e)
  unfolding on_slot
  on_slot_waits n too_many ok other said =
      elim (event_cases n e ok) [
        | a_propose kind x ↦ simp kind propose_waits
        | a_collect kind x ↦ simp kind collect_waits
        | a_last kind x ↦ simp kind (last_waits too_many said.from_first)
        | a_begin kind x ↦ absurd (said.no_begin kind)
        | an_accept kind x ↦ simp kind accept_waits
        | a_success kind x ↦ absurd (said.no_success kind)
        | an_old_round kind x ↦ simp kind old_round_waits
        | a_restart kind x ↦ absurd (other kind)
      ]

-- ---- one call

invents_count_is : (count : ℕ → ℕ) (t : List ℕ) (e : Event) → invents_count count t e ≡ step_with (told count) t e
unfolding invents_count
invents_count_is count t e = refl

-- what a step leaves in every slot and puts out
record SteppedWaits (n m i : ℕ) (x : Stepped) : Type 0 where
  table_waits : TableWaits n m i x.table
  sends_wait : (y : Message) → x.answer ≡ Sends y → EventWaits m y.event

module _ (count : ℕ → ℕ) (n m : ℕ) (few : m ≤ max_boxes) (too_many : m < smallest_majority (count n)) where
  module _ (i : ℕ) (t : List ℕ) (e : Event) (first : i < m) (k : TableWaits n m i t) where
    refused_waits : (a : Answer) → is_refusal a ≡ true → SteppedWaits n m i (refuse t a)
    refused_waits a refusal =
        record { table_waits = k; sends_wait = λ y sends. absurd (true≢false (sym refusal ∙ ap is_refusal sends)) }

    restarted_waits : length t ≡ table_size → SteppedWaits n m i (record { table = restart_slots slots t; answer = Quiet })
    restarted_waits whole =
        record {
          table_waits = record {
            head_is = head_of_restart_slots slots t ∙ k.head_is;
            rooms_wait = λ s below.
                subst (RoomWaits m) (sym (room_at_restarted slots t s whole (le_refl slots) below)) (let room = k.rooms_wait s below in omega arith);
          };
          sends_wait = λ y sends. let z : ◌≡◌ {A = ℕ} 0 1 = cc in absurd (omega arith);
        }

    settled_waits : ReachesSlot t e → EventWaits m e → SteppedWaits n m i (settled (told count) t e)
    settled_waits r said =
        let s = e.slot.0 in
        let o = told count (head_of t) (room_at t s) e in
        let whole = (table_clauses t r.passes.good_table).whole in
        let below = names_a_slot (head_of t).boxes e r.passes.good_event r.no_restart in
        let here : RoomWaits m (room_after (room_at t s) o) × AnswerWaits m (answer_of o) =
        on_slot_waits m few (record { boxes = count (head_of t).boxes; index = (head_of t).index }) (room_at t s) e
        (omega (arith, ap (λ (h : Head). h.index) k.head_is)) (k.rooms_wait s below) (head_of t).boxes
        (subst (λ (h : Head). m < smallest_majority (count h.boxes)) (sym k.head_is) too_many) r.passes.good_event r.no_restart said in
        record {
          table_waits = record {
            head_is = settle_head t s o ∙ k.head_is;
            rooms_wait = λ s' below'.
                elim (ℕ_discrete s s') [
                  | yes same ↦
                      subst (λ (x : ℕ). RoomWaits m (room_at (settle t s o).table x)) same
                      (subst (RoomWaits m) (sym (settle_room t s o whole below)) here.0)
                  | no other ↦ subst (RoomWaits m) (sym (settle_other t s s' o other)) (k.rooms_wait s' below')
                ];
          };
          sends_wait = λ y sends. let sent = subst (AnswerWaits m) (sym (settle_answer t s o) ∙ sends) here.1 in omega arith;
        }

    step_waits : (ReachesSlot t e → EventWaits m e) → SteppedWaits n m i (invents_count count t e)
    step_waits said =
        subst (SteppedWaits n m i) (sym (invents_count_is count t e))
        (elim (call_ways (told count) t e) [
          | refuses a refusal is ↦ subst (SteppedWaits n m i) (sym is) (refused_waits a refusal)
          | restarts r is ↦ subst (SteppedWaits n m i) (sym is) (restarted_waits (table_clauses t r.passes.good_table).whole)
          | settles r is ↦ subst (SteppedWaits n m i) (sym is) (settled_waits r (said r))
        ])

  -- a Propose is from box 0
  called_waits : (w : World) (i : ℕ) (e : Event) → i < m → WorldWaits n m w → MayCall n w i e → ReachesSlot (w.tables i) e → EventWaits m e
  called_waits w i e first k may r = proposed_or_put_out (EventWaits m) n w i e may r (λ kind x. omega arith) k.parcels_wait

  call_waits : (w : World) (i : ℕ) (e : Event) → WorldWaits n m w → i < m → MayCall n w i e → WorldWaits n m (after (invents_count count) w i e)
  call_waits w i e k first may =
      let stepped = step_waits i (w.tables i) e first (k.tables_wait i) (called_waits w i e first k may) in
      record {
        tables_wait = λ j.
            by_test (TableWaits n m j) (eqb j i) (invents_count count (w.tables i) e).table (w.tables j)
            (λ same. subst (λ (x : ℕ). TableWaits n m x (invents_count count (w.tables i) e).table) (sym (eqb-true j i same)) stepped.table_waits)
            (λ other. k.tables_wait j);
        parcels_wait =
            with_message_keeps (λ (x : Message). EventWaits m x.event) (answer_to (invents_count count) w i e) w.parcels stepped.sends_wait
            k.parcels_wait;
      }

start_waits : (n m : ℕ) → WorldWaits n m (start n)
start_waits n m =
    record {
      tables_wait = λ i. record {
        head_is = refl;
        rooms_wait = λ s below. subst (RoomWaits m) (sym (room_at_fresh n i s)) (omega (arith, pow_pos m));
      };
      parcels_wait = λ x among. absurd among;
    }

-- ---- turns at the first m boxes

AtFirst : ℕ → List Turn → Type 0
AtFirst m [] = Unit {0}
AtFirst m (t ∷ ts) = (t.box < m) × AtFirst m ts

append_at_first : (m : ℕ) (ts us : List Turn) → AtFirst m ts → AtFirst m us → AtFirst m (ts ++ us)
unfolding AtFirst
append_at_first m [] us left right = right
append_at_first m (t ∷ ts) us left right = (left.0, append_at_first m ts us left.1 right)

map_at_first : (m : ℕ) (to : ℕ → Turn) (boxes : List ℕ) → ((q : ℕ) → Listed q boxes → (to q).box < m) → AtFirst m (map to boxes)
unfolding AtFirst
map_at_first m to [] below = tt
map_at_first m to (q ∷ boxes) below = (below q (inl refl), map_at_first m to boxes (λ p listed. below p (inr listed)))

replies_at_first : (m : ℕ) → 0 < m → AtFirst m (replies 0 (first_boxes m) (first_boxes m) (first_boxes m) (first_boxes m))
replies_at_first m some =
    let qs = first_boxes m in
    let to_them : (k : ℕ) → AtFirst m (map (λ q. turn q k 0) qs) = λ k. map_at_first m (λ q. turn q k 0) qs (first_below m) in
    let from_them : (k : ℕ) → AtFirst m (map (λ q. turn 0 k q) qs) = λ k. map_at_first m (λ q. turn 0 k q) qs (λ q listed. some) in
    append_at_first m _ _ (append_at_first m _ _ (append_at_first m _ _ (to_them collect) (from_them last)) (to_them begin)) (from_them accept)

-- what a call at one of the first m boxes keeps, turns at them keep
turns_keep : (f : StepFunction) (n p s b m : ℕ) (P : World → Type 0)
    → ((w : World) (i : ℕ) (e : Event) → P w → i < m → MayCall n w i e → P (after f w i e))
    → (w u : World) (ts : List Turn) → P w → AtFirst m ts → Turns f n p s b w ts u → P u
unfolding AtFirst
turns_keep f n p s b m P call w u ts k at none = k
turns_keep f n p s b m P call w u ts k at (next {i = i} {ts = rest} e takes turns) =
    turns_keep f n p s b m P call (after f w i e) u rest (call w i e k at.0 takes.may) at.1 turns

-- ---- the proof

-- box 0 proposes to the first m of n boxes, a majority of them, and still says nothing after all their turns
pub told_of_more_breaks : (count : ℕ → ℕ) (n : ℕ) → Count n → smallest_majority n < smallest_majority (count n) → ¬ Promises (invents_count count)
told_of_more_breaks count n boxes too_many keeps =
    let m = smallest_majority n in
    let f = invents_count count in
    let fresh = all_fresh n 0 boxes.some boxes.some in
    let done = fresh_finish f keeps.finishes n (start n) 0 0 1 (first_boxes m) boxes.some boxes.few (omega arith) (omega arith) still fresh in
    let call = call_waits count n m (omega (arith, boxes.few)) too_many in
    let proposed = call (start n) 0 (proposal 0 1) (start_waits n m) (omega arith) (record { a_box = boxes.some; source = inl (inl refl) }) in
    let waits = turns_keep f n 0 0 _ m (WorldWaits n m) call _ done.end _ proposed (replies_at_first m (omega arith)) done.turns in
    done.agreed ((waits.tables_wait 0).rooms_wait 0 (omega arith)).nothing_agreed
