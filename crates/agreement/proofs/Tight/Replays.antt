-- Runs written as lists of calls and checked by computing, for any step function; and a disagreement, or a promise too high, shown by such a run.
-- Relies on Runs and Promises. Cited by the Tight files.
use Rattle.std.specs.Prelude.{ℕ, ◌+◌, ◌≤◌, ◌<◌, ◌≡◌, refl, Bool, false, not, ◌&&◌, ◌||◌, ◌≢◌, ◌⊎◌, leb, ltb, eqb, if◌then◌else◌}
use Rattle.std.proofs.Math.Bool.{true, and-eq-true_iff}
use Rattle.std.proofs.lemmas.Bool.{false≢true, eqb-false, not-true}
use mathlib.Core.List.{List, [], ◌∷◌, ◌++◌, map}
use Rattle.std.proofs.Common.{inl, inr, arith, lit<, lit≤, eqb-true, leb-true, ltb-true}
use Rattle.std.proofs.Math.Logic.{⊎_elim, ⊎_map}
use Rattle.ballots.specs.Ballot.{max_boxes, x_of}
use Rattle.consensus.specs.declared.Event.{Event}
use Rattle.consensus.specs.declared.Message.{Message}
use Rattle.consensus.specs.Layout.{slots}
use Rattle.consensus.specs.Events.{propose, collect, last, begin, accept, old_round, restart, event}
use Rattle.consensus.specs.Answers.{answer_number}
use Rattle.consensus.specs.OnSlot.{all_boxes}
use Rattle.agreement.specs.Runs.{StepFunction, World, start, Delivered, MayCall, Run, answer_to, after, proposals_in, says, has_promised}
use Rattle.agreement.specs.Runs.Run.{still, ◌and_then◌}
use Rattle.agreement.specs.Finishing.{proposal}
use Rattle.agreement.specs.Promises.{Promises}

-- ---- tests

-- one test or the other passes
either : (a b : Bool) → a || b ≡ true → (a ≡ true) ⊎ (b ≡ true)
either true b e = inl refl
either false b e = inr e

-- the six numbers are the same
unfoldable pub same_event : Event → Event → Bool
same_event d e =
    eqb d.kind e.kind && eqb d.slot.0 e.slot.0 && eqb d.from e.from
    && eqb d.ballot.0 e.ballot.0 && eqb d.second.0 e.second.0 && eqb d.value e.value

pub same_event_is_equal : (d e : Event) → same_event d e ≡ true → d ≡ e
unfolding same_event
same_event_is_equal d e same =
    let v = (and-eq-true_iff _ _).0 same in
    let b₂ = (and-eq-true_iff _ _).0 v.0 in
    let b = (and-eq-true_iff _ _).0 b₂.0 in
    let f = (and-eq-true_iff _ _).0 b.0 in
    let k = (and-eq-true_iff _ _).0 f.0 in
    let kind = eqb-true d.kind e.kind k.0 in
    let slot = eqb-true d.slot.0 e.slot.0 k.1 in
    let from = eqb-true d.from e.from f.1 in
    let ballot = eqb-true d.ballot.0 e.ballot.0 b.1 in
    let second = eqb-true d.second.0 e.second.0 b₂.1 in
    let value = eqb-true d.value e.value v.1 in
    λ i. event (kind i) (slot i) (from i) (ballot i) (second i) (value i)

-- ---- calls that may be made

-- among the messages one carries e, to box i or to all
unfoldable pub deliverable : ℕ → Event → List Message → Bool
unfolding same_event
deliverable i e [] = false
deliverable i e (m ∷ ms) = same_event m.event e && (eqb m.to i || eqb m.to all_boxes) || deliverable i e ms

module _ (tables : ℕ → List ℕ) (i : ℕ) (e : Event) where
  -- e is delivered to box i where these messages were put out
  abbrev DeliveredFrom : List Message → Type 0
  DeliveredFrom ms = Delivered (record { tables = tables; parcels = ms }) i e

  from_first : (m : Message) (ms : List Message) → same_event m.event e && (eqb m.to i || eqb m.to all_boxes) ≡ true → DeliveredFrom (m ∷ ms)
  from_first m ms fits =
      let parts = (and-eq-true_iff _ _).0 fits in
      record {
        message = m;
        put_out = inl refl;
        carried = same_event_is_equal m.event e parts.0;
        addressed = ⊎_map (eqb-true _ _) (eqb-true _ _) (either _ _ parts.1);
      }

  from_rest : (m : Message) (ms : List Message) → DeliveredFrom ms → DeliveredFrom (m ∷ ms)
  from_rest m ms d = record { message = d.message; put_out = inr d.put_out; carried = d.carried; addressed = d.addressed }

  deliverable_delivered : (ms : List Message) → deliverable i e ms ≡ true → DeliveredFrom ms
  unfolding deliverable
  deliverable_delivered [] ok = absurd (false≢true ok)
  deliverable_delivered (m ∷ ms) ok =
      ⊎_elim (from_first m ms) (λ later. from_rest m ms (deliverable_delivered ms later)) (either _ _ ok)

-- a box and the event that it is called with
pub record Call : Type 0 where
  pub box : ℕ
  pub event : Event

infix 20 ◌gets◌
abbrev pub ◌gets◌ : ℕ → Event → Call
i gets e = record { box = i; event = e }

-- the call may be made in world w, in a run of n boxes
unfoldable pub may_make : ℕ → World → Call → Bool
unfolding deliverable
may_make n w c =
    ltb c.box n
    && (eqb c.event.kind propose || eqb c.event.kind restart || deliverable c.box c.event w.parcels)

made_call_is_allowed : (n : ℕ) (w : World) (c : Call) → may_make n w c ≡ true → MayCall n w c.box c.event
unfolding may_make
made_call_is_allowed n w c ok =
    let parts = (and-eq-true_iff _ _).0 ok in
    record {
      a_box = ltb-true _ _ parts.0;
      source =
          ⊎_map (λ outside. ⊎_map (eqb-true _ _) (eqb-true _ _) (either _ _ outside))
          (deliverable_delivered w.tables c.box c.event w.parcels)
          (either _ _ parts.1);
    }

-- ---- events about slot 0

abbrev pub Propose : ℕ → Event
Propose v = proposal 0 v

abbrev pub Collect : ℕ → ℕ → Event
Collect from b = event collect 0 from b 0 0

abbrev pub Last : ℕ → ℕ → ℕ → ℕ → Event
Last from b b₂ v = event last 0 from b b₂ v

abbrev pub Begin : ℕ → ℕ → ℕ → Event
Begin from b v = event begin 0 from b 0 v

abbrev pub Accept : ℕ → ℕ → Event
Accept from b = event accept 0 from b 0 0

abbrev pub OldRound : ℕ → ℕ → ℕ → Event
OldRound from b b₂ = event old_round 0 from b b₂ 0

abbrev pub Restart : Event
Restart = event restart 0 0 0 0 0

-- ---- parts of a round

-- the boxes qs answer p's Collect of ballot b
abbrev pub asked : ℕ → List ℕ → ℕ → List Call
asked p qs b = map (λ q. q gets Collect p b) qs

-- p proposes v under ballot b and hears from the boxes qs, which have accepted nothing
abbrev pub collected : ℕ → List ℕ → ℕ → ℕ → List Call
collected p qs b v = (p gets Propose v) ∷ asked p qs b ++ map (λ q. p gets Last q b 0 0) qs

-- the boxes qs accept v under p's ballot b
abbrev pub accepted : ℕ → List ℕ → ℕ → ℕ → List Call
accepted p qs b v = map (λ q. q gets Begin p b v) qs

-- and p hears of it
abbrev pub agreed_by : ℕ → List ℕ → ℕ → ℕ → List Call
agreed_by p qs b v = accepted p qs b v ++ map (λ q. p gets Accept q b) qs

-- ---- calls one after the other

module _ (f : StepFunction) where
  -- the world after the calls
  unfoldable pub world_after : World → List Call → World
  world_after w [] = w
  world_after w (c ∷ cs) = world_after (after f w c.box c.event) cs

  -- each call may be made in its turn
  unfoldable pub may_make_all : ℕ → World → List Call → Bool
  unfolding may_make
  may_make_all n w [] = true
  may_make_all n w (c ∷ cs) = may_make n w c && may_make_all n (after f w c.box c.event) cs

  -- calls that may be made go on with a run
  pub run_of : (n : ℕ) (v w : World) (cs : List Call) → Run f n v w → may_make_all n w cs ≡ true → Run f n v (world_after w cs)
  unfolding world_after may_make_all
  run_of n v w [] run ok = run
  run_of n v w (c ∷ cs) run ok =
      let parts = (and-eq-true_iff _ _).0 ok in
      run_of n v (after f w c.box c.event) cs (◌and_then◌ run (made_call_is_allowed n w c parts.0)) parts.1

-- ---- a slot with two agreed values

-- a run of some boxes, in two parts, and the boxes that are asked for slot 0: one after the first part, one after both
pub record Replay : Type 0 where
  pub boxes : ℕ
  pub first : List Call
  pub later : List Call
  pub one : ℕ
  pub other : ℕ

-- 1 to 7 boxes make the calls, and the two that are asked say two values
unfoldable pub disagree : StepFunction → Replay → Bool
unfolding world_after may_make_all
disagree f d =
    let w = world_after f (start d.boxes) d.first in
    let u = world_after f w d.later in
    leb 1 d.boxes && leb d.boxes max_boxes && ltb d.one d.boxes && ltb d.other d.boxes
    && may_make_all f d.boxes (start d.boxes) d.first && may_make_all f d.boxes w d.later
    && not (eqb (says w d.one 0) 0) && not (eqb (says u d.other 0) 0)
    && not (eqb (says w d.one 0) (says u d.other 0))

pub apart : (a b : ℕ) → not (eqb a b) ≡ true → a ≢ b
apart a b e = eqb-false a b (not-true (eqb a b) e)

pub disagreement_breaks : (f : StepFunction) (d : Replay) → disagree f d ≡ true → ¬ Promises f
unfolding disagree
disagreement_breaks f d shown promises =
    let w = world_after f (start d.boxes) d.first in
    let u = world_after f w d.later in
    let two = (and-eq-true_iff _ _).0 shown in
    let at_other = (and-eq-true_iff _ _).0 two.0 in
    let at_one = (and-eq-true_iff _ _).0 at_other.0 in
    let later = (and-eq-true_iff _ _).0 at_one.0 in
    let first = (and-eq-true_iff _ _).0 later.0 in
    let other = (and-eq-true_iff _ _).0 first.0 in
    let one = (and-eq-true_iff _ _).0 other.0 in
    let count = (and-eq-true_iff _ _).0 one.0 in
    apart (says w d.one 0) (says u d.other 0) two.1
    (promises.one_value d.boxes w u d.one d.other 0
    (record { some = leb-true _ _ count.0; few = leb-true _ _ count.1 })
    (run_of f d.boxes _ _ d.first still first.1)
    (run_of f d.boxes _ _ d.later still later.1)
    (ltb-true _ _ one.1) (ltb-true _ _ other.1) (lit< tt)
    (apart _ _ at_one.1) (apart _ _ at_other.1))

-- ---- a promise too high

-- how many of the calls are Proposes
proposed : List Call → ℕ
proposed [] = 0
proposed (c ∷ cs) = (if eqb c.event.kind propose then 1 else 0) + proposed cs

both_at_most : (a b : Bool) → (if a && b then 1 else 0) ≤ (if a then 1 else 0)
both_at_most true true = lit≤ tt
both_at_most true false = lit≤ tt
both_at_most false b = lit≤ tt

run_proposes : (f : StepFunction) (n : ℕ) (v w : World) (cs : List Call) (run : Run f n v w) (ok : may_make_all f n w cs ≡ true)
    → proposals_in (run_of f n v w cs run ok) ≤ proposals_in run + proposed cs
unfolding may_make_all run_of proposed
run_proposes f n v w [] run ok = omega arith
run_proposes f n v w (c ∷ cs) run ok =
    let parts : (may_make n w c ≡ true) × (may_make_all f n (after f w c.box c.event) cs ≡ true) = (and-eq-true_iff _ _).0 ok in
    omega (
      arith,
      run_proposes f n v (after f w c.box c.event) cs (◌and_then◌ run (made_call_is_allowed n w c parts.0)) parts.1,
      both_at_most (eqb c.event.kind propose) (eqb (answer_number (answer_to f w c.box c.event)) 0),
    )

-- a run of some boxes, and a box and a slot of which it is asked what the box has promised there
pub record Raise : Type 0 where
  pub boxes : ℕ
  pub calls : List Call
  pub box : ℕ
  pub slot : ℕ

-- 1 to 7 boxes make the calls, and the promise has a higher x than there are Proposes among them
unfoldable pub raises : StepFunction → Raise → Bool
unfolding world_after may_make_all proposed
raises f d =
    leb 1 d.boxes && leb d.boxes max_boxes && ltb d.box d.boxes && ltb d.slot slots
    && may_make_all f d.boxes (start d.boxes) d.calls
    && ltb (proposed d.calls) (x_of (has_promised (world_after f (start d.boxes) d.calls) d.box d.slot))

pub raise_breaks : (f : StepFunction) (d : Raise) → raises f d ≡ true → ¬ Promises f
unfolding raises
raise_breaks f d shown promises =
    let high = (and-eq-true_iff _ _).0 shown in
    let made = (and-eq-true_iff _ _).0 high.0 in
    let slot = (and-eq-true_iff _ _).0 made.0 in
    let box = (and-eq-true_iff _ _).0 slot.0 in
    let count = (and-eq-true_iff _ _).0 box.0 in
    let w = world_after f (start d.boxes) d.calls in
    let run : Run f d.boxes (start d.boxes) w = run_of f d.boxes _ _ d.calls still made.1 in
    let above : proposed d.calls < x_of (has_promised w d.box d.slot) = ltb-true _ _ high.1 in
    let counted : proposals_in run ≤ 0 + proposed d.calls = run_proposes f d.boxes _ _ d.calls still made.1 in
    let low : x_of (has_promised w d.box d.slot) ≤ proposals_in run =
    promises.promises_stay_low d.boxes w d.box d.slot (record { some = leb-true _ _ count.0; few = leb-true _ _ count.1 })
    run (ltb-true _ _ box.1) (ltb-true _ _ slot.1) in
    omega arith
