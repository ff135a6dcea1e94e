-- The round of a box that is alone, checked by computing: where each turn has at most one message to be made with, its end is known, and so is what
-- the box says there. Relies on Replays and Promises. Cited by Rounds.
use Rattle.std.specs.Prelude.{ℕ, ◌≡◌, Bool, ◌&&◌, ◌||◌, ◌≢◌, leb, eqb}
use Rattle.std.proofs.Math.Path.{refl, ap, subst⁻¹}
use Rattle.std.proofs.Common.{sym, subst, ◌∙◌, inl, inr, ⊎_elim, arith, lit<, lit≤, eqb-true, eq-eqb, leb-true}
use Rattle.std.proofs.Math.Bool.{true, false, not, and-eq-true_iff}
use Rattle.std.proofs.lemmas.Bool.{false≢true}
use mathlib.Core.List.{List, [], ◌∷◌}
use Rattle.ballots.specs.Ballot.{max_x, next_x, next_ballot}
use Rattle.ballots.specs.BallotLaws.{next_above}
use Rattle.consensus.specs.declared.Event.{Event}
use Rattle.consensus.specs.declared.Message.{Message}
use Rattle.consensus.specs.Events.{propose, restart}
use Rattle.agreement.specs.Runs.{StepFunction, World, start, Among, after, Run, says, has_promised, has_accepted}
use Rattle.agreement.specs.Runs.Run.{still}
use Rattle.agreement.specs.Finishing.{JustEnough, Turn, TakesTurn, Turns, proposal, MayFinish, replies}
use Rattle.agreement.specs.Finishing.Turns.{none, next}
use Rattle.agreement.proofs.Finishing.Reaches.{same_order}
use Rattle.agreement.specs.Promises.{Promises}
use Rattle.agreement.proofs.Tight.Replays.{same_event, same_event_is_equal, Call, world_after, may_make_all, run_of, apart}

-- ---- turns that can be made in one way

module _ (s b k q : ℕ) (e : Event) where
  -- a message of kind k from q about slot s and ballot b
  abbrev fits : Event → Bool
  fits d = eqb d.kind k && eqb d.slot.0 s && eqb d.from q && eqb d.ballot.0 b

  -- if it is such a message, it carries e
  abbrev carries : Event → Bool
  unfolding same_event
  carries d = not (fits d) || same_event d e

  -- every such message carries e
  unfoldable pub all_carry : List Message → Bool
  unfolding same_event
  all_carry [] = true
  all_carry (m ∷ ms) = carries m.event && all_carry ms

  fitting_is : (d : Event) → carries d ≡ true → fits d ≡ true → d ≡ e
  unfolding same_event
  fitting_is d test fit = same_event_is_equal d e (simp fit at test)

  carried_is : (ms : List Message) (m : Message) → all_carry ms ≡ true → Among m ms → fits m.event ≡ true → m.event ≡ e
  unfolding all_carry
  carried_is [] m all among = elim among [ ]
  carried_is (x ∷ ms) m all (inl same) =
      fitting_is m.event (subst (λ (y : Message). carries y.event ≡ true) (sym same) ((and-eq-true_iff (carries x.event) (all_carry ms)).0 all).0)
  carried_is (x ∷ ms) m all (inr among) = carried_is ms m ((and-eq-true_iff (carries x.event) (all_carry ms)).0 all).1 among

module _ (f : StepFunction) (s b : ℕ) where
  -- each turn, of a kind that comes from no outside, has at most the given event to be made with
  unfoldable pub forced : World → List Turn → List Event → Bool
  unfolding all_carry
  forced w [] es = true
  forced w (t ∷ ts) [] = false
  forced w (t ∷ ts) (e ∷ es) =
      not (eqb t.kind propose) && not (eqb t.kind restart) && all_carry s b t.kind t.from e w.parcels
      && forced (after f w t.box e) ts es

  -- the world after the turns, each made with its event
  unfoldable pub turned : World → List Turn → List Event → World
  turned w [] es = w
  turned w (t ∷ ts) [] = w
  turned w (t ∷ ts) (e ∷ es) = turned (after f w t.box e) ts es

  takes_forced : (n p : ℕ) (w : World) (i : ℕ) (e d : Event) → TakesTurn f n p s b w i e
      → not (eqb e.kind propose) ≡ true → not (eqb e.kind restart) ≡ true → all_carry s b e.kind e.from d w.parcels ≡ true → e ≡ d
  takes_forced n p w i e d takes no_propose no_restart all =
      ⊎_elim
      (⊎_elim (λ proposes. absurd (apart _ _ no_propose proposes)) (λ restarts. absurd (apart _ _ no_restart restarts)))
      (λ delivered.
      sym delivered.carried
      ∙ carried_is s b e.kind e.from d w.parcels delivered.message all delivered.put_out
      (subst (λ (x : Event). fits s b e.kind e.from d x ≡ true) (sym delivered.carried)
      (simp (eq-eqb e.kind e.kind refl, eq-eqb e.slot.0 s takes.of_slot, eq-eqb e.from e.from refl, eq-eqb e.ballot.0 b takes.of_ballot))))
      takes.may.source

  pub turns_end : (n p : ℕ) (w u : World) (ts : List Turn) (es : List Event) → Turns f n p s b w ts u → forced w ts es ≡ true → u ≡ turned w ts es
  unfolding forced turned
  turns_end n p w u ts es none ok = refl
  turns_end n p w u ts [] (next e takes turns) ok = absurd (false≢true ok)
  turns_end n p w u ts (d ∷ ds) (next {i = i} {ts = rest} e takes turns) ok =
      let goes_on = (and-eq-true_iff _ _).0 ok in
      let all = (and-eq-true_iff _ _).0 goes_on.0 in
      let kind = (and-eq-true_iff _ _).0 all.0 in
      let is = takes_forced n p w i e d takes kind.0 kind.1 all.1 in
      turns_end n p (after f w i e) u rest ds turns (subst⁻¹ (λ (x : Event). forced (after f w i x) rest ds ≡ true) is goes_on.1)
      ∙ ap (λ (x : Event). turned (after f w i x) rest ds) is

-- ---- the round of a box that is alone

abbrev itself : List ℕ
itself = 0 ∷ []

just_itself : JustEnough 1 itself
just_itself =
    record {
      smallest = refl;
      distinct = (λ listed. listed, tt);
      all_below = λ q listed. ⊎_elim (λ same. omega arith) (λ (no_more : ⊥). absurd no_more) listed;
    }

alone_may_finish : (w : World) (v : ℕ) → v ≢ 0 → says w 0 0 ≡ 0 → leb (next_x (has_promised w 0 0)) max_x ≡ true → MayFinish 1 w 0 0 v itself
alone_may_finish w v some nothing left =
    record {
      a_box = lit< tt;
      a_slot = lit< tt;
      a_value = some;
      nothing_agreed = nothing;
      x_left = leb-true _ _ left;
      just_enough = just_itself;
      nothing_as_high = λ q listed.
          ⊎_elim (λ same. omega (arith, ap (λ (x : ℕ). has_promised w x 0) same, next_above (has_promised w 0 0) 0)) (λ (no_more : ⊥). absurd no_more) listed;
    }

-- calls of a box that is alone, a value that it proposes for slot 0 after them, and the events of the four turns
pub record Attempt : Type 0 where
  pub before : List Call
  pub value : ℕ
  pub heard : List Event

-- nothing is agreed or accepted before, the turns can be made with these events alone, and the box does not say the value at the end
unfoldable pub fails : StepFunction → Attempt → Bool
unfolding world_after may_make_all forced turned
fails f a =
    let w = world_after f (start 1) a.before in
    let b = next_ballot (has_promised w 0 0) 0 in
    let asked = after f w 0 (proposal 0 a.value) in
    let turns = replies 0 itself itself itself itself in
    may_make_all f 1 (start 1) a.before && not (eqb a.value 0) && eqb (says w 0 0) 0 && leb (next_x (has_promised w 0 0)) max_x
    && eqb (has_accepted w 0 0).ballot.0 0 && forced f 0 b asked turns a.heard
    && not (eqb (says (turned f 0 b asked turns a.heard) 0 0) a.value)

pub attempt_breaks : (f : StepFunction) (a : Attempt) → fails f a ≡ true → ¬ Promises f
unfolding fails
attempt_breaks f a shown promises =
    let w = world_after f (start 1) a.before in
    let b = next_ballot (has_promised w 0 0) 0 in
    let asked = after f w 0 (proposal 0 a.value) in
    let turns = replies 0 itself itself itself itself in
    let other = (and-eq-true_iff _ _).0 shown in
    let one_way = (and-eq-true_iff _ _).0 other.0 in
    let none_accepted = (and-eq-true_iff _ _).0 one_way.0 in
    let left = (and-eq-true_iff _ _).0 none_accepted.0 in
    let nothing = (and-eq-true_iff _ _).0 left.0 in
    let some = (and-eq-true_iff _ _).0 nothing.0 in
    let order = same_order itself just_itself.distinct in
    let run : Run f 1 (start 1) w = run_of f 1 _ _ a.before still some.0 in
    let done =
    promises.finishes.finishes 1 w 0 0 a.value itself itself itself itself itself (lit≤ tt) (lit≤ tt) run
    (alone_may_finish w a.value (apart a.value 0 some.1) (eqb-true _ _ nothing.1) left.1)
    order order order order in
    let accepted_none : (has_accepted w 0 0).ballot.0 ≡ 0 = eqb-true _ _ none_accepted.1 in
    apart (says (turned f 0 b asked turns a.heard) 0 0) a.value other.1
    (sym (ap (λ (u : World). says u 0 0) (turns_end f 0 b 1 0 asked done.end turns a.heard done.turns one_way.1))
    ∙ done.agreed_value.none_accepted
    (λ q listed. ⊎_elim (λ same. subst (λ (x : ℕ). (has_accepted w x 0).ballot.0 ≡ 0) (sym same) accepted_none) (λ (no_more : ⊥). absurd no_more) listed))
