-- Propose opens a ballot of the box's own, above its promise, for its value.
-- Relies on Box and its laws. Cited by OnSlot.
use Rattle.std.specs.Prelude.{ℕ, ◌<◌, ◌≡◌, refl, ◌⊎◌, [], ◌∷◌, eqb, ltb}
use Rattle.std.proofs.Common.{sym, ap, ◌∙◌, inl, inr, arith, eqb-true}
use Rattle.std.proofs.Math.Path.{subst⁻¹}
use Rattle.std.proofs.lemmas.Bool.{false≢true}
use Rattle.ballots.specs.Ballot.{max_x, next_x, next_ballot, maker_of}
use Rattle.ballots.specs.BallotLaws.{next_maker, next_above}
use Rattle.ballots.specs.BoxesLaws.{zero_holds_none}
use Rattle.consensus.specs.declared.Head.{Head}
use Rattle.consensus.specs.declared.Room.{Room}
use Rattle.consensus.specs.declared.Event.{Event}
use Rattle.consensus.specs.Answers.{AlreadyAgreed, NoBallotLeft}
use Rattle.consensus.specs.Room.{promised, agreed, collecting, vote, saved, round, room, no_vote}
use Rattle.consensus.specs.Events.{propose, collect}
use Rattle.consensus.specs.OnSlot.{Outcome, Becomes, all_boxes, send, on_propose}
use Rattle.step_laws.specs.ByTest.{by_answer}
use Rattle.agreement.specs.Ledger.Update.{update_same}
use Rattle.agreement.specs.Ledger.{Lasting, Ledger, Said, opened, proposed, begun, promising, after_open, opens, stays, moves}
use Rattle.agreement.specs.Ledger.Laws.{said_before}
use Rattle.agreement.proofs.Ledger.Agrees.{unbegun_above}
use Rattle.agreement.specs.Majorities.{In, CollectSet}
use Rattle.agreement.specs.Box.{Proposes, Situation, Told}
use Rattle.agreement.proofs.Box.Laws.{refused}

module _ (h : Head) (r : Room) (e : Event) (l : Ledger) (kind : e.kind ≡ propose) (here : Situation h r e l) (free : agreed r ≡ 0) where
  abbrev b : ℕ
  b = next_ballot (promised r) h.index

  abbrev l' : Ledger
  l' = after_open l h.index b e.value

  made : maker_of b ≡ h.index
  made = next_maker (promised r) h.index (omega (arith, here.head_kept.index_below, here.head_kept.few_boxes))

  above : (a : ℕ) → a ≡ h.index → (l.box a).promise < b
  above a same =
      subst⁻¹ (λ (x : ℕ). (l.box x).promise < b) same
      (subst⁻¹ (λ (x : Lasting). x.promise < b) here.room_told.saved_lasts (next_above (promised r) h.index))

  unbegun : (w : ℕ) → ¬ Said (begun b w) l'
  unbegun w said =
      unbegun_above maker_of ℕ In (CollectSet h.boxes) l here.ledger_kept b (above (maker_of b) made) w
      (said_before l h.index (l.box h.index) (opened b ∷ proposed e.value ∷ []) (begun b w) (omega arith) said)

  abbrev outcome : Outcome
  outcome = Becomes (room (saved b r.saved.accepted) (round collecting (vote b e.value) no_vote 0 0) (agreed r)) (send h e all_boxes collect b 0 0)

  proposals : (v : ℕ) → Said (proposed v) l' → Said (proposed v) l ⊎ Proposes e outcome v
  proposals v (inl same) = absurd (let z : ◌≡◌ {A = ℕ} 0 1 = cc in omega arith)
  proposals v (inr (inl same)) = inr (kind, cc, (_, refl))
  proposals v (inr (inr said)) = inl said

  opened_told : Told h r e l outcome
  opened_told =
      record {
        next = l';
        moved = moves (opens b e.value made (above h.index refl)) stays;
        room_told = record {
          saved_lasts = update_same l.box h.index _ ∙ ap (promising b) here.room_told.saved_lasts;
          collecting_told = λ p. record {
            own_opened = inl refl;
            own_proposed = inr (inl refl);
            none_begun = unbegun;
            counted_reported = λ a counted. absurd (false≢true (sym (zero_holds_none a) ∙ counted));
            best_reported = λ some. absurd (some refl);
          };
          begun_told = λ p. absurd (omega arith);
          agreed_told = λ some. absurd (some free);
        };
        answer_told = inl refl;
        proposals = proposals;
      }

pub propose_told : (h : Head) (r : Room) (e : Event) (l : Ledger) → e.kind ≡ propose → Situation h r e l → Told h r e l (on_propose h r e)
unfolding on_propose
propose_told h r e l kind here =
    by_answer (eqb (agreed r) 0)
    (λ none.
    by_answer (ltb max_x (next_x (promised r)))
    (λ gone. simp (none, gone) (refused _ _ l r e NoBallotLeft here.room_told tt))
    (λ left. simp (none, left) (opened_told h r e l kind here (eqb-true (agreed r) 0 none))))
    (λ some. simp some (refused _ _ l r e AlreadyAgreed here.room_told tt))
