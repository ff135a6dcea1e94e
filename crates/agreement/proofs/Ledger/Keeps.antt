-- Every move keeps what Kept says, one lemma a move, so every reachable ledger has it.
-- Relies on Update, Laws, Kept and KeptEntry. Cited by Agrees, and by the crates above.
use Rattle.std.specs.Prelude.{ℕ, ◌≤◌, ◌<◌, ◌≡◌, refl, ◌≢◌, List, [], ◌∷◌}
use Rattle.std.proofs.Common.{sym, ap, ◌∙◌, subst, inl, inr, le_refl, le_trans, le_of_eq, arith}
use Rattle.std.proofs.Math.Path.{subst⁻¹}
use Rattle.agreement.specs.Ledger.Update.{update, update_same}
use Rattle.agreement.specs.Ledger.{Fact, proposed, opened, reported, begun, voted, Lasting, Ledger, Said, ◌⊑◌, empty_ledger, after, promising, accepting, after_open, after_report, after_begin, after_vote, after_raise, Sourced, own, taken, Backed, Move, opens, reports, begins, votes, raises, Moves, stays, moves, Reachable, starts, continues}
use Rattle.agreement.specs.Ledger.Laws.{begun_ballot, begun_value, reported_box, reported_ballot, voted_box, voted_ballot, said_lasts, said_before, backed_lasts}
use Rattle.agreement.specs.Ledger.Kept.{ReportedKept, OneBegun, VotesReported, BegunKept, Kept}
use Rattle.agreement.specs.Ledger.KeptEntry.{box_lasts, one_begun_lasts, votes_reported_last, entry_keeps}

module _ (maker_of : ℕ → ℕ) (Boxes : Type 0) (In : ℕ → Boxes → Type 0) (EnoughToCollect : Boxes → Type 0) where
  -- ---- one lemma a move

  opens_keeps :
      (l : Ledger) (a b v : ℕ) →
      Kept maker_of Boxes In EnoughToCollect l →
      maker_of b ≡ a →
      (l.box a).promise < b →
      Kept maker_of Boxes In EnoughToCollect (after_open l a b v)
  opens_keeps l a b v kept made above =
      entry_keeps maker_of Boxes In EnoughToCollect l a s fs kept (omega arith)
      (box_lasts l (after l a s fs) (l.box a) b (said_lasts l a s fs) (kept.boxes_kept a) (omega arith))
      (record { opened_above_zero = omega arith; opened_promised = le_of_eq own_promise }, (tt, tt))
      (one_begun_lasts l a s fs (omega arith) kept.one_begun)
      (votes_reported_last l a s fs (omega arith) (omega arith) kept.votes_reported)
    where
      s : Lasting
      s = promising b (l.box a)

      fs : List Fact
      fs = opened b ∷ proposed v ∷ []

      own_promise : b ≡ (update l.box a s (maker_of b)).promise
      own_promise = sym (ap (λ (t : Lasting). t.promise) (subst⁻¹ (λ (c : ℕ). update l.box a s c ≡ s) made (update_same l.box a s)))

  raises_keeps :
      (l : Ledger) (a p : ℕ) →
      Kept maker_of Boxes In EnoughToCollect l →
      (l.box a).promise ≤ p →
      Kept maker_of Boxes In EnoughToCollect (after_raise l a p)
  raises_keeps l a p kept reach =
      entry_keeps maker_of Boxes In EnoughToCollect l a s [] kept (omega arith)
      (box_lasts l (after l a s []) (l.box a) p (said_lasts l a s []) (kept.boxes_kept a) reach)
      tt
      (one_begun_lasts l a s [] tt kept.one_begun)
      (votes_reported_last l a s [] tt tt kept.votes_reported)
    where
      s : Lasting
      s = promising p (l.box a)

  reports_keeps :
      (l : Ledger) (a b : ℕ) →
      Kept maker_of Boxes In EnoughToCollect l →
      (l.box a).promise ≤ b →
      Kept maker_of Boxes In EnoughToCollect (after_report l a b)
  reports_keeps l a b kept reach =
      entry_keeps maker_of Boxes In EnoughToCollect l a s fs kept (omega arith)
      (box_lasts l l' (l.box a) b more (kept.boxes_kept a) reach)
      (truth, tt)
      (one_begun_lasts l a s fs (omega arith) kept.one_begun)
      votes_told
    where
      s : Lasting
      s = promising b (l.box a)

      fs : List Fact
      fs = reported a b (l.box a).ballot (l.box a).value ∷ []

      l' : Ledger
      l' = after l a s fs

      more : l ⊑ l'
      more = said_lasts l a s fs

      truth : ReportedKept l' a b (l.box a).ballot (l.box a).value
      truth =
          record {
            report_promised = le_of_eq (sym (ap (λ (t : Lasting). t.promise) (update_same l.box a s)));
            report_within = le_trans (kept.boxes_kept a).ballot_promised reach;
            report_begun = λ not_zero. more (begun (l.box a).ballot (l.box a).value) ((kept.boxes_kept a).accepted_begun not_zero);
          }

      vote_before : (c d : ℕ) → Said (voted c d) l' → Said (voted c d) l
      vote_before c d = said_before l a s fs (voted c d) (omega arith)

      accepted_reaches : (c d : ℕ) → Said (voted c d) l' → d ≤ (l.box c).ballot
      accepted_reaches c d h = kept.facts_kept (voted c d) (vote_before c d h)

      -- a new report gives the accepted ballot, which no vote of the box is above
      votes_told : VotesReported l'
      votes_told c d e b₂ v₂ h (inl same) below =
          omega (arith, accepted_reaches c d h, ap (λ (n : ℕ). (l.box n).ballot) (reported_box same), reported_ballot same)
      votes_told c d e b₂ v₂ h (inr k) below = kept.votes_reported c d e b₂ v₂ (vote_before c d h) k below

  votes_keeps :
      (l : Ledger) (a b v : ℕ) →
      Kept maker_of Boxes In EnoughToCollect l →
      Said (begun b v) l →
      (l.box a).promise ≤ b →
      Kept maker_of Boxes In EnoughToCollect (after_vote l a b v)
  votes_keeps l a b v kept was_begun reach =
      entry_keeps maker_of Boxes In EnoughToCollect l a s fs kept (omega (arith, kept.boxes_kept a))
      (record { ballot_promised = le_refl b; accepted_begun = λ not_zero. said_lasts l a s fs (begun b v) was_begun })
      (le_of_eq (sym (ap (λ (t : Lasting). t.ballot) (update_same l.box a s))), tt)
      (one_begun_lasts l a s fs (omega arith) kept.one_begun)
      votes_told
    where
      s : Lasting
      s = accepting b v

      fs : List Fact
      fs = voted a b ∷ []

      report_before : (c e b₂ v₂ : ℕ) → Said (reported c e b₂ v₂) (after l a s fs) → Said (reported c e b₂ v₂) l
      report_before c e b₂ v₂ = said_before l a s fs (reported c e b₂ v₂) (omega arith)

      promise_reaches : (c e b₂ v₂ : ℕ) → Said (reported c e b₂ v₂) (after l a s fs) → e ≤ (l.box c).promise
      promise_reaches c e b₂ v₂ k = (kept.facts_kept (reported c e b₂ v₂) (report_before c e b₂ v₂ k)).report_promised

      -- a new vote is at the promise or above, and so not below a ballot that the box has reported at
      votes_told : VotesReported (after l a s fs)
      votes_told c d e b₂ v₂ (inl same) k below =
          absurd (omega (arith, promise_reaches c e b₂ v₂ k, ap (λ (n : ℕ). (l.box n).promise) (voted_box same), voted_ballot same))
      votes_told c d e b₂ v₂ (inr h) k below = kept.votes_reported c d e b₂ v₂ h (report_before c e b₂ v₂ k) below

  -- a value whose source is a report was begun, and so proposed
  sourced_proposed : (l : Ledger) (b v best : ℕ) → Kept maker_of Boxes In EnoughToCollect l → Sourced l b v best → Said (proposed v) l
  sourced_proposed l b v best kept (own is_zero was_proposed) = was_proposed
  sourced_proposed l b v best kept (taken a not_zero told) =
      (kept.facts_kept (begun best v) ((kept.facts_kept (reported a b best v) told).report_begun not_zero)).begun_proposed

  -- a report's accepted ballot was begun, and nothing is begun at b: so it is below b
  sourced_below :
      (l : Ledger) (b v best : ℕ) →
      Kept maker_of Boxes In EnoughToCollect l →
      Said (opened b) l →
      ((w : ℕ) → ¬ Said (begun b w) l) →
      Sourced l b v best →
      best < b
  sourced_below l b v best kept was_opened unbegun (own is_zero was_proposed) = omega (arith, (kept.facts_kept (opened b) was_opened).opened_above_zero)
  sourced_below l b v best kept was_opened unbegun (taken a not_zero told) = omega (arith, truth.report_within, apart)
    where
      truth : ReportedKept l a b best v
      truth = kept.facts_kept (reported a b best v) told

      apart : best ≢ b
      apart e = unbegun v (subst (λ (c : ℕ). Said (begun c v) l) e (truth.report_begun not_zero))

  begins_keeps :
      (l : Ledger) (a b v : ℕ) →
      Kept maker_of Boxes In EnoughToCollect l →
      Said (opened b) l →
      ((w : ℕ) → ¬ Said (begun b w) l) →
      Backed Boxes In EnoughToCollect l b v →
      Kept maker_of Boxes In EnoughToCollect (after_begin l a b v)
  unfolding backed_lasts
  begins_keeps l a b v kept was_opened unbegun backed =
      entry_keeps maker_of Boxes In EnoughToCollect l a s fs kept (omega arith)
      (box_lasts l l' s s.promise more (kept.boxes_kept a) (le_refl s.promise))
      (truth, tt)
      one_at_each
      (votes_reported_last l a s fs (omega arith) (omega arith) kept.votes_reported)
    where
      s : Lasting
      s = l.box a

      fs : List Fact
      fs = begun b v ∷ []

      l' : Ledger
      l' = after l a s fs

      more : l ⊑ l'
      more = said_lasts l a s fs

      truth : BegunKept Boxes In EnoughToCollect l' b v
      truth =
          record {
            begun_opened = more (opened b) was_opened;
            begun_proposed = more (proposed v) (sourced_proposed l b v backed.best kept backed.sourced);
            begun_backed = backed_lasts Boxes In EnoughToCollect l l' more b v backed;
            backed_below = sourced_below l b v backed.best kept was_opened unbegun backed.sourced;
          }

      not_before : (c w x : ℕ) → begun c x ≡ begun b v → ¬ Said (begun c w) l
      not_before c w x same h = unbegun w (subst (λ (n : ℕ). Said (begun n w) l) (begun_ballot same) h)

      one_at_each : OneBegun l'
      one_at_each c w x (inl same) (inl same') = begun_value same ∙ sym (begun_value same')
      one_at_each c w x (inl same) (inr k) = absurd (not_before c x w same k)
      one_at_each c w x (inr h) (inl same) = absurd (not_before c w x same h)
      one_at_each c w x (inr h) (inr k) = kept.one_begun c w x h k

  -- ---- every reachable ledger

  pub move_keeps :
      (a : ℕ) (l l' : Ledger) →
      Move maker_of Boxes In EnoughToCollect a l l' →
      Kept maker_of Boxes In EnoughToCollect l →
      Kept maker_of Boxes In EnoughToCollect l'
  move_keeps a l _ (opens b v made above) kept = opens_keeps l a b v kept made above
  move_keeps a l _ (reports b was_opened reach) kept = reports_keeps l a b kept reach
  move_keeps a l _ (begins b v made was_opened unbegun backed) kept = begins_keeps l a b v kept was_opened unbegun backed
  move_keeps a l _ (votes b v was_begun reach not_zero) kept = votes_keeps l a b v kept was_begun reach
  move_keeps a l _ (raises p reach) kept = raises_keeps l a p kept reach

  pub moves_keep :
      (a : ℕ) (l l' : Ledger) →
      Moves maker_of Boxes In EnoughToCollect a l l' →
      Kept maker_of Boxes In EnoughToCollect l →
      Kept maker_of Boxes In EnoughToCollect l'
  moves_keep a l _ stays kept = kept
  moves_keep a l l' (moves {m = mid} first rest) kept = moves_keep a mid l' rest (move_keeps a l mid first kept)

  pub empty_kept : Kept maker_of Boxes In EnoughToCollect empty_ledger
  empty_kept =
      record {
        facts_kept = λ f h. absurd h;
        boxes_kept = λ a. record { ballot_promised = le_refl 0; accepted_begun = λ not_zero. absurd (not_zero refl) };
        one_begun = λ b v w h k. absurd h;
        votes_reported = λ a b c b₂ v₂ h k below. absurd h;
      }

  pub reachable_kept : (l : Ledger) → Reachable maker_of Boxes In EnoughToCollect l → Kept maker_of Boxes In EnoughToCollect l
  reachable_kept _ starts = empty_kept
  reachable_kept l' (continues {a = a} {l = l} reached move) = move_keeps a l l' move (reachable_kept l reached)
