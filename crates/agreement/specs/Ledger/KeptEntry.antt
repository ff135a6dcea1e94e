-- What an entry of one box keeps: all that Kept says of the old facts and the other boxes, and of the new ones if shown.
-- Relies on Update, Laws and Kept. Cited by Keeps, once for each move.
use Rattle.std.specs.Prelude.{ℕ, ◌≤◌, List, [], ◌∷◌}
use Rattle.std.proofs.Math.Path.{subst⁻¹}
use Rattle.std.proofs.Common.{inl, inr, ⊎_elim, le_refl, arith}
use Rattle.std.proofs.Math.Nat.{le_trans}
use Rattle.agreement.specs.Ledger.Update.{update_all}
use Rattle.agreement.specs.Ledger.{Fact, proposed, opened, reported, begun, voted, Lasting, Ledger, Among, ◌⊑◌, after, promising}
use Rattle.agreement.specs.Ledger.Laws.{reported_kind, begun_kind, voted_kind, Lacks, said_lasts, new_or_said, said_before, backed_lasts}
use Rattle.agreement.specs.Ledger.Kept.{BoxKept, OneBegun, VotesReported, FactKept, Kept}

-- the promise and the accepted ballot of a box never fall
pub record Grown (s t : Lasting) : Type 0 where
  pub promise_grown : s.promise ≤ t.promise
  pub ballot_grown : s.ballot ≤ t.ballot

pub box_lasts : (l l' : Ledger) (s : Lasting) (p : ℕ) → l ⊑ l' → BoxKept l s → s.promise ≤ p → BoxKept l' (promising p s)
box_lasts l l' s p more k reach =
    record {
      ballot_promised = le_trans k.ballot_promised reach;
      accepted_begun = λ not_zero. more (begun s.ballot s.value) (k.accepted_begun not_zero);
    }

-- every fact of the list has the property
abbrev pub Each : (Fact → Type 0) → List Fact → Type 0
Each P [] = Unit {0}
Each P (g ∷ gs) = P g × Each P gs

each_among : (P : Fact → Type 0) (fs : List Fact) (f : Fact) → Each P fs → Among f fs → P f
each_among P [] f each h = elim h [ ]
each_among P (g ∷ fs) f each (inl e) = subst⁻¹ P e each.0
each_among P (g ∷ fs) f each (inr h) = each_among P fs f each.1 h

-- ---- the pairs, where a move adds neither of the two

pub one_begun_lasts : (l : Ledger) (a : ℕ) (s : Lasting) (fs : List Fact) → Lacks begun_kind fs → OneBegun l → OneBegun (after l a s fs)
one_begun_lasts l a s fs lacks one b v w h k = one b v w (said_before l a s fs (begun b v) lacks h) (said_before l a s fs (begun b w) lacks k)

pub votes_reported_last :
    (l : Ledger) (a : ℕ) (s : Lasting) (fs : List Fact) → Lacks voted_kind fs → Lacks reported_kind fs → VotesReported l → VotesReported (after l a s fs)
votes_reported_last l a s fs no_vote no_report kept c b d b₂ v₂ h k =
    kept c b d b₂ v₂ (said_before l a s fs (voted c b) no_vote h) (said_before l a s fs (reported c d b₂ v₂) no_report k)

module _ (maker_of : ℕ → ℕ) (Boxes : Type 0) (In : ℕ → Boxes → Type 0) (EnoughToCollect : Boxes → Type 0) where
  fact_lasts :
      (l l' : Ledger) →
      l ⊑ l' →
      ((c : ℕ) → Grown (l.box c) (l'.box c)) →
      (f : Fact) →
      FactKept maker_of Boxes In EnoughToCollect l f →
      FactKept maker_of Boxes In EnoughToCollect l' f
  unfolding backed_lasts
  fact_lasts l l' more grown (proposed v) k = tt
  fact_lasts l l' more grown (opened b) k =
      record { opened_above_zero = k.opened_above_zero; opened_promised = le_trans k.opened_promised (grown (maker_of b)).promise_grown }
  fact_lasts l l' more grown (reported a b b₂ v₂) k =
      record {
        report_promised = le_trans k.report_promised (grown a).promise_grown;
        report_within = k.report_within;
        report_begun = λ not_zero. more (begun b₂ v₂) (k.report_begun not_zero);
      }
  fact_lasts l l' more grown (begun b v) k =
      record {
        begun_opened = more (opened b) k.begun_opened;
        begun_proposed = more (proposed v) k.begun_proposed;
        begun_backed = backed_lasts Boxes In EnoughToCollect l l' more b v k.begun_backed;
        backed_below = k.backed_below;
      }
  fact_lasts l l' more grown (voted a b) k = le_trans k (grown a).ballot_grown

  -- box a saved s and said fs: what is kept, from what is new
  pub entry_keeps :
      (l : Ledger) (a : ℕ) (s : Lasting) (fs : List Fact) →
      Kept maker_of Boxes In EnoughToCollect l →
      Grown (l.box a) s →
      BoxKept (after l a s fs) s →
      Each (FactKept maker_of Boxes In EnoughToCollect (after l a s fs)) fs →
      OneBegun (after l a s fs) →
      VotesReported (after l a s fs) →
      Kept maker_of Boxes In EnoughToCollect (after l a s fs)
  entry_keeps l a s fs kept grown box_kept each one reported_votes =
      record {
        facts_kept =
            λ f h.
            ⊎_elim (each_among (FactKept maker_of Boxes In EnoughToCollect l') fs f each)
            (λ old. fact_lasts l l' (said_lasts l a s fs) all_grown f (kept.facts_kept f old))
            (new_or_said l a s fs f h);
        boxes_kept =
            update_all (λ (c : ℕ) (t : Lasting). BoxKept l' t) l.box a s box_kept
            (λ c apart. box_lasts l l' (l.box c) (l.box c).promise (said_lasts l a s fs) (kept.boxes_kept c) (le_refl (l.box c).promise));
        one_begun = one;
        votes_reported = reported_votes;
      }
    where
      l' : Ledger
      l' = after l a s fs

      all_grown : (c : ℕ) → Grown (l.box c) (l'.box c)
      all_grown = update_all (λ (c : ℕ) (t : Lasting). Grown (l.box c) t) l.box a s grown (λ c apart. omega arith)
