-- What Paxos promises of one slot, of any ledger that is kept, so of every reachable one: at most one value is ever chosen, and it was proposed.
-- Relies on Kept, which Keeps proves of every reachable ledger. Cited by the crates above.
use Rattle.std.specs.Prelude.{ℕ, zero, suc, ◌≤◌, ◌<◌, ◌≡◌}
use Rattle.std.proofs.Common.{sym, subst, ⊎_elim, le_trans, lt_of_lt_of_le, lt-suc_self, eq-or-lt_of_le, arith}
use Rattle.std.proofs.Math.Decide.{dec_le}
use Rattle.agreement.specs.Ledger.{proposed, opened, reported, begun, voted, Ledger, Said, ◌⊑◌, Report, Sourced, own, taken, Backed, Chosen, ChosenValue}
use Rattle.agreement.specs.Ledger.Kept.{BegunKept, Kept}

module _ (maker_of : ℕ → ℕ) (Boxes : Type 0) (In : ℕ → Boxes → Type 0) (EnoughToCollect : Boxes → Type 0) where
  -- at most one value is begun at a ballot
  pub one_begun_a_ballot :
      (l : Ledger) → Kept maker_of Boxes In EnoughToCollect l → (b v w : ℕ) → Said (begun b v) l → Said (begun b w) l → v ≡ w
  one_begun_a_ballot l kept = kept.one_begun

  pub begun_above_zero : (l : Ledger) → Kept maker_of Boxes In EnoughToCollect l → (b v : ℕ) → Said (begun b v) l → 0 < b
  begun_above_zero l kept b v h = (kept.facts_kept (opened b) (kept.facts_kept (begun b v) h).begun_opened).opened_above_zero

  -- a best report above 0 gives a value that was begun at its ballot
  best_begun :
      (l : Ledger) →
      Kept maker_of Boxes In EnoughToCollect l →
      (c w best : ℕ) →
      Sourced l c w best →
      0 < best →
      Said (begun best w) l
  best_begun l kept c w best (own is_zero was_proposed) above_zero = absurd (omega arith)
  best_begun l kept c w best (taken a not_zero told) above_zero = (kept.facts_kept (reported a c best w) told).report_begun not_zero

  -- above its maker's promise no ballot is opened
  pub unopened_above : (l : Ledger) → Kept maker_of Boxes In EnoughToCollect l → (b : ℕ) → (l.box (maker_of b)).promise < b → ¬ Said (opened b) l
  unopened_above l kept b above h = omega (arith, (kept.facts_kept (opened b) h).opened_promised)

  -- nor is anything begun there
  pub unbegun_above :
      (l : Ledger) → Kept maker_of Boxes In EnoughToCollect l → (b : ℕ) → (l.box (maker_of b)).promise < b → (w : ℕ) → ¬ Said (begun b w) l
  unbegun_above l kept b above w h = unopened_above l kept b above (kept.facts_kept (begun b w) h).begun_opened

module _ (Boxes : Type 0) (In : ℕ → Boxes → Type 0) (EnoughToBegin : Boxes → Type 0) where
  -- what is chosen stays chosen
  pub chosen_lasts : (l l' : Ledger) → l ⊑ l' → (v : ℕ) → ChosenValue Boxes In EnoughToBegin l v → ChosenValue Boxes In EnoughToBegin l' v
  chosen_lasts l l' more v (b, chosen) = (
    b,
    record {
      was_begun = more (begun b v) chosen.was_begun;
      boxes = chosen.boxes;
      enough = chosen.enough;
      all_voted = λ a member. more (voted a b) (chosen.all_voted a member);
    },
  )

module _ (maker_of : ℕ → ℕ) (Boxes : Type 0) (In : ℕ → Boxes → Type 0) (EnoughToCollect EnoughToBegin : Boxes → Type 0) where
  -- a chosen value was proposed
  pub chosen_was_proposed :
      (l : Ledger) → Kept maker_of Boxes In EnoughToCollect l → (v : ℕ) → ChosenValue Boxes In EnoughToBegin l v → Said (proposed v) l
  chosen_was_proposed l kept v (b, chosen) = (kept.facts_kept (begun b v) chosen.was_begun).begun_proposed

module _
    (maker_of : ℕ → ℕ) (Boxes : Type 0) (In : ℕ → Boxes → Type 0) (EnoughToCollect EnoughToBegin : Boxes → Type 0)
    (meet : (s t : Boxes) → EnoughToCollect s → EnoughToBegin t → (a : ℕ) × In a s × In a t)
  where
    -- the box that collected at c and voted at b reported b or higher: the best report at c is no lower
    best_reaches :
        (l : Ledger) →
        Kept maker_of Boxes In EnoughToCollect l →
        (v b : ℕ) →
        Chosen Boxes In EnoughToBegin l v b →
        (c w : ℕ) →
        (backed : Backed Boxes In EnoughToCollect l c w) →
        b < c →
        b ≤ backed.best
    best_reaches l kept v b chosen c w backed below =
        let shared : (a : ℕ) × In a backed.boxes × In a chosen.boxes = meet backed.boxes chosen.boxes backed.enough chosen.enough in
        let report : Report l shared.0 c backed.best = backed.reports shared.0 shared.1 in
        le_trans
        (kept.votes_reported shared.0 b c report.ballot report.value (chosen.all_voted shared.0 shared.2) report.said below)
        report.within

    -- what is begun above b is the value of the best report, which was begun at that ballot, below c
    chosen_step :
        (l : Ledger) →
        Kept maker_of Boxes In EnoughToCollect l →
        (v b : ℕ) →
        Chosen Boxes In EnoughToBegin l v b →
        (c w : ℕ) →
        Said (begun c w) l →
        b < c →
        ((m : ℕ) → m < c → Said (begun m w) l → b ≤ m → w ≡ v) →
        w ≡ v
    chosen_step l kept v b chosen c w begun_c below lower = lower backed.best truth.backed_below begun_best reach
      where
        truth : BegunKept Boxes In EnoughToCollect l c w
        truth = kept.facts_kept (begun c w) begun_c

        backed : Backed Boxes In EnoughToCollect l c w
        backed = truth.begun_backed

        reach : b ≤ backed.best
        reach = best_reaches l kept v b chosen c w backed below

        above_zero : 0 < backed.best
        above_zero = lt_of_lt_of_le (begun_above_zero maker_of Boxes In EnoughToCollect l kept b v chosen.was_begun) reach

        begun_best : Said (begun backed.best w) l
        begun_best = best_begun maker_of Boxes In EnoughToCollect l kept c w backed.best backed.sourced above_zero

    chosen_stays_below :
        (l : Ledger) →
        Kept maker_of Boxes In EnoughToCollect l →
        (v b : ℕ) →
        Chosen Boxes In EnoughToBegin l v b →
        (bound c w : ℕ) →
        c < bound →
        Said (begun c w) l →
        b ≤ c →
        w ≡ v
    chosen_stays_below l kept v b chosen zero c w bounded begun_c reach = absurd (omega arith)
    chosen_stays_below l kept v b chosen (suc bound) c w bounded begun_c reach =
        ⊎_elim (λ same. kept.one_begun c w v begun_c (subst (λ (n : ℕ). Said (begun n v) l) same chosen.was_begun))
        (λ below. chosen_step l kept v b chosen c w begun_c below (λ m lower. chosen_stays_below l kept v b chosen bound m w (omega arith)))
        (eq-or-lt_of_le reach)

    -- once v is chosen at b, whatever is begun at b or above is v
    pub chosen_stays :
        (l : Ledger) →
        Kept maker_of Boxes In EnoughToCollect l →
        (v b : ℕ) →
        Chosen Boxes In EnoughToBegin l v b →
        (c w : ℕ) →
        Said (begun c w) l →
        b ≤ c →
        w ≡ v
    chosen_stays l kept v b chosen c w = chosen_stays_below l kept v b chosen (suc c) c w (lt-suc_self c)

    -- two chosen values are equal
    pub agreement :
        (l : Ledger) →
        Kept maker_of Boxes In EnoughToCollect l →
        (v w : ℕ) →
        ChosenValue Boxes In EnoughToBegin l v →
        ChosenValue Boxes In EnoughToBegin l w →
        v ≡ w
    agreement l kept v w (b, v_chosen) (c, w_chosen) =
        elim (dec_le b c) [
          | yes reach ↦ sym (chosen_stays l kept v b v_chosen c w w_chosen.was_begun reach)
          | no below ↦ chosen_stays l kept w c w_chosen b v v_chosen.was_begun (omega arith)
        ]
