-- Laws of moves: each is one entry of one box, and what they leave as it was.
-- Relies on Update, Ledger and Laws. Cited by the crates above.
use Rattle.std.specs.Prelude.{ℕ, ◌≤◌, ◌≡◌, refl, ◌≢◌, List, [], ◌∷◌}
use Rattle.std.proofs.Common.{ap, ◌∙◌, subst, ⊎_elim, le_refl, le_trans, arith}
use Rattle.agreement.specs.Ledger.Update.{update_other, update_all}
use Rattle.agreement.specs.Ledger.{Fact, proposed, opened, reported, begun, voted, Lasting, Ledger, Among, Said, ◌⊑◌, after, promising, accepting, Move, opens, reports, begins, votes, raises, Moves, stays, moves}
use Rattle.agreement.specs.Ledger.Laws.{begun_kind, Lacks, begun_ballot, said_lasts, new_or_said, lacking_not_among, only_among}

module _ (maker_of : ℕ → ℕ) where
  -- what all moves have in common: box a keeps its promise or raises it, says some facts, and begins at ballots of its own alone
  record Entry (a : ℕ) (l l' : Ledger) : Type 0 where
    saved : Lasting
    added : List Fact
    is_after : after l a saved added ≡ l'
    promise_grown : (l.box a).promise ≤ saved.promise
    begun_by_maker : (b w : ℕ) → Among (begun b w) added → maker_of b ≡ a

  none_begun : (a : ℕ) (fs : List Fact) → Lacks begun_kind fs → (b w : ℕ) → Among (begun b w) fs → maker_of b ≡ a
  none_begun a fs lacks b w h = absurd (lacking_not_among fs (begun b w) lacks h)

  -- moves of box a take nothing back, leave every other box alone, lower no promise, and begin at no other box's ballot
  pub record Frame (a : ℕ) (l l' : Ledger) : Type 0 where
    pub only_adds : l ⊑ l'
    pub leaves_others : (c : ℕ) → c ≢ a → l'.box c ≡ l.box c
    pub lowers_none : (c : ℕ) → (l.box c).promise ≤ (l'.box c).promise
    pub begins_own : (b w : ℕ) → maker_of b ≢ a → Said (begun b w) l' → Said (begun b w) l

  entry_frame : (a : ℕ) (l l' : Ledger) → Entry a l l' → Frame a l l'
  entry_frame a l l' e = subst (Frame a l) e.is_after framed
    where
      framed : Frame a l (after l a e.saved e.added)
      framed =
          record {
            only_adds = said_lasts l a e.saved e.added;
            leaves_others = update_other l.box a e.saved;
            lowers_none =
                update_all (λ (c : ℕ) (t : Lasting). (l.box c).promise ≤ t.promise) l.box a e.saved e.promise_grown
                (λ c apart. le_refl (l.box c).promise);
            begins_own =
                λ b w other h.
                ⊎_elim (λ new. absurd (other (e.begun_by_maker b w new))) (λ old. old)
                (new_or_said l a e.saved e.added (begun b w) h);
          }

  frame_stays : (a : ℕ) (l : Ledger) → Frame a l l
  frame_stays a l =
      record { only_adds = λ f h. h; leaves_others = λ c apart. refl; lowers_none = λ c. le_refl (l.box c).promise; begins_own = λ b w other h. h }

  frame_then : (a : ℕ) (l m n : Ledger) → Frame a l m → Frame a m n → Frame a l n
  frame_then a l m n p q =
      record {
        only_adds = λ f h. q.only_adds f (p.only_adds f h);
        leaves_others = λ c apart. q.leaves_others c apart ∙ p.leaves_others c apart;
        lowers_none = λ c. le_trans (p.lowers_none c) (q.lowers_none c);
        begins_own = λ b w other h. p.begins_own b w other (q.begins_own b w other h);
      }

module _ (maker_of : ℕ → ℕ) (Boxes : Type 0) (In : ℕ → Boxes → Type 0) (EnoughToCollect : Boxes → Type 0) where
  move_is_entry : (a : ℕ) (l l' : Ledger) → Move maker_of Boxes In EnoughToCollect a l l' → Entry maker_of a l l'
  move_is_entry a l _ (opens b v made above) =
      record {
        saved = promising b (l.box a);
        added = opened b ∷ proposed v ∷ [];
        is_after = refl;
        promise_grown = omega arith;
        begun_by_maker = none_begun maker_of a (opened b ∷ proposed v ∷ []) (omega arith);
      }
  move_is_entry a l _ (reports b was_opened reach) =
      let told : List Fact = reported a b (l.box a).ballot (l.box a).value ∷ [] in
      record {
        saved = promising b (l.box a);
        added = told;
        is_after = refl;
        promise_grown = reach;
        begun_by_maker = none_begun maker_of a told (omega arith);
      }
  move_is_entry a l _ (begins b v made was_opened unbegun backed) =
      record {
        saved = l.box a;
        added = begun b v ∷ [];
        is_after = refl;
        promise_grown = omega arith;
        begun_by_maker = λ c w h. ap maker_of (begun_ballot (only_among (begun c w) (begun b v) h)) ∙ made;
      }
  move_is_entry a l _ (votes b v was_begun reach not_zero) =
      record {
        saved = accepting b v;
        added = voted a b ∷ [];
        is_after = refl;
        promise_grown = reach;
        begun_by_maker = none_begun maker_of a (voted a b ∷ []) (omega arith);
      }
  move_is_entry a l _ (raises p reach) =
      record {
        saved = promising p (l.box a);
        added = [];
        is_after = refl;
        promise_grown = reach;
        begun_by_maker = none_begun maker_of a [] tt;
      }

  pub move_frame : (a : ℕ) (l l' : Ledger) → Move maker_of Boxes In EnoughToCollect a l l' → Frame maker_of a l l'
  move_frame a l l' m = entry_frame maker_of a l l' (move_is_entry a l l' m)

  pub moves_frame : (a : ℕ) (l l' : Ledger) → Moves maker_of Boxes In EnoughToCollect a l l' → Frame maker_of a l l'
  moves_frame a l _ stays = frame_stays maker_of a l
  moves_frame a l l' (moves {m = mid} first rest) = frame_then maker_of a l mid l' (move_frame a l mid first) (moves_frame a mid l' rest)
