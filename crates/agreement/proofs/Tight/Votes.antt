-- The impostors whose slot gets two agreed values, each with a run that shows it.
-- Relies on Replays, by which a run is checked by computing. Cited by Tight.
use Rattle.std.specs.Prelude.{refl, List, [], ◌∷◌, ◌++◌, ℕ}
use Rattle.agreement.specs.Promises.{Promises}
use Rattle.agreement.specs.Tight.Impostors.{next_from_own, counts_twice}
use Rattle.agreement.specs.Tight.Tally.{takes_most_sent}
use Rattle.agreement.proofs.Tight.Replays.{Propose, Last, Begin, Accept, Restart, Call, ◌gets◌, asked, collected, accepted, agreed_by, Replay, disagree, disagreement_breaks}

-- ---- the next ballot from the own one

-- a box agrees 1, restarts, and makes ballot 8 once more: the messages of the first round serve the second
abbrev twice_ballot8 : Replay
twice_ballot8 =
    record {
      boxes = 1;
      first = collected 0 (0 ∷ []) 8 1 ++ agreed_by 0 (0 ∷ []) 8 1;
      later = (0 gets Restart) ∷ (0 gets Propose 2) ∷ (0 gets Last 0 8 0 0) ∷ (0 gets Accept 0 8) ∷ [];
      one = 0;
      other = 0;
    }

pub next_from_own_breaks : ¬ Promises next_from_own
unfolding disagree next_from_own
next_from_own_breaks = disagreement_breaks next_from_own twice_ballot8 refl

-- ---- a repeated Accept

-- p accepts its own v, and its one Accept is handed to it twice
abbrev accepted_twice : ℕ → ℕ → ℕ → List Call
accepted_twice p b v = (p gets Begin p b v) ∷ (p gets Accept p b) ∷ (p gets Accept p b) ∷ []

abbrev repeated_accepts : Replay
repeated_accepts =
    record {
      boxes = 3;
      first = collected 0 (0 ∷ 1 ∷ []) 8 1 ++ accepted_twice 0 8 1;
      later = collected 1 (1 ∷ 2 ∷ []) 17 2 ++ accepted_twice 1 17 2;
      one = 0;
      other = 1;
    }

pub counts_twice_breaks : ¬ Promises counts_twice
unfolding disagree counts_twice
counts_twice_breaks = disagreement_breaks counts_twice repeated_accepts refl

-- ---- the value most boxes sent

-- of five boxes 0 and 1 accept 1 in ballot 8, then 2, 3 and 4 agree 2 in ballot 18; asked by 24, boxes 0, 1 and 2 report 1, 1 and 2
abbrev two_of_three : Replay
two_of_three =
    record {
      boxes = 5;
      first =
          collected 0 (0 ∷ 1 ∷ 2 ∷ []) 8 1 ++ accepted 0 (0 ∷ 1 ∷ []) 8 1
          ++ collected 2 (2 ∷ 3 ∷ 4 ∷ []) 18 2 ++ agreed_by 2 (2 ∷ 3 ∷ 4 ∷ []) 18 2;
      later =
          asked 2 (0 ∷ []) 18 ++ ((0 gets Propose 3) ∷ asked 0 (0 ∷ 1 ∷ 2 ∷ []) 24)
          ++ ((0 gets Last 0 24 8 1) ∷ (0 gets Last 1 24 8 1) ∷ (0 gets Last 2 24 18 2) ∷ agreed_by 0 (0 ∷ 1 ∷ 2 ∷ []) 24 1);
      one = 2;
      other = 0;
    }

pub takes_most_sent_breaks : ¬ Promises takes_most_sent
unfolding disagree takes_most_sent
takes_most_sent_breaks = disagreement_breaks takes_most_sent two_of_three refl
