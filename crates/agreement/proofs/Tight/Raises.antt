-- The impostors that say no to everyone after a while, as they promise the largest ballot there is, each with a run that shows a promise too high.
-- Relies on Replays, by which a run is checked by computing. Cited by Tight.
use Rattle.std.specs.Prelude.{refl, [], ◌∷◌, ◌++◌}
use Rattle.agreement.specs.Promises.{Promises}
use Rattle.agreement.specs.Tight.Impostors.{promises_at_begin, promises_at_restart, tells_largest}
use Rattle.agreement.proofs.Tight.Replays.{Propose, OldRound, Restart, ◌gets◌, asked, collected, accepted, Raise, raises, raise_breaks}

-- a box accepts its own value in slot 0, and has promised slot 1 away
abbrev after_begin : Raise
after_begin = record { boxes = 1; calls = collected 0 (0 ∷ []) 8 1 ++ accepted 0 (0 ∷ []) 8 1; box = 0; slot = 1 }

pub promises_at_begin_breaks : ¬ Promises promises_at_begin
unfolding raises promises_at_begin
promises_at_begin_breaks = raise_breaks promises_at_begin after_begin refl

abbrev after_restart : Raise
after_restart = record { boxes = 1; calls = (0 gets Restart) ∷ []; box = 0; slot = 0 }

pub promises_at_restart_breaks : ¬ Promises promises_at_restart
unfolding raises promises_at_restart
promises_at_restart_breaks = raise_breaks promises_at_restart after_restart refl

-- box 1 proposes under 9 and then hears of 8, whose box is told of the largest ballot
abbrev after_old_round : Raise
after_old_round =
    record {
      boxes = 2;
      calls = (1 gets Propose 2) ∷ (0 gets Propose 1) ∷ asked 0 (1 ∷ []) 8 ++ ((0 gets OldRound 1 8 34359738361) ∷ []);
      box = 0;
      slot = 0;
    }

pub tells_largest_breaks : ¬ Promises tells_largest
unfolding raises tells_largest
tells_largest_breaks = raise_breaks tells_largest after_old_round refl
