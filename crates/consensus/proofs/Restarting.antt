-- The definitions over the first slots of a table: one slot more whose saved numbers are asked, and one restarted slot more.
-- Cited by the attributes of `restart::all_saved_kept` and of `restart::restart_slots`.
use Rattle.std.specs.Prelude.{ℕ, ◌+◌, ◌≡◌, refl, true, ◌&&◌, List}
use Rattle.std.proofs.Common.{add-one}
use Rattle.consensus.specs.Layout.{head_of, room_at, with_room}
use Rattle.consensus.specs.WellKept.{saved_kept}
use Rattle.consensus.specs.OnSlot.{restarted}
use Rattle.consensus.specs.Step.{all_saved_kept, restart_slots}

pub none_asked : (t : List ℕ) → all_saved_kept 0 t ≡ true
unfolding all_saved_kept
none_asked t = refl

pub one_more_asked : (s : ℕ) (t : List ℕ) → all_saved_kept (s + 1) t ≡ all_saved_kept s t && saved_kept (head_of t) (room_at t s)
unfolding all_saved_kept
one_more_asked s t = simp add-one

pub none_restarted : (t : List ℕ) → restart_slots 0 t ≡ t
unfolding restart_slots
none_restarted t = refl

pub one_more_restarted : (s : ℕ) (t : List ℕ) → restart_slots (s + 1) t ≡ with_room (restart_slots s t) s (restarted (room_at (restart_slots s t) s))
unfolding restart_slots
one_more_restarted s t = simp add-one
