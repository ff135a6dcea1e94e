-- The step on a table: the order of the refusals, and the event's slot written back.
-- This is what the public step's contract cites, and what runs are made of.
use Rattle.std.specs.Prelude.{ℕ, zero, suc, Bool, true, not, ◌&&◌, List, leb, ltb, eqb, length, if◌then◌else◌}
use Rattle.ballots.specs.Ballot.{max_boxes}
use Rattle.consensus.specs.declared.Event.{Event}
use Rattle.consensus.specs.Room.{agreed}
use Rattle.consensus.specs.Layout.{slots, table_size, head_of, room_at, with_room}
use Rattle.consensus.specs.WellKept.{saved_kept, well_kept}
use Rattle.consensus.specs.Events.{restart, event_ok}
use Rattle.consensus.specs.Answers.{Answer, Quiet, BadTable, BadEvent, NotWellKept}
use Rattle.consensus.specs.OnSlot.{Outcome, Becomes, Refused, on_slot, restarted}

-- the table after a call, and the call's answer
pub record Stepped : Type 0 where
  pub table : List ℕ
  pub answer : Answer

-- not 1: "table 706 long, N 1 to 7, index below N"
unfoldable pub table_ok : List ℕ → Bool
table_ok t =
    eqb (length t) table_size && leb 1 (head_of t).boxes && leb (head_of t).boxes max_boxes
    && ltb (head_of t).index (head_of t).boxes

-- what a slot of a good table has agreed: zero for nothing, and where there is no such slot
unfoldable pub agreed_at : List ℕ → ℕ → ℕ
agreed_at t s = if table_ok t && ltb s slots then agreed (room_at t s) else 0

-- a refusal leaves all as it was
abbrev pub refuse : List ℕ → Answer → Stepped
refuse t a = record { table = t; answer = a }

-- an outcome at slot s of t
abbrev pub settle : List ℕ → ℕ → Outcome → Stepped
settle t s (Becomes r a) = record { table = with_room t s r; answer = a }
settle t s (Refused a) = refuse t a

-- numbers 0 to 2 of each of the first k slots keep their rules
unfoldable pub all_saved_kept : ℕ → List ℕ → Bool
all_saved_kept zero t = true
all_saved_kept (suc k) t = all_saved_kept k t && saved_kept (head_of t) (room_at t k)

-- the first k slots of t restarted
unfoldable pub restart_slots : ℕ → List ℕ → List ℕ
restart_slots zero t = t
restart_slots (suc k) t = let u = restart_slots k t in with_room u k (restarted (room_at u k))

-- 3 for Restart: "any slot whose numbers 0 to 2 break their rules"
unfoldable pub on_restart : List ℕ → Stepped
on_restart t =
    if all_saved_kept slots t then record { table = restart_slots slots t; answer = Quiet }
    else refuse t NotWellKept

-- 3: "the event's slot not well kept"
unfoldable pub on_event : List ℕ → Event → Stepped
on_event t e =
    if well_kept (head_of t) (room_at t e.slot.0) then settle t e.slot.0 (on_slot (head_of t) (room_at t e.slot.0) e)
    else refuse t NotWellKept

-- "The lowest of 1, 2, 3 that holds is given."
unfoldable pub step : List ℕ → Event → Stepped
step t e =
    if not (table_ok t) then refuse t BadTable
    else if not (event_ok (head_of t).boxes e) then refuse t BadEvent
    else if eqb e.kind restart then on_restart t
    else on_event t e
