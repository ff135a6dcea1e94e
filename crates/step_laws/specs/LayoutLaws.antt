-- Laws of the table's layout: `room_at` reads what `with_room` wrote and nothing else moves, what a fresh table holds,
-- and what `restart_slots` leaves at each slot. Relies on the laws of a run of stores. Cited by the laws of the step and of runs.
use Rattle.std.specs.Prelude.{ℕ, zero, suc, ◌+◌, ◌*◌, ◌≤◌, ◌<◌, ◌≡◌, refl, List, [], ◌∷◌, ◌≢◌, T, ltb, length, get_or, replicate}
use Rattle.std.proofs.Common.{sym, ap, subst, ◌∙◌, inl, inr, not-suc-le-zero, le_refl, zero-add, add-zero, add-suc, suc-add, arith, lit<}
use Rattle.std.proofs.Math.Decide.{dec_lt, ℕ_discrete}
use Rattle.std.proofs.Math.Seq.{length-sets}
use Rattle.consensus.specs.declared.Room.{Room}
use Rattle.consensus.specs.Room.{vote, saved, round, room, no_vote, no_round, room_of, numbers_in}
use Rattle.consensus.specs.Layout.{head_size, room_size, slots, table_size, head_of, room_start, room_at, with_room, fresh}
use Rattle.consensus.specs.OnSlot.{restarted}
use Rattle.consensus.specs.Step.{restart_slots}
use Rattle.step_laws.specs.StoreLaws.{Outside, sets_outside, sets_inside, sets_same, get_or_replicate_default}

-- ---- one slot

-- a room is known by its eleven numbers
same_numbers_same_room : (m n : ℕ → ℕ) → ((k : ℕ) → k < room_size → m k ≡ n k) → room_of m ≡ room_of n
same_numbers_same_room m n same =
    let at : (k : ℕ) → T (ltb k room_size) → m k ≡ n k = λ k below. same k (lit< below) in
    λ i. room (saved (at 0 tt i) (vote (at 1 tt i) (at 2 tt i)))
    (round (at 3 tt i) (vote (at 4 tt i) (at 5 tt i)) (vote (at 6 tt i) (at 7 tt i)) (at 8 tt i) (at 9 tt i))
    (at 10 tt i)

-- c numbers from number i on
abbrev numbers_from : (ℕ → ℕ) → ℕ → ℕ → List ℕ
numbers_from n i zero = []
numbers_from n i (suc c) = n i ∷ numbers_from n (suc i) c

get_or_numbers_from : (n : ℕ → ℕ) (i c k : ℕ) → k < c → get_or (numbers_from n i c) k 0 ≡ n (i + k)
get_or_numbers_from n i zero k below = absurd (not-suc-le-zero below)
get_or_numbers_from n i (suc c) zero below = ap n (sym (add-zero i))
get_or_numbers_from n i (suc c) (suc k) below =
    get_or_numbers_from n (suc i) c k (omega arith) ∙ ap n (suc-add i k ∙ sym (add-suc i k))

numbers_of_room : (n : ℕ → ℕ) (k : ℕ) → k < room_size → get_or (numbers_in (room_of n)) k 0 ≡ n k
numbers_of_room n k below = get_or_numbers_from n 0 room_size k below ∙ ap n (zero-add k)

-- the numbers of another slot stand outside
other_outside : (s s' k : ℕ) → s ≢ s' → k < room_size → Outside (room_start s) room_size (room_start s' + k)
other_outside s s' k other below =
    elim (dec_lt s' s) [
      | yes before ↦ inl (omega arith)
      | no after ↦ inr (omega arith)
    ]

pub length_with_room : (t : List ℕ) (s : ℕ) (r : Room) → length (with_room t s r) ≡ length t
length_with_room t s r = length-sets t (room_start s) (numbers_in r)

pub head_of_with_room : (t : List ℕ) (s : ℕ) (r : Room) → head_of (with_room t s r) ≡ head_of t
head_of_with_room t s r =
    λ i. record {
      boxes = sets_outside t (room_start s) (numbers_in r) 0 0 (inl (omega arith)) i;
      index = sets_outside t (room_start s) (numbers_in r) 1 0 (inl (omega arith)) i;
    }

-- read what was written
pub room_at_with_room : (t : List ℕ) (s : ℕ) (r : Room) → length t ≡ table_size → s < slots → room_at (with_room t s r) s ≡ r
room_at_with_room t s r whole below =
    same_numbers_same_room (λ k. get_or (with_room t s r) (room_start s + k) 0) (λ k. get_or (numbers_in r) k 0)
    (λ k near. sets_inside t (room_start s) (numbers_in r) k 0 (omega arith) near)

-- no other slot moves
pub room_at_other : (t : List ℕ) (s s' : ℕ) (r : Room) → s ≢ s' → room_at (with_room t s r) s' ≡ room_at t s'
room_at_other t s s' r other =
    same_numbers_same_room (λ k. get_or (with_room t s r) (room_start s' + k) 0) (λ k. get_or t (room_start s' + k) 0)
    (λ k near. sets_outside t (room_start s) (numbers_in r) (room_start s' + k) 0 (other_outside s s' k other near))

-- write what was read
pub with_room_room_at : (t : List ℕ) (s : ℕ) → with_room t s (room_at t s) ≡ t
with_room_room_at t s = sets_same t (room_start s) (numbers_in (room_at t s)) 0 (numbers_of_room (λ k. get_or t (room_start s + k) 0))

-- ---- a fresh table

-- the eleven zeros
abbrev pub fresh_room : Room
fresh_room = room (saved 0 no_vote) no_round 0

past_the_head : (n i : ℕ) (l : List ℕ) (j k : ℕ) → get_or (n ∷ i ∷ l) (head_size + j + k) 0 ≡ get_or l (j + k) 0
past_the_head n i l j k =
    let place : head_size + j + k ≡ suc (suc (j + k)) = omega arith in
    ap (λ (m : ℕ). get_or (n ∷ i ∷ l) m 0) place

pub length_fresh : (n i : ℕ) → length (fresh n i) ≡ table_size
length_fresh n i = refl

pub head_of_fresh : (n i : ℕ) → head_of (fresh n i) ≡ record { boxes = n; index = i }
head_of_fresh n i = refl

pub room_at_fresh : (n i s : ℕ) → room_at (fresh n i) s ≡ fresh_room
room_at_fresh n i s =
    same_numbers_same_room (λ k. get_or (fresh n i) (room_start s + k) 0) (λ k. 0)
    (λ k near. past_the_head n i (replicate (slots * room_size) 0) (s * room_size) k ∙ get_or_replicate_default (slots * room_size) (s * room_size + k) 0)

-- ---- the first k slots restarted

pub length_restart_slots : (k : ℕ) (t : List ℕ) → length (restart_slots k t) ≡ length t
unfolding restart_slots
length_restart_slots zero t = refl
length_restart_slots (suc k) t =
    length_with_room (restart_slots k t) k (restarted (room_at (restart_slots k t) k)) ∙ length_restart_slots k t

pub head_of_restart_slots : (k : ℕ) (t : List ℕ) → head_of (restart_slots k t) ≡ head_of t
unfolding restart_slots
head_of_restart_slots zero t = refl
head_of_restart_slots (suc k) t =
    head_of_with_room (restart_slots k t) k (restarted (room_at (restart_slots k t) k)) ∙ head_of_restart_slots k t

-- slots from k on stand
pub room_at_not_restarted : (k : ℕ) (t : List ℕ) (s : ℕ) → k ≤ s → room_at (restart_slots k t) s ≡ room_at t s
unfolding restart_slots
room_at_not_restarted zero t s from = refl
room_at_not_restarted (suc k) t s from =
    room_at_other (restart_slots k t) k s (restarted (room_at (restart_slots k t) k)) (omega arith)
    ∙ room_at_not_restarted k t s (omega arith)

-- the last of them is restarted
last_restarted : (k : ℕ) (t : List ℕ) → length t ≡ table_size → k < slots → room_at (restart_slots (suc k) t) k ≡ restarted (room_at t k)
unfolding restart_slots
last_restarted k t whole below =
    room_at_with_room (restart_slots k t) k (restarted (room_at (restart_slots k t) k)) (length_restart_slots k t ∙ whole) below
    ∙ ap restarted (room_at_not_restarted k t k (le_refl k))

-- slots below k are restarted
pub room_at_restarted : (k : ℕ) (t : List ℕ) (s : ℕ) → length t ≡ table_size → k ≤ slots → s < k → room_at (restart_slots k t) s ≡ restarted (room_at t s)
unfolding restart_slots
room_at_restarted zero t s whole few below = absurd (not-suc-le-zero below)
room_at_restarted (suc k) t s whole few below =
    elim (ℕ_discrete k s) [
      | yes same ↦ subst (λ (x : ℕ). room_at (restart_slots (suc k) t) x ≡ restarted (room_at t x)) same (last_restarted k t whole few)
      | no other ↦
          room_at_other (restart_slots k t) k s (restarted (room_at (restart_slots k t) k)) other
          ∙ room_at_restarted k t s whole (omega arith) (omega arith)
    ]
