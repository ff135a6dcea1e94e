-- Where each number of a table stands. Nothing but this file knows 2, 11, 64 or 706.
-- `room_at` and `with_room` are the only two ways between a table and a slot's room.
-- Cited by every definition that reads or writes a table.
use Rattle.std.specs.Prelude.{ℕ, ◌+◌, ◌*◌, List, ◌∷◌, get_or, replicate}
use Rattle.std.proofs.lemmas.List.Edits.{sets}
use Rattle.consensus.specs.declared.Head.{Head}
use Rattle.consensus.specs.declared.Room.{Room}
use Rattle.consensus.specs.Room.{room_of, numbers_in}

abbrev pub head_size : ℕ
head_size = 2

abbrev pub room_size : ℕ
room_size = 11

abbrev pub slots : ℕ
slots = 64

-- "A table is lent as 706 numbers of 64 bits."
abbrev pub table_size : ℕ
table_size = head_size + slots * room_size

-- "Number 0 is the box count N (1 to 7), number 1 the box's own index (0 to N-1)."
abbrev pub head_of : List ℕ → Head
head_of t = record { boxes = get_or t 0 0; index = get_or t 1 0 }

-- "Then 64 slots of 11 numbers each": where slot s begins
abbrev pub room_start : ℕ → ℕ
room_start s = head_size + s * room_size

-- the numbers of slot s
abbrev pub room_at : List ℕ → ℕ → Room
room_at t s = room_of (λ k. get_or t (room_start s + k) 0)

-- the table with the numbers of r at slot s
abbrev pub with_room : List ℕ → ℕ → Room → List ℕ
with_room t s r = sets t (room_start s) (numbers_in r)

-- "A fresh table is zero apart from N and index."
abbrev pub fresh : ℕ → ℕ → List ℕ
fresh n i = n ∷ i ∷ replicate (slots * room_size) 0
