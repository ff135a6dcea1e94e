-- The kinds of events, the constant table of the fields that each uses, and when an event keeps the rules.
-- Cited by the step, which refuses an event that breaks them.
use Rattle.std.specs.Prelude.{◌≡◌, ℕ, ◌-◌, ◌<◌, ◌⊎◌, Result, MatchResult, Bool, true, ◌&&◌, ◌||◌, not, List, [], ◌∷◌, leb, ltb, eqb, length, get_or, if◌then◌else◌}
use Rattle.ballots.specs.Ballot.{is_ballot, none_or_ballot, maker_of}
use Rattle.consensus.specs.declared.Event.{Event}
use Rattle.consensus.specs.declared.kind.Kind.{Kind}
use Rattle.consensus.specs.declared.kind.Kind.TheVariants.{Propose, Collect, Last, Begin, Accept, Success, OldRound, Restart}
use Rattle.consensus.specs.declared.kind.UnknownKind.{UnknownKind}
use Rattle.consensus.specs.Room.{ballot}
use Rattle.consensus.specs.Layout.{slots}
use Rattle.consensus.specs.WellKept.{zero_with}

abbrev pub propose : ℕ
propose = 1

abbrev pub collect : ℕ
collect = 2

abbrev pub last : ℕ
last = 3

abbrev pub begin : ℕ
begin = 4

abbrev pub accept : ℕ
accept = 5

abbrev pub success : ℕ
success = 6

abbrev pub old_round : ℕ
old_round = 7

abbrev pub restart : ℕ
restart = 8

-- the number of each kind
abbrev pub kind_number : Kind → ℕ
kind_number Propose = propose
kind_number Collect = collect
kind_number Last = last
kind_number Begin = begin
kind_number Accept = accept
kind_number Success = success
kind_number OldRound = old_round
kind_number Restart = restart

-- the kind of this number, or the number itself where it is no kind's
abbrev pub KindOf : ℕ → Result Kind UnknownKind → Type 0
KindOf n r = MatchResult r (λ k. kind_number k ≡ n) (λ e. (e.0 ≡ n) × ((n < propose) ⊎ (restart < n)))

-- the event, taken for one of this kind whatever its own number is
abbrev pub of_kind : Kind → Event → Event
of_kind k e = record e { kind = kind_number k }

-- an event of six numbers
abbrev pub event : ℕ → ℕ → ℕ → ℕ → ℕ → ℕ → Event
event k s f b b₂ v = record { kind = k; slot = record { 0 = s }; from = f; ballot = ballot b; second = ballot b₂; value = v }

-- the event of the six numbers of a list: kind, slot, from, ballot, second, value
abbrev pub event_from : List ℕ → Event
event_from n = event (get_or n 0 0) (get_or n 1 0) (get_or n 2 0) (get_or n 3 0) (get_or n 4 0) (get_or n 5 0)

-- "The fields used by each kind form a constant table": slot, from, ballot, second, value
abbrev pub used : List (List ℕ)
used =
    (1 ∷ 0 ∷ 0 ∷ 0 ∷ 1 ∷ [])
    ∷ (1 ∷ 1 ∷ 1 ∷ 0 ∷ 0 ∷ [])
    ∷ (1 ∷ 1 ∷ 1 ∷ 1 ∷ 1 ∷ [])
    ∷ (1 ∷ 1 ∷ 1 ∷ 0 ∷ 1 ∷ [])
    ∷ (1 ∷ 1 ∷ 1 ∷ 0 ∷ 0 ∷ [])
    ∷ (1 ∷ 1 ∷ 0 ∷ 0 ∷ 1 ∷ [])
    ∷ (1 ∷ 1 ∷ 1 ∷ 1 ∷ 0 ∷ [])
    ∷ (0 ∷ 0 ∷ 0 ∷ 0 ∷ 0 ∷ [])
    ∷ []

-- "unused fields are zero": a field that holds x keeps its rule if its kind uses it, and is zero if not
unfoldable pub field_ok : ℕ → ℕ → ℕ → Bool → Bool
field_ok k field x rule = if eqb (get_or (get_or used (k - 1) []) field 0) 1 then rule else eqb x 0

-- "In Last, second is zero or a ballot, at most ballot. In OldRound, second is a ballot above ballot."
unfoldable pub second_ok : ℕ → Event → Bool
second_ok n e =
    if eqb e.kind last then none_or_ballot n e.second.0 && leb e.second.0 e.ballot.0
    else is_ballot n e.second.0 && ltb e.ballot.0 e.second.0

-- "value not zero"; "in Last, value is zero exactly if second is"
unfoldable pub value_ok : Event → Bool
value_ok e =
    if eqb e.kind last then zero_with e.value e.second.0
    else not (eqb e.value 0)

-- "In Collect and Begin, from made the ballot."
unfoldable pub maker_ok : Event → Bool
maker_ok e =
    if eqb e.kind collect || eqb e.kind begin then eqb (maker_of e.ballot.0) e.from
    else true

-- "No other kind exists."
unfoldable pub kind_ok : Event → Bool
kind_ok e = leb propose e.kind && leb e.kind (length used)

-- "Used fields: slot 0 to 63; from < N; ballot a ballot; value not zero."
unfoldable pub fields_ok : ℕ → Event → Bool
fields_ok n e =
    field_ok e.kind 0 e.slot.0 (ltb e.slot.0 slots)
    && field_ok e.kind 1 e.from (ltb e.from n)
    && field_ok e.kind 2 e.ballot.0 (is_ballot n e.ballot.0)
    && field_ok e.kind 3 e.second.0 (second_ok n e)
    && field_ok e.kind 4 e.value (value_ok e)

-- an event that keeps the section on events
unfoldable pub event_ok : ℕ → Event → Bool
event_ok n e = kind_ok e && fields_ok n e && maker_ok e
