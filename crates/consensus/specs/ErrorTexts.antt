-- The texts of errors. Each is cited by the error's `Display`.
use Rattle.std.specs.Prelude.{ℕ, List, codes, decimal, ◌++◌}
use Rattle.consensus.specs.declared.kind.UnknownKind.{UnknownKind}
use Rattle.consensus.specs.declared.refusal.Refusal.{Refusal}
use Rattle.consensus.specs.declared.refusal.Refusal.TheVariants.{BadTable, BadEvent, NotWellKept, NotAwaited, AlreadyAgreed, OtherAgreed, NoBallotLeft}

abbrev pub refusal_text : Refusal → List ℕ
refusal_text BadTable = codes "not a box's table"
refusal_text BadEvent = codes "the event breaks the rules of events"
refusal_text NotWellKept = codes "the slot is not well kept"
refusal_text NotAwaited = codes "not a message that the slot waits for"
refusal_text AlreadyAgreed = codes "a value is agreed already"
refusal_text OtherAgreed = codes "another value is agreed"
refusal_text NoBallotLeft = codes "no ballot is left"

abbrev pub unknown_kind_text : UnknownKind → List ℕ
unknown_kind_text e = codes "no kind of event has the number " ++ decimal e.0
