-- Laws of the rules' answers and kinds: what the code gives is told apart by the answer of the rules that it stands for,
-- and a number is one kind's or none's. Relies on Answers and Events. Cited by whoever shows that an answer is fixed.
use Rattle.std.specs.Prelude.{ℕ, ◌≡◌, ◌≤◌, ◌<◌, ◌⊎◌, refl, Option, Some, None, Result, Ok, Err, [], ◌∷◌, get_or}
use Rattle.std.proofs.Common.{inl, inr, sym, ap, ◌∙◌, arith}
use Rattle.consensus.specs.declared.Message.{Message}
use Rattle.consensus.specs.declared.refusal.Refusal.{Refusal}
use Rattle.consensus.specs.declared.refusal.Refusal.TheVariants as refusal
use Rattle.consensus.specs.declared.kind.Kind.{Kind}
use Rattle.consensus.specs.declared.kind.Kind.TheVariants.{Propose, Collect, Last, Begin, Accept, Success, OldRound, Restart}
use Rattle.consensus.specs.declared.kind.UnknownKind.{UnknownKind}
use Rattle.consensus.specs.Answers.{Answer, Quiet, Sends, BadTable, BadEvent, NotWellKept, NotAwaited, AlreadyAgreed, OtherAgreed, NoBallotLeft, answer_by_rules}
use Rattle.consensus.specs.Events.{propose, restart, kind_number, KindOf}

-- the code's result for each answer of the rules
result_of : Answer → Result (Option Message) Refusal
result_of Quiet = Ok None
result_of (Sends m) = Ok (Some m)
result_of BadTable = Err refusal.BadTable
result_of BadEvent = Err refusal.BadEvent
result_of NotWellKept = Err refusal.NotWellKept
result_of NotAwaited = Err refusal.NotAwaited
result_of AlreadyAgreed = Err refusal.AlreadyAgreed
result_of OtherAgreed = Err refusal.OtherAgreed
result_of NoBallotLeft = Err refusal.NoBallotLeft

told : (x : Result (Option Message) Refusal) → result_of (answer_by_rules x) ≡ x
unfolding result_of
told (Ok None) = refl
told (Ok (Some m)) = refl
told (Err refusal.BadTable) = refl
told (Err refusal.BadEvent) = refl
told (Err refusal.NotWellKept) = refl
told (Err refusal.NotAwaited) = refl
told (Err refusal.AlreadyAgreed) = refl
told (Err refusal.OtherAgreed) = refl
told (Err refusal.NoBallotLeft) = refl

-- no two results of the code are one answer of the rules
pub answer_tells_result : (x y : Result (Option Message) Refusal) → answer_by_rules x ≡ answer_by_rules y → x ≡ y
answer_tells_result x y same = sym (told x) ∙ ap result_of same ∙ told y

-- the kind of a number from 1 to 8
kind_at : ℕ → Kind
kind_at n = get_or (Propose ∷ Propose ∷ Collect ∷ Last ∷ Begin ∷ Accept ∷ Success ∷ OldRound ∷ Restart ∷ []) n Propose

kind_back : (k : Kind) → kind_at (kind_number k) ≡ k
unfolding kind_at
kind_back Propose = refl
kind_back Collect = refl
kind_back Last = refl
kind_back Begin = refl
kind_back Accept = refl
kind_back Success = refl
kind_back OldRound = refl
kind_back Restart = refl

pub number_tells_kind : (j k : Kind) → kind_number j ≡ kind_number k → j ≡ k
number_tells_kind j k same = sym (kind_back j) ∙ ap kind_at same ∙ kind_back k

-- the kinds are numbered from 1 to 8
kind_in_range : (k : Kind) → (propose ≤ kind_number k) × (kind_number k ≤ restart)
kind_in_range Propose = (omega arith, omega arith)
kind_in_range Collect = (omega arith, omega arith)
kind_in_range Last = (omega arith, omega arith)
kind_in_range Begin = (omega arith, omega arith)
kind_in_range Accept = (omega arith, omega arith)
kind_in_range Success = (omega arith, omega arith)
kind_in_range OldRound = (omega arith, omega arith)
kind_in_range Restart = (omega arith, omega arith)

no_unknown_kind : (n : ℕ) (k : Kind) → kind_number k ≡ n → (n < propose) ⊎ (restart < n) → ⊥
no_unknown_kind n k is (inl low) = let range = kind_in_range k in omega (arith, range.0)
no_unknown_kind n k is (inr high) = let range = kind_in_range k in omega (arith, range.1)

-- a number is one kind's, or no kind's
pub one_kind_of : (n : ℕ) (r s : Result Kind UnknownKind) → KindOf n r → KindOf n s → r ≡ s
one_kind_of n (Ok j) (Ok k) is also = ap Ok (number_tells_kind j k (is ∙ sym also))
one_kind_of n (Ok k) (Err e) is none = absurd (no_unknown_kind n k is none.1)
one_kind_of n (Err e) (Ok k) none is = absurd (no_unknown_kind n k is none.1)
one_kind_of n (Err e) (Err f) none also = ap (λ (m : ℕ). Err (record { 0 = m })) (none.0 ∙ sym also.0)
