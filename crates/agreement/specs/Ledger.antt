-- The ledger of one slot: all that was ever said, each box's lasting state, the legal moves of a box, and what it is to be chosen.
-- Relies on Update. Cited by the laws and theorems beside it, and by the crates above.
use Rattle.std.specs.Prelude.{ℕ, ◌≤◌, ◌<◌, ◌≡◌, ◌≢◌, ◌⊎◌, List, [], ◌∷◌, ◌++◌}
use Rattle.agreement.specs.Ledger.Update.{update}
pub mod Update
pub mod Laws
pub mod Kept
pub mod KeptEntry

-- ---- what is said, and what a box saves

-- v was proposed; ballot b was opened; box a reported at ballot b its accepted pair (b₂, v₂); v was begun at ballot b; box a voted at ballot b
pub data Fact : Type 0 where
  proposed : (v : ℕ) → Fact
  opened : (b : ℕ) → Fact
  reported : (a b b₂ v₂ : ℕ) → Fact
  begun : (b v : ℕ) → Fact
  voted : (a b : ℕ) → Fact

-- What a box saves: its promise, and its accepted ballot and value (ballot 0: none accepted)
pub record Lasting : Type 0 where
  pub promise : ℕ
  pub ballot : ℕ
  pub value : ℕ

-- All that was ever said, and each box's lasting state
pub record Ledger : Type 0 where
  pub facts : List Fact
  pub box : ℕ → Lasting

-- The fact is one of the list
abbrev pub Among : Fact → List Fact → Type 0
Among f [] = ⊥
Among f (g ∷ gs) = (f ≡ g) ⊎ Among f gs

abbrev pub Said : Fact → Ledger → Type 0
Said f l = Among f l.facts

infix 4 ◌⊑◌
-- Every fact said in the first ledger is said in the second
abbrev pub ◌⊑◌ : Ledger → Ledger → Type 0
l ⊑ l' = (f : Fact) → Said f l → Said f l'

-- Nothing said, nothing saved
abbrev pub empty_ledger : Ledger
empty_ledger = record { facts = []; box = λ a. record { promise = 0; ballot = 0; value = 0 } }

-- The ledger after box a saved s and said the facts fs
abbrev pub after : Ledger → ℕ → Lasting → List Fact → Ledger
after l a s fs = record { facts = fs ++ l.facts; box = update l.box a s }

-- The lasting state with promise p
abbrev pub promising : ℕ → Lasting → Lasting
promising p s = record { promise = p; ballot = s.ballot; value = s.value }

-- The lasting state that promises and accepts (b, v)
abbrev pub accepting : ℕ → ℕ → Lasting
accepting b v = record { promise = b; ballot = b; value = v }

-- ---- what backs a value

-- A report of box a at ballot b whose accepted ballot is at most best
pub record Report (l : Ledger) (a b best : ℕ) : Type 0 where
  pub ballot : ℕ
  pub value : ℕ
  pub said : Said (reported a b ballot value) l
  pub within : ballot ≤ best

-- "own value becomes best value where best ballot is not zero": else it is a proposed one
pub data Sourced (l : Ledger) (b v best : ℕ) : Type 0 where
  own : best ≡ 0 → Said (proposed v) l → Sourced l b v best
  taken : (a : ℕ) → best ≢ 0 → Said (reported a b best v) l → Sourced l b v best

module _ (Boxes : Type 0) (In : ℕ → Boxes → Type 0) (EnoughToCollect : Boxes → Type 0) where
  -- Enough boxes reported at ballot b, none above best, and v is the value of the report at best, or, with best 0, a proposed one
  pub record Backed (l : Ledger) (b v : ℕ) : Type 0 where
    pub boxes : Boxes
    pub enough : EnoughToCollect boxes
    pub best : ℕ
    pub reports : (a : ℕ) → In a boxes → Report l a b best
    pub sourced : Sourced l b v best

-- ---- moves

-- Box a opened ballot b for v: it promises b
abbrev pub after_open : Ledger → ℕ → ℕ → ℕ → Ledger
after_open l a b v = after l a (promising b (l.box a)) (opened b ∷ proposed v ∷ [])

-- Box a reported its accepted pair at ballot b: it promises b
abbrev pub after_report : Ledger → ℕ → ℕ → Ledger
after_report l a b = after l a (promising b (l.box a)) (reported a b (l.box a).ballot (l.box a).value ∷ [])

-- Box a began v at ballot b
abbrev pub after_begin : Ledger → ℕ → ℕ → ℕ → Ledger
after_begin l a b v = after l a (l.box a) (begun b v ∷ [])

-- Box a voted for v at ballot b: it promises b and accepts (b, v)
abbrev pub after_vote : Ledger → ℕ → ℕ → ℕ → Ledger
after_vote l a b v = after l a (accepting b v) (voted a b ∷ [])

-- Box a promised p
abbrev pub after_raise : Ledger → ℕ → ℕ → Ledger
after_raise l a p = after l a (promising p (l.box a)) []

module _ (maker_of : ℕ → ℕ) (Boxes : Type 0) (In : ℕ → Boxes → Type 0) (EnoughToCollect : Boxes → Type 0) where
  -- A legal move of box a from the ledger l
  pub data Move (a : ℕ) (l : Ledger) : Ledger → Type 0 where
    -- a ballot of its own, above its promise, for a value
    opens : (b v : ℕ) → maker_of b ≡ a → (l.box a).promise < b → Move a l (after_open l a b v)
    -- its accepted pair, at an opened ballot that its promise does not exceed
    reports : (b : ℕ) → Said (opened b) l → (l.box a).promise ≤ b → Move a l (after_report l a b)
    -- a backed value, at an opened ballot of its own at which nothing is begun
    begins :
        (b v : ℕ) →
        maker_of b ≡ a →
        Said (opened b) l →
        ((w : ℕ) → ¬ Said (begun b w) l) →
        Backed Boxes In EnoughToCollect l b v →
        Move a l (after_begin l a b v)
    -- its vote for what is begun at a ballot that its promise does not exceed
    votes : (b v : ℕ) → Said (begun b v) l → (l.box a).promise ≤ b → b ≢ 0 → Move a l (after_vote l a b v)
    -- a promise no lower than the one before
    raises : (p : ℕ) → (l.box a).promise ≤ p → Move a l (after_raise l a p)

  -- Any number of moves of box a, one after the other
  pub data Moves (a : ℕ) : Ledger → Ledger → Type 0 where
    stays : {l : Ledger} → Moves a l l
    moves : {l m n : Ledger} → Move a l m → Moves a m n → Moves a l n

  -- What moves of any boxes make of the empty ledger
  pub data Reachable : Ledger → Type 0 where
    starts : Reachable empty_ledger
    continues : {a : ℕ} {l m : Ledger} → Reachable l → Move a l m → Reachable m

-- ---- chosen

module _ (Boxes : Type 0) (In : ℕ → Boxes → Type 0) (EnoughToBegin : Boxes → Type 0) where
  -- v was begun at ballot b, and enough boxes voted there
  pub record Chosen (l : Ledger) (v b : ℕ) : Type 0 where
    pub was_begun : Said (begun b v) l
    pub boxes : Boxes
    pub enough : EnoughToBegin boxes
    pub all_voted : (a : ℕ) → In a boxes → Said (voted a b) l

  abbrev pub ChosenValue : Ledger → ℕ → Type 0
  ChosenValue l v = (b : ℕ) × Chosen l v b
