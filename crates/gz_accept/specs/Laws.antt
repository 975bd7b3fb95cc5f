-- What every step of an acceptor keeps, over a row seen version by version. (Lamport 2006, "Fast Paxos", section 2.)
use Rattle.std.specs.Prelude.{ℕ, ◌≡◌, false, ◌⊎◌, Option, Some, None}
use Rattle.gz_core.specs.Names.{Name, BallotAt, is_below}
use Rattle.gz_core.specs.Rows.{RowAt, IsRow}
use Rattle.gz_core.specs.Slots.{Act, Makes, slots}
use Rattle.gz_core.specs.declared.slots.Slot.{Slot}
use Rattle.gz_core.specs.declared.slots.Slot.TheVariants.{Gone, DecidedAs, OpenAt}

-- a step from a row that keeps its rule to another
abbrev pub Leads : Act → RowAt → (ℕ → Slot) → Type 0
Leads act old new = IsRow old × Makes act (slots old) new

-- an acceptor's promise never falls
abbrev pub PromisesRise : Type 0
PromisesRise = (act : Act) (old : RowAt) (new : ℕ → Slot) → Leads act old new → (v : ℕ) (before after : BallotAt) (had has : Option (BallotAt × Name)) →
    slots old v ≡ OpenAt before had → new v ≡ OpenAt after has → is_below after before ≡ false

-- a vote is replaced by none of a lower ballot, and is not lost while the version is open
abbrev pub IsAtLeast : BallotAt → Option (BallotAt × Name) → Type 0
IsAtLeast b None = ⊥
IsAtLeast b (Some vote) = is_below vote.0 b ≡ false

abbrev pub VotesRise : Type 0
VotesRise = (act : Act) (old : RowAt) (new : ℕ → Slot) → Leads act old new → (v : ℕ) (before after : BallotAt) (had : BallotAt × Name) (has : Option (BallotAt × Name)) →
    slots old v ≡ OpenAt before (Some had) → new v ≡ OpenAt after has → IsAtLeast had.0 has

-- what is decided stays decided until it is collected
abbrev pub DecisionsStay : Type 0
DecisionsStay = (act : Act) (old : RowAt) (new : ℕ → Slot) → Leads act old new → (v : ℕ) (x : Name) →
    slots old v ≡ DecidedAs x → (new v ≡ DecidedAs x) ⊎ (new v ≡ Gone)

-- what is collected stays collected
abbrev pub CollectedStays : Type 0
CollectedStays = (act : Act) (old : RowAt) (new : ℕ → Slot) → Leads act old new → (v : ℕ) → slots old v ≡ Gone → new v ≡ Gone
