-- The steps of an acceptor at one version of a row: what each answers, and the row that it makes.
-- (Lamport 2006, "Fast Paxos", section 2.)
use Rattle.std.specs.Prelude.{ℕ, ◌+◌, false, Bool, nat_lt, nat_le, if◌then◌else◌, List, [], ◌∷◌, filter, Option, Some, None, is_some, Result, Ok, Err}
use Rattle.gz_core.specs.Names.{Name, BallotAt, fast, is_below, same_ballot, same_name}
use Rattle.gz_core.specs.Rows.{RowAt, column_in}
use Rattle.gz_core.specs.Slots.{slots}
use Rattle.gz_core.specs.declared.slots.Slot.{Slot}
use Rattle.gz_core.specs.declared.slots.Slot.TheVariants.{Gone, DecidedAs, OpenAt}
use Rattle.gz_core.specs.declared.values.Value.{Value}
use Rattle.gz_core.specs.declared.rows.Vote.{Vote}
use Rattle.gz_core.specs.declared.rows.Column.{Column}
use Rattle.gz_core.specs.declared.rows.Column.TheVariants.{Open, Decided}
use Rattle.gz_accept.specs.declared.answers.Step.{Step}
use Rattle.gz_accept.specs.declared.answers.Step.TheVariants.{Done, Already, Below, Settled, Trimmed}

-- a vote stands in this ballot
abbrev pub is_cast_in : BallotAt → Option (BallotAt × Name) → Bool
is_cast_in b None = false
is_cast_in b (Some vote) = same_ballot vote.0 b

-- at an open slot a promise above the ballot comes first, and then a step that was taken already
abbrev pub open_answer : BallotAt → BallotAt → Bool → Step
open_answer promise b taken = if is_below b promise then Below promise else (if taken then Already else Done)

-- the fast ballot takes one vote, where nothing above it is promised
abbrev pub fast_at : ℕ → Slot → Step
fast_at floor Gone = Trimmed floor
fast_at floor (DecidedAs x) = Settled
fast_at floor (OpenAt promise vote) = open_answer promise fast (is_some vote)

-- a promise rises
abbrev pub promise_at : BallotAt → ℕ → Slot → Step
promise_at b floor Gone = Trimmed floor
promise_at b floor (DecidedAs x) = Settled
promise_at b floor (OpenAt promise vote) = open_answer promise b (same_ballot promise b)

-- a classic ballot takes one vote, where nothing above it is promised
abbrev pub classic_at : BallotAt → ℕ → Slot → Step
classic_at b floor Gone = Trimmed floor
classic_at b floor (DecidedAs x) = Settled
classic_at b floor (OpenAt promise vote) = open_answer promise b (is_cast_in b vote)

-- a decision is taken once
abbrev pub decide_at : ℕ → Slot → Step
decide_at floor Gone = Trimmed floor
decide_at floor (DecidedAs x) = Settled
decide_at floor (OpenAt promise vote) = Done

-- the version above a new floor may be decided as this name alone
abbrev pub trim_at : Name → Slot → Step
trim_at x Gone = Already
trim_at x (DecidedAs y) = if same_name y x then Done else Settled
trim_at x (OpenAt promise vote) = Done

abbrev pub fast_answer : RowAt → ℕ → Step
fast_answer row v = fast_at row.floor (slots row v)

abbrev pub promise_answer : RowAt → ℕ → BallotAt → Step
promise_answer row v b = promise_at b row.floor (slots row v)

abbrev pub classic_answer : RowAt → ℕ → BallotAt → Step
classic_answer row v b = classic_at b row.floor (slots row v)

abbrev pub decide_answer : RowAt → ℕ → Step
decide_answer row v = decide_at row.floor (slots row v)

abbrev pub trim_answer : RowAt → ℕ → Name → Step
trim_answer row to x = if nat_le to row.floor then Already else trim_at x (slots row (to + 1))

-- a slot that is open
abbrev pub IsOpenSlot : Slot → Type 0
IsOpenSlot Gone = ⊥
IsOpenSlot (DecidedAs x) = ⊥
IsOpenSlot (OpenAt promise vote) = Unit {0}

-- the columns with another one at a version
abbrev pub with_column : ℕ → Column → List (ℕ × Column) → List (ℕ × Column)
with_column v column [] = (v, column) ∷ []
with_column v column (c ∷ cs) = if nat_lt c.0 v then c ∷ with_column v column cs else (if nat_lt v c.0 then (v, column) ∷ c ∷ cs else (v, column) ∷ cs)

-- the row with another column at a version
abbrev pub with_column_at : RowAt → ℕ → Column → RowAt
with_column_at row v column = record { floor = row.floor; columns = with_column v column row.columns }

-- the vote of a column, where there is one
abbrev pub vote_in : Option Column → Option Vote
vote_in None = None
vote_in (Some (Open promise vote)) = vote
vote_in (Some (Decided value)) = None

-- a vote in the fast ballot
abbrev pub fast_voted : RowAt → ℕ → Value → RowAt
fast_voted row v x = with_column_at row v (Open fast (Some (record { ballot = fast; value = x })))

-- a promise, over the vote that stands
abbrev pub promised : RowAt → ℕ → BallotAt → RowAt
promised row v b = with_column_at row v (Open b (vote_in (column_in row.columns v)))

-- a vote in a classic ballot, with its promise
abbrev pub classic_voted : RowAt → ℕ → BallotAt → Value → RowAt
classic_voted row v b x = with_column_at row v (Open b (Some (record { ballot = b; value = x })))

-- a decision
abbrev pub decided : RowAt → ℕ → Value → RowAt
decided row v x = with_column_at row v (Decided x)

-- the floor raised to `to`: columns up to it are gone, and the next version is decided
abbrev pub trimmed_to : RowAt → ℕ → Value → RowAt
trimmed_to row to x = record { floor = to; columns = filter (λ c. nat_lt to c.0) (with_column (to + 1) (Decided x) row.columns) }

-- the row after an answer: the one that the step makes exactly at Done, and else the old one
abbrev pub row_after : {E : Type 0} → Result Step E → RowAt → RowAt → RowAt
row_after (Err e) old made = old
row_after (Ok Done) old made = made
row_after (Ok Already) old made = old
row_after (Ok (Below promised)) old made = old
row_after (Ok Settled) old made = old
row_after (Ok (Trimmed floor)) old made = old

-- what holds where the step was done
abbrev pub AtDone : {E : Type 0} → Result Step E → Type 0 → Type 0
AtDone (Err e) P = Unit {0}
AtDone (Ok Done) P = P
AtDone (Ok Already) P = Unit {0}
AtDone (Ok (Below promised)) P = Unit {0}
AtDone (Ok Settled) P = Unit {0}
AtDone (Ok (Trimmed floor)) P = Unit {0}
