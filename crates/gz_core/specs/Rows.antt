-- Rows of columns: what a site holds of an object, version by version.
use Rattle.std.specs.Prelude.{ℕ, ◌≡◌, ◌≢◌, ◌<◌, ◌+◌, ◌==◌, ◌⊎◌, false, if◌then◌else◌, List, [], ◌∷◌, Option, Some, None}
use Rattle.gz_core.specs.Names.{BallotAt, fast, is_below}
use Rattle.gz_core.specs.declared.rows.Vote.{Vote}
use Rattle.gz_core.specs.declared.rows.Column.{Column}
use Rattle.gz_core.specs.declared.rows.Column.TheVariants.{Open, Decided}

-- a row: the floor, and the versions above it that have a column
pub record RowAt : Type 0 where
  pub floor : ℕ
  pub columns : List (ℕ × Column)

-- the row of an object of which a site holds nothing
abbrev pub empty_row : RowAt
empty_row = record { floor = 0; columns = [] }

-- the versions rise strictly, from above a bound on
abbrev pub Rises : ℕ → List (ℕ × Column) → Type 0
Rises bound [] = Unit {0}
Rises bound (c ∷ cs) = (bound < c.0) × Rises c.0 cs

-- an acceptor's vote is at or below its promise, and what it never promised it has not left without a vote
abbrev pub IsVoteUnder : BallotAt → Option Vote → Type 0
IsVoteUnder promise None = promise ≢ fast
IsVoteUnder promise (Some vote) = is_below promise vote.ballot ≡ false

-- the rule of one column
abbrev pub IsColumn : Column → Type 0
IsColumn (Open promise vote) = IsVoteUnder promise vote
IsColumn (Decided value) = Unit {0}

-- each column keeps its rule
abbrev pub AreColumns : List (ℕ × Column) → Type 0
AreColumns [] = Unit {0}
AreColumns (c ∷ cs) = IsColumn c.1 × AreColumns cs

-- the value that the column knows to be chosen
abbrev pub IsDecided : Column → Type 0
IsDecided (Open promise vote) = ⊥
IsDecided (Decided value) = Unit {0}

-- above a floor that was raised stands a column that is decided
abbrev pub StartsDecided : ℕ → List (ℕ × Column) → Type 0
StartsDecided floor [] = floor ≡ 0
StartsDecided floor (c ∷ cs) = (floor ≡ 0) ⊎ ((c.0 ≡ floor + 1) × IsDecided c.1)

-- the rule of a row
pub record IsRow (row : RowAt) : Type 0 where
  pub rises : Rises row.floor row.columns
  pub columns : AreColumns row.columns
  pub starts : StartsDecided row.floor row.columns

-- the column of a version, where it has one
abbrev pub column_in : List (ℕ × Column) → ℕ → Option Column
column_in [] v = None
column_in (c ∷ cs) v = if c.0 == v then Some c.1 else column_in cs v
