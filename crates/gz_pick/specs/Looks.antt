-- What the columns of a row show of a version: its vote, its decision, and the name of either.
use Rattle.std.specs.Prelude.{ℕ, Bool, true, false, max, if◌then◌else◌, List, [], ◌∷◌, Option, Some, None}
use Rattle.gz_core.specs.Names.{Name, BallotAt}
use Rattle.gz_core.specs.Rows.{RowAt, column_in}
use Rattle.gz_core.specs.Slots.{slot_of, slot_vote, slot_decision, slot_name}
use Rattle.gz_core.specs.declared.rows.Column.{Column}
use Rattle.gz_core.specs.declared.rows.Column.TheVariants.{Open, Decided}

-- the vote of a row at a version
abbrev pub row_vote : RowAt → ℕ → Option (BallotAt × Name)
row_vote row v = slot_vote (slot_of (column_in row.columns v))

-- the name that a row knows to be chosen at a version
abbrev pub row_decision : RowAt → ℕ → Option Name
row_decision row v = slot_decision (slot_of (column_in row.columns v))

-- the name that a row has at a version, of a vote or a decision
abbrev pub row_name : RowAt → ℕ → Option Name
row_name row v = slot_name (slot_of (column_in row.columns v))

-- a column shows a value where it has a vote or is decided; a promise alone shows none
abbrev pub shows_value : Column → Bool
shows_value (Open promise None) = false
shows_value (Open promise (Some vote)) = true
shows_value (Decided value) = true

-- the greatest version of these columns that shows a value, 0 where none does
abbrev pub top_in : List (ℕ × Column) → ℕ
top_in [] = 0
top_in (c ∷ cs) = if shows_value c.1 then max c.0 (top_in cs) else top_in cs

-- the greatest version of a row with a vote or a decision, 0 where there is none
abbrev pub row_top : RowAt → ℕ
row_top row = top_in row.columns

-- the same of the rows that are known
abbrev pub highest_of : List (Option RowAt) → ℕ
highest_of [] = 0
highest_of (None ∷ rows) = highest_of rows
highest_of (Some row ∷ rows) = max (row_top row) (highest_of rows)
